-- A tree as JSON, whatever it holds.
use Rattle.std.specs.Prelude.{ℕ, ◌+◌, Bool, true, ◌&&◌, cond, List, [], is_none, decimal}
use Rattle.json.specs.Json.{Json, Items, Members, no_items, item, no_members, member}
use Rattle.json.specs.Json.Json.{null, string, array, object}
use Rattle.json.specs.Print.{print}
use Rattle.json.specs.Tree.{json_tokens}
use Rattle.qs_spec.specs.Leaf.{Leaf}
use Rattle.qs_spec.specs.Leaf.Leaf.{NoValue, Null, Text}
use Rattle.qs_spec.specs.Node.{is_place, value_at_key}
use Rattle.qs_spec.specs.Segment.{Segment, segment_text}
use Rattle.qs_spec.specs.Segment.Segment.{Int, Str}
use Rattle.qs_spec.specs.Tree as t
use Rattle.qs_spec.specs.Tree.Tree.{leaf, sequence, mapping, uninitialized}
use Rattle.qs_c.specs.Shown.{alone}

-- a key alone is null, and an empty value an empty string
abbrev pub json_of_leaf : Leaf → Json
json_of_leaf NoValue = null
json_of_leaf Null = string []
json_of_leaf (Text bytes escaped) = string bytes

-- the keys are this integer, the next one, and so on
abbrev pub are_places : ℕ → t.Entries → Bool
are_places i t.no_entries = true
are_places i (t.entry k escaped x es) = is_place i k && are_places (i + 1) es

-- a map whose keys are 0, 1 and so on is an array, like a sequence; any other map is an object, whose names are the texts of its keys
abbrev mutual
  pub json_of_tree : t.Tree → Json
  json_of_tree (leaf l) = json_of_leaf l
  json_of_tree (sequence xs) = array (json_of_items xs)
  json_of_tree (mapping es) = cond (are_places 0 es) (array (json_of_values es)) (object (json_of_entries es))
  json_of_tree uninitialized = null

  pub json_of_items : t.Items → Items
  json_of_items t.no_items = no_items
  json_of_items (t.item x xs) = item (json_of_tree x) (json_of_items xs)

  pub json_of_values : t.Entries → Items
  json_of_values t.no_entries = no_items
  json_of_values (t.entry k escaped x es) = item (json_of_tree x) (json_of_values es)

  pub json_of_entries : t.Entries → Members
  json_of_entries t.no_entries = no_members
  json_of_entries (t.entry k escaped x es) = member (segment_text k) (json_of_tree x) (json_of_entries es)

-- a whole tree: no pairs are an object without members, and a value without a key is under the empty name
abbrev pub json_of_root : t.Tree → Json
json_of_root uninitialized = object no_members
json_of_root (leaf NoValue) = object no_members
json_of_root (mapping es) = json_of_tree (mapping es)
json_of_root n = alone [] (json_of_tree n)

-- a whole tree as JSON text, without blanks
abbrev pub tree_text : t.Tree → List ℕ
tree_text n = print (json_tokens (json_of_root n))

-- no string key has the digits of this integer key
abbrev pub is_alone : t.Entries → Segment → Bool
is_alone es (Int n) = is_none (value_at_key (Str (decimal n)) es)
is_alone es (Str bytes) = true

-- no two keys of an object have one text
abbrev mutual
  pub has_names : t.Tree → Bool
  has_names (leaf l) = true
  has_names (sequence xs) = items_have_names xs
  has_names (mapping es) = cond (are_places 0 es) (values_have_names es) (entries_have_names es es)
  has_names uninitialized = true

  pub items_have_names : t.Items → Bool
  items_have_names t.no_items = true
  items_have_names (t.item x xs) = has_names x && items_have_names xs

  pub values_have_names : t.Entries → Bool
  values_have_names t.no_entries = true
  values_have_names (t.entry k escaped x es) = has_names x && values_have_names es

  -- some entries, among all of them
  pub entries_have_names : t.Entries → t.Entries → Bool
  entries_have_names all t.no_entries = true
  entries_have_names all (t.entry k escaped x es) = is_alone all k && has_names x && entries_have_names all es

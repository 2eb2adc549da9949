-- Stable trees: what `any` reads from one, written in the indexed format, has the same tree.
use Rattle.std.specs.Prelude.{Bool, true, false, not, ◌&&◌}
use Rattle.std.specs.List.{list_any}
use Rattle.qs_spec.specs.Token.{is_bracket}
use Rattle.qs_spec.specs.Segment.{Segment, is_index}
use Rattle.qs_spec.specs.Segment.Segment.{Int, Str}
use Rattle.qs_spec.specs.Leaf.Leaf.{NoValue, Null, Text}
use Rattle.qs_spec.specs.Tree.{Tree, Entries}
use Rattle.qs_spec.specs.Tree.Tree.{leaf, sequence, mapping, uninitialized}
use Rattle.qs_spec.specs.Tree.Entries.{no_entries, entry}
use Rattle.qs_spec.specs.Plain.{has_bytes}

-- a number, or a text that isn't empty, isn't digits of a number, and in form mode holds no bracket
abbrev pub is_stable_key : Bool → Segment → Bool
is_stable_key is_form (Int n) = true
is_stable_key is_form (Str s) = has_bytes s && not (is_index s) && not (is_form && list_any is_bracket s)

-- at least one entry
abbrev pub has_entries : Entries → Bool
has_entries no_entries = false
has_entries (entry k escaped t es) = true

-- Each key has `=`, no key has several values, and keys are stable. In a tree of an input neither texts nor maps are empty.
abbrev mutual
  pub is_stable : Bool → Tree → Bool
  is_stable is_form (leaf NoValue) = false
  is_stable is_form (leaf Null) = true
  is_stable is_form (leaf (Text bytes escaped)) = has_bytes bytes
  is_stable is_form (sequence xs) = false
  is_stable is_form (mapping es) = has_entries es && are_stable is_form es
  is_stable is_form uninitialized = false

  pub are_stable : Bool → Entries → Bool
  are_stable is_form no_entries = true
  are_stable is_form (entry k escaped t es) = is_stable_key is_form k && is_stable is_form t && are_stable is_form es

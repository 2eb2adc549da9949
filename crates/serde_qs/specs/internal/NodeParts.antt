-- Steps of reading a node: its fields, one field, and its items.
use Rattle.std.specs.Prelude.{Bool, cond, List, [], ◌∷◌, Option, Some, None, option_map, option_and_then}
use Rattle.qs_spec.specs.Node.{keys_are_allowed}
use Rattle.qs_spec.specs.internal.ReadFunction.{reads_names, reads_places, struct_members}
use Rattle.qs_spec.specs.Data.{Data, Members, members_of}
use Rattle.qs_spec.specs.Shape.{Field, UnknownKeys, fields_of}
use Rattle.qs_spec.specs.Tree.{Tree, Entries, Items}
use Rattle.qs_spec.specs.Tree.Items.{no_items, item}

-- the meaning of fields that are read by their names, if every key is allowed
abbrev pub names_read : {V : Type 0} → UnknownKeys → Bool → List Field → (Members → Option V) → Entries → Option V
names_read unknown reject_duplicates fields meaning es =
    option_and_then (λ ms. meaning (members_of ms))
    (option_and_then (λ ms. cond (keys_are_allowed unknown (fields_of fields) es) (Some ms) None) (reads_names reject_duplicates (fields_of fields) es))

-- what fields mean that are read from a node
abbrev pub members_read : {V : Type 0} → UnknownKeys → Bool → List Field → (Members → Option V) → Tree → Option V
members_read unknown reject_duplicates fields meaning t =
    option_and_then (λ ms. meaning (members_of ms))
    (struct_members (keys_are_allowed unknown (fields_of fields)) (reads_names reject_duplicates (fields_of fields)) (reads_places reject_duplicates (fields_of fields)) t)

-- The value of a field, by what its data mean and by what it is without them: of the values under its name, and of the item at its index.

abbrev pub value_found : {V : Type 0} → (Data → Option V) → Option V → (Tree → Option Data) → List Tree → Option V
value_found meaning absent r [] = absent
value_found meaning absent r (t ∷ []) = option_and_then meaning (r t)
value_found meaning absent r (t ∷ u ∷ ts) = None

abbrev pub value_placed : {V : Type 0} → (Data → Option V) → Option V → (Tree → Option Data) → Items → Option V
value_placed meaning absent r no_items = absent
value_placed meaning absent r (item t xs) = option_and_then meaning (r t)

-- every item as a value
abbrev pub each_value : {V : Type 0} → (Tree → Option V) → List (Option Tree) → Option (List V)
each_value r [] = Some []
each_value r (x ∷ xs) = option_and_then (λ v. option_map (λ vs. v ∷ vs) (each_value r xs)) (option_and_then r x)

-- Parts of what is read: lists as data, scalars, options, items.
use Rattle.std.proofs.Common.{◌≡◌, ℕ, Bool, true, cond, List, [], ◌∷◌, Option, Some, None, refl, ap, ◌∙◌}
use Rattle.std.specs.Option.{option_map, option_and_then}
use Rattle.std.specs.Str.{is_utf8}
use Rattle.std.proofs.lemmas.Option.{none-some, same_Some}
use Rattle.qs_spec.specs.Leaf.Leaf.{NoValue, Null, Text}
use Rattle.qs_spec.specs.Tree.{Tree}
use Rattle.qs_spec.specs.Tree.Tree.{leaf, sequence, mapping, uninitialized}
use Rattle.qs_spec.specs.Data.{Data, Values, no_values, one_value, Pairs, no_pairs, one_pair, Members, no_members, one_member, values_of, pairs_of, members_of, Named}
use Rattle.qs_spec.specs.Scalar.{text_data}
use Rattle.qs_spec.specs.Node.{items}
use Rattle.qs_spec.specs.internal.ReadFunction.{Reader, read_scalar, read_option, read_each, read_list}
use Rattle.qs_spec.specs.Node.{last_text, IsFull}

-- the lists that own list families are made of
abbrev pub value_list : Values → List Data
value_list no_values = []
value_list (one_value d ds) = d ∷ value_list ds

pub values_list : (ds : Values) → values_of (value_list ds) ≡ ds
values_list no_values = refl
values_list (one_value d ds) = ap (one_value d) (values_list ds)

abbrev pub pair_list : Pairs → List (Data × Data)
pair_list no_pairs = []
pair_list (one_pair a d ps) = (a, d) ∷ pair_list ps

pub pairs_list : (ps : Pairs) → pairs_of (pair_list ps) ≡ ps
pairs_list no_pairs = refl
pairs_list (one_pair a d ps) = ap (one_pair a d) (pairs_list ps)

abbrev pub member_list : Members → List Named
member_list no_members = []
member_list (one_member name d ms) = (name, d) ∷ member_list ms

pub members_list : (ms : Members) → members_of (member_list ms) ≡ ms
members_list no_members = refl
members_list (one_member name d ms) = ap (one_member name d) (members_list ms)

-- a list that was read, as data
pub values_made : (of : Values → Data) (o : Option (List Data)) (ds : Values) → o ≡ Some (value_list ds) → option_map (λ xs. of (values_of xs)) o ≡ Some (of ds)
values_made of o ds e = ap (option_map (λ xs. of (values_of xs))) e ∙ ap (λ xs. Some (of xs)) (values_list ds)

pub pairs_made : (of : Pairs → Data) (o : Option (List (Data × Data))) (ps : Pairs) → o ≡ Some (pair_list ps) → option_map (λ xs. of (pairs_of xs)) o ≡ Some (of ps)
pairs_made of o ps e = ap (option_map (λ xs. of (pairs_of xs))) e ∙ ap (λ xs. Some (of xs)) (pairs_list ps)

pub members_made : (of : Members → Data) (o : Option (List Named)) (ms : Members) → o ≡ Some (member_list ms) → option_map (λ xs. of (members_of xs)) o ≡ Some (of ms)
members_made of o ms e = ap (option_map (λ xs. of (members_of xs))) e ∙ ap (λ xs. Some (of xs)) (members_list ms)

pub scalar_read : (reject_duplicates : Bool) (empty : Option Data) (get : List ℕ → Option Data) (n : Tree) (t : List ℕ) (d : Data) → last_text reject_duplicates n ≡ Some t → get t ≡ Some d → read_scalar reject_duplicates empty get n ≡ Some d
scalar_read reject_duplicates empty get (leaf NoValue) t d e f = absurd (none-some t e)
scalar_read reject_duplicates empty get (leaf Null) t d e f = absurd (none-some t e)
scalar_read reject_duplicates empty get (leaf (Text b m)) t d e f = ap get (same_Some b t e) ∙ f
scalar_read reject_duplicates empty get (sequence xs) t d e f = ap (option_and_then get) e ∙ f
scalar_read reject_duplicates empty get (mapping es) t d e f = absurd (none-some t e)
scalar_read reject_duplicates empty get uninitialized t d e f = absurd (none-some t e)

pub text_read : (t : List ℕ) → is_utf8 t ≡ true → text_data t ≡ Some (Data.text t)
text_read t e = ap (λ b. cond b (Some (Data.text t)) None) e

pub option_read : (r : Reader) (n : Tree) (d : Data) → IsFull n → r n ≡ Some d → read_option r n ≡ Some (Data.some d)
option_read r (leaf NoValue) d f e = absurd f
option_read r (leaf Null) d f e = absurd f
option_read r (leaf (Text t m)) d f e = ap (option_map Data.some) e
option_read r (sequence xs) d f e = ap (option_map Data.some) e
option_read r (mapping es) d f e = ap (option_map Data.some) e
option_read r uninitialized d f e = absurd f

pub list_read : (r : Reader) (n : Tree) (xs : List (Option Tree)) (ds : List Data) → items n ≡ Some xs → read_each r xs ≡ Some ds → read_list r n ≡ Some ds
unfolding read_list
list_read r n xs ds i e = ap (option_and_then (read_each r)) i ∙ e

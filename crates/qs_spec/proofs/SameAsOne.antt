-- Data that are the same as one are the same, so data that are read from one input are.
use Rattle.std.proofs.Common.{◌≡◌, ℕ, false, true, List, [], ◌∷◌, refl, subst}
use Rattle.std.specs.List.Sorted.{IsPermutation}
use Rattle.std.proofs.lemmas.List.Sorted.{IsPermutation-refl}
use Rattle.qs_spec.specs.Config.{Config, are_rejected, indexed}
use Rattle.qs_spec.specs.Data.{Data, Values, Pairs, one_pair, Members}
use Rattle.qs_spec.specs.Shape.{Shape, is_distinct}
use Rattle.qs_spec.specs.Relation.{ReadsBy}
use Rattle.qs_spec.specs.Entry.{Entry, entries}
use Rattle.qs_spec.specs.Written.{written}
use Rattle.qs_spec.specs.Listed.{is_listed}
use Rattle.qs_spec.specs.Same.{IsWith, Same, SameValues, SamePairs, SameMembers}
use Rattle.qs_spec.specs.ReadBack.{IsPlainFor, IsReadBack, KeepsPaths}
use Rattle.qs_spec.proofs.TreeOf.{one_tree}
use Rattle.qs_spec.proofs.WrittenBack.{read_back, lists_back}
use Rattle.qs_spec.proofs.DataRelatedIsRead.{one_data}

-- of two pairs among others, either both are one, or each is among those beside the other
data AreAmong : Data → Data → Data → Data → Pairs → Pairs → Type 0 where
  one : {k d : Data} {ps : Pairs} → AreAmong k d k d ps ps
  two : {k d j e : Data} {ps qs rest : Pairs} → IsWith k d qs rest → IsWith j e ps rest → AreAmong k d j e ps qs

among : {k d j e : Data} {all ps qs : Pairs} → IsWith k d all ps → IsWith j e all qs → AreAmong k d j e ps qs
among IsWith.here IsWith.here = one
among IsWith.here (IsWith.later w) = two IsWith.here w
among (IsWith.later v) IsWith.here = two v IsWith.here
among (IsWith.later v) (IsWith.later w) = beside (among v w)
  where
    beside : {k d j e i c : Data} {ps qs : Pairs} → AreAmong k d j e ps qs → AreAmong k d j e (one_pair i c ps) (one_pair i c qs)
    beside one = one
    beside (two x y) = two (IsWith.later x) (IsWith.later y)

-- the pair of some pairs that is the same as one of the others
record HasSame (k e : Data) (qs rest : Pairs) : Type 0 where
  value : Data
  others : Pairs
  same : Same value e
  is_with : IsWith k value qs others
  are_same : SamePairs others rest

has_same : {k e : Data} {qs all rest : Pairs} → IsWith k e all rest → SamePairs qs all → HasSame k e qs rest
has_same w SamePairs.pairs_end = elim w [ ]
has_same w (SamePairs.pairs_more s v m) = by (among w v) s m (λ rest x. has_same x m)
  where
    by : {k e j d f : Data} {ps ones others : Pairs} → AreAmong k e j f ones others → Same d f → SamePairs ps others
        → ((rest : Pairs) → IsWith k e others rest → HasSame k e ps rest) → HasSame k e (one_pair j d ps) ones
    by one s m more = record { value = _; others = _; same = s; is_with = IsWith.here; are_same = m }
    by (two {rest} x y) s m more = let g = more rest x in record { value = g.value; others = _; same = g.same; is_with = IsWith.later g.is_with; are_same = SamePairs.pairs_more s y g.are_same }

mutual
  pub as_one : {d e a : Data} → Same d a → Same e a → Same d e
  as_one Same.unit Same.unit = Same.unit
  as_one Same.none Same.none = Same.none
  as_one (Same.some x) (Same.some y) = Same.some (as_one x y)
  as_one Same.boolean Same.boolean = Same.boolean
  as_one Same.unsigned Same.unsigned = Same.unsigned
  as_one Same.signed Same.signed = Same.signed
  as_one Same.character Same.character = Same.character
  as_one Same.text Same.text = Same.text
  as_one Same.bytes Same.bytes = Same.bytes
  as_one (Same.sequence x) (Same.sequence y) = Same.sequence (values_as_one x y)
  as_one (Same.tuple x) (Same.tuple y) = Same.tuple (values_as_one x y)
  as_one (Same.mapping p a x) (Same.mapping q b y) = Same.mapping p q (pairs_as_one x y)
  as_one (Same.struct x) (Same.struct y) = Same.struct (members_as_one x y)
  as_one (Same.newtype x) (Same.newtype y) = Same.newtype (as_one x y)
  as_one Same.unit_variant Same.unit_variant = Same.unit_variant
  as_one (Same.newtype_variant x) (Same.newtype_variant y) = Same.newtype_variant (as_one x y)
  as_one (Same.tuple_variant x) (Same.tuple_variant y) = Same.tuple_variant (values_as_one x y)
  as_one (Same.struct_variant x) (Same.struct_variant y) = Same.struct_variant (members_as_one x y)

  values_as_one : {ds es us : Values} → SameValues ds us → SameValues es us → SameValues ds es
  values_as_one SameValues.values_end SameValues.values_end = SameValues.values_end
  values_as_one (SameValues.values_more x xs) (SameValues.values_more y ys) = SameValues.values_more (as_one x y) (values_as_one xs ys)

  pairs_as_one : {ps qs rs : Pairs} → SamePairs ps rs → SamePairs qs rs → SamePairs ps qs
  pairs_as_one SamePairs.pairs_end SamePairs.pairs_end = SamePairs.pairs_end
  pairs_as_one SamePairs.pairs_end (SamePairs.pairs_more s w m) = elim w [ ]
  pairs_as_one (SamePairs.pairs_more s w m) n = let g = has_same w n in SamePairs.pairs_more (as_one s g.same) g.is_with (pairs_as_one m g.are_same)

  members_as_one : {ms ns os : Members} → SameMembers ms os → SameMembers ns os → SameMembers ms ns
  members_as_one SameMembers.members_end SameMembers.members_end = SameMembers.members_end
  members_as_one (SameMembers.members_more x xs) (SameMembers.members_more y ys) = SameMembers.members_more (as_one x y) (members_as_one xs ys)

-- an input is read as one data
one_answer : (config : Config) (shape : Shape) (d e : Data) (input : List ℕ) → is_distinct shape ≡ true → IsReadBack config shape d input → IsReadBack config shape e input → Same d e
one_answer config shape d e input dist x y =
    let tree = one_tree config.is_form config.max_depth input x.tree y.tree x.is_tree y.is_tree in
    let answer = one_data (are_rejected config.duplicates) shape y.tree x.answer y.answer dist (subst (λ t. ReadsBy config shape t x.answer) tree x.reads) y.reads in
    as_one (subst (Same d) answer x.same) y.same

pub same_entries : (config : Config) (shape : Shape) (d e : Data) → config.array_format ≡ indexed → is_distinct shape ≡ true → IsPlainFor config shape d → IsPlainFor config shape e
    → IsPermutation (entries config d).entries (entries config e).entries → Same d e
same_entries config shape d e f dist p q w =
    let es = (entries config e).entries in
    one_answer config shape d e (written config.is_form false es) dist (read_back config shape d es f dist p w) (read_back config shape e es f dist q (IsPermutation-refl es))

keeps_itself : (es : List Entry) → KeepsPaths es es
keeps_itself [] = refl
keeps_itself (e ∷ es) = ([], es, refl, tt, keeps_itself es)

pub same_lists : (config : Config) (shape : Shape) (d e : Data) → is_distinct shape ≡ true → IsPlainFor config shape d → IsPlainFor config shape e
    → is_listed config.array_format false d ≡ true → is_listed config.array_format false e ≡ true → KeepsPaths (entries config d).entries (entries config e).entries → Same d e
same_lists config shape d e dist p q x y w =
    let es = (entries config e).entries in
    one_answer config shape d e (written config.is_form false es) dist (lists_back config shape d es dist p x w) (lists_back config shape e es dist q y (keeps_itself es))

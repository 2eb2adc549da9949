-- Being the same is an equality of data: the same are equal, and the other way round.
use Rattle.std.proofs.Common.{◌≡◌, true, ◌&&◌, refl, sym, ap, ap₂, ◌∙◌, bytes_eq}
use Rattle.std.specs.Bool.{Decides}
use Rattle.std.specs.Cmp.{IsPartialEquivalence, IsEquivalence, partial_equiv_from_equiv, decided, unsigned_Decides, signed_Decides, booleans_Decides}
use Rattle.qs_spec.specs.Data.{Data, Values, no_values, one_value, Pairs, no_pairs, one_pair, Members, no_members, one_member}
use Rattle.qs_spec.specs.Data.Data.{unit, none, some, boolean, unsigned, signed, character, text, bytes, sequence, tuple, mapping, struct, newtype, unit_variant, newtype_variant, tuple_variant, struct_variant}
use Rattle.qs_spec.proofs.Booleans.{and_both}
use Rattle.qs_spec.proofs.VariantNames.{bytes_same, bytes_equal}
use Rattle.qs_data.specs.data.internal.Equality.{data_same, values_same, pairs_same, members_same}

all_three : {A B C D : Type 0} (f : A → B → C → D) {a x : A} {b y : B} {c z : C} → a ≡ x → b ≡ y → c ≡ z → f a b c ≡ f x y z
all_three f p q r = cc

-- the same are equal
mutual
  sound : (d e : Data) → data_same d e ≡ true → d ≡ e
  sound unit unit h = refl
  sound none none h = refl
  sound (some d) (some e) h = ap some (sound d e h)
  sound (boolean b) (boolean c) h = ap boolean ((booleans_Decides b c).0 h)
  sound (unsigned n) (unsigned m) h = ap unsigned ((unsigned_Decides n m).0 h)
  sound (signed y) (signed z) h = ap signed ((signed_Decides y z).0 h)
  sound (character c) (character d) h = ap character ((unsigned_Decides c d).0 h)
  sound (text t) (text u) h = ap text (bytes_equal t u h)
  sound (bytes b) (bytes c) h = ap bytes (bytes_equal b c h)
  sound (sequence ds) (sequence es) h = ap sequence (values_sound ds es h)
  sound (tuple ds) (tuple es) h = ap tuple (values_sound ds es h)
  sound (mapping ps) (mapping qs) h = ap mapping (pairs_sound ps qs h)
  sound (struct ms) (struct ns) h = ap struct (members_sound ms ns h)
  sound (newtype d) (newtype e) h = ap newtype (sound d e h)
  sound (unit_variant m) (unit_variant n) h = ap unit_variant (bytes_equal m n h)
  sound (newtype_variant m d) (newtype_variant n e) h =
      let parts = and_both (bytes_eq m n) (data_same d e) h in ap₂ newtype_variant (bytes_equal m n parts.0) (sound d e parts.1)
  sound (tuple_variant m ds) (tuple_variant n es) h =
      let parts = and_both (bytes_eq m n) (values_same ds es) h in ap₂ tuple_variant (bytes_equal m n parts.0) (values_sound ds es parts.1)
  sound (struct_variant m ms) (struct_variant n ns) h =
      let parts = and_both (bytes_eq m n) (members_same ms ns) h in ap₂ struct_variant (bytes_equal m n parts.0) (members_sound ms ns parts.1)
  sound d e h = cc

  values_sound : (ds es : Values) → values_same ds es ≡ true → ds ≡ es
  values_sound no_values no_values h = refl
  values_sound (one_value d ds) (one_value e es) h =
      let parts = and_both (data_same d e) (values_same ds es) h in
      ap₂ one_value (sound d e parts.0) (values_sound ds es parts.1)
  values_sound ds es h = cc

  pairs_sound : (ps qs : Pairs) → pairs_same ps qs ≡ true → ps ≡ qs
  pairs_sound no_pairs no_pairs h = refl
  pairs_sound (one_pair k d ps) (one_pair l e qs) h =
      let parts = and_both (data_same k l && data_same d e) (pairs_same ps qs) h in
      let here = and_both (data_same k l) (data_same d e) parts.0 in
      all_three one_pair (sound k l here.0) (sound d e here.1) (pairs_sound ps qs parts.1)
  pairs_sound ps qs h = cc

  members_sound : (ms ns : Members) → members_same ms ns ≡ true → ms ≡ ns
  members_sound no_members no_members h = refl
  members_sound (one_member m d ms) (one_member n e ns) h =
      let parts = and_both (bytes_eq m n && data_same d e) (members_same ms ns) h in
      let here = and_both (bytes_eq m n) (data_same d e) parts.0 in
      all_three one_member (bytes_equal m n here.0) (sound d e here.1) (members_sound ms ns parts.1)
  members_sound ms ns h = cc

-- data is the same as itself
mutual
  itself : (d : Data) → data_same d d ≡ true
  itself unit = refl
  itself none = refl
  itself (some d) = itself d
  itself (boolean b) = (booleans_Decides b b).1 refl
  itself (unsigned n) = (unsigned_Decides n n).1 refl
  itself (signed z) = (signed_Decides z z).1 refl
  itself (character c) = (unsigned_Decides c c).1 refl
  itself (text t) = bytes_same t
  itself (bytes b) = bytes_same b
  itself (sequence ds) = values_themselves ds
  itself (tuple ds) = values_themselves ds
  itself (mapping ps) = pairs_themselves ps
  itself (struct ms) = members_themselves ms
  itself (newtype d) = itself d
  itself (unit_variant name) = bytes_same name
  itself (newtype_variant name d) = rw (bytes_same name, itself d)
  itself (tuple_variant name ds) = rw (bytes_same name, values_themselves ds)
  itself (struct_variant name ms) = rw (bytes_same name, members_themselves ms)

  values_themselves : (ds : Values) → values_same ds ds ≡ true
  values_themselves no_values = refl
  values_themselves (one_value d ds) = rw (itself d, values_themselves ds)

  pairs_themselves : (ps : Pairs) → pairs_same ps ps ≡ true
  pairs_themselves no_pairs = refl
  pairs_themselves (one_pair k d ps) = rw (itself k, itself d, pairs_themselves ps)

  members_themselves : (ms : Members) → members_same ms ms ≡ true
  members_themselves no_members = refl
  members_themselves (one_member m d ms) = rw (bytes_same m, itself d, members_themselves ms)

-- the test decides equality, so its laws are those of equality
pub data_same-Decides : (d e : Data) → Decides (data_same d e) (d ≡ e)
data_same-Decides d e = (sound d e, λ h. ap (data_same d) (sym h) ∙ itself d)

pub data_equivalence : IsEquivalence data_same
data_equivalence = decided data_same data_same-Decides

pub data_per : IsPartialEquivalence data_same
data_per = partial_equiv_from_equiv data_equivalence

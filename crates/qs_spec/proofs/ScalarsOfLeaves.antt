-- A leaf that a scalar is written as is read as that scalar, also in a list.
use Rattle.std.proofs.Common.{◌≡◌, ℕ, ◌+◌, ◌/◌, ◌%◌, Bool, true, false, cond, List, [], ◌∷◌, refl, sym, subst, nat_lt, decimal, pos, negsuc}
use Rattle.std.specs.Fmt.{signed_decimal}
use Rattle.std.specs.Char.{encode_utf8}
use Rattle.qs_spec.specs.Escape.{encoded}
use Rattle.qs_spec.specs.Leaf.{Leaf, value_leaf}
use Rattle.qs_spec.specs.Leaf.Leaf.{Text}
use Rattle.qs_spec.specs.Tree.{Tree}
use Rattle.qs_spec.specs.Scalar.{is_numeral}
use Rattle.qs_spec.specs.Data.{Data, Values, no_values, one_value}
use Rattle.qs_spec.specs.Shape.{Shape, Shapes}
use Rattle.qs_spec.specs.Relation.{Reads, ReadsEach, ReadsFirst}
use Rattle.qs_spec.specs.Entry.{boolean_text, key_text}
use Rattle.qs_spec.specs.internal.WrittenEntries.{entry_leaf}
use Rattle.qs_spec.proofs.Booleans.{and_both}
use Rattle.qs_spec.proofs.Numerals.{digits_of_number}
use lib.Utf8.{encode}
use Rattle.qs_spec.proofs.ScalarsBack.{boolean_back, unsigned_back, positive_back, negative_back, character_back}
use Rattle.qs_spec.specs.Plain.{is_plain, are_plain, has_bytes}
use Rattle.qs_spec.specs.internal.Fitting.{Fits, FitsEach, FitsTuple}
use Rattle.qs_spec.specs.Same.{Same, SameValues}
use Rattle.qs_spec.specs.Listed.{has_text, are_scalars}
use Rattle.qs_spec.proofs.GoodParts.{AreBytes, utf8_bytes, decimal_bytes, boolean_bytes, negative_bytes, character_bytes}
use Rattle.qs_spec.proofs.IsBack.{AreBack, IsTupleBack}
use Rattle.qs_spec.proofs.LeafLists.{leaf_trees, list_leaves, text_leaf}

numeral_some : (s : List ℕ) → is_numeral s ≡ true → has_bytes s ≡ true
numeral_some [] e = cc
numeral_some (b ∷ s) e = refl

character_some : (c : ℕ) → has_bytes (encode_utf8 c) ≡ true
unfolding encode
character_some c = by (nat_lt c 128) (nat_lt c 2048) (nat_lt c 65536)
  where
    by : (x y z : Bool) → has_bytes (cond x (c ∷ []) (cond y ((192 + c / 64) ∷ (128 + c % 64) ∷ []) (cond z ((224 + c / 4096) ∷ (128 + c / 64 % 64) ∷ (128 + c % 64) ∷ []) ((240 + c / 262144) ∷ (128 + c / 4096 % 64) ∷ (128 + c / 64 % 64) ∷ (128 + c % 64) ∷ [])))) ≡ true
    by true y z = refl
    by false true z = refl
    by false false true = refl
    by false false false = refl

module _ (is_form reject_duplicates : Bool) where
  as_text : (s : Shape) (d : Data) (t : List ℕ) → has_bytes t ≡ true → AreBytes t → ((m : Bool) → Reads reject_duplicates s (Tree.leaf (Text t m)) d) → Reads reject_duplicates s (Tree.leaf (value_leaf (encoded is_form t))) d
  as_text s d t e h r = let l = text_leaf is_form t e h in subst (λ (x : Leaf). Reads reject_duplicates s (Tree.leaf x) d) (sym l.1) (r l.0)

  -- a scalar in a list
  pub leaf_reads : {s : Shape} {d : Data} → Fits s d → is_plain is_form d ≡ true → has_text (key_text d) ≡ true → Reads reject_duplicates s (Tree.leaf (entry_leaf is_form (key_text d))) d × Same d d
  leaf_reads Fits.unit p e = cc
  leaf_reads (Fits.boolean {b}) p e = (as_text Shape.boolean (Data.boolean b) (boolean_text b) (some b) (boolean_bytes b) (λ m. Reads.boolean refl (boolean_back b)), Same.boolean)
    where
      some : (b : Bool) → has_bytes (boolean_text b) ≡ true
      some true = refl
      some false = refl
  leaf_reads (Fits.unsigned {bits = bits} {n = k} l m) p e = (as_text (Shape.unsigned bits) (Data.unsigned k) (decimal k) (numeral_some (decimal k) (digits_of_number k m)) (decimal_bytes k m) (λ x. Reads.unsigned refl (unsigned_back bits k l m)), Same.unsigned)
  leaf_reads (Fits.positive {bits = bits} {n = k} l m) p e = (as_text (Shape.signed bits) (Data.signed (pos k)) (decimal k) (numeral_some (decimal k) (digits_of_number k m)) (decimal_bytes k m) (λ x. Reads.signed refl (positive_back bits k l m)), Same.signed)
  leaf_reads (Fits.negative {bits = bits} {n = k} l m) p e = (as_text (Shape.signed bits) (Data.signed (negsuc k)) (signed_decimal (negsuc k)) refl (negative_bytes k m) (λ x. Reads.signed refl (negative_back bits k l m)), Same.signed)
  leaf_reads (Fits.character {c} s) p e = (as_text Shape.character (Data.character c) (encode_utf8 c) (character_some c) (character_bytes c s) (λ m. Reads.character (character_back c s)), Same.character)
  leaf_reads (Fits.text {t = []} u) p e = (Reads.text_null, Same.text)
  leaf_reads (Fits.text {t = b ∷ t} u) p e = (as_text Shape.text (Data.text (b ∷ t)) (b ∷ t) refl (utf8_bytes (b ∷ t) u) (λ m. Reads.text refl u), Same.text)
  leaf_reads (Fits.bytes {b = []} h) p e = (Reads.bytes_null, Same.bytes)
  leaf_reads (Fits.bytes {b = b ∷ t} h) p e = (as_text Shape.bytes (Data.bytes (b ∷ t)) (b ∷ t) refl h (λ m. Reads.bytes refl), Same.bytes)
  leaf_reads Fits.none p e = cc
  leaf_reads (Fits.some f) p e = cc
  leaf_reads (Fits.newtype f) p e = cc
  leaf_reads (Fits.sequence f) p e = cc
  leaf_reads (Fits.tuple f) p e = cc
  leaf_reads (Fits.mapping f) p e = cc
  leaf_reads (Fits.struct f) p e = cc
  leaf_reads (Fits.unit_variant {vs} {name} v u) p e = (as_text (Shape.enumeration vs) (Data.unit_variant name) name p (utf8_bytes name u) (λ m. Reads.unit_variant v), Same.unit_variant)
  leaf_reads (Fits.newtype_variant v u f) p e = cc
  leaf_reads (Fits.tuple_variant v u f) p e = cc
  leaf_reads (Fits.struct_variant v u f) p e = cc

  pub leaf_each : {s : Shape} {ds : Values} → FitsEach s ds → are_plain is_form ds ≡ true → are_scalars ds ≡ true → AreBack reject_duplicates s (leaf_trees (list_leaves is_form ds)) ds
  leaf_each FitsEach.no_items p e = record { answers = no_values; reads = ReadsEach.each_end; same = SameValues.values_end }
  leaf_each (FitsEach.item {d = d} {ds = ds} f fs) p e =
      let h = and_both (is_plain is_form d) (are_plain is_form ds) p in
      let k = and_both (has_text (key_text d)) (are_scalars ds) e in
      let g = leaf_reads f h.0 k.0 in
      let r = leaf_each fs h.1 k.1 in
      record { answers = one_value d r.answers; reads = ReadsEach.each_item g.0 r.reads; same = SameValues.values_more g.1 r.same }

  pub leaf_tuple : {ss : Shapes} {ds : Values} → FitsTuple ss ds → are_plain is_form ds ≡ true → are_scalars ds ≡ true → IsTupleBack reject_duplicates ss (leaf_trees (list_leaves is_form ds)) ds
  leaf_tuple FitsTuple.no_parts p e = record { answers = no_values; reads = ReadsFirst.first_end; same = SameValues.values_end }
  leaf_tuple (FitsTuple.part {d = d} {ds = ds} f fs) p e =
      let h = and_both (is_plain is_form d) (are_plain is_form ds) p in
      let k = and_both (has_text (key_text d)) (are_scalars ds) e in
      let g = leaf_reads f h.0 k.0 in
      let r = leaf_tuple fs h.1 k.1 in
      record { answers = one_value d r.answers; reads = ReadsFirst.first_item g.0 r.reads; same = SameValues.values_more g.1 r.same }

-- What is read of a type is what is written of it.
use Rattle.std.proofs.Common.{ap, ap₂, arith, ◌∙◌, pow_pos, refl, sym}
use Rattle.std.proofs.lemmas.Bool.{leb-true}
use Rattle.std.proofs.lemmas.Option.{none-some, same_Some}
use Rattle.std.proofs.lemmas.Slice.Eq.{bytes_eq-Decides}
use Rattle.std.specs.Prelude.{◌≡◌, ℕ, ◌-◌, ◌^◌, ◌<◌, Bool, true, false, not, ◌&&◌, nat_le, ◌==◌, codes, List, [], ◌∷◌, map, Option, Some, None, option_map, option_and_then, if◌then◌else◌}
use Rattle.std.specs.Str.{bytes_eq}
use Rattle.qs_spec.specs.Data as d
use Rattle.qs_spec.specs.Data.{Data, Values, no_values, one_value, values_of, Members, no_members, one_member, members_of, Named}
use Rattle.qs_spec.specs.Fits.{fits_unsigned}
use Rattle.qs_spec.specs.Relation.{Reads, ReadsEach, ReadsNames, ReadsPlaces, ReadsStruct}
use Rattle.qs_spec.specs.Scalar.{is_numeral, unsigned_data}
use Rattle.qs_spec.specs.Segment.{number}
use Rattle.qs_spec.specs.Shape.{Shape, Field, Fields, one_field, fields_of, field_names_differ, is_field_name, UnknownKeys}
use Rattle.qs_spec.specs.Tree.{Tree, Items, Entries}
use Rattle.serde_qs.proofs.InRange.{below_64}
use Rattle.serde_qs.specs.Fitting.{fitting}
use Rattle.serde_qs.specs.Meaning.{both, boolean_in, option_data, option_in, sequence_in, text_in, unsigned_in, values_meant}
use Rattle.serde_qs.specs.FieldTypes.{is_first_named}
use Rattle.serde_qs.specs.Records.{field_data, field_shape, field_in, first_of, member_in, nothing_in, others_of, struct_in}
use Rattle.serde_qs.specs.internal.Booleans.{both_hold}
use Rattle.serde_qs.specs.internal.Fitting.{itself}
use Rattle.serde_qs.specs.declared.compound.optional.Optional.{Optional}
use Rattle.serde_qs.specs.internal.FieldTypes.{itself_named, later_named, other_field}
use Rattle.qs_tool.specs.internal.Exact.{IsExact}

-- scalars

pub text_exact : {A : Type 0} (value : A → List ℕ) → IsExact value (λ x. d.text (value x)) Shape.text text_in
text_exact {A} value = record { is_meant = meant; is_written = λ x e p. written (value x) e p }
  where
    meant : {r : Bool} {node : Tree} {e : Data} → Reads r Shape.text node e → (v : List ℕ) × (text_in e ≡ Some v)
    meant Reads.text_null = ([], refl)
    meant Reads.text_no_value = ([], refl)
    meant (Reads.text {t} p u) = (t, refl)

    written : (t : List ℕ) (e : Data) → text_in e ≡ Some t → d.text t ≡ e
    written t (d.text u) p = ap d.text (sym (same_Some u t p))
    written t _ p = cc

-- what means a value, also under another name of the same data
moved : {V : Type 0} (m : Data → Option V) (x e : Data) (v : V) → m x ≡ Some v → Some x ≡ Some e → (w : V) × (m e ≡ Some w)
moved m x e v p q = (v, ap m (sym (same_Some x e q)) ∙ p)

pub boolean_exact : {A : Type 0} (value : A → Bool) → IsExact value (λ x. d.boolean (value x)) Shape.boolean boolean_in
boolean_exact {A} value = record { is_meant = meant; is_written = λ x e p. written (value x) e p }
  where
    parsed : (a b : Bool) (e : Data) → (if a then Some (d.boolean true) else (if b then Some (d.boolean false) else None)) ≡ Some e → (v : Bool) × (boolean_in e ≡ Some v)
    parsed true b e p = moved boolean_in (d.boolean true) e true refl p
    parsed false true e p = moved boolean_in (d.boolean false) e false refl p
    parsed false false e p = absurd (none-some e p)

    meant : {r : Bool} {node : Tree} {e : Data} → Reads r Shape.boolean node e → (v : Bool) × (boolean_in e ≡ Some v)
    meant Reads.boolean_null = (true, refl)
    meant Reads.boolean_no_value = (true, refl)
    meant (Reads.boolean {d} {t} p q) = parsed (bytes_eq t (codes "true")) (bytes_eq t (codes "false")) d q

    written : (b : Bool) (e : Data) → boolean_in e ≡ Some b → d.boolean b ≡ e
    written b (d.boolean c) p = ap d.boolean (sym (same_Some c b p))
    written b _ p = cc

module _ (bits : ℕ) where
  abbrev most : ℕ
  most = 2 ^ bits - 1

  numeral : (n : ℕ) (a b : Bool) (e : Data) → nat_le n most ≡ b → option_map d.unsigned (if a && b then Some n else None) ≡ Some e → (v : ℕ) × (unsigned_in most e ≡ Some v)
  numeral n true true e h p = moved (unsigned_in most) (d.unsigned n) e n (ap (λ c. if c then Some n else None) h) p
  numeral n true false e h p = absurd (none-some e p)
  numeral n false b e h p = absurd (none-some e p)

  number_parsed : (t : List ℕ) (e : Data) → unsigned_data bits t ≡ Some e → (v : ℕ) × (unsigned_in most e ≡ Some v)
  number_parsed [] e p = absurd (none-some e p)
  number_parsed (b ∷ digits) e p =
      let ds : List ℕ = if b == 43 then digits else b ∷ digits in
      numeral (number ds) (is_numeral ds) (nat_le (number ds) most) e refl p

  pub unsigned_exact : nat_le bits 64 ≡ true → {A : Type 0} (value : A → ℕ) → IsExact value (λ x. fitting (Shape.unsigned bits) (d.unsigned (value x))) (Shape.unsigned bits) (unsigned_in most)
  unsigned_exact few {A} value = record { is_meant = meant; is_written = λ x e p. written (value x) e p }
    where
      meant : {r : Bool} {node : Tree} {e : Data} → Reads r (Shape.unsigned bits) node e → (v : ℕ) × (unsigned_in most e ≡ Some v)
      meant (Reads.unsigned {d} {t} p q) = number_parsed t d q

      in_range : (b : Bool) (m n : ℕ) → nat_le m most ≡ b → (if b then Some m else None) ≡ Some n → fitting (Shape.unsigned bits) (d.unsigned n) ≡ d.unsigned m
      in_range true m n le p =
          let below : m < 2 ^ bits = omega (arith, pow_pos bits, leb-true m most le) in
          ap (λ k. fitting (Shape.unsigned bits) (d.unsigned k)) (sym (same_Some m n p))
          ∙ itself (fits_unsigned bits m) (d.unsigned m) (below_64 bits m (leb-true bits 64 few) below)
      in_range false m n le p = absurd (none-some n p)

      written : (n : ℕ) (e : Data) → unsigned_in most e ≡ Some n → fitting (Shape.unsigned bits) (d.unsigned n) ≡ e
      written n (d.unsigned m) p = in_range (nat_le m most) m n refl p
      written n _ p = cc

-- types that hold others

inside : {V : Type 0} (o : Option V) (v : V) → option_map Some o ≡ Some (Some v) → o ≡ Some v
inside None v p = cc
inside (Some w) v p = same_Some (Some w) (Some v) p

not_none : {V : Type 0} (o : Option V) → option_map Some o ≡ Some None → ⊥
not_none None p = cc
not_none (Some w) p = cc

module _ {A V : Type 0} (value : A → V) (datum : A → Data) (shape : Shape) (meaning : Data → Option V) (one : IsExact value datum shape meaning) where
  pub option_exact : IsExact (option_map value) (option_data datum) (Shape.option shape) (option_in meaning)
  option_exact = record { is_meant = meant; is_written = written }
    where
      meant : {r : Bool} {node : Tree} {e : Data} → Reads r (Shape.option shape) node e → (v : Option V) × (option_in meaning e ≡ Some v)
      meant Reads.option_no_value = (None, refl)
      meant (Reads.option_null p) = let m = one.is_meant p in (Some m.0, ap (option_map Some) m.1)
      meant (Reads.option_full f p) = let m = one.is_meant p in (Some m.0, ap (option_map Some) m.1)

      written : (x : Option A) (e : Data) → option_in meaning e ≡ Some (option_map value x) → option_data datum x ≡ e
      written None d.none p = refl
      written (Some x) d.none p = cc
      written None (d.some e) p = absurd (not_none (meaning e) p)
      written (Some x) (d.some e) p = ap d.some (one.is_written x e (inside (meaning e) (value x) p))
      written _ _ p = cc

  pub sequence_exact : {L : Type 0} (items : L → List A) → IsExact (λ xs. map value (items xs)) (λ xs. d.sequence (values_of (map datum (items xs)))) (Shape.sequence shape) (sequence_in meaning)
  sequence_exact items = record { is_meant = meant; is_written = λ xs e p. written (items xs) e p }
    where
      each_meant : {r : Bool} {nodes : List (Option Tree)} {es : Values} → ReadsEach r shape nodes es → (vs : List V) × (values_meant meaning es ≡ Some vs)
      each_meant ReadsEach.each_end = ([], refl)
      each_meant (ReadsEach.each_item {d = e} {ds = es} p ps) =
          let m = one.is_meant p in
          let ms = each_meant ps in
          (m.0 ∷ ms.0, ap (λ o. option_and_then (λ v. option_map (λ vs. v ∷ vs) (values_meant meaning es)) o) m.1 ∙ ap (option_map (λ vs. m.0 ∷ vs)) ms.1)

      meant : {r : Bool} {node : Tree} {e : Data} → Reads r (Shape.sequence shape) node e → (vs : List V) × (sequence_in meaning e ≡ Some vs)
      meant (Reads.sequence p ps) = each_meant ps

      parts : (o : Option V) (os : Option (List V)) (v : V) (vs : List V) → option_and_then (λ v. option_map (λ vs. v ∷ vs) os) o ≡ Some (v ∷ vs) → (o ≡ Some v) × (os ≡ Some vs)
      parts None os v vs p = cc
      parts (Some w) None v vs p = cc
      parts (Some w) (Some ws) v vs p = (cc, cc)

      no_parts : (o : Option V) (os : Option (List V)) → option_and_then (λ v. option_map (λ vs. v ∷ vs) os) o ≡ Some [] → ⊥
      no_parts None os p = cc
      no_parts (Some w) None p = cc
      no_parts (Some w) (Some ws) p = cc

      each_written : (xs : List A) (es : Values) → values_meant meaning es ≡ Some (map value xs) → values_of (map datum xs) ≡ es
      each_written [] no_values p = refl
      each_written (x ∷ xs) no_values p = cc
      each_written [] (one_value e es) p = absurd (no_parts (meaning e) (values_meant meaning es) p)
      each_written (x ∷ xs) (one_value e es) p =
          let q = parts (meaning e) (values_meant meaning es) (value x) (map value xs) p in
          ap₂ one_value (one.is_written x e q.0) (each_written xs es q.1)

      written : (xs : List A) (e : Data) → sequence_in meaning e ≡ Some (map value xs) → d.sequence (values_of (map datum xs)) ≡ e
      written xs (d.sequence es) p = ap d.sequence (each_written xs es p)
      written xs _ p = cc

-- fields

-- Members that fields read, each from some node. Only optional ones are left out.
pub data FieldsRead (reject_duplicates : Bool) : Fields → Members → Type 0 where
  all_read : FieldsRead reject_duplicates Fields.no_fields no_members
  one_read : {name : List ℕ} {s : Shape} {optional : Bool} {fs : Fields} {node : Tree} {d : Data} {ms : Members} → Reads reject_duplicates s node d → FieldsRead reject_duplicates fs ms
      → FieldsRead reject_duplicates (one_field name s optional fs) (one_member name d ms)
  left_out : {name : List ℕ} {s : Shape} {fs : Fields} {ms : Members} → FieldsRead reject_duplicates fs ms → FieldsRead reject_duplicates (one_field name s true fs) ms

-- The words of such a type.
pub record Exact (A : Type 0) : Type 1 where
  pub Value : Type 0
  pub value : A → Value
  pub datum : A → Data
  pub shape : Shape
  pub meaning : Data → Option Value
  pub exact : IsExact value datum shape meaning

abbrev pub exact_of : {A V : Type 0} {value : A → V} {datum : A → Data} {shape : Shape} {meaning : Data → Option V} → IsExact value datum shape meaning → Exact A
exact_of {A} {V} {value} {datum} {shape} {meaning} exact = record { Value = V; value = value; datum = datum; shape = shape; meaning = meaning; exact = exact }

-- The same of the fields of a struct, by their names.
pub record ExactFields (A : Type 0) : Type 1 where
  pub Value : Type 0
  pub value : A → Value
  pub shape : List (List ℕ) → List Field
  pub written : List (List ℕ) → A → List Named
  pub meaning : List (List ℕ) → Members → Option Value
  pub are_meant : {reject_duplicates : Bool} (names : List (List ℕ)) {ms : Members} → field_names_differ (fields_of (shape names)) ≡ true → FieldsRead reject_duplicates (fields_of (shape names)) ms
      → (v : Value) × (meaning names ms ≡ Some v)
  pub are_written : (names : List (List ℕ)) (x : A) (ms : Members) → meaning names ms ≡ Some (value x) → members_of (written names x) ≡ ms

by_name : {r : Bool} {fs : Fields} {es : Entries} {ms : Members} → ReadsNames r fs es ms → FieldsRead r fs ms
by_name ReadsNames.names_end = FieldsRead.all_read
by_name (ReadsNames.name_found q p ps) = FieldsRead.one_read p (by_name ps)
by_name (ReadsNames.name_left_out q ps) = FieldsRead.left_out (by_name ps)
by_name (ReadsNames.name_as_none q ps) = FieldsRead.one_read Reads.option_no_value (by_name ps)

by_place : {r : Bool} {fs : Fields} {xs : Items} {ms : Members} → ReadsPlaces r fs xs ms → FieldsRead r fs ms
by_place ReadsPlaces.places_end = FieldsRead.all_read
by_place (ReadsPlaces.place_found p ps) = FieldsRead.one_read p (by_place ps)
by_place (ReadsPlaces.place_left_out ps) = FieldsRead.left_out (by_place ps)

in_struct : {r : Bool} {u : UnknownKeys} {fs : Fields} {node : Tree} {ms : Members} → ReadsStruct r u fs node ms → FieldsRead r fs ms
in_struct (ReadsStruct.fields_of_null ps) = by_name ps
in_struct (ReadsStruct.fields_of_no_value ps) = by_name ps
in_struct (ReadsStruct.fields_by_name a ps) = by_name ps
in_struct (ReadsStruct.fields_by_place ps) = by_place ps

first_read : {r : Bool} {fs : Fields} {ms : Members} → FieldsRead r fs ms → is_first_named fs ms ≡ true
first_read FieldsRead.all_read = refl
first_read (FieldsRead.one_read {name} {fs} p ps) = itself_named name (is_field_name name fs)
first_read (FieldsRead.left_out {name} {s} {fs} {ms} ps) = later_named name s true fs ms (first_read ps)

both_meant : {A B : Type 0} (a : Option A) (b : Option B) (x : A) (y : B) → a ≡ Some x → b ≡ Some y → both a b ≡ Some (x, y)
both_meant a b x y p q = ap (λ o. both o b) p ∙ ap (option_map (λ y. (x, y))) q

both_parts : {A B : Type 0} (a : Option A) (b : Option B) (x : A) (y : B) → both a b ≡ Some (x, y) → (a ≡ Some x) × (b ≡ Some y)
both_parts None b x y p = cc
both_parts (Some u) None x y p = cc
both_parts (Some u) (Some w) x y p = let q = same_Some (u, w) (x, y) p in (ap (λ z. Some z.0) q, ap (λ z. Some z.1) q)

pub none_meant : {r : Bool} (names : List (List ℕ)) {ms : Members} → true ≡ true → FieldsRead r (fields_of []) ms → (v : Unit {0}) × (nothing_in ms ≡ Some v)
none_meant names k FieldsRead.all_read = (tt, refl)

pub none_written : (names : List (List ℕ)) (x : Unit {0}) (ms : Members) → nothing_in ms ≡ Some tt → no_members ≡ ms
none_written names x no_members p = refl
none_written names x (one_member n e ms) p = cc

module _ {A B : Type 0} (t : Exact A) (r : ExactFields B) where
  -- a field of that name, and those after it
  same_member : (k n : List ℕ) (x e : Data) (ns ms : Members) → bytes_eq k n ≡ true → x ≡ e → ns ≡ ms → one_member n x ns ≡ one_member k e ms
  same_member k n x e ns ms q p ps = ap (λ m. one_member m x ns) (sym ((bytes_eq-Decides k n).0 q)) ∙ ap₂ (one_member k) p ps

  pub field_meant : {reject_duplicates : Bool} (names : List (List ℕ)) {ms : Members} → field_names_differ (fields_of (field_shape t.shape false r.shape names)) ≡ true → FieldsRead reject_duplicates (fields_of (field_shape t.shape false r.shape names)) ms
      → (v : t.Value × r.Value) × (member_in t.meaning r.meaning names ms ≡ Some v)
  field_meant names k (FieldsRead.one_read {d = e} {ms} p ps) =
      let later = others_of names in
      let fs = fields_of (r.shape later) in
      let m = t.exact.is_meant p in
      let ns = r.are_meant later (both_hold (not (is_field_name (first_of names) fs)) (field_names_differ fs) k).1 ps in
      ((m.0, ns.0), ap (λ b. if b then both (t.meaning e) (r.meaning later ms) else None) ((bytes_eq-Decides (first_of names) (first_of names)).1 refl) ∙ both_meant (t.meaning e) (r.meaning later ms) m.0 ns.0 m.1 ns.1)

  pub field_written : (names : List (List ℕ)) (x : A × B) (ms : Members) → member_in t.meaning r.meaning names ms ≡ Some (t.value x.0, r.value x.1) → members_of (field_data (Some (t.datum x.0)) (λ ns. r.written ns x.1) names) ≡ ms
  field_written names x no_members p = cc
  field_written names x (one_member k e ms) p = by (bytes_eq k (first_of names)) refl p
    where
      by : (b : Bool) → bytes_eq k (first_of names) ≡ b → (if b then both (t.meaning e) (r.meaning (others_of names) ms) else None) ≡ Some (t.value x.0, r.value x.1)
          → members_of (field_data (Some (t.datum x.0)) (λ ns. r.written ns x.1) names) ≡ one_member k e ms
      by true q p =
          let parts = both_parts (t.meaning e) (r.meaning (others_of names) ms) (t.value x.0) (r.value x.1) p in
          same_member k (first_of names) (t.datum x.0) e (members_of (r.written (others_of names) x.1)) ms q (t.exact.is_written x.0 e parts.0) (r.are_written (others_of names) x.1 ms parts.1)
      by false q p = absurd (none-some _ p)

  -- a field that was left out, before others
  absent : (names : List (List ℕ)) (ms : Members) (fs : Fields) → not (is_field_name (first_of names) fs) ≡ true → is_first_named fs ms ≡ true → (w : r.Value) → r.meaning (others_of names) ms ≡ Some w
      → field_in (Some None) (λ e. option_map Some (t.meaning e)) r.meaning names ms ≡ Some (None, w)
  absent names no_members fs free named w p = ap (option_map (λ y. (None, y))) p
  absent names (one_member k e ms) fs free named w p =
      ap (λ b. if b then both (option_map Some (t.meaning e)) (r.meaning (others_of names) ms) else option_map (λ y. (None, y)) (r.meaning (others_of names) (one_member k e ms))) (other_field (first_of names) k fs free named)
      ∙ ap (option_map (λ y. (None, y))) p

  pub optional_meant : {reject_duplicates : Bool} (names : List (List ℕ)) {ms : Members} → field_names_differ (fields_of (field_shape t.shape true r.shape names)) ≡ true → FieldsRead reject_duplicates (fields_of (field_shape t.shape true r.shape names)) ms
      → (v : Option t.Value × r.Value) × (field_in (Some None) (λ e. option_map Some (t.meaning e)) r.meaning names ms ≡ Some v)
  optional_meant names k (FieldsRead.one_read {d = e} {ms} p ps) =
      let later = others_of names in
      let fs = fields_of (r.shape later) in
      let m = t.exact.is_meant p in
      let ns = r.are_meant later (both_hold (not (is_field_name (first_of names) fs)) (field_names_differ fs) k).1 ps in
      ((Some m.0, ns.0), ap (λ b. if b then both (option_map Some (t.meaning e)) (r.meaning later ms) else option_map (λ y. (None, y)) (r.meaning later (one_member (first_of names) e ms))) ((bytes_eq-Decides (first_of names) (first_of names)).1 refl) ∙ both_meant (option_map Some (t.meaning e)) (r.meaning later ms) (Some m.0) ns.0 (ap (option_map Some) m.1) ns.1)
  optional_meant names k (FieldsRead.left_out {ms} ps) =
      let later = others_of names in
      let fs = fields_of (r.shape later) in
      let differ = both_hold (not (is_field_name (first_of names) fs)) (field_names_differ fs) k in
      let ns = r.are_meant later differ.1 ps in
      ((None, ns.0), absent names ms fs differ.0 (first_read ps) ns.0 ns.1)

  pub optional_written : (names : List (List ℕ)) (a : Option A) (b : B) (ms : Members) → field_in (Some None) (λ e. option_map Some (t.meaning e)) r.meaning names ms ≡ Some (option_map t.value a, r.value b) → members_of (field_data (option_map t.datum a) (λ ns. r.written ns b) names) ≡ ms
  optional_written names None b no_members p = r.are_written (others_of names) b no_members (both_parts (Some None) (r.meaning (others_of names) no_members) None (r.value b) p).1
  optional_written names (Some a) b no_members p = let q = both_parts (Some None) (r.meaning (others_of names) no_members) (Some (t.value a)) (r.value b) p in absurd cc
  optional_written names a b (one_member k e ms) p = by (bytes_eq k (first_of names)) refl a p
    where
      by : (c : Bool) → bytes_eq k (first_of names) ≡ c → (a : Option A)
          → (if c then both (option_map Some (t.meaning e)) (r.meaning (others_of names) ms) else option_map (λ y. (None, y)) (r.meaning (others_of names) (one_member k e ms))) ≡ Some (option_map t.value a, r.value b)
          → members_of (field_data (option_map t.datum a) (λ ns. r.written ns b) names) ≡ one_member k e ms
      by true q None p = absurd (not_none (t.meaning e) (both_parts (option_map Some (t.meaning e)) (r.meaning (others_of names) ms) None (r.value b) p).0)
      by true q (Some a) p =
          let parts = both_parts (option_map Some (t.meaning e)) (r.meaning (others_of names) ms) (Some (t.value a)) (r.value b) p in
          same_member k (first_of names) (t.datum a) e (members_of (r.written (others_of names) b)) ms q (t.exact.is_written a e (inside (t.meaning e) (t.value a) parts.0)) (r.are_written (others_of names) b ms parts.1)
      by false q None p = r.are_written (others_of names) b (one_member k e ms) (both_parts (Some None) (r.meaning (others_of names) (one_member k e ms)) None (r.value b) p).1
      by false q (Some a) p = let q = both_parts (Some None) (r.meaning (others_of names) (one_member k e ms)) (Some (t.value a)) (r.value b) p in absurd cc

abbrev pub no_fields : ExactFields (Unit {0})
no_fields = record {
  Value = Unit {0};
  value = λ x. tt;
  shape = λ names. [];
  written = λ names x. [];
  meaning = λ names ms. nothing_in ms;
  are_meant = none_meant;
  are_written = none_written;
}

abbrev pub field : {A B : Type 0} → Exact A → ExactFields B → ExactFields (A × B)
field t r = record {
  Value = t.Value × r.Value;
  value = λ x. (t.value x.0, r.value x.1);
  shape = λ names. field_shape t.shape false r.shape names;
  written = λ names x. field_data (Some (t.datum x.0)) (λ ns. r.written ns x.1) names;
  meaning = λ names ms. member_in t.meaning r.meaning names ms;
  are_meant = field_meant t r;
  are_written = λ names x ms p. field_written t r names x ms p;
}

abbrev pub optional_field : {A B : Type 0} → Exact A → ExactFields B → ExactFields (Optional A × B)
optional_field t r = record {
  Value = Option t.Value × r.Value;
  value = λ x. (option_map t.value x.0.0, r.value x.1);
  shape = λ names. field_shape t.shape true r.shape names;
  written = λ names x. field_data (option_map t.datum x.0.0) (λ ns. r.written ns x.1) names;
  meaning = λ names ms. field_in (Some None) (λ e. option_map Some (t.meaning e)) r.meaning names ms;
  are_meant = optional_meant t r;
  are_written = λ names x ms p. optional_written t r names x.0.0 x.1 ms p;
}

-- a struct of such fields, strict or not
pub struct_exact : {A B : Type 0} (t : ExactFields B) (u : UnknownKeys) (names : List (List ℕ)) → field_names_differ (fields_of (t.shape names)) ≡ true → (parts : A → B)
    → IsExact (λ x. t.value (parts x)) (λ x. d.struct (members_of (t.written names (parts x)))) (Shape.struct u (fields_of (t.shape names))) (λ e. struct_in (t.meaning names) e)
struct_exact {A} t u names differ parts = record { is_meant = meant; is_written = written }
  where
    meant : {r : Bool} {node : Tree} {e : Data} → Reads r (Shape.struct u (fields_of (t.shape names))) node e → (v : t.Value) × (struct_in (t.meaning names) e ≡ Some v)
    meant (Reads.struct ps) = t.are_meant names differ (in_struct ps)

    written : (x : A) (e : Data) → struct_in (t.meaning names) e ≡ Some (t.value (parts x)) → d.struct (members_of (t.written names (parts x))) ≡ e
    written x (d.struct ms) p = ap d.struct (t.are_written names (parts x) ms p)
    written x _ p = cc

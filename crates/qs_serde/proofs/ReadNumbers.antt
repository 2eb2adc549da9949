-- The numbers that texts write: of several widths, and as std parses them.
use Rattle.std.proofs.Common.{◌≡◌, ℕ, ℤ, pos, ◌^◌, ◌-◌, ◌≤◌, inl, inr, List, [], ◌∷◌, Bool, true, false, None, Some, Option, Result, Ok, Err, ◌==◌, refl, sym, ap, ◌∙◌, if◌then◌else◌, arith, subst}
use Rattle.std.proofs.lemmas.Option.{same_Some, none-some, cond_some}
use Rattle.std.proofs.lemmas.Int.{ints}
use Rattle.std.specs.Option.{option_map, option_and_then}
use Rattle.std.specs.Prelude.{IfOk}
use Rattle.serde.specs.Event as e
use Rattle.std.specs.Str.{is_utf8}
use Rattle.std.specs.Str.Parse.{ParsesSigned, ParsesUnsigned}
use Rattle.std.specs.Int.{w128}
use Rattle.std.specs.Int.RustNames.{FitsSigned}
use Rattle.std.specs.Float.{Float, Format}
use Rattle.std.specs.Float.Parse.{IsParseFloatResult, parse_float}
use Rattle.qs_data.proofs.Common.{nat_tests, neg_ℤ, ◌≤ℤ◌}
use Rattle.qs_data.proofs.lemmas.read.Numbers.{half_128, signed_bad, signed_ok, signed_text, unsigned_bad, unsigned_ok, unsigned_text}
use Rattle.qs_spec.proofs.Booleans.{and_both}
use Rattle.qs_spec.specs.Data as d
use Rattle.qs_spec.specs.Data.{Data}
use Rattle.qs_spec.specs.Shape as s
use Rattle.qs_spec.specs.Scalar.{is_numeral, numeral_up_to, signed_data, signed_number, text_data, unsigned_data, unsigned_number}
use Rattle.qs_spec.specs.Segment.{number}
use Rattle.qs_spec.specs.Tree.{Tree}
use Rattle.qs_spec.specs.Tree.Tree.{leaf, sequence, mapping, uninitialized}
use Rattle.qs_spec.specs.Leaf.Leaf.{NoValue, Null, Text}
use Rattle.qs_spec.specs.Node.{last_item}
use Rattle.qs_spec.specs.internal.ReadFunction.{reads, read_scalar}
use Rattle.qs_data.specs.declared.read.error.ReadError.{ReadError}
use Rattle.qs_data.specs.read.TreeText.{is_text}
use Rattle.qs_data.specs.read.internal.ReadError.{ReadGives}
use Rattle.qs_serde.specs.Places.{scalar_at}
use Rattle.qs_serde.specs.Steps.{Notes, Reads, Returns, ReturnsParsed, Takes, next_float, next_text, text_in}
use Rattle.qs_serde.specs.declared.reading.format.TreeFormat.{TreeFormat}
use Rattle.qs_serde.proofs.Errors.{rejects_custom, rejects_further}

-- A numeral within another limit is the same number.
numeral_number : (p : ℕ) (ds : List ℕ) (n : ℕ) → numeral_up_to p ds ≡ Some n → (is_numeral ds ≡ true) × (number ds ≡ n) × (n ≤ p)
numeral_number p ds n h =
    let c = cond_some _ (number ds) n h in
    let both = and_both _ _ c.0 in
    let is = both.0 in
    let within = both.1 in
    let same = c.1 in
    (is, same, grind (arith, nat_tests))

numeral_again : (p q : ℕ) (ds : List ℕ) (n : ℕ) → (n ≤ p → n ≤ q) → numeral_up_to p ds ≡ Some n → numeral_up_to q ds ≡ Some n
numeral_again p q ds n le h =
    let f = numeral_number p ds n h in
    let is = f.0 in
    let same = f.1 in
    let within = le f.2 in
    grind (arith, nat_tests)

unmapped : {X Y : Type 0} (f : X → Y) (o : Option X) (y : Y) → option_map f o ≡ Some y → (x : X) × (o ≡ Some x) × (f x ≡ y)
unmapped f None y h = absurd (none-some y h)
unmapped f (Some x) y h = (x, refl, same_Some _ _ h)

pub unsigned_again : (a b : ℕ) (c : List ℕ) (n : ℕ) → (n ≤ 2 ^ a - 1 → n ≤ 2 ^ b - 1) → unsigned_number a c ≡ Some n → unsigned_number b c ≡ Some n
unsigned_again a b [] n le h = absurd (none-some n h)
unsigned_again a b (x ∷ ds) n le h = numeral_again (2 ^ a - 1) (2 ^ b - 1) (if x == 43 then ds else x ∷ ds) n le h

pub signed_again : (a b : ℕ) (c : List ℕ) (z : ℤ) → ((n : ℕ) → neg_ℤ (pos n) ≡ z → n ≤ 2 ^ (a - 1) → n ≤ 2 ^ (b - 1)) → ((n : ℕ) → pos n ≡ z → n ≤ 2 ^ (a - 1) - 1 → n ≤ 2 ^ (b - 1) - 1)
    → signed_number a c ≡ Some z → signed_number b c ≡ Some z
signed_again a b [] z low high h = absurd (none-some z h)
signed_again a b (x ∷ ds) z low high h = by_sign (x == 45) h where
  by_sign : (m : Bool) → (if m then option_map (λ n. neg_ℤ (pos n)) (numeral_up_to (2 ^ (a - 1)) ds) else option_map pos (numeral_up_to (2 ^ (a - 1) - 1) (if x == 43 then ds else x ∷ ds))) ≡ Some z
      → (if m then option_map (λ n. neg_ℤ (pos n)) (numeral_up_to (2 ^ (b - 1)) ds) else option_map pos (numeral_up_to (2 ^ (b - 1) - 1) (if x == 43 then ds else x ∷ ds))) ≡ Some z
  by_sign true e =
      let u = unmapped (λ n. neg_ℤ (pos n)) _ z e in
      ap (option_map (λ n. neg_ℤ (pos n))) (numeral_again (2 ^ (a - 1)) (2 ^ (b - 1)) ds u.0 (low u.0 u.2) u.1) ∙ ap Some u.2
  by_sign false e =
      let u = unmapped pos _ z e in
      ap (option_map pos) (numeral_again (2 ^ (a - 1) - 1) (2 ^ (b - 1) - 1) (if x == 43 then ds else x ∷ ds) u.0 (high u.0 u.2) u.1) ∙ ap Some u.2

-- what another reading of a text gives as well
read_again : (r : Bool) (get other : List ℕ → Option Data) (t : Tree) (x : Data) → ((b : List ℕ) → get b ≡ Some x → other b ≡ Some x) → read_scalar r None get t ≡ Some x → read_scalar r None other t ≡ Some x
read_again r get other (leaf NoValue) x f h = h
read_again r get other (leaf Null) x f h = h
read_again r get other (leaf (Text b m)) x f h = f b h
read_again r get other (sequence xs) x f h = by_last (last_item r xs) h where
  by_last : (o : Option (List ℕ)) → option_and_then get o ≡ Some x → option_and_then other o ≡ Some x
  by_last None e = e
  by_last (Some b) e = f b e
read_again r get other (mapping es) x f h = h
read_again r get other uninitialized x f h = h

pub unsigned_of : (r : Bool) (a b : ℕ) (t : Tree) (n : ℕ) → (n ≤ 2 ^ a - 1 → n ≤ 2 ^ b - 1) → reads r (s.Shape.unsigned a) t ≡ Some (d.unsigned n) → reads r (s.Shape.unsigned b) t ≡ Some (d.unsigned n)
unfolding reads
unsigned_of r a b t n le h = read_again r (unsigned_data a) (unsigned_data b) t (d.unsigned n) again h where
  again : (c : List ℕ) → unsigned_data a c ≡ Some (d.unsigned n) → unsigned_data b c ≡ Some (d.unsigned n)
  again c e =
      let u = unmapped d.unsigned (unsigned_number a c) (d.unsigned n) e in
      let same : u.0 ≡ n = cc in
      ap (option_map d.unsigned) (unsigned_again a b c n le (u.1 ∙ ap Some same))

pub signed_of : (r : Bool) (a b : ℕ) (t : Tree) (z : ℤ) → ((n : ℕ) → neg_ℤ (pos n) ≡ z → n ≤ 2 ^ (a - 1) → n ≤ 2 ^ (b - 1)) → ((n : ℕ) → pos n ≡ z → n ≤ 2 ^ (a - 1) - 1 → n ≤ 2 ^ (b - 1) - 1)
    → reads r (s.Shape.signed a) t ≡ Some (d.signed z) → reads r (s.Shape.signed b) t ≡ Some (d.signed z)
unfolding reads
signed_of r a b t z low high h = read_again r (signed_data a) (signed_data b) t (d.signed z) again h where
  again : (c : List ℕ) → signed_data a c ≡ Some (d.signed z) → signed_data b c ≡ Some (d.signed z)
  again c e =
      let u = unmapped d.signed (signed_number a c) (d.signed z) e in
      let same : u.0 ≡ z = cc in
      ap (option_map d.signed) (signed_again a b c z low high (u.1 ∙ ap Some same))

pub unsigned_wider : (r : Bool) (t : Tree) (n : ℕ) → reads r (s.Shape.unsigned 64) t ≡ Some (d.unsigned n) → reads r (s.Shape.unsigned 128) t ≡ Some (d.unsigned n)
unsigned_wider r t n h = unsigned_of r 64 128 t n (λ le. omega (arith, le)) h

pub signed_wider : (r : Bool) (t : Tree) (z : ℤ) → reads r (s.Shape.signed 64) t ≡ Some (d.signed z) → reads r (s.Shape.signed 128) t ≡ Some (d.signed z)
signed_wider r t z h = signed_of r 64 128 t z (λ n e le. omega (arith, le)) (λ n e le. omega (arith, le)) h

-- A number is read of the text that is read: if there is none, or it isn't UTF-8, it writes no number.
text_data_then : (get : List ℕ → Option Data) (b : List ℕ) → (is_utf8 b ≡ false → get b ≡ None) → get b ≡ option_and_then get (option_and_then text_in (text_data b))
text_data_then get b bad = go (is_utf8 b) bad where
  go : (u : Bool) → (u ≡ false → get b ≡ None) → get b ≡ option_and_then get (option_and_then text_in (if u then Some (d.text b) else None))
  go true f = refl
  go false f = f refl

of_text : (r : Bool) (get : List ℕ → Option Data) (t : Tree) → get [] ≡ None → ((b : List ℕ) → is_utf8 b ≡ false → get b ≡ None) → read_scalar r None get t ≡ option_and_then get (option_and_then text_in (reads r s.Shape.text t))
unfolding reads
of_text r get (leaf NoValue) empty bad = sym empty
of_text r get (leaf Null) empty bad = sym empty
of_text r get (leaf (Text b m)) empty bad = text_data_then get b (bad b)
of_text r get (sequence xs) empty bad = by_last (last_item r xs) where
  by_last : (o : Option (List ℕ)) → option_and_then get o ≡ option_and_then get (option_and_then text_in (option_and_then text_data o))
  by_last None = refl
  by_last (Some b) = text_data_then get b (bad b)
of_text r get (mapping es) empty bad = refl
of_text r get uninitialized empty bad = refl

pub unsigned_next : (old : TreeFormat) → reads old.reader.reject_duplicates (s.Shape.unsigned 128) (scalar_at old) ≡ option_and_then (unsigned_data 128) (next_text old)
unfolding reads
unsigned_next old = of_text old.reader.reject_duplicates (unsigned_data 128) (scalar_at old) refl (λ b bad. ap (option_map d.unsigned) (unsigned_text 128 b bad))

pub signed_next : (old : TreeFormat) → reads old.reader.reject_duplicates (s.Shape.signed 128) (scalar_at old) ≡ option_and_then (signed_data 128) (next_text old)
unfolding reads
signed_next old = of_text old.reader.reject_duplicates (signed_data 128) (scalar_at old) refl (λ b bad. ap (option_map d.signed) (signed_text 128 b bad))

-- what a step gives that parses a text, by what std's `from_str` gives
parsed_gives : {T E Y : Type 0} (from_str : List ℕ → Result T E → Type 0) (make : T → Y) (get : List ℕ → Option Y) (old : TreeFormat) (result : Result T ReadError)
    → ((t : List ℕ) (v : T) → from_str t (Ok v) → get t ≡ Some (make v)) → ((t : List ℕ) (e : E) → from_str t (Err e) → get t ≡ None)
    → ReturnsParsed from_str old result → ReadGives make (is_text (scalar_at old)) result (option_and_then get (next_text old))
parsed_gives from_str make get old (Ok v) good bad h = ap (option_and_then get) h.1 ∙ good h.0 v h.2
parsed_gives from_str make get old (Err e) good bad (inl h) = rejects_further (is_text (scalar_at old)) (is_text (scalar_at old)) e (next_text old) _ h (λ none. ap (option_and_then get) none) (λ n. n)
parsed_gives from_str make get old (Err e) good bad (inr h) = rejects_custom (is_text (scalar_at old)) e (option_and_then get (next_text old)) h.0 (ap (option_and_then get) h.1.2 ∙ bad h.1.0 h.1.1 h.1.3)

-- a number of 128 bits, as a step gives it
takes_notes : (old new : TreeFormat) → Takes old new → Notes old new
takes_notes old new h = subst (λ f. Notes old f) (sym h) refl

pub signed_step : (old new : TreeFormat) (result : Result ℤ ReadError) → Takes old new → Returns d.signed old (s.Shape.signed 128) result → IfOk result (λ v. Reads old (e.signed v) new)
signed_step old new (Ok v) takes is = (takes_notes old new takes, λ plain. is)
signed_step old new (Err x) takes is = tt

pub unsigned_step : (old new : TreeFormat) (result : Result ℕ ReadError) → Takes old new → Returns d.unsigned old (s.Shape.unsigned 128) result → IfOk result (λ v. Reads old (e.unsigned v) new)
unsigned_step old new (Ok v) takes is = (takes_notes old new takes, λ plain. is)
unsigned_step old new (Err x) takes is = tt

-- what a step gives by std's `from_str` for 128 bits, and for floats
module _ {E : Type 0} (from_str : List ℕ → Result ℕ E → Type 0) (is : (t : List ℕ) (r : Result ℕ E) → from_str t r → ParsesUnsigned 128 10 t r) where
  unsigned_good : (t : List ℕ) (v : ℕ) → from_str t (Ok v) → unsigned_data 128 t ≡ Some (d.unsigned v)
  unsigned_good t v h =
      let p = is t (Ok v) h in
      let same = p.1 in
      let lt = p.0.1 in
      let le : v ≤ 2 ^ 128 - 1 = omega (arith, same, lt) in
      ap (option_map d.unsigned) (unsigned_ok 128 t v p.0.0 same le)

  unsigned_none : (t : List ℕ) (e : E) → from_str t (Err e) → unsigned_data 128 t ≡ None
  unsigned_none t e h = ap (option_map d.unsigned) (unsigned_bad 128 128 t (is t (Err e) h) (omega arith) (omega arith))

  pub unsigned_parsed : (old : TreeFormat) (result : Result ℕ ReadError) → ReturnsParsed from_str old result → Returns d.unsigned old (s.Shape.unsigned 128) result
  unsigned_parsed old result h = subst (ReadGives d.unsigned (is_text (scalar_at old)) result) (sym (unsigned_next old)) (parsed_gives from_str d.unsigned (unsigned_data 128) old result unsigned_good unsigned_none h)

module _ {E : Type 0} (from_str : List ℕ → Result ℤ E → Type 0) (is : (t : List ℕ) (r : Result ℤ E) → from_str t r → ParsesSigned w128 10 t r) where
  signed_good : (t : List ℕ) (v : ℤ) → from_str t (Ok v) → signed_data 128 t ≡ Some (d.signed v)
  signed_good t v h =
      let p = is t (Ok v) h in
      let same = p.1 in
      let fits : FitsSigned w128 v = subst (FitsSigned w128) (sym same) p.0.1 in
      let low : neg_ℤ (pos (2 ^ (128 - 1))) ≤ℤ v = grind (arith, ints) in
      let high : v ≤ℤ pos (2 ^ (128 - 1) - 1) = grind (arith, ints) in
      ap (option_map d.signed) (signed_ok 128 t v p.0.0 same low high)

  signed_none : (t : List ℕ) (e : E) → from_str t (Err e) → signed_data 128 t ≡ None
  signed_none t e h = ap (option_map d.signed) (signed_bad w128 (2 ^ 127) 128 t half_128 (is t (Err e) h) (omega arith) (omega arith))

  pub signed_parsed : (old : TreeFormat) (result : Result ℤ ReadError) → ReturnsParsed from_str old result → Returns d.signed old (s.Shape.signed 128) result
  signed_parsed old result h = subst (ReadGives d.signed (is_text (scalar_at old)) result) (sym (signed_next old)) (parsed_gives from_str d.signed (signed_data 128) old result signed_good signed_none h)

pub float_parsed : {E : Type 0} (format : Format) (from_str : List ℕ → Result Float E → Type 0) → ((t : List ℕ) (r : Result Float E) → from_str t r → IsParseFloatResult format t r) → (old : TreeFormat) (result : Result Float ReadError)
    → ReturnsParsed from_str old result → ReadGives (λ x. x) (is_text (scalar_at old)) result (next_float format old)
float_parsed format from_str is old result h = parsed_gives from_str (λ x. x) (parse_float format) old result (λ t v p. is t (Ok v) p) (λ t e p. is t (Err e) p) h

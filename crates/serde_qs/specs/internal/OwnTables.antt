-- What a type has itself, in the words of its table.
use Rattle.std.proofs.Common.{ap, ◌∙◌, refl, subst, sym}
use mathlib.Core.Path.{fun_ext}
use Rattle.std.specs.Prelude.{◌≡◌, ℕ, Bool, List, [], ◌∷◌, map, Option, Some, None, option_map, option_and_then}
use Rattle.std.specs.BTreeMap.{BTreeMap}
use Rattle.std.specs.declared.alloc.Global.{Global}
use Rattle.std.specs.declared.string.String.{String}
use Rattle.std.specs.declared.vec.Vec.{Vec}
use Rattle.qs_spec.specs.Data as d
use Rattle.qs_spec.specs.Data.{Data, Named, values_of, pairs_of}
use Rattle.qs_spec.specs.Fits.{fits}
use Rattle.qs_spec.specs.Plain.{is_plain}
use Rattle.qs_spec.specs.Same.{Same}
use Rattle.serde_qs.specs.ComesBack.{ComesBack, DataFit}
use Rattle.serde_qs.specs.Delimited.{NumbersComeBack, list_data}
use Rattle.serde_qs.specs.Items.{items_in, list_in, listed_in, pieces}
use Rattle.serde_qs.specs.Maps.{entry_data}
use Rattle.serde_qs.specs.Meaning.{option_data}
use Rattle.serde_qs.specs.Records.{field_data, first_of, others_of}
use Rattle.serde_qs.specs.Tables.{AreNumbersOf, Numbers, Table, numbers_of}

unchanged : {A : Type 0} (o : Option A) → o ≡ option_map (λ v. v) o
unchanged None = refl
unchanged (Some v) = refl

pub themselves : {A V : Type 0} (value : A → V) (in_range : A → Bool) (printed : A → List ℕ) (meaning : List ℕ → Option V) (back : NumbersComeBack in_range meaning printed value)
    → AreNumbersOf (numbers_of value in_range printed meaning back) value in_range printed meaning
themselves value in_range printed meaning back = record { same_range = λ x. refl; same_printed = λ x. refl; kept = λ v. v; same_value = λ x. refl; same_meaning = λ t. unchanged (meaning t) }

-- members and items, of which each is the same by a type's own data and by its table's
pub same_member : {o p : Option Data} {f g : List (List ℕ) → List Named} → p ≡ o → ((ns : List (List ℕ)) → f ns ≡ g ns) → (names : List (List ℕ)) → field_data o f names ≡ field_data p g names
same_member {o} {p} {f} {g} one others names = ap (λ q. field_data q f names) (sym one) ∙ by p
  where
    by : (q : Option Data) → field_data q f names ≡ field_data q g names
    by None = others (others_of names)
    by (Some x) = ap (λ ms. (first_of names, x) ∷ ms) (others (others_of names))

pub same_some : {A : Type 0} {f g : A → Data} → ((x : A) → g x ≡ f x) → (o : Option A) → option_map g o ≡ option_map f o
same_some one None = refl
same_some one (Some x) = ap Some (one x)

pub same_item : {x y : Data} {xs ys : List Data} → y ≡ x → xs ≡ ys → x ∷ xs ≡ y ∷ ys
same_item {x} {y} {xs} {ys} one others = ap (λ e. e ∷ xs) (sym one) ∙ ap (λ es. y ∷ es) others

-- lists of what is kept, one after another
kept_more : {V W : Type 0} (kept : V → W) (a : Option V) (b : Option (List V))
    → option_and_then (λ x. option_map (λ xs. x ∷ xs) (option_map (map kept) b)) (option_map kept a) ≡ option_map (map kept) (option_and_then (λ x. option_map (λ xs. x ∷ xs) b) a)
kept_more kept None b = refl
kept_more kept (Some v) None = refl
kept_more kept (Some v) (Some vs) = refl

-- what is written, by a type's own data and by its table's
module _ {A : Type 0} (t : Table A) (datum : A → Data) (same : (x : A) → t.datum x ≡ datum x) where
  pub option_datum : (o : Option A) → option_data t.datum o ≡ option_data datum o
  option_datum None = refl
  option_datum (Some x) = ap d.some (same x)

  pub sequence_datum : (xs : Vec A Global) → d.sequence (values_of (map t.datum xs.items)) ≡ d.sequence (values_of (map datum xs.items))
  sequence_datum xs = ap (λ f. d.sequence (values_of (map f xs.items))) (fun_ext same)

  pub mapping_datum : (m : BTreeMap (String Global) A) → d.mapping (pairs_of (map (entry_data t.datum) m.entries)) ≡ d.mapping (pairs_of (map (entry_data datum) m.entries))
  mapping_datum m = ap (λ f. d.mapping (pairs_of (map (entry_data f) m.entries))) (fun_ext same)

  -- each value's own data fits, and the value comes back from it

  pub own_fit : DataFit datum t.shape
  own_fit is_form x h = ap (fits t.shape) (sym (same x)) ∙ t.fit is_form x (ap (is_plain is_form) (same x) ∙ h)

  pub own_back : ComesBack datum t.meaning t.value
  own_back is_form x e h p = t.comes_back is_form x e (ap (is_plain is_form) (same x) ∙ h) (subst (λ d. Same d e) (sym (same x)) p)

module _ {A V : Type 0} (n : Numbers A) (value : A → V) (in_range : A → Bool) (printed : A → List ℕ) (meaning : List ℕ → Option V) (own : AreNumbersOf n value in_range printed meaning) where
  pub number_values : (xs : List A) → map n.value xs ≡ map own.kept (map value xs)
  number_values [] = refl
  number_values (x ∷ xs) = ap (λ v. v ∷ map n.value xs) (own.same_value x) ∙ ap (λ vs. own.kept (value x) ∷ vs) (number_values xs)

  items_meaning : (ts : List (List ℕ)) → items_in n.meaning ts ≡ option_map (map own.kept) (items_in meaning ts)
  items_meaning [] = refl
  items_meaning (t ∷ ts) =
      ap (λ r. option_and_then (λ x. option_map (λ xs. x ∷ xs) r) (n.meaning t)) (items_meaning ts)
      ∙ ap (λ o. option_and_then (λ x. option_map (λ xs. x ∷ xs) (option_map (map own.kept) (items_in meaning ts))) o) (own.same_meaning t)
      ∙ kept_more own.kept (meaning t) (items_in meaning ts)

  listed_meaning : (delimiter : ℕ) (t : List ℕ) → listed_in n.meaning delimiter t ≡ option_map (map own.kept) (listed_in meaning delimiter t)
  listed_meaning delimiter [] = refl
  listed_meaning delimiter (b ∷ bs) = items_meaning (pieces delimiter (b ∷ bs))

  pub list_meaning : (delimiter : ℕ) (e : Data) → list_in n.meaning delimiter e ≡ option_map (map own.kept) (list_in meaning delimiter e)
  list_meaning delimiter (d.text t) = listed_meaning delimiter t
  list_meaning delimiter d.unit = refl
  list_meaning delimiter d.none = refl
  list_meaning delimiter (d.some e) = refl
  list_meaning delimiter (d.boolean b) = refl
  list_meaning delimiter (d.unsigned n) = refl
  list_meaning delimiter (d.signed z) = refl
  list_meaning delimiter (d.character c) = refl
  list_meaning delimiter (d.bytes b) = refl
  list_meaning delimiter (d.sequence es) = refl
  list_meaning delimiter (d.tuple es) = refl
  list_meaning delimiter (d.mapping ps) = refl
  list_meaning delimiter (d.struct ms) = refl
  list_meaning delimiter (d.newtype e) = refl
  list_meaning delimiter (d.unit_variant n) = refl
  list_meaning delimiter (d.newtype_variant n e) = refl
  list_meaning delimiter (d.tuple_variant n es) = refl
  list_meaning delimiter (d.struct_variant n ms) = refl

  pub delimited_datum : (delimiter : ℕ) (xs : List A) → list_data n.in_range n.printed delimiter xs ≡ list_data in_range printed delimiter xs
  delimited_datum delimiter xs =
      ap (λ f. list_data f n.printed delimiter xs) (fun_ext own.same_range) ∙ ap (λ f. list_data in_range f delimiter xs) (fun_ext own.same_printed)

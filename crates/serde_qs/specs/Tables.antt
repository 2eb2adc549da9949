-- Tables: what a type is read by and written as, with the proofs that belong to it, as one value. The table of a struct or an enum holds
-- its parts' tables, each once.
use Rattle.std.specs.Prelude.{◌≡◌, ℕ, Bool, true, List, map, Option, Some, option_map, refl}
use Rattle.std.specs.BTreeMap.{BTreeMap}
use Rattle.std.specs.declared.alloc.Global.{Global}
use Rattle.std.specs.declared.string.String.{String}
use Rattle.std.specs.declared.vec.Vec.{Vec}
use Rattle.qs_spec.specs.Data as d
use Rattle.qs_spec.specs.Data.{Data, values_of, pairs_of}
use Rattle.qs_spec.specs.Fits.{fits}
use Rattle.qs_spec.specs.Same.{Same}
use Rattle.qs_spec.specs.Shape as s
use Rattle.qs_spec.specs.Shape.{Shape, is_distinct}
use Rattle.serde_qs.specs.ComesBack.{ComesBack, DataFit}
use Rattle.serde_qs.specs.Compound.{data_by}
use Rattle.serde_qs.specs.Delimited.{NumbersComeBack, is_number_delimiter, list_data}
use Rattle.serde_qs.specs.Fitting.{fitting, misfit}
use Rattle.serde_qs.specs.Items.{list_in}
use Rattle.serde_qs.specs.Maps.{entry_data, mapping_in, values_by_text}
use Rattle.serde_qs.specs.Meaning.{option_data, option_in, sequence_in}
use Rattle.serde_qs.specs.declared.types.delimited.Delimited.{Delimited}
use Rattle.serde_qs.specs.internal.ComesBack.{option_back, sequence_back}
use Rattle.serde_qs.specs.internal.Compound.{data_by_back, data_by_fit}
use Rattle.serde_qs.specs.internal.DelimitedComesBack.{list_comes_back, list_fits}
use Rattle.serde_qs.specs.internal.Fits.{mapping_fits, option_fits, sequence_fits}
use Rattle.serde_qs.specs.internal.Fitting.{fitting_back, fitting_fits, not_plain}
use Rattle.serde_qs.specs.internal.MapsComeBack.{mapping_back}

-- What a value holds, its data, the shape that is read for them, and what data means. No struct or enum in the shape has a name twice. If
-- the data of a value is plain, it fits the shape, and data that is the same means that value.
pub record Table (A : Type 0) : Type 1 where
  pub Value : Type 0
  pub value : A → Value
  pub datum : A → Data
  pub shape : Shape
  pub meaning : Data → Option Value
  pub distinct : is_distinct shape ≡ true
  pub fit : DataFit datum shape
  pub comes_back : ComesBack datum meaning value

-- a table of these
abbrev pub table_with : {A V : Type 0} (value : A → V) (datum : A → Data) (shape : Shape) (meaning : Data → Option V) → is_distinct shape ≡ true → DataFit datum shape
    → ComesBack datum meaning value → Table A
table_with {A} {V} value datum shape meaning distinct fit back =
    record { Value = V; value = value; datum = datum; shape = shape; meaning = meaning; distinct = distinct; fit = fit; comes_back = back }

-- a table of these, for values whose data fits the shape
abbrev pub table_of : {A V : Type 0} (value : A → V) (datum : A → Data) (shape : Shape) (meaning : Data → Option V) → is_distinct shape ≡ true
    → ((x : A) (e : Data) → fits shape (datum x) ≡ true → Same (datum x) e → meaning e ≡ Some (value x)) → Table A
table_of value datum shape meaning distinct back =
    table_with value (λ x. fitting shape (datum x)) shape meaning distinct (fitting_fits datum shape) (fitting_back value datum shape meaning back)

-- a table whose data unfolds only on request
abbrev pub closed : {A : Type 0} → Table A → Table A
closed t =
    table_with t.value (data_by t.datum) t.shape t.meaning t.distinct (data_by_fit t.datum t.shape t.fit) (data_by_back t.datum t.meaning t.value t.comes_back)

-- The table of a type that is only read. None of its values has plain data, so none has to come back.
abbrev pub only_read : {A V : Type 0} (value : A → V) (shape : Shape) (meaning : Data → Option V) → is_distinct shape ≡ true → Table A
only_read value shape meaning distinct = table_with value (λ _. misfit) shape meaning distinct (λ is_form x h. absurd (not_plain is_form h)) (λ is_form x e h p. absurd (not_plain is_form h))

-- types of std that hold others

abbrev pub option_table : {A : Type 0} → Table A → Table (Option A)
option_table t =
    table_with (option_map t.value) (option_data t.datum) (Shape.option t.shape) (option_in t.meaning) t.distinct (option_fits t.datum t.shape t.fit)
    (option_back t.datum t.meaning t.value t.comes_back)

abbrev pub sequence_table : {A : Type 0} → Table A → Table (Vec A Global)
sequence_table t =
    table_with (λ xs. map t.value xs.items) (λ xs. d.sequence (values_of (map t.datum xs.items))) (Shape.sequence t.shape) (sequence_in t.meaning) t.distinct
    (λ is_form xs h. sequence_fits t.datum t.shape t.fit is_form xs.items h) (λ is_form xs e h p. sequence_back t.datum t.meaning t.value t.comes_back is_form xs.items e h p)

abbrev pub mapping_table : {A : Type 0} → Table A → Table (BTreeMap (String Global) A)
mapping_table t =
    table_with (values_by_text t.value) (λ m. d.mapping (pairs_of (map (entry_data t.datum) m.entries))) (Shape.mapping s.KeyShape.text t.shape) (mapping_in t.meaning) t.distinct
    (λ is_form m h. mapping_fits t.datum t.shape t.fit is_form m.entries h) (λ is_form m e h p. mapping_back t.datum t.meaning t.value t.comes_back is_form m e h p)

-- Whole numbers, as the items of a list in one text. The text of each that is in range has no delimiter in it, and is parsed as that number.
pub record Numbers (A : Type 0) : Type 1 where
  pub Value : Type 0
  pub value : A → Value
  pub in_range : A → Bool
  pub printed : A → List ℕ
  pub meaning : List ℕ → Option Value
  pub come_back : NumbersComeBack in_range meaning printed value

-- whole numbers of these
abbrev pub numbers_of : {A V : Type 0} (value : A → V) (in_range : A → Bool) (printed : A → List ℕ) (meaning : List ℕ → Option V) → NumbersComeBack in_range meaning printed value → Numbers A
numbers_of {A} {V} value in_range printed meaning back = record { Value = V; value = value; in_range = in_range; printed = printed; meaning = meaning; come_back = back }

-- a list of them in one text
abbrev pub delimited_table : {A D : Type 0} → Numbers A → (delimiter : ℕ) → is_number_delimiter delimiter ≡ true → Table (Delimited A D)
delimited_table n delimiter free =
    table_with (λ list. map n.value list.items.items) (λ list. list_data n.in_range n.printed delimiter list.items.items) Shape.text (list_in n.meaning delimiter) refl
    (λ is_form list h. list_fits n.in_range n.meaning n.printed n.value n.come_back delimiter free is_form list.items.items h)
    (λ is_form list e h p. list_comes_back n.in_range n.meaning n.printed n.value n.come_back delimiter free is_form list.items.items e h p)

-- They are a type's own, except for how a value is kept.
pub record AreNumbersOf {A V : Type 0} (n : Numbers A) (value : A → V) (in_range : A → Bool) (printed : A → List ℕ) (meaning : List ℕ → Option V) : Type 0 where
  pub same_range : (x : A) → n.in_range x ≡ in_range x
  pub same_printed : (x : A) → n.printed x ≡ printed x
  pub kept : V → n.Value
  pub same_value : (x : A) → n.value x ≡ kept (value x)
  pub same_meaning : (t : List ℕ) → n.meaning t ≡ option_map kept (meaning t)

-- From what is wrong with a field to what is wrong with its struct.
use Rattle.std.proofs.Common.{◌≡◌, ℕ, ◌+◌, ◌<◌, zero, suc, Bool, List, [], ◌∷◌, length, get_or, drop, arith, Option, Some, None, Result, Ok, Err, refl, sym, ap, subst, ◌∙◌, true, false}
use Rattle.std.specs.Prelude.{◌||◌, IfOk}
use Rattle.std.proofs.lemmas.List.{drop_more}
use Rattle.std.specs.declared.alloc.Global.{Global}
use Rattle.std.specs.declared.vec.Vec.{Vec}
use Rattle.qs_spec.specs.Segment.{Segment}
use Rattle.qs_spec.specs.Segment.Segment.{Str}
use Rattle.qs_spec.specs.Shape as s
use Rattle.qs_spec.specs.Shape.{Fields, no_fields, one_field, is_option}
use Rattle.qs_spec.specs.Node.{found}
use Rattle.qs_spec.specs.Tree.{Tree, Entries}
use Rattle.qs_spec.specs.Tree.Tree.{uninitialized}
use Rattle.qs_data.specs.declared.failure.mismatch.Mismatch.{Mismatch}
use Rattle.qs_data.specs.declared.shape.shape.Field.{Field}
use Rattle.qs_data.specs.failure.Mismatch.{IsMismatch, IsProblem, path_of}
use Rattle.qs_data.specs.failure.Parts.{HasField, IsFieldOf, IsNamed, Leads, field_keys}
use Rattle.qs_data.specs.failure.Own.{IsOwn}
use Rattle.qs_data.specs.read.Reads.{reads}
use Rattle.qs_data.specs.shape.Views.{field_of, fields_in}
use Rattle.qs_data.proofs.lemmas.failure.Unread.{own_unread}
use Rattle.qs_explain.specs.Fields.{OfFields, OfKeys, OfStruct}
use Rattle.qs_explain.specs.declared.explanation.Explanation.{Explanation}
use Rattle.qs_explain.specs.declared.explanation.Explanation.TheVariants as e
use Rattle.qs_explain.specs.internal.Parsed.{IsFaultUnder, IsFieldFault, IsNoFault}

-- a field of a list is one of its fields
has_field : (ds : List Field) (i : ℕ) (d : Field) → i < length ds → d ≡ get_or ds i d → HasField (field_of d).0 (field_of d).1 (field_of d).2 (fields_in ds)
has_field [] i d here is = absurd (omega arith)
has_field (x ∷ ds) zero d here is = subst (λ (y : Field). HasField (field_of y).0 (field_of y).1 (field_of y).2 (fields_in (x ∷ ds))) (sym is) HasField.first
has_field (x ∷ ds) (suc i) d here is = HasField.later (has_field ds i d (omega arith) is)

-- a field, and the fields after it
field_first : (ds : List Field) (i : ℕ) (d : Field) → i < length ds → d ≡ get_or ds i d
    → fields_in (drop i ds) ≡ one_field (field_of d).0 (field_of d).1 (field_of d).2 (fields_in (drop (i + 1) ds))
field_first ds i d here is = ap fields_in (drop_more ds i d here ∙ ap (λ (y : Field). y ∷ drop (i + 1) ds) (sym is))

-- a mismatch of a field's value, with the field's name in front, is a mismatch of the struct
in_struct : (rd : Bool) (u : s.UnknownKeys) (fs : Fields) (n : Tree) (es : Entries) (name : List ℕ) (t : s.Shape) (o : Bool) (m : Mismatch) → field_keys n ≡ Some es → HasField name t o fs
    → IsFieldFault rd name t o es (Some m) → IsMismatch rd (s.Shape.struct u fs) n m
in_struct rd u fs n es name t o m keys has w =
    let part = w.2.1 in
    record {
      part = part.part;
      node = part.node;
      unread = part.unread;
      own = part.own;
      problem = subst (λ p. IsProblem p part.part part.node) (sym w.2.3) part.problem;
      leads = subst (λ p. Leads p (s.Shape.struct u fs) n part.part part.node) (sym w.2.2) (Leads.in_field keys (IsFieldOf.named has w.1) part.leads);
    }

-- the explanations of a field and of those after it
abbrev pub with_fault : Option Mismatch → List Explanation → List Explanation
with_fault None xs = xs
with_fault (Some m) xs = e.Mismatch m ∷ xs

without : (rd : Bool) (x : s.Shape) (n : Tree) (es : Entries) (name : List ℕ) (t : s.Shape) (o : Bool) (fs : Fields) (xs : List Explanation) (ts : List Tree) → found name es ≡ ts
    → IsNoFault rd t o ts → OfFields rd x n es fs xs → OfFields rd x n es (one_field name t o fs) xs
without rd x n es name t o fs xs _ is (IsNoFault.read d) rest = OfFields.read is d.1 rest
without rd x n es name t o fs xs _ is (IsNoFault.left_out may) rest = OfFields.left_out is may rest
without rd x n es name t o fs xs _ is IsNoFault.named_twice rest = OfFields.named_twice is rest

one_more : (rd : Bool) (u : s.UnknownKeys) (all : Fields) (n : Tree) (es : Entries) (name : List ℕ) (t : s.Shape) (o : Bool) (fs : Fields) (fault : Option Mismatch) (xs : List Explanation)
    → field_keys n ≡ Some es → HasField name t o all → IsFieldFault rd name t o es fault
    → OfFields rd (s.Shape.struct u all) n es fs xs → OfFields rd (s.Shape.struct u all) n es (one_field name t o fs) (with_fault fault xs)
one_more rd u all n es name t o fs None xs keys has w rest = without rd (s.Shape.struct u all) n es name t o fs xs (found name es) refl w rest
one_more rd u all n es name t o fs (Some m) xs keys has w rest = OfFields.unread w.2.2 (in_struct rd u all n es name t o m keys has w) rest

-- the field at an index of a list, and those after it
pub next_field : (rd : Bool) (u : s.UnknownKeys) (ds : List Field) (i : ℕ) (d : Field) (n : Tree) (es : Entries) (fault : Option Mismatch) (xs : List Explanation)
    → i < length ds → d ≡ get_or ds i d → field_keys n ≡ Some es → IsFieldFault rd (field_of d).0 (field_of d).1 (field_of d).2 es fault
    → OfFields rd (s.Shape.struct u (fields_in ds)) n es (fields_in (drop (i + 1) ds)) xs
    → OfFields rd (s.Shape.struct u (fields_in ds)) n es (fields_in (drop i ds)) (with_fault fault xs)
next_field rd u ds i d n es fault xs here is keys w rest =
    subst (λ fs. OfFields rd (s.Shape.struct u (fields_in ds)) n es fs (with_fault fault xs)) (sym (field_first ds i d here is))
    (one_more rd u (fields_in ds) n es (field_of d).0 (field_of d).1 (field_of d).2 (fields_in (drop (i + 1) ds)) fault xs keys (has_field ds i d here is) w rest)

-- what is wrong with the one value of a field
pub of_value : {E : Type 0} (rd : Bool) (name : List ℕ) (t : s.Shape) (o : Bool) (es : Entries) (n : Tree) (r : Result (Option Mismatch) E) → found name es ≡ n ∷ []
    → IfOk r (IsFaultUnder rd name t n) → IfOk r (IsFieldFault rd name t o es)
of_value rd name t o es n (Ok None) is d = subst (IsNoFault rd t o) (sym is) (IsNoFault.read d)
of_value rd name t o es n (Ok (Some m)) is w = (n, IsNamed.field is, w)
of_value rd name t o es n (Err x) is w = tt

-- what is wrong with a field that is missing
pub of_missing : {E : Type 0} (rd : Bool) (name : List ℕ) (t : s.Shape) (o : Bool) (es : Entries) (n : Tree) (r : Result (Option Mismatch) E) → found name es ≡ [] → o ≡ false → is_option t ≡ false → n ≡ uninitialized
    → IfOk r (IsFaultUnder rd name t n) → IfOk r (IsFieldFault rd name t o es)
of_missing rd name t o es n (Ok None) is must no_option empty d = absurd (none_read (ap (reads rd t) empty ∙ own_unread rd t uninitialized IsOwn.nothing) d.1) where
  none_read : {A : Type 0} {x : Option A} {a : A} → x ≡ None → x ≡ Some a → ⊥
  none_read none some = absurd cc
of_missing rd name t o es n (Ok (Some m)) is must no_option empty w = (n, subst (IsNamed name t o es (Str name) t) (sym empty) (IsNamed.missing_field must no_option is), w)
of_missing rd name t o es n (Err x) is must no_option empty w = tt

pub left : (o p : Bool) → o ≡ true → o || p ≡ true
left o p is = ap (λ b. b || p) is

pub right : (o p : Bool) → p ≡ true → o || p ≡ true
right true p is = refl
right false p is = is

-- the explanations of the fields of a struct
pub of_struct : {E : Type 0} (rd : Bool) (x : s.Shape) (u : s.UnknownKeys) (fs : Fields) (n : Tree) (r : Result (Vec Explanation Global) E) → x ≡ s.Shape.struct u fs
    → IfOk r (λ all. (v : s.UnknownKeys) → OfKeys rd (s.Shape.struct v fs) n fs (field_keys n) all.items) → IfOk r (λ all. OfStruct rd x n all.items)
of_struct rd x u fs n (Ok all) is w = subst (λ y. OfStruct rd y n all.items) (sym is) (w u)
of_struct rd x u fs n (Err y) is w = tt

-- What explains a result of parsing: steps to an explanation of its input.
use Rattle.std.specs.Prelude.{◌≡◌, ◌≢◌, ⊤, ℕ, Bool, true, false, ◌||◌, List, [], ◌∷◌, Option, Some, None, Result, Ok, Err}
use Rattle.std.specs.declared.alloc.AllocError.{AllocError}
use Rattle.qs_spec.specs.Node.{found}
use Rattle.qs_spec.specs.Segment.Segment.{Str}
use Rattle.qs_spec.specs.Shape.{Shape, is_option}
use Rattle.qs_spec.specs.Tree.{Tree, Entries}
use Rattle.qs_spec.specs.Tree.Tree.{uninitialized}
use Rattle.qs_spec.specs.internal.ReadFunction.{reads}
use Rattle.qs_tree.specs.declared.error.Error.{Error}
use Rattle.qs_tree.specs.declared.error.Error.TheVariants.{OutOfMemory}
use Rattle.qs_tree.specs.declared.tree.value.ParsedValue.{ParsedValue}
use Rattle.qs_tree.specs.tree.Views.{tree_of}
use Rattle.qs_explain.specs.declared.explanation.Explanation.{Explanation}
use Rattle.qs_explain.specs.declared.explanation.Explanation.TheVariants as e
use Rattle.qs_data.specs.declared.failure.mismatch.Mismatch.{Mismatch}
use Rattle.qs_data.specs.failure.Mismatch.{IsMismatch, path_of}
use Rattle.qs_data.specs.failure.Parts.{IsNamed}
use Rattle.qs_explain.specs.Fields.{OfStruct, with_whole}
use Rattle.qs_explain.specs.Explains.{ReadsSome, is_uninitialized}

-- why the shape reads nothing from a tree: it has no pairs, or a part of it isn't read
abbrev pub ExplainsTree : {E : Type 0} → Bool → Shape → Tree → Result (Option Explanation) E → Type 0
ExplainsTree reject_duplicates s n (Ok None) = ReadsSome reject_duplicates s n
ExplainsTree reject_duplicates s n (Ok (Some (e.Syntax error))) = ⊥
ExplainsTree reject_duplicates s n (Ok (Some e.NoPairs)) = (n ≡ uninitialized) × (reads reject_duplicates s n ≡ None)
ExplainsTree reject_duplicates s n (Ok (Some (e.Mismatch m))) = (is_uninitialized n ≡ false) × (reads reject_duplicates s n ≡ None) × IsMismatch reject_duplicates s n m
ExplainsTree reject_duplicates s n (Err e) = ⊤

-- the explanation of a tree that isn't read, for a part of which this was said
abbrev pub IsOfTree : Tree → Mismatch → Explanation → Type 0
IsOfTree n m (e.Syntax error) = ⊥
IsOfTree n m e.NoPairs = n ≡ uninitialized
IsOfTree n m (e.Mismatch x) = (is_uninitialized n ≡ false) × (x ≡ m)

-- the error of parsing itself is the explanation
abbrev pub Carries : {E : Type 0} → Error → Result (Option Explanation) E → Type 0
Carries error (Ok (Some (e.Syntax carried))) = (carried ≡ error) × (error ≢ OutOfMemory)
Carries error (Ok _) = ⊥
Carries error (Err e) = ⊤

-- why what was parsed isn't read
abbrev pub ExplainsParsed : {E : Type 0} → Bool → Shape → Result ParsedValue Error → Result (Option Explanation) E → Type 0
ExplainsParsed reject_duplicates s (Ok value) result = ExplainsTree reject_duplicates s (tree_of value) result
ExplainsParsed reject_duplicates s (Err error) result = Carries error result

-- the explanations of the fields of a tree, with the one of the whole
abbrev pub FieldsOfTree : Bool → Shape → Tree → List Explanation → Type 0
FieldsOfTree reject_duplicates s n [] = ReadsSome reject_duplicates s n
FieldsOfTree reject_duplicates s n (y ∷ ys) = (first : Explanation) × (xs : List Explanation) × ExplainsTree {E = AllocError} reject_duplicates s n (Ok (Some first))
    × OfStruct reject_duplicates s n xs × (y ∷ ys ≡ with_whole first xs)

-- the explanations of the fields of what was parsed
abbrev pub FieldsOfParsed : Bool → Shape → Result ParsedValue Error → List Explanation → Type 0
FieldsOfParsed reject_duplicates s (Ok value) ys = FieldsOfTree reject_duplicates s (tree_of value) ys
FieldsOfParsed reject_duplicates s (Err error) ys = (ys ≡ e.Syntax error ∷ []) × (error ≢ OutOfMemory)

-- what is wrong with the value of a field: it isn't read, or nothing is wrong
abbrev pub IsFaultUnder : Bool → List ℕ → Shape → Tree → Option Mismatch → Type 0
IsFaultUnder reject_duplicates name s n None = ReadsSome reject_duplicates s n
IsFaultUnder reject_duplicates name s n (Some m) =
    (inner : Mismatch) × IsMismatch reject_duplicates s n inner × (path_of m ≡ Str name ∷ path_of inner) × (m.problem ≡ inner.problem)

-- nothing is wrong with a field: it is read, or left out, or its struct is at fault since two keys name it
pub data IsNoFault (reject_duplicates : Bool) (s : Shape) (optional : Bool) : List Tree → Type 0 where
  read : {n : Tree} → ReadsSome reject_duplicates s n → IsNoFault reject_duplicates s optional (n ∷ [])
  left_out : optional || is_option s ≡ true → IsNoFault reject_duplicates s optional []
  named_twice : {a b : Tree} {rest : List Tree} → IsNoFault reject_duplicates s optional (a ∷ b ∷ rest)

-- what is wrong with a field, found among keys
abbrev pub IsFieldFault : Bool → List ℕ → Shape → Bool → Entries → Option Mismatch → Type 0
IsFieldFault reject_duplicates name s optional es None = IsNoFault reject_duplicates s optional (found name es)
IsFieldFault reject_duplicates name s optional es (Some m) =
    (n : Tree) × IsNamed name s optional es (Str name) s n × IsFaultUnder reject_duplicates name s n (Some m)

-- What explains a result of parsing explains the input that was parsed.
use Rattle.std.proofs.Common.{◌≡◌, ◌≢◌, ℕ, Bool, List, [], ◌∷◌, Option, Some, None, Result, Ok, Err, refl, sym, subst}
use Rattle.std.specs.Prelude.{IfOk}
use Rattle.std.specs.declared.alloc.AllocError.{AllocError}
use Rattle.std.specs.declared.alloc.Global.{Global}
use Rattle.std.specs.declared.vec.Vec.{Vec}
use Rattle.qs_spec.specs.Config.{Config, are_rejected}
use Rattle.qs_spec.specs.Holds.{leaf_count}
use Rattle.qs_spec.specs.Input.{HasPairs}
use Rattle.qs_spec.specs.Shape.{Shape}
use Rattle.qs_spec.specs.Tree.{IsTree, HasNoTree}
use Rattle.qs_spec.specs.Tree.Tree.{uninitialized}
use Rattle.qs_spec.specs.internal.ReadFunction.{reads}
use Rattle.qs_tree.specs.Parsing.{Parses}
use Rattle.qs_tree.specs.declared.error.Error.{Error}
use Rattle.qs_tree.specs.declared.error.Error.TheVariants as error
use Rattle.qs_tree.specs.declared.tree.value.ParsedValue.{ParsedValue}
use Rattle.qs_tree.specs.tree.Views.{tree_of}
use Rattle.qs_explain.specs.declared.explanation.Explanation.{Explanation}
use Rattle.qs_explain.specs.declared.explanation.Explanation.TheVariants as e
use Rattle.qs_explain.specs.Explains.{Explains, IsErrorOf}
use Rattle.qs_explain.specs.Fields.{AreOfInput, ExplainsFields}
use Rattle.qs_explain.specs.internal.Parsed.{ExplainsParsed, FieldsOfParsed, FieldsOfTree}

-- an input with the tree without pairs isn't empty
not_empty : (is_form : Bool) (depth : ℕ) (input : List ℕ) → IsTree is_form depth input uninitialized → input ≢ []
not_empty is_form depth [] h = absurd cc
not_empty is_form depth (b ∷ input) h = λ e. absurd cc

without_pairs : (config : Config) (s : Shape) (input : List ℕ) (value : ParsedValue) → Parses config.is_form config.max_depth input (Ok value) → tree_of value ≡ uninitialized
    → reads (are_rejected config.duplicates) s (tree_of value) ≡ None → Explains {E = Error} config s input (Ok (Some e.NoPairs))
without_pairs config s input value p is unread =
    let tree = subst (λ n. IsTree config.is_form config.max_depth input n) is p.tree in (
      tree,
      subst (λ n. HasPairs config.is_form config.max_depth input (leaf_count n)) is (p.leaves (not_empty config.is_form config.max_depth input tree)),
      subst (λ n. reads (are_rejected config.duplicates) s n ≡ None) is unread,
    )

-- an error of parsing
carried : (config : Config) (input : List ℕ) (x : Error) → Parses config.is_form config.max_depth input (Err x) → x ≢ error.OutOfMemory → IsErrorOf config input x
carried config input (error.Parse message position) p other = (tt, p)
carried config input (error.Custom message) p other = absurd p.errors
carried config input (error.MaxSerializationDepthExceeded depth) p other = absurd p.errors
carried config input error.Unsupported p other = absurd p.errors
carried config input (error.FromUtf8 cause) p other = absurd p.errors
carried config input (error.Io cause) p other = absurd p.errors
carried config input (error.ParseInt cause) p other = absurd p.errors
carried config input (error.Utf8 cause) p other = absurd p.errors
carried config input error.OutOfMemory p other = absurd (other refl)
carried config input error.Failed p other = absurd p.errors

pub explained : {E : Type 0} (config : Config) (s : Shape) (input : List ℕ) (parsed : Result ParsedValue Error) (r : Result (Option Explanation) E) → Parses config.is_form config.max_depth input parsed
    → ExplainsParsed (are_rejected config.duplicates) s parsed r → Explains config s input r
explained config s input (Ok value) (Ok None) p h = (tree_of value, p.tree, h)
explained config s input (Ok value) (Ok (Some (e.Syntax x))) p h = absurd h
explained config s input (Ok value) (Ok (Some e.NoPairs)) p h = without_pairs config s input value p h.0 h.1
explained config s input (Ok value) (Ok (Some (e.Mismatch m))) p h = (tree_of value, p.tree, h.0, h.1, h.2)
explained config s input (Ok value) (Err x) p h = tt
explained config s input (Err x) (Ok None) p h = absurd h
explained config s input (Err x) (Ok (Some (e.Syntax y))) p h =
    let is : IsErrorOf config input x = carried config input x p h.1 in
    subst (λ z. HasNoTree config.is_form config.max_depth input × IsErrorOf config input z) (sym h.0) (p.no_tree is.0, is)
explained config s input (Err x) (Ok (Some e.NoPairs)) p h = absurd h
explained config s input (Err x) (Ok (Some (e.Mismatch m))) p h = absurd h
explained config s input (Err x) (Err y) p h = tt

-- the explanations of the fields of a tree
of_tree : (config : Config) (s : Shape) (input : List ℕ) (value : ParsedValue) (ys : List Explanation) → Parses config.is_form config.max_depth input (Ok value)
    → FieldsOfTree (are_rejected config.duplicates) s (tree_of value) ys → ExplainsFields config s input ys
of_tree config s input value [] p h = explained {E = AllocError} config s input (Ok value) (Ok None) p h
of_tree config s input value (y ∷ ys) p (e.Syntax x, xs, h, fields, is) = absurd h
of_tree config s input value (y ∷ ys) p (e.NoPairs, xs, h, fields, is) =
    (e.NoPairs, explained {E = AllocError} config s input (Ok value) (Ok (Some e.NoPairs)) p h, (tree_of value, p.tree, xs, fields, is))
of_tree config s input value (y ∷ ys) p (e.Mismatch m, xs, h, fields, is) =
    (e.Mismatch m, explained {E = AllocError} config s input (Ok value) (Ok (Some (e.Mismatch m))) p h, (tree_of value, p.tree, xs, fields, is))

of_parsed : (config : Config) (s : Shape) (input : List ℕ) (parsed : Result ParsedValue Error) (ys : List Explanation) → Parses config.is_form config.max_depth input parsed
    → FieldsOfParsed (are_rejected config.duplicates) s parsed ys → ExplainsFields config s input ys
of_parsed config s input (Ok value) ys p h = of_tree config s input value ys p h
of_parsed config s input (Err x) [] p h = absurd cc
of_parsed config s input (Err x) (y ∷ ys) p h = (e.Syntax x, explained {E = AllocError} config s input (Err x) (Ok (Some (e.Syntax x))) p (refl, h.1), h.0)

pub fields_explained : {E : Type 0} (config : Config) (s : Shape) (input : List ℕ) (parsed : Result ParsedValue Error) (r : Result (Vec Explanation Global) E) → Parses config.is_form config.max_depth input parsed
    → IfOk r (λ all. FieldsOfParsed (are_rejected config.duplicates) s parsed all.items) → IfOk r (λ all. ExplainsFields config s input all.items)
fields_explained config s input parsed (Ok all) p h = of_parsed config s input parsed all.items p h
fields_explained config s input parsed (Err x) p h = tt

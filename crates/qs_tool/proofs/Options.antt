-- Options that are read one after another.
use Rattle.std.proofs.Common.{◌≡◌, ℕ, ◌<◌, List, [], ◌∷◌, ◌-◌, length, take, drop, get_or, map, string_bytes, Option, None, Some, refl, sym, ap, ◌∙◌, subst, arith}
use Rattle.std.specs.Option.{option_and_then, ok_or}
use Rattle.std.specs.Result.{IfErr}
use Rattle.std.proofs.lemmas.Option.{none-some}
use Rattle.std.proofs.Math.Seq.{take-length}
use Rattle.std.specs.declared.string.String.{String}
use Rattle.std.specs.declared.alloc.Global.{Global}
use Rattle.qs_tool.specs.declared.arguments.Choice.{Choice}
use Rattle.qs_tool.specs.declared.arguments.Command.{Command}
use Rattle.qs_tool.specs.declared.arguments.Command.TheVariants.{Flat, Params, Any}
use Rattle.qs_tool.specs.declared.arguments.Request.{Request}
use Rattle.qs_tool.specs.declared.arguments.Settings.{Settings}
use Rattle.qs_tool.specs.declared.misuse.Misuse.{Misuse}
use Rattle.qs_tool.specs.declared.misuse.Misuse.TheVariants.{NoCommand, UnknownCommand, UnknownOption, Value, Twice, DepthOfFlat}
use Rattle.qs_tool.specs.Arguments.{Word, command_named, flag_named, flag_or, valued, followed, choices_of, choices_with, choose, chosen, unchosen, unless_given, configured}
use Rattle.qs_tool.specs.Misuse.{BeginsWith, IsWrongOption, IsMisuse}
use Rattle.qs_tool.specs.Misuse.BeginsWith.{one_flag, one_valued}

-- what a slice's pattern leaves after the first
abbrev pub left : List (String Global) → List (String Global)
left xs = take (length xs - 1) (drop 1 xs)

pub first_word : (xs : List (String Global)) (x : String Global) (name : Word) → 0 < length xs → x ≡ get_or xs 0 x → name ≡ string_bytes x
    → map string_bytes xs ≡ name ∷ map string_bytes (left xs)
first_word [] x name some is text = absurd (omega (arith, some))
first_word (y ∷ ys) x name some is text =
    ap (λ n. n ∷ map string_bytes ys) (sym (text ∙ ap string_bytes is))
    ∙ ap (λ zs. name ∷ map string_bytes zs) (sym (ap (λ k. take k ys) (omega arith) ∙ take-length ys))

pub choices_flag : (w : Word) (ws : List Word) (c : Choice) → flag_named w ≡ Some c → choices_of (w ∷ ws) ≡ followed (Some c) (choices_of ws)
choices_flag w ws c e = ap (λ f. flag_or f (choices_of ws) (choices_with w ws)) e

pub choices_valued : (w value : Word) (ws : List Word) (c : Choice) → flag_named w ≡ None → valued w value ≡ Some c
    → choices_of (w ∷ value ∷ ws) ≡ followed (Some c) (choices_of ws)
choices_valued w value ws c off e =
    ap (λ f. flag_or f (choices_of (value ∷ ws)) (choices_with w (value ∷ ws))) off ∙ ap (λ f. followed f (choices_of ws)) e

next : (s t : Settings) (c : Choice) (more : Option (List Choice)) → choose s c ≡ Some t → option_and_then (chosen t) more ≡ option_and_then (chosen s) (followed (Some c) more)
next s t c None e = refl
next s t c (Some cs) e = rw e refl

none_next : (s : Settings) (c : Choice) (more : Option (List Choice)) → choose s c ≡ None → None ≡ option_and_then (chosen s) (followed (Some c) more)
none_next s c None e = refl
none_next s c (Some cs) e = rw e refl

-- what the words ask for is what the rest asks for beside the options so far, which are right
abbrev pub Goes : List Word → Settings → List Word → Type 0
Goes words s rest = (option_and_then (chosen s) (choices_of rest) ≡ option_and_then (chosen unchosen) (choices_of words)) × BeginsWith words s rest

pub goes_by_flag : (words rest ws : List Word) (s t : Settings) (c : Choice) (w : Word) → Goes words s rest → rest ≡ w ∷ ws → flag_named w ≡ Some c → choose s c ≡ Some t → Goes words t ws
goes_by_flag words rest ws s t c w so is flag e = (
  next s t c (choices_of ws) e ∙ ap (option_and_then (chosen s)) (sym (ap choices_of is ∙ choices_flag w ws c flag)) ∙ so.0,
  one_flag s t c w ws (subst (BeginsWith words s) is so.1) flag e,
)

pub goes_by_value : (words rest ws : List Word) (s t : Settings) (c : Choice) (w value : Word) → Goes words s rest → rest ≡ w ∷ value ∷ ws
    → flag_named w ≡ None → valued w value ≡ Some c → choose s c ≡ Some t → Goes words t ws
goes_by_value words rest ws s t c w value so is off flag e = (
  next s t c (choices_of ws) e ∙ ap (option_and_then (chosen s)) (sym (ap choices_of is ∙ choices_valued w value ws c off flag)) ∙ so.0,
  one_valued s t c w value ws (subst (BeginsWith words s) is so.1) flag e,
)

-- an option that was given before ends it
pub ends_by_flag : (words rest ws : List Word) (s : Settings) (c : Choice) (w : Word) → Goes words s rest → rest ≡ w ∷ ws → flag_named w ≡ Some c → choose s c ≡ None
    → None ≡ option_and_then (chosen unchosen) (choices_of words)
ends_by_flag words rest ws s c w so is flag e =
    none_next s c (choices_of ws) e ∙ ap (option_and_then (chosen s)) (sym (ap choices_of is ∙ choices_flag w ws c flag)) ∙ so.0

pub ends_by_value : (words rest ws : List Word) (s : Settings) (c : Choice) (w value : Word) → Goes words s rest → rest ≡ w ∷ value ∷ ws
    → flag_named w ≡ None → valued w value ≡ Some c → choose s c ≡ None → None ≡ option_and_then (chosen unchosen) (choices_of words)
ends_by_value words rest ws s c w value so is off flag e =
    none_next s c (choices_of ws) e ∙ ap (option_and_then (chosen s)) (sym (ap choices_of is ∙ choices_valued w value ws c off flag)) ∙ so.0

-- what is wrong with the options is wrong with the arguments
pub misuse_of_option : (words options : List Word) (name : Word) (m : Misuse) → words ≡ name ∷ options → IsWrongOption options m → IsMisuse words m
misuse_of_option words options name NoCommand is wrong = absurd wrong
misuse_of_option words options name (UnknownCommand n) is wrong = absurd wrong
misuse_of_option words options name (UnknownOption n) is wrong = (name, options, is, wrong)
misuse_of_option words options name (Value n) is wrong = (name, options, is, wrong)
misuse_of_option words options name (Twice n) is wrong = (name, options, is, wrong)
misuse_of_option words options name DepthOfFlat is wrong = absurd wrong

given : (depth : Option ℕ) (request : Request) → None ≡ unless_given depth request → (n : ℕ) × (depth ≡ Some n)
given None request e = absurd (none-some _ e)
given (Some n) request e = (n, refl)

-- only `flat` with a depth has no configuration
no_depth : (command : Command) (s : Settings) → None ≡ configured command s → (command ≡ Flat) × ((n : ℕ) × (s.depth ≡ Some n))
no_depth Flat s e = (refl, given s.depth _ e)
no_depth Params s e = absurd (none-some _ e)
no_depth Any s e = absurd (none-some _ e)

pub misuse_of_flat : (words options : List Word) (name : Word) (command : Command) (s : Settings) (request : Option Request) → words ≡ name ∷ options
    → Some command ≡ command_named name → Some s ≡ option_and_then (chosen unchosen) (choices_of options) → request ≡ configured command s
    → IfErr {T = Request} (ok_or request DepthOfFlat) (λ m. IsMisuse words m)
misuse_of_flat words options name command s (Some r) is named right e = tt
misuse_of_flat words options name command s None is named right e =
    let found = no_depth command s e in (name, options, s, found.1.0, is, sym named ∙ ap Some found.0, sym right, found.1.1)

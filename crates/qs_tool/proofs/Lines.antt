-- Lines that are right, where the input is known.
use Rattle.std.proofs.Common.{◌≡◌, ◌≢◌, ℕ, arith, List, [], ◌++◌, take, Option, None, Some, refl, sym, subst, append-nil}
use Rattle.std.specs.Option.{IfSome}
use Rattle.std.specs.Io.KnownBytes.{Appends}
use Rattle.qs_tool.specs.Arguments.{Word, asked}
use Rattle.qs_tool.specs.declared.arguments.Request.{Request}
use Rattle.qs_tool.specs.Line.{IsAnswer, IsBegun, IsLine, IsLineOf, memory_line, usage_line, without_newline}

-- what follows of each value follows of the one that is there
pub over : {A : Type 0} (a : Option A) (P Q : A → Type 0) → ((x : A) → P x → Q x) → IfSome a P → IfSome a Q
over None P Q f p = tt
over (Some x) P Q f p = f x p

pub each : {A : Type 0} (a : Option A) (Q : A → Type 0) → ((x : A) → Q x) → IfSome a Q
each None Q f = tt
each (Some x) Q f = f x

pub Appends-nil : (a : Option (List ℕ)) → Appends a a []
Appends-nil None = tt
Appends-nil (Some xs) = sym (append-nil xs)

pub right_line : (words : List Word) (request : Request) (input line : List ℕ) (status : ℕ) → Some request ≡ asked words
    → IsAnswer request (without_newline input) line status → IsLine words input line status
right_line words request input line status e p = subst (λ asked. IsLineOf asked input line status) e p

pub two_goes_on : ◌≢◌ {A = ℕ} 2 3
two_goes_on e = absurd (omega (arith, e))

pub usage_is_right : (words : List Word) (input : List ℕ) → None ≡ asked words → IsLine words input usage_line 2
usage_is_right words input e = subst (λ asked. IsLineOf asked input usage_line 2) e (refl, refl)

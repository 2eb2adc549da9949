-- The names that only their own text matches.
use Rattle.std.proofs.Common.{◌≡◌, ◌↔◌, ℕ, Bool, true, false, List, length, refl, subst, sym, ap, ◌∙◌, inl, inr, arith}
use Rattle.std.proofs.lemmas.Grind.{common_steps}
use Rattle.std.specs.Bool.{IsTrue, MatchBool}
use Rattle.std.specs.Str.{IsUtf8, is_utf8}
use Rattle.std.proofs.lemmas.Str.{is_utf8-from_IsUtf8}
use Rattle.serde.specs.Names.{StandsFor}
use Rattle.serde.specs.Spelling.{spelled}
use Rattle.serde.specs.declared.name.Name.{Name}
use Rattle.serde.specs.declared.name.Case.TheVariants.{AsIs}
use Rattle.serde.proofs.Spellings.{spelled-AsIs}

pub same_stands : (b : Bool) (key : List ℕ) (n : Name) → n.case ≡ AsIs → length n.aliases.now ≡ 0 → n.skipped ≡ false → (IsTrue b ↔ (n.name.now ≡ key)) → IsTrue b ↔ StandsFor key n
same_stands b key n case alone shown same =
    let as_is : spelled n.case n.kind n.name.now ≡ n.name.now = ap (λ k. spelled k n.kind n.name.now) case ∙ spelled-AsIs n.kind n.name.now in (
      (λ yes. (shown, inl (sym (same.0 yes) ∙ sym as_is))),
      (λ stands. elim stands.1 [
        | inl is ↦ same.1 (sym (is ∙ as_is))
        | inr alias ↦ absurd (grind (arith, common_steps, alias.2, alone))
      ]),
    )

pub same_utf8 : (b : Bool) (key name : List ℕ) → (IsTrue b ↔ (name ≡ key)) → IsUtf8 name → IsTrue b → is_utf8 key ≡ true
same_utf8 b key name same utf8 is = subst (λ t. is_utf8 t ≡ true) (same.0 is) (is_utf8-from_IsUtf8 name utf8)

pub beside : (A B C : Type 0) (b : Bool) → MatchBool b A B → (IsTrue b → C) → MatchBool b (A × C) B
beside A B C true h c = (h, c refl)
beside A B C false h c = h

-- Events without floats are sent as they are.
use Rattle.std.proofs.Common.{◌≡◌, ℕ, Bool, true, false, ◌||◌, List, [], ◌∷◌, refl, sym, ap₂, ◌∙◌, subst, Some}
use Rattle.std.specs.Coded.{Coded-set, coded_ℕ, coded_list, coded_option}
use Rattle.std.proofs.Math.Logic.{∥∥₁_elim}
use Rattle.std.proofs.lemmas.Bool.{false≢true}
use Rattle.qs_spec.specs.Config.{Config}
use Rattle.serde.specs.Event as e
use Rattle.serde.specs.Event.{Event}
use Rattle.qs_serde.specs.Sent.{text_of_sent}
use Rattle.qs_serde.specs.Texts.{AreShown, IsShown, IsTextOf, has_float, is_float}

neither : (a b : Bool) → (a || b) ≡ false → (a ≡ false) × (b ≡ false)
neither true b h = absurd (false≢true (sym h))
neither false b h = (refl, h)

shown_is : (x shown : Event) → is_float x ≡ false → IsShown x shown → shown ≡ x
shown_is (e.single x) shown h is = absurd (false≢true (sym h))
shown_is (e.double x) shown h is = absurd (false≢true (sym h))
shown_is (e.boolean b) shown h is = is
shown_is (e.signed z) shown h is = is
shown_is (e.unsigned n) shown h is = is
shown_is (e.character c) shown h is = is
shown_is (e.text t) shown h is = is
shown_is (e.octets t) shown h is = is
shown_is e.nothing shown h is = is
shown_is (e.unit_variant a c) shown h is = is
shown_is (e.seq_begins l) shown h is = is
shown_is e.seq_ends shown h is = is
shown_is (e.map_begins l) shown h is = is
shown_is e.map_ends shown h is = is
shown_is (e.field_key a c) shown h is = is
shown_is (e.variant_key a c) shown h is = is
shown_is e.key_begins shown h is = is
shown_is e.key_ends shown h is = is
shown_is e.flattens shown h is = is

shown_are : (es shown : List Event) → has_float es ≡ false → AreShown es shown → shown ≡ es
shown_are [] shown h are = are
shown_are (x ∷ es) shown h are =
    let both = neither (is_float x) (has_float es) h in
    are.2 ∙ ap₂ (λ a others. a ∷ others) (shown_is x are.0 both.0 are.3) (shown_are es are.1 both.1 are.4)

pub text_is : (config : Config) (es : List Event) (bytes : List ℕ) → has_float es ≡ false → IsTextOf config (Some es) bytes → text_of_sent config es ≡ Some bytes
text_is config es bytes h text =
    ∥∥₁_elim text (Coded-set (coded_option (coded_list coded_ℕ)) (text_of_sent config es) (Some bytes))
    (λ w. subst (λ shown. text_of_sent config shown ≡ Some bytes) (shown_are es w.0 h w.1) w.2)

-- Why no JSON is made of a querystring, by the text of the shape, and why it has no value at the text of a path.
use Rattle.std.proofs.Common.{◌≡◌, ℕ, List, Result, Ok, Err, subst}
use Rattle.std.specs.Prelude.{IfErr}
use Rattle.qs_spec.specs.Config.{Config}
use Rattle.qs_spec.specs.Segment.{Segment}
use Rattle.qs_spec.specs.Shape.{Shape}
use Rattle.qs_c.specs.declared.failure.Failure.{Failure}
use Rattle.qs_c.specs.declared.failure.FailureKind.{FailureKind}
use Rattle.qs_c.specs.declared.failure.FailureKind.TheVariants as kind
use Rattle.qs_c.specs.declared.settings.Settings.{Settings}
use Rattle.qs_c.specs.Notation.{IsNotation}
use Rattle.qs_c.specs.Outcomes.{WhyNoJson, WhyNotRead}
use Rattle.qs_c.specs.Paths.{IsPath, WhyNoBytes, WhyNoValue}
use Rattle.qs_c.specs.Settings.{config_of}

why_not_read : (k : FailureKind) (position : ℕ) (settings : Settings) (shape : Shape) (notation input : List ℕ)
    → IsNotation notation shape → WhyNoJson k position (config_of settings) settings.max_output shape input → WhyNotRead k position settings notation input
why_not_read kind.OutOfMemory position settings shape notation input is w = w
why_not_read kind.Settings position settings shape notation input is w = absurd w
why_not_read kind.Parse position settings shape notation input is w = (shape, is, w)
why_not_read kind.Mismatch position settings shape notation input is w = (shape, is, w)
why_not_read kind.NotUtf8 position settings shape notation input is w = (shape, is, w)
why_not_read kind.Shape position settings shape notation input is w = absurd w
why_not_read kind.Json position settings shape notation input is w = absurd w
why_not_read kind.TooDeep position settings shape notation input is w = absurd w
why_not_read kind.TooLarge position settings shape notation input is w = absurd w
why_not_read kind.TooLong position settings shape notation input is w = (shape, is, w)
why_not_read kind.Absent position settings shape notation input is w = absurd w
why_not_read kind.Path position settings shape notation input is w = absurd w

pub unread_by_text : {A : Type 0} (r : Result A Failure) (config : Config) (settings : Settings) (shape : Shape) (notation input : List ℕ)
    → config ≡ config_of settings → IsNotation notation shape
    → IfErr r (λ failure. WhyNoJson failure.kind failure.position config settings.max_output shape input)
    → IfErr r (λ failure. WhyNotRead failure.kind failure.position settings notation input)
unread_by_text (Ok a) config settings shape notation input same is h = tt
unread_by_text (Err failure) config settings shape notation input same is h =
    why_not_read failure.kind failure.position settings shape notation input is
    (subst (λ c. WhyNoJson failure.kind failure.position c settings.max_output shape input) same h)

-- why there is no value at a path
why_no_value : (k : FailureKind) (position : ℕ) (settings : Settings) (path : List Segment) (text input : List ℕ)
    → IsPath (config_of settings) text path → WhyNoBytes k position (config_of settings) path input → WhyNoValue k position settings text input
why_no_value kind.OutOfMemory position settings path text input is w = w
why_no_value kind.Settings position settings path text input is w = absurd w
why_no_value kind.Parse position settings path text input is w = (path, is, w)
why_no_value kind.Mismatch position settings path text input is w = (path, is, w)
why_no_value kind.NotUtf8 position settings path text input is w = (path, is, w)
why_no_value kind.Shape position settings path text input is w = absurd w
why_no_value kind.Json position settings path text input is w = absurd w
why_no_value kind.TooDeep position settings path text input is w = absurd w
why_no_value kind.TooLarge position settings path text input is w = absurd w
why_no_value kind.TooLong position settings path text input is w = absurd w
why_no_value kind.Absent position settings path text input is w = (path, is, w)
why_no_value kind.Path position settings path text input is w = absurd w

pub no_value : {A : Type 0} (r : Result A Failure) (config : Config) (settings : Settings) (path : List Segment) (text input : List ℕ)
    → config ≡ config_of settings → IsPath config text path
    → IfErr r (λ failure. WhyNoBytes failure.kind failure.position config path input)
    → IfErr r (λ failure. WhyNoValue failure.kind failure.position settings text input)
no_value (Ok a) config settings path text input same is h = tt
no_value (Err failure) config settings path text input same is h =
    why_no_value failure.kind failure.position settings path text input (subst (λ c. IsPath c text path) same is)
    (subst (λ c. WhyNoBytes failure.kind failure.position c path input) same h)

-- What a call with limits in front returns.
use Rattle.std.specs.Prelude.{ℕ, List, Result, Ok, Err}
use Rattle.qs_spec.specs.Config.{default}
use Rattle.serde_qs.specs.declared.limits.Limits.{Limits}
use Rattle.serde_qs.specs.Limits.{Checks}
use Rattle.serde_qs.specs.Typed.{ReturnsValue}
use Rattle.qs_callers.specs.declared.guard.Rejected.{Rejected}
use Rattle.qs_callers.specs.declared.guard.Rejected.TheVariants.{TooLarge, Unread}
use Rattle.qs_callers.specs.declared.query.Query.{Query}
use Rattle.qs_callers.specs.Query.{query_form, query_in, query_value}

-- a limit that the input exceeds, or else what the typed call returns
abbrev pub Guards : Limits → List ℕ → Result Query Rejected → Type 0
Guards limits input (Ok query) = Checks limits input (Ok tt) × ReturnsValue query_value default query_form query_in input (Ok query)
Guards limits input (Err (TooLarge error)) = Checks limits input (Err error)
Guards limits input (Err (Unread error)) = Checks limits input (Ok tt) × ReturnsValue query_value default query_form query_in input (Err error)

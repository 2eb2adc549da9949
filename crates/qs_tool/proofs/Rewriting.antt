-- What is read as a value and written again, of a type of which what is read is what is written.
use Rattle.std.proofs.Common.{◌≡◌, ◌∙◌, ℕ, Bool, false, List, IfOk, Option, Some, None, Result, Ok, Err, ap, sym, subst}
use Rattle.std.proofs.lemmas.Option.{none-some}
use Rattle.std.specs.Prelude.{string_bytes}
use Rattle.std.specs.declared.string.String.{String}
use Rattle.std.specs.declared.alloc.Global.{Global}
use Rattle.std.specs.declared.vec.Vec.{Vec}
use Rattle.qs_spec.specs.Config.{Config}
use Rattle.qs_spec.specs.Data.{Data}
use Rattle.qs_spec.specs.Relation.{ReadsBy}
use Rattle.qs_spec.specs.Shape.{Shape}
use Rattle.qs_tree.specs.declared.error.Error.{Error}
use Rattle.qs_tree.specs.declared.error.Error.TheVariants.{Custom, MaxSerializationDepthExceeded, Parse, Unsupported, Utf8, OutOfMemory}
use Rattle.serde_qs.specs.Typed.{IsRead, IsUnread, ReturnsValue}
use Rattle.serde_qs.specs.WrittenText.{ReturnsText, text_of}
use Rattle.qs_tool.specs.InputError.{IfInputError, is_memory}
use Rattle.qs_tool.specs.Line.{IsFaulty, IsFaultyBy, IsPrinted, IsPrintedBy, printed, rewritten, unless_rejected}
use Rattle.qs_tool.specs.Line.IsFaultyBy.{no_tree, not_read, not_printed}
use Rattle.qs_tool.specs.Shapes.{shape_for}
use Rattle.qs_tool.specs.declared.arguments.Command.{Command}
use Rattle.qs_tool.specs.declared.arguments.Request.{Request}
use Rattle.qs_tool.specs.internal.Exact.{IsExact}

-- what holds by a command and its strictness

pub as_printed : (request : Request) (command : Command) (strict : Bool) → request.command ≡ command → request.strict ≡ strict → (input : List ℕ) (result : Result (Vec ℕ Global) Error)
    → IfOk result (λ text. IsPrintedBy request.config (shape_for command strict) (printed command request.config) input text.items) → IfOk result (λ text. IsPrinted request input text.items)
as_printed request command strict p q input result h =
    let P : Command → Type 0 = λ c. IfOk result (λ text. IsPrintedBy request.config (shape_for c strict) (printed c request.config) input text.items) in
    let Q : Bool → Type 0 = λ b. IfOk result (λ text. IsPrintedBy request.config (shape_for request.command b) (printed request.command request.config) input text.items) in
    subst Q (sym q) (subst P (sym p) h)

pub as_faulty : (request : Request) (command : Command) (strict : Bool) → request.command ≡ command → request.strict ≡ strict → (input : List ℕ) (result : Result (Vec ℕ Global) Error)
    → IfInputError result (IsFaultyBy request.config (shape_for command strict) (printed command request.config) input) → IfInputError result (IsFaulty request input)
as_faulty request command strict p q input result h =
    let P : Command → Type 0 = λ c. IfInputError result (IsFaultyBy request.config (shape_for c strict) (printed c request.config) input) in
    let Q : Bool → Type 0 = λ b. IfInputError result (IsFaultyBy request.config (shape_for request.command b) (printed request.command request.config) input) in
    subst Q (sym q) (subst P (sym p) h)

pub no_text : (config : Config) (x : Data) (e : Error) → ReturnsText config x (Err e) → is_memory e ≡ false → rewritten config x ≡ None
no_text config x (MaxSerializationDepthExceeded n) report other = ap (λ r. unless_rejected r (text_of config x)) report.1
no_text config x Unsupported report other = ap (λ r. unless_rejected r (text_of config x)) report
no_text config x OutOfMemory report other = cc
no_text config x _ report other = absurd report

module _ {A V : Type 0} (value : A → V) (datum : A → Data) (shape : Shape) (meaning : Data → Option V) (exact : IsExact value datum shape meaning)
    (config : Config) (input : List ℕ) where
  -- the data of the value are those that were read
  own_data : (x : A) (read : IsRead config shape meaning input (value x)) → ReadsBy config shape read.tree (datum x)
  own_data x read = let P : Data → Type 0 = λ d. ReadsBy config shape read.tree d in subst P (sym (exact.is_written x read.datum read.is_meant)) read.is_read

  pub not_printed_again : (x : A) → IsRead config shape meaning input (value x) → rewritten config (datum x) ≡ None → IsFaultyBy config shape (rewritten config) input
  not_printed_again x read is = not_printed read.tree (datum x) read.has_tree (own_data x read) is

  unread : IsUnread config shape meaning input → IsFaultyBy config shape (rewritten config) input
  unread un = not_read un.tree un.has_tree (λ d p. let m = exact.is_meant p in none-some m.0 (sym (un.is_unread d p) ∙ m.1))

  pub faulty : (e : Error) → ReturnsValue value config shape meaning input (Err e) → is_memory e ≡ false → IsFaultyBy config shape (rewritten config) input
  faulty (Custom message) report other = unread report
  faulty (Utf8 cause) report other = unread report.0
  faulty (Parse message position) report other = no_tree report.0
  faulty OutOfMemory report other = cc
  faulty _ report other = absurd report

-- What the text of an error says.
use Rattle.std.proofs.Common.{◌≡◌, inl, inr, ℕ, List, [], Bool, true, false, Result, Ok, Err, Option, Some, None, refl, sym, ap, subst, ◌∙◌, codes}
use Rattle.std.proofs.lemmas.Str.{IsUtf8-nil, IsUtf8-string_bytes, IsUtf8-from_is_utf8, is_utf8-from_IsUtf8}
use Rattle.std.specs.Prelude.{cond, IfErr}
use Rattle.std.specs.Str.{IsUtf8, is_utf8}
use Rattle.std.specs.declared.alloc.Global.{Global}
use Rattle.std.specs.declared.string.String.{String}
use Rattle.qs_spec.specs.Config.{Config}
use Rattle.qs_spec.specs.Segment.{Segment}
use Rattle.qs_spec.specs.Shape.{Shape}
use Rattle.qs_tree.specs.declared.error.Error.{Error}
use Rattle.qs_tree.specs.declared.error.Error.TheVariants as e
use Rattle.qs_c.specs.declared.failure.Failure.{Failure}
use Rattle.qs_c.specs.declared.failure.FailureKind.{FailureKind}
use Rattle.qs_c.specs.declared.failure.FailureKind.TheVariants as kind
use Rattle.qs_c.specs.declared.settings.Settings.{Settings}
use Rattle.qs_c.specs.Errors.{kind_of, position_of, IsFailureOf, IsTextOf}
use Rattle.qs_c.specs.internal.Unwritten.{IsUnwritten}
use Rattle.qs_c.specs.Messages.{IsErrorText, SaysUnread, SaysNotRead, SaysUnwritten, SaysNotWritten, not_json_text}
use Rattle.qs_c.specs.Outcomes.{WhyUnread, WhyUnparsed}
use Rattle.qs_c.specs.Paths.{WhyNoBytes}
use Rattle.qs_c.specs.Settings.{config_of}
use Rattle.qs_c.specs.Status.{text_of, text_or_none, MemoryHasNoText}

-- it is UTF-8
utf8_or_none : (text : Option (String Global)) → IsUtf8 (text_or_none text)
utf8_or_none (Some text) = IsUtf8-string_bytes text
utf8_or_none None = IsUtf8-nil

pub text_is_utf8 : (failure : Failure) → IsUtf8 (text_of failure)
text_is_utf8 failure = utf8_or_none failure.text

-- it is the error's where it is the same as one that is
pub same_text : (error : Error) (text other : List ℕ) → text ≡ other → IsTextOf error other → IsTextOf error text
same_text error text other same is = subst (IsTextOf error) (sym same) is

-- which of the two texts a text has that isn't read as JSON
abbrev chosen : Bool → List ℕ
chosen b = cond b (codes "the JSON is invalid") (codes "the JSON isn't UTF-8")

not_utf8 : (json : List ℕ) (b : Bool) → is_utf8 json ≡ b → (IsUtf8 json → ⊥) → not_json_text json ≡ codes "the JSON isn't UTF-8"
not_utf8 json true is h = absurd (h (IsUtf8-from_is_utf8 json is))
not_utf8 json false is h = ap chosen is

pub text_of_bytes : (json : List ℕ) → (IsUtf8 json → ⊥) → not_json_text json ≡ codes "the JSON isn't UTF-8"
text_of_bytes json h = not_utf8 json (is_utf8 json) refl h

pub text_of_text : (json : List ℕ) → IsUtf8 json → not_json_text json ≡ codes "the JSON is invalid"
text_of_text json h = ap chosen (is_utf8-from_IsUtf8 json h)

pub ruleset text_of_json = (text_of_bytes, text_of_text)

-- of an input that isn't read, by the error, which isn't one of writing
module _ (failure : Failure) where
  unread : (error : Error) → (kind_of error ≡ kind.TooDeep → ⊥) → (kind_of error ≡ kind.OutOfMemory → text_of failure ≡ []) → IsErrorText (kind_of error) failure.position (text_of failure)
      → SaysUnread (kind_of error) failure.position (text_of failure)
  unread (e.Custom message) read m is = is
  unread (e.MaxSerializationDepthExceeded depth) read m is = absurd (read refl)
  unread (e.Parse message position) read m is = is
  unread e.Unsupported read m is = is
  unread (e.FromUtf8 cause) read m is = is
  unread (e.Io cause) read m is = m refl
  unread (e.ParseInt cause) read m is = is
  unread (e.Utf8 cause) read m is = is
  unread e.OutOfMemory read m is = m refl
  unread e.Failed read m is = is

  pub failure_of_reading : (error : Error) → IsFailureOf failure error → MemoryHasNoText failure → (kind_of error ≡ kind.TooDeep → ⊥) → SaysUnread failure.kind failure.position (text_of failure)
  failure_of_reading error (inl memory) m read = subst (λ k. SaysUnread k failure.position (text_of failure)) (sym memory.kind) memory.text
  failure_of_reading error (inr is) m read =
      subst (λ k. SaysUnread k failure.position (text_of failure)) (sym is.0) (unread error read (λ memory. m (is.0 ∙ memory)) (record {
        error = error;
        is_kind = refl;
        is_position = is.1;
        is_text = is.2;
      }))

  pub failure_unread : (error : Error) (config : Config) (shape : Shape) (input : List ℕ)
      → IsFailureOf failure error → MemoryHasNoText failure → WhyUnread (kind_of error) (position_of error) config shape input → SaysUnread failure.kind failure.position (text_of failure)
  failure_unread error config shape input is m why = failure_of_reading error is m (λ deep. subst (λ k. WhyUnread k (position_of error) config shape input) deep why)

  pub failure_unparsed : (error : Error) (config : Config) (input : List ℕ)
      → IsFailureOf failure error → MemoryHasNoText failure → WhyUnparsed (kind_of error) (position_of error) config input → SaysUnread failure.kind failure.position (text_of failure)
  failure_unparsed error config input is m why = failure_of_reading error is m (λ deep. subst (λ k. WhyUnparsed k (position_of error) config input) deep why)

  pub failure_without_bytes : (error : Error) (config : Config) (path : List Segment) (input : List ℕ)
      → IsFailureOf failure error → MemoryHasNoText failure → WhyNoBytes (kind_of error) (position_of error) config path input → SaysUnread failure.kind failure.position (text_of failure)
  failure_without_bytes error config path input is m why = failure_of_reading error is m (λ deep. subst (λ k. WhyNoBytes k (position_of error) config path input) deep why)

not_read : (k : FailureKind) (position : ℕ) (settings : Settings) (input text : List ℕ) → SaysUnread k position text → SaysNotRead k position settings input text
not_read kind.OutOfMemory position settings input text is = is
not_read kind.Settings position settings input text is = absurd is
not_read kind.Parse position settings input text is = is
not_read kind.Mismatch position settings input text is = is
not_read kind.NotUtf8 position settings input text is = is
not_read kind.Shape position settings input text is = absurd is
not_read kind.Json position settings input text is = absurd is
not_read kind.TooDeep position settings input text is = absurd is
not_read kind.TooLarge position settings input text is = absurd is
not_read kind.TooLong position settings input text is = is
not_read kind.Absent position settings input text is = is
not_read kind.Path position settings input text is = absurd is

pub read_result : {A : Type 0} (r : Result A Failure) (settings : Settings) (input : List ℕ)
    → IfErr r (λ failure. SaysUnread failure.kind failure.position (text_of failure)) → IfErr r (λ failure. SaysNotRead failure.kind failure.position settings input (text_of failure))
read_result (Ok a) settings input h = tt
read_result (Err failure) settings input h = not_read failure.kind failure.position settings input (text_of failure) h

-- of data that aren't written, by the error
module _ (failure : Failure) (n : ℕ) where
  by_kind : (k : FailureKind) → failure.kind ≡ k → SaysUnwritten k n (text_of failure) → SaysUnwritten failure.kind n (text_of failure)
  by_kind k is says = subst (λ k. SaysUnwritten k n (text_of failure)) (sym is) says

  unwritten : (error : Error) → failure.kind ≡ kind_of error → IsTextOf error (text_of failure) → MemoryHasNoText failure → IsUnwritten n error → SaysUnwritten failure.kind n (text_of failure)
  unwritten (e.Custom message) is text m u = absurd u
  unwritten (e.MaxSerializationDepthExceeded depth) is text m u = by_kind kind.TooDeep is (subst (λ d. IsTextOf (e.MaxSerializationDepthExceeded d) (text_of failure)) u text)
  unwritten (e.Parse message position) is text m u = absurd u
  unwritten e.Unsupported is text m u = by_kind kind.Mismatch is text
  unwritten (e.FromUtf8 cause) is text m u = absurd u
  unwritten (e.Io cause) is text m u = by_kind kind.OutOfMemory is (m is)
  unwritten (e.ParseInt cause) is text m u = absurd u
  unwritten (e.Utf8 cause) is text m u = absurd u
  unwritten e.OutOfMemory is text m u = by_kind kind.OutOfMemory is (m is)
  unwritten e.Failed is text m u = absurd u

not_written : (k : FailureKind) (settings : Settings) (json text : List ℕ) → SaysUnwritten k settings.max_depth text → SaysNotWritten k settings json text
not_written kind.OutOfMemory settings json text is = is
not_written kind.Settings settings json text is = absurd is
not_written kind.Parse settings json text is = absurd is
not_written kind.Mismatch settings json text is = is
not_written kind.NotUtf8 settings json text is = absurd is
not_written kind.Shape settings json text is = absurd is
not_written kind.Json settings json text is = absurd is
not_written kind.TooDeep settings json text is = is
not_written kind.TooLarge settings json text is = absurd is
not_written kind.TooLong settings json text is = absurd is
not_written kind.Absent settings json text is = absurd is
not_written kind.Path settings json text is = absurd is

pub failure_unwritten : (failure : Failure) (error : Error) (config : Config) (settings : Settings) (json : List ℕ)
    → config ≡ config_of settings → IsFailureOf failure error → MemoryHasNoText failure → IsUnwritten config.max_depth error → SaysNotWritten failure.kind settings json (text_of failure)
failure_unwritten failure error config settings json same (inl memory) m u = subst (λ k. SaysNotWritten k settings json (text_of failure)) (sym memory.kind) memory.text
failure_unwritten failure error config settings json same (inr is) m u =
    not_written failure.kind settings json (text_of failure) (unwritten failure settings.max_depth error is.0 is.2 m (subst (λ c. IsUnwritten c.max_depth error) same u))

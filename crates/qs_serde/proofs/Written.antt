-- What a call returns that writes, and what it put to a writer.
use Rattle.std.proofs.Common.{◌≡◌, ℕ, ◌<◌, List, [], length, take, ◌⊎◌, inl, inr, refl, sym, subst, string_bytes, Option, Some, Result, Ok, Err}
use Rattle.std.specs.Prelude.{OnOk}
use Rattle.std.specs.List.{All}
use Rattle.std.specs.Result.{IsErrAnd}
use Rattle.std.specs.Io.KnownBytes.{Appends}
use Rattle.std.specs.declared.string.String.{String}
use Rattle.std.specs.declared.alloc.Global.{Global}
use Rattle.std.proofs.lemmas.List.Elements.{All-nil}
use Rattle.std.proofs.KnownBytes.{Appends-nil}
use Rattle.std.proofs.Math.Seq.{take-length}
use mathlib.Core.Logic.{∥∥₁_map}
use Rattle.serde.specs.Event.{Log}
use Rattle.qs_spec.specs.Config.{Config}
use Rattle.qs_spec.specs.Written.{written}
use Rattle.qs_tree.specs.Error.{IsIo}
use Rattle.qs_tree.specs.declared.error.Error.{Error}
use Rattle.qs_data.specs.write.State.{IsVisible}
use Rattle.qs_serde.specs.declared.writing.halt.Halt.{Halt}
use Rattle.qs_serde.specs.Halts.{IsFinish}
use Rattle.qs_serde.specs.Texts.{IsTextOf, IsTextOfEntries, ReturnsTextOf, WritesTextOf}

pub are_visible : (config : Config) (bytes : List ℕ) → IsTextOfEntries config bytes → ∥ All IsVisible bytes ∥₁
are_visible config bytes entries = ∥∥₁_map entries (λ w. w.2)

pub returned : (config : Config) (writes : Log → Log → Type 0) (first last : Log) (bytes : List ℕ) (s : String Global) → first ≡ Some [] → writes first last → IsTextOf config last bytes
    → IsTextOfEntries config bytes → string_bytes s ≡ bytes → ReturnsTextOf config writes (Ok s)
returned config writes first last bytes s fresh sends text entries is =
    ((last, subst (λ l. writes l last) fresh sends, subst (IsTextOf config last) (sym is) text), subst (IsTextOfEntries config) (sym is) entries)

-- the serializer's steps, where the call has their result
pub were_written : (config : Config) (failed A : Type 0) (made : Result (Unit {0}) Halt) (r : Result (Unit {0}) Error) → IsFinish config failed made r → OnOk made A → OnOk r (¬ failed × A)
were_written config failed A (Ok x) (Ok y) f h = (f, h)
were_written config failed A (Err e) (Ok y) f h = absurd f
were_written config failed A made (Err e) f h = tt

-- nothing was put
no_entries : (config : Config) → IsTextOfEntries config []
unfolding written
no_entries config = ∣ ([], refl, All-nil IsVisible) ∣₁

pub nothing_put : (config : Config) (writes : Log → Log → Type 0) (known : Option (List ℕ)) (r : Result (Unit {0}) Error) (e : Error) → r ≡ Err e → WritesTextOf config writes known known r
nothing_put config writes known r e is = subst (WritesTextOf config writes known known) (sym is) (record {
  whole = tt;
  entries = λ io. ([], no_entries config, Appends-nil known);
  part = ([], 0, no_entries config, Appends-nil known);
})

pub nothing_put_exit : (config : Config) (writes : Log → Log → Type 0) (known : Option (List ℕ)) (r : Result (Unit {0}) Error) (e : Error) → IsErrAnd r (λ y. y ≡ e) → WritesTextOf config writes known known r
nothing_put_exit config writes known (Ok x) e h = absurd h
nothing_put_exit config writes known (Err y) e h = nothing_put config writes known (Err y) y refl

-- what was put of a text, and what is returned
abbrev Puts : List ℕ → Result (Unit {0}) Error → Option (List ℕ) → Option (List ℕ) → Result (Unit {0}) Error → Type 0
Puts bytes made old new r = ((r ≡ made) × Appends old new bytes) ⊎ (IsIo r × (n : ℕ) × (n < length bytes) × Appends old new (take n bytes))

module _ (config : Config) (failed : Type 0) (writes : Log → Log → Type 0) (first last : Log) (bytes : List ℕ) (fresh : first ≡ Some []) (text : ¬ failed → IsTextOf config last bytes)
    (entries : IsTextOfEntries config bytes) (old new : Option (List ℕ)) where
  whole_put : (made : Result (Unit {0}) Error) → OnOk made (¬ failed × writes first last) → Appends old new bytes → WritesTextOf config writes old new made
  whole_put (Ok x) sends added = record {
    whole = (last, subst (λ l. writes l last) fresh sends.1, (bytes, text sends.0, added));
    entries = λ io. (bytes, entries, added);
    part = (bytes, length bytes, entries, subst (Appends old new) (sym (take-length bytes)) added);
  }
  whole_put (Err e) sends added = record {
    whole = tt;
    entries = λ io. (bytes, entries, added);
    part = (bytes, length bytes, entries, subst (Appends old new) (sym (take-length bytes)) added);
  }

  part_put : (r : Result (Unit {0}) Error) (n : ℕ) → IsIo r → Appends old new (take n bytes) → WritesTextOf config writes old new r
  part_put (Ok x) n io added = absurd io
  part_put (Err e) n io added = record {
    whole = tt;
    entries = λ no. absurd (no io);
    part = (bytes, n, entries, added);
  }

  pub put_text : (made r : Result (Unit {0}) Error) → OnOk made (¬ failed × writes first last) → Puts bytes made old new r → WritesTextOf config writes old new r
  put_text made r sends (inl all) = subst (WritesTextOf config writes old new) (sym all.0) (whole_put made sends all.1)
  put_text made r sends (inr some) = part_put r some.1 some.0 some.3

use Rattle.std.proofs.Common.{ℕ, ◌<◌, List, length, sym, subst, take, inl, inr, refl, map, string_bytes}
use Rattle.std.specs.Io.KnownBytes.{Appends}
use Rattle.qs_tool.specs.Line.{IsLine, usage_line, memory_line}
use Rattle.qs_tool.proofs.Lines.{over, each, two_goes_on, right_line, usage_is_right, Appends-nil}
use Rattle.qs_tool.proofs.program.run.Goals as goal

-- the usage line
pub returns-in_default-clause-stopped : goal.returns-in_default-clause-stopped
returns-in_default-clause-stopped g c =
    let words = map string_bytes c.args.args.now in
    each (g.R.Read.remaining c.args.input.now.reader) _ (λ input three.
    let cut = c.finish.ensures.cut two_goes_on three in
    let text = c.as_bytes.ensures.value in
    let P : List ℕ → Type 0 = λ line. Appends (g.W.Write.contents c.args.output.now.writer) (g.W.Write.contents c.finish.new.output.writer) (take cut.0 line) in (
      usage_line,
      cut.0,
      inr (subst (λ (line : List ℕ). cut.0 < length line) text cut.1, inl (sym c.in_default.ensures), (2, usage_is_right words input c.in_default.ensures)),
      subst P text cut.2,
    ))

pub returns-in-Ok-clause-line : goal.returns-in-Ok-clause-line
returns-in-Ok-clause-line g c =
    let words = map string_bytes c.args.args.now in
    let answer = c.in-Ok.answer in
    over (g.R.Read.remaining c.args.input.now.reader) _ _ (λ input right differs.
    let done = c.finish-in-Ok.ensures.done differs in (
      answer.line.items,
      subst (IsLine words input answer.line.items) (sym done.0) (right_line words _ input _ _ c.in-Some.ensures right),
      subst (Appends (g.W.Write.contents c.args.output.now.writer) (g.W.Write.contents c.finish-in-Ok.new.output.writer)) c.as_slice.ensures.value done.1,
    )) c.in-Ok.ensures.answer

pub returns-in-Ok-clause-stopped : goal.returns-in-Ok-clause-stopped
returns-in-Ok-clause-stopped g c =
    let words = map string_bytes c.args.args.now in
    let answer = c.in-Ok.answer in
    over (g.R.Read.remaining c.args.input.now.reader) _ _ (λ input right three.
    let cut = c.finish-in-Ok.ensures.cut c.in-Ok.ensures.status three in
    let text = c.as_slice.ensures.value in
    let P : List ℕ → Type 0 = λ line. Appends (g.W.Write.contents c.args.output.now.writer) (g.W.Write.contents c.finish-in-Ok.new.output.writer) (take cut.0 line) in (
      answer.line.items,
      cut.0,
      inr (subst (λ (line : List ℕ). cut.0 < length line) text cut.1, inr c.in-Ok.ensures.ended.1, (answer.status, right_line words _ input _ _ c.in-Some.ensures right)),
      subst P text cut.2,
    )) c.in-Ok.ensures.answer

-- nothing is written
pub returns-in-Err-Stream-clause-stopped : goal.returns-in-Err-Stream-clause-stopped
returns-in-Err-Stream-clause-stopped g c =
    each (g.R.Read.remaining c.args.input.now.reader) _ (λ input three. (memory_line, 0, inl refl, Appends-nil (g.W.Write.contents c.args.output.now.writer)))

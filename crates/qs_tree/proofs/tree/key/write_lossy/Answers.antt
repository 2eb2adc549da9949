use Rattle.qs_tree.proofs.Common.{◌≡◌, ◌<◌, ◌++◌, length, sym, ap, ◌∙◌, append_assoc, append-nil, rules, replacement_bytes, utf8_chunks_rest}
use Rattle.std.proofs.Output.{has_written_append, has_written_of_eq}
use Rattle.std.proofs.lemmas.Str.{utf8_lossy_chunk, utf8_lossy_last_chunk, utf8_lossy_empty}
use Rattle.qs_tree.proofs.tree.key.write_lossy.Goals as goal

pub loop-chunk-preserved-in-Continue-branch-2 : goal.loop-chunk-preserved-in-Continue-branch-2
loop-chunk-preserved-in-Continue-branch-2 g c =
    λ ignoring_escapes.
    let now = c.loop-chunk.invariant ignoring_escapes in
    let steps = c.in-Some.ensures.steps in
    let some : 0 < length c.in-Some.chunk.invalid.now = search rules in
    let text = utf8_lossy_chunk _ _ _ _ steps.0 steps.3.0 steps.3.1 some in
    let valid = has_written_append _ c.args.f.now now.0 c.loop-chunk.f c.in-Some.chunk.valid.now c.write_str.new.self now.1 (search rules) in
    ((now.0 ++ c.in-Some.chunk.valid.now) ++ replacement_bytes, has_written_append _ _ _ _ _ _ valid (search rules), simp append_assoc (rw text at now.2))

pub loop-chunk-preserved : goal.loop-chunk-preserved
loop-chunk-preserved g c =
    λ ignoring_escapes.
    let now = c.loop-chunk.invariant ignoring_escapes in
    let steps = c.in-Some.ensures.steps in
    let none : length c.in-Some.chunk.invalid.now ≡ 0 = search rules in
    let text = utf8_lossy_last_chunk _ _ _ _ steps.0 steps.3.0 none (steps.2 none) in
    (now.0 ++ c.in-Some.chunk.valid.now, has_written_append _ _ _ _ _ _ now.1 (search rules), append_assoc now.0 _ _ ∙ ap (λ l. now.0 ++ l) (sym text) ∙ now.2)

pub returns : goal.returns
returns g c =
    λ ignoring_escapes ok.
    let now = c.loop-chunk.invariant ignoring_escapes in
    has_written_of_eq _ _ _ _ _ (sym (append-nil _) ∙ rw (utf8_lossy_empty (utf8_chunks_rest c.loop-chunk.chunk-iterator) c.in-None.ensures.steps.0) at now.2) now.1

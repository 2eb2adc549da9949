use Rattle.qs_data.proofs.Common.{is_text, reads, shape_of, tree_of}
use Rattle.qs_data.specs.failure.Own.{IsOwn}
use Rattle.qs_data.proofs.lemmas.failure.Failures.{here_frugal, here_rejects, rejected_here}
use Rattle.qs_data.proofs.lemmas.failure.Kinds.{leaf_key}
use Rattle.qs_data.proofs.read.by_shape.read_leaf.Goals as goal

pub returns-in-Err-clause-gives : goal.returns-in-Err-clause-gives
returns-in-Err-clause-gives c =
    let s = shape_of c.args.shape.now in
    let n = tree_of c.args.value.now in
    here_rejects (is_text n) s n c.in-Err.error c.at_shape.result (reads c.args.reader.reject_duplicates s n) (c.at_shape.ensures (leaf_key s n c.requires)) c.in-Err.ensures.gives

pub returns-in-Err-clause-frugal : goal.returns-in-Err-clause-frugal
returns-in-Err-clause-frugal c = λ leaf.
    let s = shape_of c.args.shape.now in
    let n = tree_of c.args.value.now in
    here_frugal (is_text n) s n c.in-Err.error c.at_shape.result (reads c.args.reader.reject_duplicates s n) (c.at_shape.ensures (leaf_key s n c.requires)) c.in-Err.ensures.gives (c.in-Err.ensures.frugal leaf)

pub returns-in-Err-clause-fails : goal.returns-in-Err-clause-fails
returns-in-Err-clause-fails c =
    let s = shape_of c.args.shape.now in
    let n = tree_of c.args.value.now in
    rejected_here c.args.reader.reject_duplicates s n (is_text n) c.in-Err.error (reads c.args.reader.reject_duplicates s n) c.at_shape.result (c.at_shape.ensures (leaf_key s n c.requires)) c.in-Err.ensures.gives (λ none. IsOwn.no_parts c.requires none)

use Rattle.qs_tree.proofs.Common.{◌≡◌, ◌∙◌, ap, arith, not, length-chunk, first_set_mask_l, run_in_chunk_le, run_in_chunk_fails, run_in_chunk_stops, prefix_len, chunk, first_set}
use Rattle.qs_tree.proofs.escape.search.class.run.Goals as goal

pub returns : goal.returns
returns g c =
    let p = g.C.Class.contains c.args.class in
    let d = c.args.bytes.now in
    let v = chunk c.args.at 32 d in
    let counted : c.first_set.result ≡ prefix_len (λ x. not (p x)) v =
    c.first_set.ensures ∙ ap (λ m. first_set m 32) c.mask.ensures ∙ first_set_mask_l p v 32 (length-chunk c.args.at 32 d c.requires) (omega arith) in (
      run_in_chunk_le p d c.args.at 32 _ 0 c.requires counted,
      run_in_chunk_fails p d c.args.at 32 _ 0 c.requires counted,
      run_in_chunk_stops p d c.args.at 32 _ 0 c.requires counted,
    )

use Rattle.qs_data.proofs.Common.{◌≡◌, ◌∙◌, ◌+◌, ◌-◌, ◌^◌, ◌≤◌, ap, sym, length, length-append, ◌++◌, ◌∷◌, [], arith, Config, scalar_text, grown, path_after}
use Rattle.qs_data.proofs.lemmas.write.Entry.{path_grown, path_long}
use Rattle.qs_data.proofs.write.entry.Walk.enter.Goals as goal

pub returns-clause-ok : goal.returns-clause-ok
returns-clause-ok c = λ config path at.
    let is_form = config.is_form in
    let s = scalar_text c.args.segment in
    let out = c.append_segment.new.out in
    let same : out ≡ path_after is_form (path ++ s ∷ []) =
    c.in_ok-append_segment.ensures.ok ∙ ap (λ f. grown f c.args.self.now.text s) (c.get_form.ensures ∙ ap (λ (k : Config). k.is_form) at.settings) ∙ ap (λ t. grown is_form t s) at.text ∙ sym (path_grown is_form path s) in
    let short : length path ≤ config.max_depth = omega (arith, at.depth, c.get_max_depth.ensures, ap (λ (k : Config). k.max_depth) at.settings) in
    let few : length path + 1 ≤ 2 ^ 64 - 1 = omega (arith, path_long is_form path, ap length at.text, c.len-len.ensures.value, c.len-len.ensures.few) in (
      short,
      record {
        settings = at.settings;
        depth = omega (arith, at.depth, few, length-append path (s ∷ []), c.saturating_add-self.ensures);
        text = same;
        visible = c.in_ok-append_segment.ensures.visible at.visible;
      },
    )

use Rattle.qs_data.proofs.Common.{◌∙◌, ap, sym, subst, take, ◌++◌, length-append, ◌∷◌, [], arith, All, All-take, IsVisible, path_after}
use Rattle.qs_data.proofs.lemmas.write.Entry.{path_left}
use Rattle.qs_data.proofs.write.entry.Walk.leave.Goals as goal

pub returns : goal.returns
returns c = λ config path s at len.
    let items = c.args.self.now.text in
    let cut = c.truncate.ensures in
    record {
      settings = at.settings;
      depth = omega (arith, at.depth, length-append path (s ∷ []));
      text = cut ∙ ap (take c.args.len) at.text ∙ ap (λ n. take n (path_after config.is_form (path ++ s ∷ []))) len ∙ path_left config.is_form path s;
      visible = subst (All IsVisible) (sym cut) (All-take IsVisible c.args.len items at.visible);
    }

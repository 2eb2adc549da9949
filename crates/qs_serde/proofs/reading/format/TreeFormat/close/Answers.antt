use Rattle.std.proofs.Common.{◌++◌, ◌∷◌, [], ap, sym, ◌∙◌}
use Rattle.qs_serde.specs.declared.reading.format.TreeFormat.{TreeFormat}
use Rattle.qs_serde.proofs.Places.{left}
use Rattle.qs_serde.proofs.reading.format.TreeFormat.close.Goals as goal

pub returns-in-Some : goal.returns-in-Some
returns-in-Some c =
    let new = c.resume.ensures in
    record {
      leaves =
          left c.args.self.now c.resume.new.self c.in-Some.outer (c.in-Some.ensures.items ∙ ap (λ (f : TreeFormat). f.around.items ++ c.in-Some.outer ∷ []) (sym new))
          (ap (λ (f : TreeFormat). f.frame) new) (ap (λ (f : TreeFormat). f.top) new) (ap (λ (f : TreeFormat). f.node) new)
          (ap (λ (f : TreeFormat). f.reader) new) (ap (λ (f : TreeFormat). f.search) new) (ap (λ (f : TreeFormat). f.is_tried) new);
      tried = ap (λ (f : TreeFormat). f.is_tried) new;
    }

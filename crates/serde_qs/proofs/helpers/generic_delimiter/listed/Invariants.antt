use Rattle.std.proofs.Common.{◌≡◌, length, map}
use denote.Text.{Utf8}
use denote.Shadow.{shadow}
use Rattle.serde_qs.specs.Items.{items_in, pieces}
use Rattle.qs_data.proofs.lemmas.read.Steps.{before}
use Rattle.serde_qs.proofs.helpers.generic_delimiter.listed.Given as goal

abbrev pub invariant-loop-piece : goal.invariant-loop-piece
invariant-loop-piece g l =
    let m = g.T.Item.meaning in
    shadow (Utf8 l.rest) × (items_in m (pieces l.delimiter l.text) ≡ before (map g.T.Item.value l.items.items) (items_in m (pieces l.delimiter l.rest)))

abbrev pub decreases-loop-piece : goal.decreases-loop-piece
decreases-loop-piece g l = length l.rest

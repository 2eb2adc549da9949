use Rattle.std.proofs.Common.{true, [], ◌∷◌, ◌++◌, append-nil, map, Some, sym, ap, ◌∙◌, rules}
use Rattle.std.specs.Str.{IsUtf8}
use Rattle.qs_data.proofs.lemmas.read.Errors.{gives_exit}
use Rattle.serde_qs.specs.Items.{items_in, pieces, listed_in}
use Rattle.serde_qs.proofs.Pieces.{piece_before, only_piece, before-item, no-item, map_more}
use Rattle.serde_qs.specs.internal.Pieces.{listed_pieces}
use Rattle.qs_data.proofs.lemmas.read.Steps.{before}
use Rattle.serde_qs.proofs.helpers.generic_delimiter.listed.Goals as goal

pub returns-in_err-parse : goal.returns-in_err-parse
returns-in_err-parse g c =
    let m = g.T.Item.meaning in
    let d = c.args.delimiter in
    let xs = map g.T.Item.value c.loop-piece.items.items in
    let piece = c.in-Some.piece.now in
    let more = c.in-Some.more.now in
    let text : IsUtf8 piece = search rules in
    let cut = piece_before d c.loop-piece.rest.now piece more c.ranges.delimiter.0 text c.in-Some.ensures.cases in
    let whole = listed_pieces m d c.args.text.now (sym c.is_empty.ensures ∙ c.if-is_empty.false) ∙ c.loop-piece.invariant.1 ∙ ap (λ ps. before xs (items_in m ps)) cut in
    gives_exit (λ list. map g.T.Item.value list.items) true true c.from_residual.result c.in_err-parse.field-0.0 (m piece) (listed_in m d c.args.text.now)
    c.from_residual.ensures.1 c.in_err-parse.ensures (λ none. whole ∙ no-item m xs piece (pieces d more) none) (λ n. n)

pub loop-piece-preserved : goal.loop-piece-preserved
loop-piece-preserved g c =
    let m = g.T.Item.meaning in
    let d = c.args.delimiter in
    let xs = map g.T.Item.value c.loop-piece.items.items in
    let x = g.T.Item.value c.in_ok-parse.field-0 in
    let piece = c.in-Some.piece.now in
    let more = c.in-Some.more.now in
    let text : IsUtf8 piece = search rules in
    let later : IsUtf8 more = search rules in
    let cut = piece_before d c.loop-piece.rest.now piece more c.ranges.delimiter.0 text c.in-Some.ensures.cases in
    let added = ap (λ l. map g.T.Item.value l) c.in_ok-push.ensures.items ∙ map_more g.T.Item.value c.loop-piece.items.items c.in_ok-parse.field-0 in (
      later,
      c.loop-piece.invariant.1 ∙ ap (λ ps. before xs (items_in m ps)) cut ∙ before-item m xs piece (pieces d more) x c.in_ok-parse.ensures
          ∙ ap (λ ys. before ys (items_in m (pieces d more))) (sym added),
    )

pub returns-in_err-parse-2 : goal.returns-in_err-parse-2
returns-in_err-parse-2 g c =
    let m = g.T.Item.meaning in
    let d = c.args.delimiter in
    let xs = map g.T.Item.value c.loop-piece.items.items in
    let rest = c.loop-piece.rest.now in
    let only = only_piece d rest c.loop-piece.invariant.0 c.in_default.ensures.cases in
    let whole = listed_pieces m d c.args.text.now (sym c.is_empty.ensures ∙ c.if-is_empty.false) ∙ c.loop-piece.invariant.1 ∙ ap (λ ps. before xs (items_in m ps)) only in
    gives_exit (λ list. map g.T.Item.value list.items) true true c.from_residual-in_err-parse-2.result c.in_err-parse-2.field-0.0 (m rest) (listed_in m d c.args.text.now)
    c.from_residual-in_err-parse-2.ensures.1 c.in_err-parse-2.ensures (λ none. whole ∙ no-item m xs rest [] none) (λ n. n)

pub returns : goal.returns
returns g c =
    let m = g.T.Item.meaning in
    let d = c.args.delimiter in
    let xs = map g.T.Item.value c.loop-piece.items.items in
    let x = g.T.Item.value c.in_ok-parse-2.field-0 in
    let rest = c.loop-piece.rest.now in
    let only = only_piece d rest c.loop-piece.invariant.0 c.in_default.ensures.cases in
    let added = ap (λ l. map g.T.Item.value l) c.in_ok-push-2.ensures.items ∙ map_more g.T.Item.value c.loop-piece.items.items c.in_ok-parse-2.field-0 in
    listed_pieces m d c.args.text.now (sym c.is_empty.ensures ∙ c.if-is_empty.false) ∙ c.loop-piece.invariant.1 ∙ ap (λ ps. before xs (items_in m ps)) only
    ∙ before-item m xs rest [] x c.in_ok-parse-2.ensures
    ∙ ap Some (append-nil (xs ++ x ∷ []) ∙ sym added)

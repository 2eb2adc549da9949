use Rattle.std.proofs.Common.{◌≡◌, true, false, ◌&&◌, None, sym, ap, ◌∙◌}
use Rattle.std.specs.Option.{option_and_then, option_map}
use Rattle.std.specs.Str.{bytes_eq, is_utf8}
use Rattle.qs_tree.specs.tree.Views.{tree_of}
use Rattle.qs_data.specs.read.Held.{held_is_text}
use Rattle.qs_data.proofs.lemmas.read.Errors.{and_left, and_right, gives_exit, rejected}
use Rattle.serde_qs.specs.Held.{kind_held}
use Rattle.serde_qs.specs.Records.{texts}
use Rattle.serde_qs.proofs.NodeVariants.{last_here, last_other}
use Rattle.serde_qs.proofs.compound.variants.LastVariants.from_name.Goals as goal

pub returns-in_err-from_node : goal.returns-in_err-from_node
returns-in_err-from_node g c =
    let t = g.V.Payload.table in
    let reject_duplicates = c.args.reader.reject_duplicates in
    let name = c.args.name.now in
    let o = option_map (λ v. tree_of v.now) c.args.held in
    let own = c.split.result.0.now in
    let rest = texts c.split.result.1.now in
    let same : bytes_eq own name ≡ true = ap (λ x. bytes_eq x name) (sym c.as_bytes.ensures.value) ∙ sym c.if-eq.ensures in
    gives_exit _ (held_is_text o) (is_utf8 name && held_is_text o) c.from_residual.result c.in_err-from_node.field-0.0 (option_and_then (t.meaning rest) (kind_held reject_duplicates (t.shape rest) own o)) _
    c.from_residual.ensures.1 (c.in_err-from_node.ensures own)
    (λ none. last_here t.meaning t.shape reject_duplicates (texts c.args.names.now) name o own rest c.split.ensures.first c.split.ensures.others same ∙ none) (and_right (is_utf8 name) (held_is_text o))

pub returns-in_ok-from_node : goal.returns-in_ok-from_node
returns-in_ok-from_node g c =
    let t = g.V.Payload.table in
    let name = c.args.name.now in
    let o = option_map (λ v. tree_of v.now) c.args.held in
    let own = c.split.result.0.now in
    let same : bytes_eq own name ≡ true = ap (λ x. bytes_eq x name) (sym c.as_bytes.ensures.value) ∙ sym c.if-eq.ensures in
    last_here t.meaning t.shape c.args.reader.reject_duplicates (texts c.args.names.now) name o own (texts c.split.result.1.now) c.split.ensures.first c.split.ensures.others same ∙ c.in_ok-from_node.ensures own

pub returns-else-eq : goal.returns-else-eq
returns-else-eq g c =
    let t = g.V.Payload.table in
    let name = c.args.name.now in
    let o = option_map (λ v. tree_of v.now) c.args.held in
    let own = c.split.result.0.now in
    let other : bytes_eq own name ≡ false = ap (λ x. bytes_eq x name) (sym c.as_bytes.ensures.value) ∙ sym c.if-eq.ensures in
    rejected {Y = Unit {0}} (is_utf8 name) (is_utf8 name && held_is_text o) c.unknown_variant.result None _ c.unknown_variant.ensures
    (λ none. last_other t.meaning t.shape c.args.reader.reject_duplicates (texts c.args.names.now) name o own (texts c.split.result.1.now) c.split.ensures.first c.split.ensures.others other) (and_left (is_utf8 name) (held_is_text o))

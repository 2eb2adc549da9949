use Rattle.std.proofs.Common.{◌≡◌, ◌+◌, Option, Some, None, ap, ◌∙◌, sym, arith, string_bytes}
use Rattle.std.specs.Option.{option_and_then, option_map}
use Rattle.std.specs.BTreeMap.{BTreeMap}
use Rattle.std.specs.declared.string.String.{String}
use Rattle.std.specs.declared.alloc.Global.{Global}
use Rattle.qs_spec.specs.Tree.{Tree}
use Rattle.qs_spec.specs.Node.{keys_are_text}
use Rattle.qs_spec.specs.internal.ReadFunction.{reads}
use Rattle.qs_tree.specs.tree.Views.{tree_of}
use Rattle.qs_data.specs.read.Entries.{entries_after, first_entry}
use Rattle.qs_data.specs.read.Keys.{entries_view}
use Rattle.qs_data.specs.read.TreeText.{entries_are_text, is_text}
use Rattle.qs_data.proofs.lemmas.read.Entries.{keys_bad}
use Rattle.qs_data.proofs.lemmas.read.Errors.{gives_exit}
use Rattle.serde_qs.specs.Maps.{nowhere, values_by_text, with_value}
use Rattle.serde_qs.specs.internal.NodeEntries.{entries_onto}
use Rattle.serde_qs.proofs.NodeEntries.{entry_all, entry_end, entry_more, entry_rejected, node_bad}
use Rattle.serde_qs.proofs.PairsPut.{values_none, values_put}
use Rattle.serde_qs.proofs.types.maps.entries_of.Goals as goal
use Rattle.serde_qs.proofs.types.maps.entries_of.Goals.{else-loop-i-test, then-loop-i-test+in_ok-key+in_default}

pub loop-i-init : goal.loop-i-init
loop-i-init g c = grind (arith, values_none)

pub returns-in_err-key : goal.returns-in_err-key
returns-in_err-key g c =
    let l = c.loop-i in
    let es = entries_view c.args.entries in
    let value = g.T.Deserialize.table.value in
    let r : Tree → Option g.T.Deserialize.table.Value = λ t. option_and_then g.T.Deserialize.table.meaning (reads c.args.reader.reject_duplicates g.T.Deserialize.table.shape t) in
    gives_exit (λ (m : BTreeMap (String Global) g.row.T.Denot). values_by_text value m) (keys_are_text es) (entries_are_text es) c.from_residual.result c.in_err-key.field-0.0
    (first_entry (entries_after l.i es)) (entries_onto r nowhere es) c.from_residual.ensures.1 c.in_err-key.ensures
    (λ none. l.invariant ∙ entry_rejected r (entries_after l.i es) (values_by_text value l.values) none) (keys_bad es)

pub returns-in_err-value : goal.returns-in_err-value
returns-in_err-value g c =
    let l = c.loop-i in
    let es = entries_view c.args.entries in
    let value = g.T.Deserialize.table.value in
    let n = tree_of c.in-Some.node.now in
    let key = string_bytes c.in-Some.key in
    let r : Tree → Option g.T.Deserialize.table.Value = λ t. option_and_then g.T.Deserialize.table.meaning (reads c.args.reader.reject_duplicates g.T.Deserialize.table.shape t) in
    let f = values_by_text value l.values in
    let h : first_entry (entries_after l.i es) ≡ Some (Some (key, n)) = c.in_ok-key.ensures ∙ ap (λ o. Some (option_map (λ e. (string_bytes e.0, tree_of e.1.now)) o)) c.in-Some.is in
    gives_exit (λ (m : BTreeMap (String Global) g.row.T.Denot). values_by_text value m) (is_text n) (entries_are_text es) c.from_residual-in_err-value.result c.in_err-value.field-0.0
    (r n) (entries_onto r nowhere es) c.from_residual-in_err-value.ensures.1 c.in_err-value.ensures.node
    (λ none. l.invariant ∙ entry_more r l.i es f key n h ∙ ap (option_and_then (λ v. entries_onto r (with_value key v f) (entries_after (l.i + 1) es))) none)
    (node_bad l.i es key n h)

pub loop-i-preserved : goal.loop-i-preserved
loop-i-preserved g c =
    let l = c.loop-i in
    let es = entries_view c.args.entries in
    let value = g.T.Deserialize.table.value in
    let n = tree_of c.in-Some.node.now in
    let key = string_bytes c.in-Some.key in
    let v = value c.in_ok-value.value in
    let r : Tree → Option g.T.Deserialize.table.Value = λ t. option_and_then g.T.Deserialize.table.meaning (reads c.args.reader.reject_duplicates g.T.Deserialize.table.shape t) in
    let f = values_by_text value l.values in
    let rest = entries_after (l.i + 1) es in
    let h : first_entry (entries_after l.i es) ≡ Some (Some (key, n)) = c.in_ok-key.ensures ∙ ap (λ o. Some (option_map (λ e. (string_bytes e.0, tree_of e.1.now)) o)) c.in-Some.is in
    l.invariant ∙ entry_more r l.i es f key n h
    ∙ ap (option_and_then (λ w. entries_onto r (with_value key w f) rest)) c.in_ok-value.ensures.node
    ∙ ap (λ q. entries_onto r q rest) (sym (values_put value l.values c.insert.new.self key c.in_ok-value.value c.in_ok-insert.ensures.updates))

pub returns : goal.returns
returns g c =
    let l = c.loop-i in
    let es = entries_view c.args.entries in
    let r : Tree → Option g.T.Deserialize.table.Value = λ t. option_and_then g.T.Deserialize.table.meaning (reads c.args.reader.reject_duplicates g.T.Deserialize.table.shape t) in
    let f = values_by_text g.T.Deserialize.table.value l.values in
    elim c.loop-i-test.branch [
      | else-loop-i-test w ↦ l.invariant ∙ entry_all r l.i es f (omega (arith, c.len-i-end.ensures, w.loop-i-test.false))
      | then-loop-i-test+in_ok-key+in_default w ↦
          let h : first_entry (entries_after l.i es) ≡ Some None = w.in_ok-key.ensures ∙ ap (λ o. Some (option_map (λ e. (string_bytes e.0, tree_of e.1.now)) o)) w.in_default.is in
          l.invariant ∙ entry_end r (entries_after l.i es) f h
    ]

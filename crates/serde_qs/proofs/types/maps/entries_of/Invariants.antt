use Rattle.std.proofs.Common.{◌≡◌, Option}
use Rattle.std.specs.Option.{option_and_then}
use Rattle.qs_spec.specs.Tree.{Tree}
use Rattle.qs_spec.specs.internal.ReadFunction.{reads}
use Rattle.qs_data.specs.read.Entries.{entries_after}
use Rattle.qs_data.specs.read.Keys.{entries_view}
use Rattle.serde_qs.specs.Maps.{nowhere, values_by_text}
use Rattle.serde_qs.specs.internal.NodeEntries.{entries_onto}
use Rattle.serde_qs.proofs.types.maps.entries_of.Given as goal

abbrev pub invariant-loop-i : goal.invariant-loop-i
invariant-loop-i g l =
    let r : Tree → Option g.T.Deserialize.table.Value = λ node. option_and_then g.T.Deserialize.table.meaning (reads l.fn.reader.reject_duplicates g.T.Deserialize.table.shape node) in
    entries_onto r nowhere (entries_view l.fn.entries) ≡ entries_onto r (values_by_text g.T.Deserialize.table.value l.values) (entries_after l.i (entries_view l.fn.entries))

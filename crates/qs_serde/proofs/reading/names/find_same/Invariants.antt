use Rattle.serde.specs.Names.{NoneBelow}
use Rattle.qs_serde.proofs.reading.names.find_same.Given as goal

abbrev pub invariant-loop-at : goal.invariant-loop-at
invariant-loop-at l = NoneBelow l.names l.text l.at

use Rattle.qs_data.proofs.Common.{◌≡◌, ℕ, List, ◌++◌, length, Appends, encoded}
use Rattle.qs_data.proofs.write.sink.put_encoded.Given as goal

abbrev pub invariant-loop-rest : goal.invariant-loop-rest
invariant-loop-rest g l = record {
  put : (front : List ℕ) × (l.bytes ≡ front ++ l.rest) × Appends (g.S.Sink.taken l.fn.sink) (g.S.Sink.taken l.sink) (encoded l.is_form front);
  fine : g.S.Sink.failed l.sink ≡ g.S.Sink.failed l.fn.sink;
  same_writer : g.S.Sink.writer_name l.sink ≡ g.S.Sink.writer_name l.fn.sink;
}

abbrev pub decreases-loop-rest : goal.decreases-loop-rest
decreases-loop-rest g l = length l.rest

use Rattle.qs_data.proofs.Common.{◌≡◌, ◌-◌, ◌≤◌, length, take, drop, Appends}
use Rattle.qs_data.proofs.write.sink.put_all.Given as goal

abbrev pub invariant-loop-rest : goal.invariant-loop-rest
invariant-loop-rest g l = record {
  left : length l.rest ≤ length l.bytes;
  rest_is : l.rest ≡ drop (length l.bytes - length l.rest) l.bytes;
  taken : Appends (g.S.Sink.taken l.fn.sink) (g.S.Sink.taken l.sink) (take (length l.bytes - length l.rest) l.bytes);
  fine : g.S.Sink.failed l.sink ≡ g.S.Sink.failed l.fn.sink;
  same_writer : g.S.Sink.writer_name l.sink ≡ g.S.Sink.writer_name l.fn.sink;
}

abbrev pub decreases-loop-rest : goal.decreases-loop-rest
decreases-loop-rest g l = length l.rest

use Rattle.qs_tree.proofs.Common.{◌≡◌, drop, index_from}
use Rattle.qs_tree.proofs.scan.raw.parse_digits.Given as goal

abbrev pub invariant-loop-byte : goal.invariant-loop-byte
invariant-loop-byte l = index_from l.number (drop l.byte-index l.raw) ≡ index_from 0 l.raw

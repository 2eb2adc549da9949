use Rattle.qs_data.proofs.Common.{◌≡◌, drop, list_all, is_between}
use Rattle.qs_data.proofs.data.plain.is_numeral.Given as goal

abbrev pub invariant-loop-byte : goal.invariant-loop-byte
invariant-loop-byte l = list_all (is_between 48 57) l.bytes ≡ list_all (is_between 48 57) (drop l.byte-index l.bytes)

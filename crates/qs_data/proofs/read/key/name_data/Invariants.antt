use Rattle.qs_data.proofs.Common.{◌≡◌, drop, map, string_bytes, list_any, bytes_eq}
use Rattle.qs_data.proofs.read.key.name_data.Given as goal

abbrev pub invariant-loop-name : goal.invariant-loop-name
invariant-loop-name l = list_any (bytes_eq l.bytes) (map string_bytes l.names.items) ≡ list_any (bytes_eq l.bytes) (map string_bytes (drop l.name-index l.name-items))

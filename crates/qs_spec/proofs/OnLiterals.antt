-- One name to unfold where a proof computes with an input, a shape or data that is written out.
use Rattle.std.specs.Char.{encode_utf8}
use Rattle.std.specs.Str.{chars, is_utf8}
use Rattle.std.specs.Fmt.{digits}
use Rattle.qs_spec.specs.internal.ReadFunction.{read_list, struct_members, read_map, read_enum, any_data, any_items, any_places, any_pairs, reads, reads_tuple, reads_names, reads_places, reads_variant, reads_kind}
use Rattle.qs_spec.specs.Entry.{deeper, entries_at, elements_from, pair_entries, member_entries}
use Rattle.qs_spec.specs.Written.{path_text, entry_text, written, started_after}

-- `unfolding on_literals` lets `refl` compute `read_by`, `entries` and `written`
unfoldable pub on_literals : Unit {0}
unfolding encode_utf8 chars is_utf8 digits read_list struct_members read_map read_enum any_data any_items any_places any_pairs reads reads_tuple reads_names reads_places reads_variant reads_kind deeper entries_at elements_from pair_entries member_entries path_text entry_text written started_after
on_literals = tt

use Rattle.qs_data.proofs.Common.{Shape, mapping, option_map, refl, sym, entries_view, fields_in, unknown_of}
use Rattle.qs_data.specs.declared.failure.expected.Expected.TheVariants as e
use Rattle.qs_data.specs.failure.Mismatch.{segment_of}
use Rattle.qs_data.proofs.lemmas.failure.Kinds.{said}
use Rattle.qs_data.proofs.failure.here.at_fields.Goals as goal

pub returns-in-Ok : goal.returns-in-Ok
returns-in-Ok c =
    said (option_map segment_of c.in-Ok.key) (Shape.struct (unknown_of c.args.unknown) (fields_in c.args.fields.now.items)) e.Struct (mapping (entries_view c.args.entries)) c.args.error c.unexpected.result
    (sym c.in-Ok.ensures) refl (c.unexpected.ensures (entries_view c.args.entries))

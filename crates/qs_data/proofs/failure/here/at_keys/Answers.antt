use Rattle.qs_data.proofs.Common.{Shape, mapping, option_map, refl, sym, entries_of_map, key_shape_of}
use Rattle.qs_data.specs.declared.failure.expected.Expected.TheVariants as e
use Rattle.qs_data.specs.failure.Mismatch.{segment_of}
use Rattle.qs_data.proofs.lemmas.failure.Kinds.{said}
use Rattle.qs_data.proofs.failure.here.at_keys.Goals as goal

pub returns-in-Ok : goal.returns-in-Ok
returns-in-Ok c = λ part.
    said (option_map segment_of c.in-Ok.key) (Shape.mapping (key_shape_of c.args.shape.now) part) e.Map (mapping (entries_of_map c.args.map.now)) c.args.error c.unexpected.result
    (sym c.in-Ok.ensures) refl (c.unexpected.ensures (entries_of_map c.args.map.now))

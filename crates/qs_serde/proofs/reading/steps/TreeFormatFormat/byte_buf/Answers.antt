use Rattle.std.proofs.Common.{rules}
use Rattle.qs_data.specs.declared.shape.shape.Shape as shape
use Rattle.qs_data.specs.data.Views.{data_of}
use Rattle.qs_serde.specs.Places.{scalar_at}
use Rattle.qs_serde.proofs.Borrowed.{bytes_only}
use Rattle.qs_serde.proofs.reading.steps.TreeFormatFormat.byte_buf.Goals as goal

pub returns-in-None-clause-exact : goal.returns-in-None-clause-exact
returns-in-None-clause-exact c = absurd (bytes_only c.args.self.now.reader.reject_duplicates (scalar_at c.args.self.now) (data_of c.in_ok-data.data) (search (rules, shape.the_lemmas)) c.in-None.ensures)

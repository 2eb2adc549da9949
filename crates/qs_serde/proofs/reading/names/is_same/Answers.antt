use Rattle.std.proofs.Common.{rules}
use Rattle.qs_serde.proofs.Names.{same_stands, same_utf8}
use Rattle.qs_serde.proofs.reading.names.is_same.Goals as goal

pub returns-clause-stands : goal.returns-clause-stands
returns-clause-stands c = same_stands c.eq.result c.args.text.now c.args.name.now (search rules) (search rules) c.if-name.false (search rules)

pub returns-clause-utf8 : goal.returns-clause-utf8
returns-clause-utf8 c = same_utf8 c.eq.result c.args.text.now c.as_bytes.result.now (search rules) c.as_bytes.ensures.utf8

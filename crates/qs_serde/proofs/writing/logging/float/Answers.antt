use Rattle.qs_serde.proofs.writing.logging.float.Goals as goal

pub returns : goal.returns
returns g c = (c.as_bytes.result.now, c.scalar.ensures)

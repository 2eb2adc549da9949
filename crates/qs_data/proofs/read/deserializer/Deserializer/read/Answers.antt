use Rattle.qs_data.proofs.Common.{rules, read_by, data_of, shape_of, is_text, Gives, parsed_of}
use Rattle.qs_data.proofs.lemmas.read.Related.{returns_data}
use Rattle.qs_data.proofs.lemmas.read.ReadBack.{reads_back}
use Rattle.qs_data.proofs.read.deserializer.Deserializer.read.Goals as goal

pub returns-clause-back : goal.returns-clause-back
returns-clause-back c =
    let parsed = parsed_of c.args.self in
    let shape = shape_of c.args.shape.now in
    let g : Gives data_of (is_text parsed.tree) c.read.result (read_by parsed.config shape parsed.tree) = search rules in
    reads_back parsed shape c.read.result c.requires (returns_data parsed shape c.read.result c.requires g)

use Rattle.std.proofs.Common.{◌∙◌, List, ℕ, Some, subst, Err, Ok}
use Rattle.qs_spec.specs.Data.{Named, members_of}
use Rattle.qs_data.specs.write.Parts.{WritesPart, data_part, members_part, under}
use Rattle.qs_data.proofs.lemmas.write.Parts.{part_exit}
use Rattle.serde_qs.specs.Records.{field_data, first_of, others_of, texts}
use Rattle.serde_qs.proofs.PartsWritten.{member_stops, member_then}
use Rattle.serde_qs.proofs.compound.references.Tuple2RefReferences.write_members.Goals as goal

pub returns-in_err-write_under : goal.returns-in_err-write_under
returns-in_err-write_under g c =
    let names = texts c.args.names.now in
    let x = g.T.Serialize.datum c.args.self.0.now in
    let others : List (List ℕ) → List Named = λ ns. g.R.References.members ns c.args.self.1 in
    let e = c.in_err-write_under.field-0.0 in
    let a = c.args.writer.now in
    let b = c.write_under.new.writer in
    record {
      written = part_exit _ e a b (members_part (members_of (field_data (Some x) others names))) c.from_residual.ensures.1
          (member_stops e a b (first_of names) x (others (others_of names))
          (subst (λ n. WritesPart (Err e) a b (under n (data_part x))) (c.as_bytes.ensures.value ∙ c.split.ensures.first) c.in_err-write_under.ensures));
    }

pub returns : goal.returns
returns g c =
    let names = texts c.args.names.now in
    let x = g.T.Serialize.datum c.args.self.0.now in
    let others : List (List ℕ) → List Named = λ ns. g.R.References.members ns c.args.self.1 in
    let a = c.args.writer.now in
    let b = c.write_under.new.writer in
    let d = c.write_members.new.writer in
    let r = c.write_members.result in
    record {
      written = member_then r a b d (first_of names) x (others (others_of names))
          (subst (λ n. WritesPart (Ok tt) a b (under n (data_part x))) (c.as_bytes.ensures.value ∙ c.split.ensures.first) c.in_ok-write_under.ensures)
          (subst (λ ns. WritesPart r b d (members_part (members_of (others ns)))) c.split.ensures.others c.write_members.ensures.written);
    }

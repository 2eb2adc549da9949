use Rattle.qs_spec.proofs.EntryParsed.{written_pairs, written_pair}
use Rattle.qs_spec.proofs.entries.written_entries_are_parsed.Goals as goal

pub returns-clause-entries : goal.returns-clause-entries
returns-clause-entries c = written_pairs

pub returns-clause-single : goal.returns-clause-single
returns-clause-single c = written_pair

use Rattle.qs_serde.proofs.Kept.{has_entries, has_text, has_text_or_none}
use Rattle.qs_serde.proofs.writing.text.TextSerializer.into_text.Goals as goal

pub returns-clause-events : goal.returns-clause-events
returns-clause-events g c = has_text g.K.Settings.config c.args.self.log.events c.args.self.position c.into_text.result.items c.into_text.ensures c.args.self.follows

pub returns-clause-failed : goal.returns-clause-failed
returns-clause-failed g c = has_text_or_none g.K.Settings.config c.args.self.log.events c.args.self.position c.into_text.result.items c.into_text.ensures c.args.self.follows

pub returns-clause-entries : goal.returns-clause-entries
returns-clause-entries g c = has_entries g.K.Settings.config c.args.self.log.events c.args.self.position c.into_text.result.items c.into_text.ensures c.args.self.follows

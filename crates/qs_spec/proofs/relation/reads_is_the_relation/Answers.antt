use Rattle.qs_spec.proofs.ReadingIsRelation.{is_the_relation, none_related}
use Rattle.qs_spec.proofs.relation.reads_is_the_relation.Goals as goal

pub returns-clause-where_some : goal.returns-clause-where_some
returns-clause-where_some c = is_the_relation

pub returns-clause-where_none : goal.returns-clause-where_none
returns-clause-where_none c = none_related

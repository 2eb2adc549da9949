-- What a wrapper becomes when the value inside is changed.
use Rattle.serde_qs.specs.declared.web.query.QsQuery.{QsQuery}
use Rattle.serde_qs.specs.declared.web.form.QsForm.{QsForm}

module _ {T : Type 0} where
  abbrev pub with_query : QsQuery T → T → QsQuery T
  with_query query value = record query { 0 = value }

  abbrev pub with_form : QsForm T → T → QsForm T
  with_form form value = record form { 0 = value }

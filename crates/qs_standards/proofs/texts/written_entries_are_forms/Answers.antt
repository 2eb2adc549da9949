use Rattle.qs_standards.proofs.WrittenForms.{forms}
use Rattle.qs_standards.proofs.texts.written_entries_are_forms.Goals as goal

pub returns : goal.returns
returns c = forms

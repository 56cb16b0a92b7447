use Rattle.cw_forms.proofs.Nested.{deep_forms_are_deep}
use Rattle.cw_forms.proofs.laws.deep_forms_are_deep.Goals as goal

pub returns : goal.returns
returns c = deep_forms_are_deep

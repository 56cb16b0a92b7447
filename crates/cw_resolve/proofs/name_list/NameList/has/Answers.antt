use Rattle.std.proofs.Common.{ap, ◌∙◌}
use Rattle.std.specs.Prelude.{is_some}
use Rattle.std.specs.Str.{bytes_eq}
use Rattle.cw_resolve.proofs.Numbered.{some_index}
use Rattle.cw_resolve.proofs.name_list.NameList.has.Goals as goal

pub returns : goal.returns
returns c = record { has = c.is_some.ensures ∙ ap is_some c.number.ensures.number ∙ some_index (bytes_eq c.args.name.now) c.args.self.now }

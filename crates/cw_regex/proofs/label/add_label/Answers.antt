use Rattle.std.proofs.Common.{sym, ◌∙◌}
use Rattle.cw_regex.proofs.Naming.{known_name, new_name}
use Rattle.cw_regex.proofs.label.add_label.Goals as goal

pub returns-then-contains-clause-added : goal.returns-then-contains-clause-added
returns-then-contains-clause-added c = known_name c.args.labels.now.keys c.args.name.now (sym c.contains.ensures ∙ c.if-contains.true)

pub returns-clause-added : goal.returns-clause-added
returns-clause-added c = new_name c.args.labels.now.keys c.insert.new.self.keys c.in_ok-copy.copy c.args.name.now c.in_ok-insert.ensures.keys c.in_ok-copy.ensures.items

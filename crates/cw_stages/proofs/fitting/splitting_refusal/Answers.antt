use Rattle.std.proofs.Common.{ℕ, List, ◌++◌, ap, ◌∙◌}
use Rattle.std.specs.Prelude.{codes}
use Rattle.std.specs.Fmt.{decimal}
use Rattle.cw_source.specs.Places.{column_of, line_of}
use Rattle.cw_source.proofs.Pieces.{six_pieces}
use Rattle.cw_commands.specs.declared.outcome.Cause.TheVariants.{Policy}
use Rattle.cw_commands.specs.Outcomes.{Refused}
use Rattle.cw_stages.specs.Fitting.{splitting_line}
use Rattle.cw_stages.proofs.fitting.splitting_refusal.Goals as goal

pub returns-clause-due : goal.returns-clause-due
unfolding splitting_line
returns-clause-due g c =
    let source = c.args.source.now in
    let place = c.args.place in
    let text = six_pieces c.begin-line.result.text c.put.new.self.text c.put-2.new.self.text c.put-3.new.self.text c.put_number.new.self.text c.put-4.new.self.text c.put_number-2.new.self.text
    (codes "policy: not splittable ") c.args.name.now (codes " ") (decimal (line_of source place)) (codes ":") (decimal (column_of source place))
    c.put.ensures.text c.put-2.ensures.text c.put-3.ensures.text (rw c.line_of.ensures.line at c.put_number.ensures.text) c.put-4.ensures.text
    (rw c.column_of.ensures.column at c.put_number-2.ensures.text) in
    ap (Refused Policy) (text ∙ ap (λ (t : List ℕ). t ++ splitting_line source c.args.name.now place) c.begin-line.ensures.text)

use Rattle.std.proofs.Common.{◌++◌, map, sym, ap, ◌∙◌}
use Rattle.std.proofs.lemmas.List.{append-nil}
use Rattle.cw_starts.specs.Owning.{own_in}
use Rattle.cw_starts.proofs.Forms.{no_for}
use Rattle.cw_starts.proofs.owns.put_statement.Goals as goal

pub returns-in-For : goal.returns-in-For
returns-in-For c =
    let out = map own_in c.args.out.now.items in
    sym (ap (λ l. out ++ l) (no_for c.args.statement.now c.in-For.field-0 c.in-For.field-1 c.in-For.is) ∙ append-nil out)

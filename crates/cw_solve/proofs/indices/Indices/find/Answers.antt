use Rattle.cw_lemmas.proofs.Options.{where_none}
use Rattle.cw_solve.proofs.Indexed.{is_nowhere}
use Rattle.cw_solve.proofs.indices.Indices.find.Goals as goal

pub returns-clause-none : goal.returns-clause-none
returns-clause-none c =
    where_none c.find_among.result c.find_among.ensures.none
    (is_nowhere c.args.self.now c.args.contexts.now c.args.function c.args.promise.now c.list.result.now c.list.ensures)

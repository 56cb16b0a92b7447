use Rattle.cw_solve.proofs.Calling.{index_some, index_lacks}
use Rattle.cw_solve.proofs.indices.Indices.index_of.Goals as goal

pub returns-in-None-clause-some : goal.returns-in-None-clause-some
returns-in-None-clause-some c = index_some c.args.contexts.now c.args.function c.args.promise.now c.index_of.result c.index_of.ensures.index

pub returns-in-None-clause-none : goal.returns-in-None-clause-none
returns-in-None-clause-none c = index_lacks c.args.contexts.now c.args.function c.args.promise.now c.index_of.result c.index_of.ensures.index

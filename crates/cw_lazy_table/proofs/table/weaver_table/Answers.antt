use Rattle.std.proofs.Common.{rules, ◌<◌, length}
use Rattle.cw_product.specs.Product.{game_of}
use Rattle.cw_certs.specs.Tables.{Table}
use Rattle.cw_lazy_table.specs.Lazy.{IsLazyTable, table_rows}
use Rattle.cw_lazy_table.proofs.Existing.{lazy_there}
use Rattle.cw_lazy_table.proofs.Starting.{is_ready, ready_good, ready_lost}
use Rattle.cw_lazy_table.proofs.table.weaver_table.Goals as goal

pub table_within-requires : goal.table_within-requires
table_within-requires c =
    record { ready = is_ready c.args.game.now c.args.solved.now c.requires.made c.requires.solved c.requires.kept c.fact_contexts_are_needed.ensures c.fact_heights_are_low.ensures }

pub returns-in-Ok-Some-clause-good : goal.returns-in-Ok-Some-clause-good
returns-in-Ok-Some-clause-good c =
    let lazy : IsLazyTable (game_of c.args.game.now) c.in-Ok-Some.table = search rules in
    ready_good c.args.game.now c.args.solved.now (is_ready c.args.game.now c.args.solved.now c.requires.made c.requires.solved c.requires.kept c.fact_contexts_are_needed.ensures
    c.fact_heights_are_low.ensures) c.in-Ok-Some.table lazy

pub returns-in-Ok-Some-clause-lost : goal.returns-in-Ok-Some-clause-lost
returns-in-Ok-Some-clause-lost c =
    let lazy : IsLazyTable (game_of c.args.game.now) c.in-Ok-Some.table = search rules in
    ready_lost c.args.game.now c.args.solved.now (is_ready c.args.game.now c.args.solved.now c.requires.made c.requires.solved c.requires.kept c.fact_contexts_are_needed.ensures
    c.fact_heights_are_low.ensures) c.in-Ok-Some.table lazy

pub returns-in-Ok-None-clause-there : goal.returns-in-Ok-None-clause-there
returns-in-Ok-None-clause-there c =
    let ready = is_ready c.args.game.now c.args.solved.now c.requires.made c.requires.solved c.requires.kept c.fact_contexts_are_needed.ensures c.fact_heights_are_low.ensures in
    let t = lazy_there (game_of c.args.game.now) (length c.args.game.now.graph.parts.items) ready.begins ready.low in
    let many : (t : Table) → IsLazyTable (game_of c.args.game.now) t → 65536 < table_rows t = search rules in
    λ e. (t.0, t.1, many t.0 t.1)

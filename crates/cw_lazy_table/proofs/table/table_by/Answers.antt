use Rattle.std.proofs.Common.{rules, ◌+◌, ◌<◌, ◌≤◌, List, length, sym, subst, ap, arith}
use Rattle.cw_fixpoint.specs.Closures.{Exactly}
use Rattle.cw_joins.specs.Members.{HaveMore, IsMember, IsPair, pair_cmp}
use Rattle.cw_certs.specs.Tables.{Table}
use Rattle.cw_product.specs.Product.{game_of}
use Rattle.cw_lazy_table.specs.declared.key.Key.{Key}
use Rattle.cw_lazy_table.specs.Lazy.{table_rows}
use Rattle.cw_lazy_table.specs.Numbered.{numbered, ArePromises}
use Rattle.cw_lazy_table.specs.SeamKeys.{key_cmp}
use Rattle.cw_lazy_table.proofs.Counting.{many_members}
use Rattle.cw_lazy_table.proofs.Numbering.{start_take, are_numbered, are_paired, more_whole}
use Rattle.cw_lazy_table.proofs.Sameness.{lazy_is_one}
use Rattle.cw_lazy_table.proofs.table.table_by.Goals as goal

pub joined_up_to-requires-clause-can : goal.joined_up_to-requires-clause-can
joined_up_to-requires-clause-can c =
    start_take c.args.game.now c.args.solved.now c.requires.ready c.args.promises.now
    c.requires.promises c.start_key-start.result c.start_key-start.ensures

pub returns-in-None-clause-many : goal.returns-in-None-clause-many
returns-in-None-clause-many c =
    let g = game_of c.args.game.now in
    let es = c.args.promises.now in
    let functions = length c.args.game.now.graph.parts.items in
    let more : HaveMore key_cmp (numbered (game_of c.args.game.now) c.args.promises.now) c.start_key-start.result 65536 = search rules in
    many_members g functions c.requires.ready.begins c.requires.ready.low 65536
    (more_whole g functions c.requires.ready.begins c.requires.ready.low es
    c.requires.promises 65536
    (subst (λ (k : Key). HaveMore key_cmp (numbered (game_of c.args.game.now) c.args.promises.now) k 65536) c.start_key-start.ensures more))

pub numbered_table-requires-clause-live : goal.numbered_table-requires-clause-live
numbered_table-requires-clause-live c =
    let are : Exactly key_cmp (IsMember (numbered (game_of c.args.game.now) c.args.promises.now) c.start_key-start.result) c.in-Some.joined.members.items = search rules in
    let few : length c.in-Some.joined.members.items + length c.in-Some.joined.pairs.items ≤ 65536 = search rules in
    let long = ap (λ (l : List Key). length l) c.deref.ensures.value in
    are_numbered c.args.game.now c.args.solved.now c.requires.ready c.args.promises.now
    c.requires.promises c.deref.result.now
    (subst (λ (k : Key). Exactly key_cmp (IsMember (numbered (game_of c.args.game.now) c.args.promises.now) k) c.deref.result.now) c.start_key-start.ensures
    (subst (λ (l : List Key). Exactly key_cmp (IsMember (numbered (game_of c.args.game.now) c.args.promises.now) c.start_key-start.result) l) (sym c.deref.ensures.value) are))
    (omega (arith, few, long))

pub numbered_table-requires-clause-returns : goal.numbered_table-requires-clause-returns
numbered_table-requires-clause-returns c =
    let are : Exactly (pair_cmp key_cmp) (IsPair (numbered (game_of c.args.game.now) c.args.promises.now) c.start_key-start.result) c.in-Some.joined.pairs.items = search rules in
    are_paired c.args.game.now c.args.solved.now c.requires.ready c.args.promises.now
    c.requires.promises c.deref-in-Some.result.now
    (subst (λ (k : Key). Exactly (pair_cmp key_cmp) (IsPair (numbered (game_of c.args.game.now) c.args.promises.now) k) c.deref-in-Some.result.now) c.start_key-start.ensures
    (subst (λ (l : List (Key × Key)). Exactly (pair_cmp key_cmp) (IsPair (numbered (game_of c.args.game.now) c.args.promises.now) c.start_key-start.result) l)
    (sym c.deref-in-Some.ensures.value) are))

pub returns-then-is_long-clause-many : goal.returns-then-is_long-clause-many
returns-then-is_long-clause-many c = λ t lazy.
    let same = lazy_is_one (game_of c.args.game.now) c.in_ok-table-in-Some.table t c.in_ok-table-in-Some.ensures lazy in
    let long : 65536 < table_rows c.in_ok-table-in-Some.table = search rules in
    subst (λ (t : Table). 65536 < table_rows t) same long

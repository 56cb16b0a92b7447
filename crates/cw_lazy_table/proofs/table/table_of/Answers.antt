use Rattle.std.proofs.Common.{ℕ, ◌<◌, List, map, filter_map, length, sym, subst, ap, ◌∙◌}
use Rattle.std.specs.List.{Contains}
use Rattle.cw_core.specs.declared.ids.StateId.{StateId}
use Rattle.cw_core.specs.declared.ids.MemId.{MemId}
use Rattle.cw_certs.specs.Tables.{Table}
use Rattle.cw_fixpoint.specs.Closures.{Exactly}
use Rattle.cw_game.specs.Pairs.{all_states}
use Rattle.cw_product.specs.Product.{game_of}
use Rattle.cw_lazy_table.specs.declared.key.Key.{Key}
use Rattle.cw_lazy_table.specs.declared.seam_key.SeamKey.{SeamKey}
use Rattle.cw_lazy_table.specs.Kinds as kind
use Rattle.cw_lazy_table.specs.Lazy.{Means, IsLazyTable}
use Rattle.cw_lazy_table.specs.Numbered.{whole_memory, ArePromised}
use Rattle.cw_lazy_table.specs.SeamKeys.{AreOfKind, return_cmp, return_of}
use Rattle.cw_lazy_table.proofs.Keeps.{position, start_means, live_are, pair_position, return_promises}
use Rattle.cw_lazy_table.proofs.Tabled.{lazy_of, lazy_ascends}
use Rattle.cw_lazy_table.proofs.table.table_of.Goals as goal

pub mem-start-requires : goal.mem-start-requires
mem-start-requires c = record { mems = c.requires.mems.order }

pub live_rows-requires : goal.live_rows-requires
live_rows-requires c = record { mems = c.requires.mems.order }

pub tries-requires-clause-mems : goal.tries-requires-clause-mems
tries-requires-clause-mems c = c.requires.mems

pub labels-requires-clause-mems : goal.labels-requires-clause-mems
labels-requires-clause-mems c = c.requires.mems

pub opens-requires-clause-mems : goal.opens-requires-clause-mems
opens-requires-clause-mems c = c.requires.mems

pub closes-requires-clause-mems : goal.closes-requires-clause-mems
closes-requires-clause-mems c = c.requires.mems

pub calls-requires-clause-mems : goal.calls-requires-clause-mems
calls-requires-clause-mems c = c.requires.mems

pub backs-requires-clause-mems : goal.backs-requires-clause-mems
backs-requires-clause-mems c = c.requires.mems

pub unreachable-requires : goal.unreachable-requires
unreachable-requires c =
    let lazy = lazy_of (game_of c.args.game.now) c.states-states.result c.mem-start.result (map (whole_memory c.args.promises.now) c.args.mems.now)
    c.in_ok-named.named.items c.in_ok-live.live.items
    c.in_ok-tries.tries.items c.in_ok-labels.labels.items c.in_ok-opens.opens.items
    c.in_ok-closes.closes.items c.in_ok-calls.calls.items c.in_ok-backs.backs.items (ap (map (whole_memory c.args.promises.now)) (sym c.list.ensures) ∙ sym c.in_ok-named.ensures) c.states-states.ensures
    (subst (λ (m : MemId). Means (map (whole_memory c.args.promises.now) c.args.mems.now) m.0 (game_of c.args.game.now).states.start (all_states (game_of c.args.game.now)))
    (sym c.mem-start.ensures)
    (start_means c.args.game.now c.args.promises.now c.args.keys.now c.requires.live c.args.mems.now
    c.requires.mems c.start_key-start.result.state c.start_key-start.result.promise
    (ap (λ (k : Key). k.state) c.start_key-start.ensures) (ap (λ (k : Key). k.promise) c.start_key-start.ensures)))
    c.requires.mems.all
    (live_are c.args.game.now c.args.promises.now c.args.keys.now c.requires.live c.args.mems.now
    c.requires.mems c.in_ok-live.live.items c.in_ok-live.ensures)
    c.in_ok-tries.ensures c.in_ok-labels.ensures c.in_ok-opens.ensures c.in_ok-closes.ensures c.in_ok-calls.ensures c.in_ok-backs.ensures in
    c.in-None.ensures.refused (lazy_ascends (game_of c.args.game.now) _ lazy)

pub returns : goal.returns
returns c =
    let lazy = lazy_of (game_of c.args.game.now) c.states-states.result c.mem-start.result (map (whole_memory c.args.promises.now) c.args.mems.now)
    c.in_ok-named.named.items c.in_ok-live.live.items
    c.in_ok-tries.tries.items c.in_ok-labels.labels.items c.in_ok-opens.opens.items
    c.in_ok-closes.closes.items c.in_ok-calls.calls.items c.in_ok-backs.backs.items (ap (map (whole_memory c.args.promises.now)) (sym c.list.ensures) ∙ sym c.in_ok-named.ensures) c.states-states.ensures
    (subst (λ (m : MemId). Means (map (whole_memory c.args.promises.now) c.args.mems.now) m.0 (game_of c.args.game.now).states.start (all_states (game_of c.args.game.now)))
    (sym c.mem-start.ensures)
    (start_means c.args.game.now c.args.promises.now c.args.keys.now c.requires.live c.args.mems.now
    c.requires.mems c.start_key-start.result.state c.start_key-start.result.promise
    (ap (λ (k : Key). k.state) c.start_key-start.ensures) (ap (λ (k : Key). k.promise) c.start_key-start.ensures)))
    c.requires.mems.all
    (live_are c.args.game.now c.args.promises.now c.args.keys.now c.requires.live c.args.mems.now
    c.requires.mems c.in_ok-live.live.items c.in_ok-live.ensures)
    c.in_ok-tries.ensures c.in_ok-labels.ensures c.in_ok-opens.ensures c.in_ok-closes.ensures c.in_ok-calls.ensures c.in_ok-backs.ensures in
    subst (λ (t : Table). IsLazyTable (game_of c.args.game.now) t) (sym c.in-Some.ensures.made) lazy

pub whole_memories-requires : goal.whole_memories-requires
whole_memories-requires c = record {
  within = subst (λ (ms : List (StateId × ℕ)). (m : StateId × ℕ) → Contains ms m → m.1 < length c.args.promises.now) (sym c.list.ensures) c.requires.mems.within;
}

pub start_key-start-requires-clause-promises : goal.start_key-start-requires-clause-promises
start_key-start-requires-clause-promises c = c.requires.live.promises

pub seam_keys-requires : goal.seam_keys-requires
seam_keys-requires c = position c.args.game.now c.args.promises.now c.args.keys.now c.requires.live

pub tries-requires-clause-asked : goal.tries-requires-clause-asked
tries-requires-clause-asked c =
    subst (λ (l : List SeamKey). AreOfKind (game_of c.args.game.now) kind.Asked c.args.keys.now l) (sym c.deref.ensures.value) c.in_ok-seam_keys.ensures.asked

pub labels-requires-clause-labels : goal.labels-requires-clause-labels
labels-requires-clause-labels c =
    subst (λ (l : List SeamKey). AreOfKind (game_of c.args.game.now) kind.Label c.args.keys.now l) (sym c.deref-2.ensures.value) c.in_ok-seam_keys.ensures.labels

pub opens-requires-clause-opens : goal.opens-requires-clause-opens
opens-requires-clause-opens c =
    subst (λ (l : List SeamKey). AreOfKind (game_of c.args.game.now) kind.Open c.args.keys.now l) (sym c.deref-3.ensures.value) c.in_ok-seam_keys.ensures.opens

pub closes-requires-clause-closes : goal.closes-requires-clause-closes
closes-requires-clause-closes c =
    subst (λ (l : List SeamKey). AreOfKind (game_of c.args.game.now) kind.Close c.args.keys.now l) (sym c.deref-4.ensures.value) c.in_ok-seam_keys.ensures.closes

pub calls-requires-clause-calls : goal.calls-requires-clause-calls
calls-requires-clause-calls c =
    subst (λ (l : List SeamKey). AreOfKind (game_of c.args.game.now) kind.Call c.args.keys.now l) (sym c.deref-5.ensures.value) c.in_ok-seam_keys.ensures.calls

pub returns-requires : goal.returns-requires
returns-requires c = pair_position c.args.game.now c.args.promises.now c.args.pairs.now c.requires.returns

pub calls-requires-clause-promised : goal.calls-requires-clause-promised
calls-requires-clause-promised c =
    subst (λ (l : List (SeamKey × Key)). ArePromised (game_of c.args.game.now) c.args.promises.now l) (sym c.deref-6.ensures.value)
    (return_promises c.args.game.now c.args.promises.now c.args.pairs.now c.requires.returns c.in_ok-returns.returns.items c.in_ok-returns.ensures)

pub backs-requires-clause-returns : goal.backs-requires-clause-returns
backs-requires-clause-returns c =
    subst (λ (l : List (SeamKey × Key)). Exactly return_cmp (Contains (filter_map (return_of (game_of c.args.game.now)) c.args.pairs.now)) l) (sym c.deref-7.ensures.value) c.in_ok-returns.ensures

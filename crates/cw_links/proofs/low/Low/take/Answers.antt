use Rattle.std.proofs.Common.{◌≡◌, ◌<◌, ◌≤◌, ℕ, List, [], set, rules, subst, arith}
use Rattle.std.specs.Global.{Vec}
use Rattle.cw_links.specs.Lists.{list_at}
use Rattle.cw_links.specs.Low.{stacks_in}
use Rattle.cw_links.specs.Queues.{Takes}
use Rattle.cw_links.proofs.Lows.{low_set, pops_vector, takes_first}
use Rattle.cw_links.proofs.low.Low.take.Goals as goal
use Rattle.cw_links.proofs.low.Low.take.Goals.{in-None, in-Some}

clear_in : (vs ws : List (Vec ℕ)) (floor key : ℕ) → ws ≡ vs → ((k : ℕ) → floor ≤ k → k < key → list_at (stacks_in ws) k ≡ []) → (k : ℕ) → floor ≤ k → k < key → list_at (stacks_in vs) k ≡ []
clear_in vs ws floor key e clear = subst (λ (us : List (Vec ℕ)). (k : ℕ) → floor ≤ k → k < key → list_at (stacks_in us) k ≡ []) e clear

pub invariant_of-self-2 : goal.invariant_of-self-2
invariant_of-self-2 c =
    let s = c.self.inside in
    let key = c.lowest-key.result in
    low_set s.stacks.items s.floor key c.pop.new.self c.self.invariant c.lowest-key.ensures.from (clear_in s.stacks.items c.deref.result.now s.floor key c.deref.ensures.value c.lowest-key.ensures.clear)

pub returns-clause-taken : goal.returns-clause-taken
returns-clause-taken c =
    let s = c.self.inside in
    let vs = s.stacks.items in
    let key = c.lowest-key.result in
    let new = c.pop.new.self in
    elim c.match-pop.branch [
      | in-None w ↦ rw w.result-is (search rules)
      | in-Some w ↦
          rw w.result-is
          (subst (λ (low : List (List ℕ)). Takes low (stacks_in (set vs key new)) w.in-Some.element key) c.self.view_is
          (takes_first (stacks_in vs) s.floor key c.self.invariant c.lowest-key.ensures.from
          (clear_in vs c.deref.result.now s.floor key c.deref.ensures.value c.lowest-key.ensures.clear) (stacks_in (set vs key new)) w.in-Some.element
          (pops_vector vs key c.index_mut.result.now new (omega (arith, c.if-key-len.false, c.len.ensures)) c.index_mut.ensures.value w.in-Some.element w.in-Some.ensures.items)))
    ]

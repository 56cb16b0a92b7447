use Rattle.std.proofs.Common.{◌≡◌, ◌<◌, ℕ, List, [], subst}
use Rattle.cw_links.specs.Lists.{list_at}
use Rattle.cw_links.specs.Queues.{HasLower}
use Rattle.cw_links.proofs.Lows.{clear_joined, lower_low, lower_behind}
use Rattle.cw_links.proofs.later.Later.is_clear_below.Goals as goal

pub returns-then-not-is_clear_below-clause-some : goal.returns-then-not-is_clear_below-clause-some
returns-then-not-is_clear_below-clause-some c = λ no.
    let s = c.self.inside in
    subst (λ (ls : List (List ℕ)). HasLower ls c.args.key) c.self.view_is (lower_low s.low s.queue c.args.key (c.is_clear_below.ensures.some c.if-not-is_clear_below.true))

pub returns-clause-clear : goal.returns-clause-clear
returns-clause-clear c = λ yes.
    let s = c.self.inside in
    subst (λ (ls : List (List ℕ)). (k : ℕ) → k < c.args.key → list_at ls k ≡ []) c.self.view_is
    (clear_joined s.low s.queue c.args.key (c.is_clear_below.ensures.clear c.if-not-is_clear_below.false) (c.is_clear_below-2.ensures.clear yes))

pub returns-clause-some : goal.returns-clause-some
returns-clause-some c = λ no.
    let s = c.self.inside in
    subst (λ (ls : List (List ℕ)). HasLower ls c.args.key) c.self.view_is (lower_behind s.low s.queue c.args.key c.self.invariant (c.is_clear_below-2.ensures.some no))

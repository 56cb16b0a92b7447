use Rattle.std.proofs.Common.{ℕ, List, subst, arith}
use Rattle.cw_links.specs.Low.{joined}
use Rattle.cw_links.specs.Queues.{Puts}
use Rattle.cw_links.proofs.Lows.{puts_low, puts_behind}
use Rattle.cw_links.proofs.later.Later.put.Goals as goal

pub returns-then-key-keys-clause-put : goal.returns-then-key-keys-clause-put
returns-then-key-keys-clause-put c =
    let s = c.self.inside in
    subst (λ (ls : List (List ℕ)). Puts ls (joined c.put.new.self s.queue) c.args.element c.args.key) c.self.view_is
    (puts_low s.low c.put.new.self s.queue c.args.element c.args.key c.put.ensures.keys (omega (arith, c.if-key-keys.true, c.keys.ensures)) c.in_ok-put.ensures.put)

pub returns-clause-put : goal.returns-clause-put
returns-clause-put c =
    let s = c.self.inside in
    subst (λ (ls : List (List ℕ)). Puts ls (joined s.low c.put-2.new.self) c.args.element c.args.key) c.self.view_is
    (puts_behind s.low s.queue c.put-2.new.self c.args.element c.args.key (omega (arith, c.if-key-keys.false, c.keys.ensures)) c.in_ok-put-2.ensures.put)

use Rattle.std.proofs.Common.{◌∙◌, ℕ, List, set, sym, subst, arith}
use Rattle.cw_links.specs.Low.{stacks_in, AreLow}
use Rattle.cw_links.specs.Queues.{Puts}
use Rattle.cw_links.proofs.Lows.{err_holds, within_vectors, stacks_set, pushes_vector, same_vector, low_put}
use Rattle.cw_links.proofs.low.Low.put.Goals as goal

pub invariant_of-self : goal.invariant_of-self
invariant_of-self c =
    let vs = c.self.inside.stacks.items in
    let lt = within_vectors vs c.args.self.now c.args.key c.self.view_is c.requires.within in
    subst (λ (ls : List (List ℕ)). AreLow ls c.self.inside.floor)
    (sym (same_vector vs c.args.key c.index_mut.result.now c.push.new.self lt c.index_mut.ensures.value c.in_err-push.ensures.items)) c.self.invariant

pub returns-in_err-push-clause-refused : goal.returns-in_err-push-clause-refused
returns-in_err-push-clause-refused c =
    let vs = c.self.inside.stacks.items in
    let lt = within_vectors vs c.args.self.now c.args.key c.self.view_is c.requires.within in
    err_holds c.from_residual.result (same_vector vs c.args.key c.index_mut.result.now c.push.new.self lt c.index_mut.ensures.value c.in_err-push.ensures.items ∙ c.self.view_is)

pub invariant_of-self-2 : goal.invariant_of-self-2
invariant_of-self-2 c =
    let vs = c.self.inside.stacks.items in
    let lt = within_vectors vs c.args.self.now c.args.key c.self.view_is c.requires.within in
    let least = c.min-self-inside.ensures in
    let above = c.self.invariant.above in
    low_put (stacks_in vs) (stacks_in (set vs c.args.key c.push.new.self)) c.self.inside.floor c.args.key c.args.element c.min-self-inside.result c.self.invariant
    (pushes_vector vs c.args.key c.index_mut.result.now c.push.new.self lt c.index_mut.ensures.value c.args.element c.in_ok-push.ensures.items)
    (stacks_set vs c.args.key c.push.new.self) (omega (arith, least, above, c.requires.some)) (omega (arith, least)) (omega (arith, least))

pub returns-clause-put : goal.returns-clause-put
returns-clause-put c =
    let vs = c.self.inside.stacks.items in
    let lt = within_vectors vs c.args.self.now c.args.key c.self.view_is c.requires.within in
    subst (λ (low : List (List ℕ)). Puts low (stacks_in (set vs c.args.key c.push.new.self)) c.args.element c.args.key) c.self.view_is
    (pushes_vector vs c.args.key c.index_mut.result.now c.push.new.self lt c.index_mut.ensures.value c.args.element c.in_ok-push.ensures.items)

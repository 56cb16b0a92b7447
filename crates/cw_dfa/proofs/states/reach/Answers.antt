use Rattle.std.proofs.Common.{ℕ, subst}
use Rattle.std.proofs.lemmas.Option.{IfSome_then}
use Rattle.cw_lemmas.proofs.Options.{where_none}
use Rattle.cw_dfa.specs.Verdicts.{rules_of}
use Rattle.cw_dfa.specs.States.{steps, after_masks, Least, Exactly, HasMore}
use Rattle.cw_dfa.proofs.Masked.{to_steps, from_steps}
use Rattle.cw_dfa.proofs.Reach.{exactly, has_more}
use Rattle.cw_dfa.proofs.states.reach.Goals as goal

pub returns-clause-some : goal.returns-clause-some
returns-clause-some c =
    let all = rules_of c.args.rules.now in
    let masks = c.args.masks.now in
    IfSome_then c.in_ok-keys.keys c.in_ok-keys.ensures.reached (λ v h letters are.
    subst (λ (k : ℕ). Exactly (Least (steps all letters) k) v.items) c.start.ensures.one
    (exactly (after_masks all masks) (steps all letters) c.start.result (to_steps all letters masks are) (from_steps all letters masks are) v.items h))

pub returns-clause-none : goal.returns-clause-none
returns-clause-none c =
    let all = rules_of c.args.rules.now in
    let masks = c.args.masks.now in
    where_none c.in_ok-keys.keys c.in_ok-keys.ensures.many (λ h letters are.
    subst (λ (k : ℕ). HasMore (Least (steps all letters) k) 64) c.start.ensures.one
    (has_more (after_masks all masks) (steps all letters) c.start.result (to_steps all letters masks are) (from_steps all letters masks are) 64 h))

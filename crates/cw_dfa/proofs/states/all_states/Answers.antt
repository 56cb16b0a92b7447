use Rattle.std.proofs.Common.{◌≡◌, ℕ, List, map, ◌∙◌, sym, subst}
use Rattle.std.specs.List.{Contains}
use Rattle.std.proofs.lemmas.Result.{IfOk-weaker}
use Rattle.cw_dfa.specs.Positions.{bad_of}
use Rattle.cw_dfa.specs.Tables.{matching}
use Rattle.cw_dfa.specs.States.{AreMasks}
use Rattle.cw_dfa.specs.Verdicts.{rules_of}
use Rattle.cw_dfa.proofs.states.all_states.Goals as goal

own : (c : goal.After-drop-masks) → AreMasks (rules_of c.args.rules.now) c.args.letters.now c.deref.result.now
own c m =
    let e : c.deref.result.now ≡ map (matching (bad_of (rules_of c.args.rules.now)) 1) c.args.letters.now = c.deref.ensures.value ∙ c.in-Ok.ensures in
    (λ h. subst (λ (l : List ℕ). Contains l m) e h, λ h. subst (λ (l : List ℕ). Contains l m) (sym e) h)

pub returns-in-Ok-clause-states : goal.returns-in-Ok-clause-states
returns-in-Ok-clause-states c = IfOk-weaker c.states_by_masks.result _ _ (λ v h. h c.args.letters.now (own c)) c.states_by_masks.ensures.states

pub returns-in-Ok-clause-many : goal.returns-in-Ok-clause-many
returns-in-Ok-clause-many c e = c.states_by_masks.ensures.many e c.args.letters.now (own c)

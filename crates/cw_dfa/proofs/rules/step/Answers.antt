use Rattle.std.proofs.Common.{ap₂, sym, ◌∙◌, subst, ◌++◌, ◌∷◌, []}
use Rattle.std.specs.Int.RustNames.{bit_and}
use Rattle.cw_dfa.specs.Positions.{IsSetOf}
use Rattle.cw_dfa.specs.Verdicts.{rules_of}
use Rattle.cw_dfa.proofs.Following.{next_masked}
use Rattle.cw_dfa.proofs.Whole.{next_set}
use Rattle.cw_dfa.proofs.rules.step.Goals as goal

pub returns-clause-longer : goal.returns-clause-longer
returns-clause-longer c w h =
    let all = rules_of c.args.rules.now in
    let is = ap₂ bit_and c.ahead.ensures c.mask.ensures ∙ sym (next_masked all c.args.set c.args.letter.now) in
    subst (IsSetOf all (w ++ c.args.letter.now ∷ [])) (sym is) (next_set all w c.args.set c.args.letter.now h)

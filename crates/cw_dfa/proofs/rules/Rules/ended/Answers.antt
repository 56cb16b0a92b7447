use Rattle.std.proofs.Common.{◌≡◌, length, take, ap, sym, ◌∙◌}
use Rattle.std.proofs.lemmas.List.{length-map}
use Rattle.cw_rights.specs.Policies.{rule_of}
use Rattle.cw_dfa.specs.Tables.{first_met, lasts_of}
use Rattle.cw_dfa.specs.Verdicts.{rules_of, verdict}
use Rattle.cw_dfa.proofs.Meeting.{verdict_met}
use Rattle.cw_dfa.proofs.rules.Rules.ended.Goals as goal

pub returns : goal.returns
returns c =
    let own = c.self.inside.rules.now in
    let last = c.self.inside.tables.last in
    let rows : take (length own) last ≡ lasts_of (rules_of own) 1 = ap (λ n. take n last) (sym (length-map own rule_of)) ∙ c.self.invariant.tables.last in
    c.first_met.ensures ∙ ap (λ l. first_met l 0 c.args.set) rows ∙ sym (verdict_met (rules_of own) 0 1 c.args.set) ∙ ap (λ l. verdict (rules_of l) 0 1 c.args.set) c.self.view_is

use Rattle.std.proofs.Common.{◌∙◌, sym}
use Rattle.cw_least_strategy.proofs.Parts.{as_long}
use Rattle.cw_least_strategy.proofs.strategy.LeastStrategy.count.Goals as goal

pub returns : goal.returns
returns c =
    let s = c.self.inside in
    c.len.ensures ∙ s.keys.ok.0 ∙ sym (as_long c.args.self.now s.states s.aims.items s.keys.items s.hows.items c.self.view_is c.self.invariant.long)

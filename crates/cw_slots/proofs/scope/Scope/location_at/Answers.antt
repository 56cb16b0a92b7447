use Rattle.std.proofs.Common.{ap, ◌∙◌}
use Rattle.cw_syntax.specs.Names.{slice}
use Rattle.cw_slots.specs.Standing.{location_among, Seen}
use Rattle.cw_slots.proofs.scope.Scope.location_at.Goals as goal

pub returns-in-Some : goal.returns-in-Some
returns-in-Some c = record {
  location = c.in-Some.ensures ∙ ap (λ (s : Seen). location_among s.own s.shared (slice s.source c.args.from c.args.to)) c.args.self.now.stand_here;
}

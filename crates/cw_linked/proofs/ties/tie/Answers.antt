use Rattle.std.proofs.Common.{◌≡◌, ◌+◌, ℕ, subst}
use Rattle.std.specs.Prelude.{slice_set}
use Rattle.cw_linked.proofs.Staying.{known_on}
use Rattle.cw_linked.proofs.Tieing.{tied_callers}
use Rattle.cw_linked.proofs.ties.tie.Goals as goal

pub returns : goal.returns
returns c =
    let w = c.args.work.now in
    let t = c.tie.ensures in
    let to = subst (λ (n : ℕ). c.tie.new.self.to ≡ slice_set w.store.to c.args.index (n + 1)) c.number.ensures t.to in
    let known = known_on w c.tie.new.self.heights t.heights in
    record {
      known = known;
      flags = t.flags;
      asked = t.asked;
      due = t.due;
      to = to;
      waves = t.waves;
      callers = tied_callers w _ c.args.index c.args.callee.now.number c.requires.callers c.requires.within c.requires.number c.requires.long.to known t.lists to;
    }

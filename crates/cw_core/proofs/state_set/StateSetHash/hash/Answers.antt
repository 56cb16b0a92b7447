use Rattle.std.proofs.Common.{◌≡◌, ◌∙◌, sym, ap}
use Rattle.cw_core.specs.Limbs.{limbs_of, limbs_of-number_of}
use Rattle.cw_core.proofs.state_set.StateSetHash.hash.Goals as goal

pub returns : goal.returns
returns g c =
    let same : limbs_of 16 c.args.self.now ≡ c.self.inside.limbs = ap (limbs_of 16) (sym c.self.view_is) ∙ limbs_of-number_of 16 c.self.inside.limbs c.self.invariant.0 c.self.invariant.1 in
    rw same c.hash.ensures

use Rattle.std.proofs.Common.{◌≡◌, ℕ, ◌<◌, ◌*◌, ◌∙◌, sym, arith, get_or, inl, inr}
use Rattle.std.proofs.lemmas.Bool.{cases_lt}
use Rattle.std.proofs.lemmas.List.{get_or-set_other}
use Rattle.cw_core.proofs.Bits.{has-complement, other_bits, other_bits-lt, other_bits_more, other_bits_past}
use Rattle.cw_core.proofs.Limbs.{AreSixteenLimbs-set, AreLimbs-at}
use Rattle.cw_core.proofs.state_set.StateSet.complement_in.Goals as goal

pub loop-i-preserved : goal.loop-i-preserved
loop-i-preserved c =
    let v = c.loop-i.invariant in
    rw (c.ones_below.ensures.ones, c.saturating_sub.ensures) (record {
      fit = AreSixteenLimbs-set c.loop-i.limbs c.loop-i.i _ v.fit (other_bits-lt c.args.n (64 * c.loop-i.i) (get_or c.self.inside.limbs c.loop-i.i 0) (AreLimbs-at c.self.inside.limbs c.loop-i.i c.self.invariant.0));
      each = other_bits_more c.args.n c.self.inside.limbs c.loop-i.limbs c.loop-i.i (omega (arith, v.fit.1)) v.each;
      rest = λ k past. get_or-set_other c.loop-i.limbs c.loop-i.i k _ 0 (λ e. omega (arith, e, past)) ∙ v.rest k (omega (arith, past));
    })

pub returns : goal.returns
returns c =
    let v = c.loop-i.invariant in
    let each : (k : ℕ) → k < 16 → get_or c.loop-i.limbs k 0 ≡ other_bits c.args.n (64 * k) (get_or c.self.inside.limbs k 0) = λ k below. elim (cases_lt k c.loop-i.i) [
      | inl lt ↦ v.each k lt
      | inr le ↦ v.rest k le ∙ sym (other_bits_past c.args.n (64 * k) (get_or c.self.inside.limbs k 0) (omega (arith, le)))
    ] in
    record { members = λ i. rw (← c.self.view_is) (has-complement c.args.n c.self.inside.limbs c.loop-i.limbs c.requires.in_range c.self.invariant v.fit each i) }

use Rattle.std.proofs.Common.{◌≡◌, ◌+◌, ◌-◌, ◌/◌, ◌≤◌, length, arith, ◌∙◌}
use Rattle.cw_links.proofs.Bits.{length-flags_of}
use Rattle.cw_links.proofs.Plain.{limbs_missing, plain_kept, plain_flags}
use Rattle.cw_links.proofs.flags.Flags.push_plain.Goals as goal

pub begin_limbs-requires-clause-few : goal.begin_limbs-requires-clause-few
begin_limbs-requires-clause-few c =
    let s = c.self.inside in
    let few : s.count + c.args.many ≤ 4294967295 = rw (← c.self.view_is, length-flags_of) at c.requires.few in
    let enough = limbs_missing s.limbs.items s.count c.args.many c.div_ceil.result c.len.result c.self.invariant.long c.div_ceil.ensures (c.len.ensures ∙ s.limbs.ok.0) in
    omega (arith, enough, few)

few : (c : goal.After-self-1) → c.self.inside.count + c.args.many ≤ 4294967295
few c = rw (← c.self.view_is, length-flags_of) at c.requires.few

enough : (c : goal.After-self-1) → length c.self.inside.limbs.items + (c.div_ceil.result - c.len.result) ≡ (c.self.inside.count + c.args.many + 63) / 64
enough c =
    let s = c.self.inside in
    limbs_missing s.limbs.items s.count c.args.many c.div_ceil.result c.len.result c.self.invariant.long c.div_ceil.ensures (c.len.ensures ∙ s.limbs.ok.0)

pub invariant_of-self-2 : goal.invariant_of-self-2
invariant_of-self-2 c =
    let s = c.self.inside in
    rw (c.in_ok-begin_limbs.ensures.limbs, c.in_ok-begin_limbs.ensures.before)
    (plain_kept s.limbs.items s.before.items s.count s.flagged c.args.many (c.div_ceil.result - c.len.result) c.self.invariant (few c) (enough c))

pub returns-clause-pushed : goal.returns-clause-pushed
returns-clause-pushed c =
    let s = c.self.inside in
    rw (← c.self.view_is, c.in_ok-begin_limbs.ensures.limbs)
    (plain_flags s.limbs.items s.before.items s.count s.flagged c.args.many (c.div_ceil.result - c.len.result) c.self.invariant (few c) (enough c))

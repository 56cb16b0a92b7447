use Rattle.std.proofs.Common.{◌≡◌, ◌<◌, arith}
use Rattle.cw_links.proofs.Bits.{length-flags_of, push_leaves}
use Rattle.cw_links.proofs.flags.Flags.push.Goals as goal

pub overflow_add-self : goal.overflow_add-self
overflow_add-self c =
    let s = c.self.inside in
    let few = rw (← c.self.view_is) at c.requires.few in
    record {
      fits = (push_leaves s.limbs.items s.before.items c.begin_limb.new.limbs.items c.begin_limb.new.before.items s.count s.flagged
          c.index_mut.result.now c.from-2.result c.args.flag
          c.self.invariant few c.in_ok-begin_limb.ensures.limbs c.in_ok-begin_limb.ensures.before c.index_mut.ensures.value c.from-2.ensures).fits;
    }

pub invariant_of-self-2 : goal.invariant_of-self-2
invariant_of-self-2 c =
    let s = c.self.inside in
    let few = rw (← c.self.view_is) at c.requires.few in
    let same : c.from-2.result ≡ c.from.result = cc in
    rw same (push_leaves s.limbs.items s.before.items c.begin_limb.new.limbs.items c.begin_limb.new.before.items s.count s.flagged
    c.index_mut.result.now c.from.result c.args.flag
    c.self.invariant few c.in_ok-begin_limb.ensures.limbs c.in_ok-begin_limb.ensures.before c.index_mut.ensures.value c.from.ensures).kept

pub returns-clause-pushed : goal.returns-clause-pushed
returns-clause-pushed c =
    let s = c.self.inside in
    let few = rw (← c.self.view_is) at c.requires.few in
    rw (← c.self.view_is) (push_leaves s.limbs.items s.before.items c.begin_limb.new.limbs.items c.begin_limb.new.before.items s.count s.flagged
    c.index_mut.result.now c.from.result c.args.flag
    c.self.invariant few c.in_ok-begin_limb.ensures.limbs c.in_ok-begin_limb.ensures.before c.index_mut.ensures.value c.from.ensures).flags

pub begin_limb-requires-clause-few : goal.begin_limb-requires-clause-few
begin_limb-requires-clause-few c =
    let few : c.self.inside.count < 4294967295 = rw (← c.self.view_is, length-flags_of) at c.requires.few in
    omega (arith, few, c.self.invariant.long)

use Rattle.std.proofs.Common.{◌≤◌, arith, rules, ◌∙◌, sym}
use Rattle.cw_links.specs.Limbs.{flags_of}
use Rattle.cw_links.proofs.Ranks.{rank_all}
use Rattle.cw_links.proofs.Bits.{length-flags_of, rank_read, rank_fits}
use Rattle.cw_links.proofs.flags.Flags.rank.Goals as goal

pub returns-then-index-self : goal.returns-then-index-self
returns-then-index-self c =
    let s = c.self.inside in
    rw (← c.self.view_is) (c.self.invariant.all ∙ sym (rank_all (flags_of s.limbs.items s.count) c.args.index (omega (
      arith,
      length-flags_of s.limbs.items s.count,
    ))))

pub index-requires : goal.index-requires
index-requires c =
    let within : c.args.index ≤ c.self.inside.count = rw (← c.self.view_is, length-flags_of) at c.requires in
    search rules

pub index-requires-2 : goal.index-requires-2
index-requires-2 c =
    let within : c.args.index ≤ c.self.inside.count = rw (← c.self.view_is, length-flags_of) at c.requires in
    search rules

pub overflow_add-result : goal.overflow_add-result
overflow_add-result c =
    let s = c.self.inside in
    let up_to : c.args.index ≤ s.count = rw (← c.self.view_is, length-flags_of) at c.requires in
    record {
      fits = omega (
        arith,
        rank_fits s.limbs.items s.before.items s.count s.flagged c.args.index c.self.invariant up_to,
        rank_read s.limbs.items s.before.items s.count s.flagged c.args.index c.index.result.now c.index-2.result.now c.self.invariant (omega (
          arith,
          up_to,
        )) c.index.ensures c.index-2.ensures,
      );
    }

pub returns : goal.returns
returns c =
    let s = c.self.inside in
    let up_to : c.args.index ≤ s.count = rw (← c.self.view_is, length-flags_of) at c.requires in
    rw (← c.self.view_is) (rank_read s.limbs.items s.before.items s.count s.flagged c.args.index c.index.result.now c.index-2.result.now
    c.self.invariant (omega (arith, up_to)) c.index.ensures c.index-2.ensures)

use Rattle.std.proofs.Common.{◌≡◌, ◌+◌, ◌≤◌, length, ap, arith}
use Rattle.cw_links.specs.Flags.{rank}
use Rattle.cw_links.proofs.Ranks.{rank-zero, rank_all, number-le, flagged_from_rank, rank_step}
use Rattle.cw_links.proofs.flags.Flags.index.Goals as goal

pub loop-end-init : goal.loop-end-init
loop-end-init c =
    let flags = c.args.self.now in
    let all : c.len-end.result ≡ length flags = c.len-end.ensures.value in
    record {
      from = omega (arith, rank-zero flags);
      to = omega (arith, rank_all flags c.len-end.result (omega (arith, all)));
      up_to = omega (arith, all);
      apart = omega (arith, all, number-le flags);
    }

pub returns-clause-flagged : goal.returns-clause-flagged
returns-clause-flagged c =
    let flags = c.args.self.now in
    let next : c.loop-end.end ≡ c.loop-end.index + 1 = omega arith in
    flagged_from_rank flags c.loop-end.index (omega (arith, ap (rank flags) next))

pub returns-clause-before : goal.returns-clause-before
returns-clause-before c =
    let flags = c.args.self.now in
    let next : c.loop-end.end ≡ c.loop-end.index + 1 = omega arith in
    let steps : rank flags c.loop-end.end ≤ rank flags c.loop-end.index + 1 = omega (arith, ap (rank flags) next, rank_step flags c.loop-end.index) in
    omega (arith, steps)

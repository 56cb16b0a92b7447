use Rattle.std.proofs.Common.{rules, ◌≡◌, ◌<◌, ◌≤◌, true, length, slice_index, arith}
use Rattle.cw_rights.specs.Valid.{is_name_byte}
use Rattle.cw_regex.proofs.Runs.{all_one_more}
use Rattle.cw_regex.proofs.text.identifier_end.Goals as goal

pub loop-end-preserved : goal.loop-end-preserved
loop-end-preserved c =
    let lt : c.loop-end.end < length c.args.text.now = search rules in
    let le : c.args.at ≤ c.loop-end.end = omega (arith, c.loop-end.auto.end) in
    let is : is_name_byte (slice_index c.args.text.now c.loop-end.end) ≡ true = search rules in
    all_one_more c.args.text.now c.args.at c.loop-end.end le lt c.loop-end.invariant is

use Rattle.std.proofs.Common.{◌<◌, rules}
use Rattle.cw_links.proofs.Bits.{length-flags_of, flag_read}
use Rattle.cw_links.proofs.flags.Flags.is_flagged.Goals as goal

pub index-requires : goal.index-requires
index-requires c =
    let within : c.args.index < c.self.inside.count = rw (← c.self.view_is, length-flags_of) at c.requires in
    search rules

pub returns : goal.returns
returns c =
    let s = c.self.inside in
    let within : c.args.index < s.count = rw (← c.self.view_is, length-flags_of) at c.requires in
    rw (← c.self.view_is) (flag_read s.limbs.items s.before.items s.count s.flagged c.args.index c.index.result.now c.self.invariant within c.index.ensures)

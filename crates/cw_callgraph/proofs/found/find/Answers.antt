use Rattle.std.proofs.Common.{◌≡◌, true, false, get_or, refl, rules}
use Rattle.std.specs.Vec.{with_item}
use Rattle.cw_callgraph.proofs.Kept.{newly}
use Rattle.cw_callgraph.proofs.found.find.Goals as goal

pub returns : goal.returns
returns c =
    let free : get_or c.args.found.now.flags.items c.args.number false ≡ false = search rules in
    newly c.args.found.now (record { flags = with_item c.args.found.now.flags c.args.number true; numbers = c.push.new.self }) c.args.number c.requires.within c.requires.sound free refl c.in_ok-push.ensures.items

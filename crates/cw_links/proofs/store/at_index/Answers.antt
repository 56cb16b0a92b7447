use Rattle.std.proofs.Common.{◌<◌, arith, subst}
use Rattle.cw_links.specs.Flags.{number}
use Rattle.cw_links.specs.Stores.{IsKnown}
use Rattle.cw_links.specs.declared.popped.Popped.{Popped}
use Rattle.cw_links.proofs.Ranks.{number-le}
use Rattle.cw_links.proofs.store.at_index.Goals as goal

pub overflow_cast-link : goal.overflow_cast-link
overflow_cast-link c =
    let n = number-le c.args.flags.now in
    let known : c.in-Link.link < number c.args.flags.now = subst (λ (p : Popped). IsKnown c.args.flags.now p) c.in-Link.is c.requires.known in
    record { fits = omega (arith, n, c.requires.few, known) }

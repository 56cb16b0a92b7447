use Rattle.std.proofs.Common.{false}
use Rattle.std.proofs.lemmas.Option.{slice_get-get_or}
use Rattle.cw_procs.proofs.world.forks_at.Goals as goal

pub bounds-flags-site : goal.bounds-flags-site
bounds-flags-site c = c.requires.flags c.args.here.pos.0 c.site.result.point.0 c.site.ensures.point c.requires.here.0

pub returns : goal.returns
returns c = record {
  flag = (
    c.site.result.point.0,
    c.site.ensures.point,
    slice_get-get_or c.args.flags.now c.site.result.point.0 false (c.requires.flags c.args.here.pos.0 c.site.result.point.0 c.site.ensures.point c.requires.here.0),
  );
}

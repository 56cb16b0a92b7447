use Rattle.std.proofs.Common.{◌∙◌}
use Rattle.std.specs.Str.{bytes_eq}
use Rattle.cw_resolve.proofs.Indices.{no_index}
use Rattle.cw_resolve.proofs.scene.Scene.label_number.Goals as goal

pub returns-in-None : goal.returns-in-None
returns-in-None c = rw (← c.self.view_is) (record { number = c.count.ensures.count ∙ no_index (bytes_eq c.args.name.now) c.self.inside.labels c.in-None.ensures.number })

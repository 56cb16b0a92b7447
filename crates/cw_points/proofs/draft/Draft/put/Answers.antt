use Rattle.std.proofs.Common.{[], ◌∷◌}
use Rattle.cw_points.proofs.Drawn.{nodes_more}
use Rattle.cw_points.proofs.draft.Draft.put.Goals as goal

pub returns : goal.returns
returns c = nodes_more (c.args.node ∷ []) c.args.self.now.nodes.items c.push.new.self.items c.args.self.now.seams.items c.in_ok-push.ensures.items

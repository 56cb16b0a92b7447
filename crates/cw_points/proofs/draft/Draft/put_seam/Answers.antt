use Rattle.cw_points.specs.Drawing.{drawn_of}
use Rattle.cw_points.proofs.Drawn.{seam_more}
use Rattle.cw_points.proofs.draft.Draft.put_seam.Goals as goal

pub returns : goal.returns
returns c =
    let d = drawn_of c.args.self.now in
    seam_more c.args.point c.args.function c.args.next c.args.place c.args.taken c.next_point-at.result c.next_seam-number.result d.nodes c.push.new.self.items d.seams c.push-2.new.self.items
    c.next_point-at.ensures c.next_seam-number.ensures c.in_ok-push.ensures.items c.in_ok-push-2.ensures.items

use Rattle.std.proofs.Common.{[], ◌∷◌, ◌++◌, ap, ◌∙◌}
use Rattle.cw_scope.proofs.Seen.{put_in}
use Rattle.cw_starts.proofs.Among.{one_more}
use Rattle.cw_starts.proofs.texts.Texts.push.Goals as goal

pub invariant_of-self-2 : goal.invariant_of-self-2
invariant_of-self-2 c =
    let s = c.self.inside in
    one_more s.set.keys c.insert.new.self.keys s.list.items c.push.new.self.items c.args.text
    (put_in c.args.text s.set.keys c.insert.new.self.keys c.in_ok-insert.ensures.updates.0) c.self.invariant
    (c.in_ok-push.ensures.items ∙ ap (λ l. l ++ c.args.text ∷ []) c.reserve.ensures.items)

use Rattle.std.proofs.Common.{◌+◌, length, ap, refl, sym, ◌∙◌}
use Rattle.cw_syntax.specs.Trees.{statements_of, definition_of}
use Rattle.cw_points.specs.Sizes.{size_all, capped}
use Rattle.cw_points.specs.Drawing.{drawn_of, laid_all}
use Rattle.cw_points.proofs.Functions.{laid_function, function_ways}
use Rattle.cw_points.proofs.Room.{whole, body_part, body_room}
use Rattle.cw_points.proofs.build.lay_function.Goals as goal

pub returns-clause-drawn : goal.returns-clause-drawn
returns-clause-drawn c =
    let s = c.args.scene.now in
    let d = drawn_of c.args.draft.now in
    let exit = c.next_point-entry.result + 1 + c.count_all-size.result in
    let begun = drawn_of c.put_seam.new.self in
    let body = (definition_of c.args.function.now).body in
    let size = whole c.count_all-size.result (size_all body) (length d.nodes) (c.count_all-size.ensures ∙ ap (λ l. capped (size_all (statements_of l))) c.deref.ensures.value)
    (body_part (length d.nodes) body c.requires.few) in
    laid_function s c.args.number (definition_of c.args.function.now) d c.next_point-entry.result c.count_all-size.result exit c.first-start.result (function_ways exit) begun
    (drawn_of c.lay_all.new.draft)
    (drawn_of c.put_exit.new.self)
    c.next_point-entry.ensures size refl c.first-start.ensures refl
    c.in_ok-put_seam.ensures (c.in_ok-lay_all.ensures ∙ ap (λ l. laid_all s c.args.number (statements_of l) (function_ways exit) begun) c.deref-2.ensures.value) c.in_ok-put_exit.ensures

pub lay_all-requires-clause-few : goal.lay_all-requires-clause-few
lay_all-requires-clause-few c = body_room (drawn_of c.args.draft.now) (drawn_of c.put_seam.new.self) c.args.number c.first-start.result c.args.function.now.brace
    (definition_of c.args.function.now).body (statements_of c.deref-2.result.now) (ap statements_of c.deref-2.ensures.value) c.in_ok-put_seam.ensures c.requires.few

pub lay_all-requires-clause-size : goal.lay_all-requires-clause-size
lay_all-requires-clause-size c =
    let d = drawn_of c.args.draft.now in
    let body = (definition_of c.args.function.now).body in
    whole c.count_all-size.result (size_all body) (length d.nodes) (c.count_all-size.ensures ∙ ap (λ l. capped (size_all (statements_of l))) c.deref.ensures.value)
    (body_part (length d.nodes) body c.requires.few) ∙ sym (ap (λ l. size_all (statements_of l)) c.deref-2.ensures.value)

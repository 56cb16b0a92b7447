-- The front of a board is the item of its position's point.
use Rattle.std.proofs.Common.{sym, ap, ◌∙◌, option_map}
use Rattle.std.specs.Prelude.{slice_get}
use Rattle.std.proofs.lemmas.Option.{same_Some, slice_get-map}
use Rattle.cw_resolve.specs.Scenes.{names_of}
use Rattle.cw_syntax.specs.Plans.{plan_of}
use Rattle.cw_points.specs.Points.{points}
use Rattle.cw_positions.proofs.Items.{items_stand, one_point}
use Rattle.cw_items.specs.Items.{FrontsAreOfPoints}

pub fronts_are_of_points : FrontsAreOfPoints
fronts_are_of_points policy source file g game drawn runs on asks b c point answer together within is =
    let items = points (plan_of (names_of policy) source file) in
    let k = (items_stand policy source file g game drawn runs on).front b c together in
    let e = one_point g policy c.pos point k.1.point within k.1.within in
    (k.0, k.2, sym (same_Some answer (asks k.0) (sym is ∙ slice_get-map asks items point ∙ ap (λ n. option_map asks (slice_get items n)) e ∙ ap (option_map asks) k.1.is)))

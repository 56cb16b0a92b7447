use Rattle.std.proofs.Common.{◌≡◌, ◌++◌, List, filter_map, ap₂, ◌∙◌, subst}
use Rattle.std.specs.List.{Contains}
use Rattle.cw_fixpoint.specs.Closures.{Exactly}
use Rattle.cw_joins.specs.Seeing.{named}
use Rattle.cw_joins.proofs.Hints.{all_found}
use Rattle.cw_joins.proofs.seen.in_order.Goals as goal

pub returns : goal.returns
returns g c =
    let s = c.args.seen in
    let keys : c.extend_from_slice.new.self.items ≡ filter_map (named s.keys.items) s.hints.items ++ s.others.keys =
    c.in_ok-extend_from_slice.ensures.items ∙ ap₂ (λ (x y : List g.row.K.Denot). x ++ y) c.in_ok-keys.ensures (c.deref.ensures.value ∙ c.in_ok-others.ensures) in
    all_found g.K.Ord.cmp g.met.K.Ord.total c.requires.exact c.requires.seen.0 s.keys.items s.hints.items s.others.keys c.in_ok-found.found.items c.requires.seen.1
    (subst (λ (l : List g.row.K.Denot). Exactly g.K.Ord.cmp (Contains l) c.in_ok-found.found.items) keys c.in_ok-found.ensures)

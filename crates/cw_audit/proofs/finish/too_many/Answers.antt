use Rattle.std.proofs.Common.{not, refl, sym, ap, subst}
use Rattle.cw_audit_store.specs.Finding.{found_of}
use Rattle.cw_audit_visits.specs.Searching.{functions_of}
use Rattle.cw_product.specs.Product.{game_of}
use Rattle.cw_audit.specs.Bounds.{IsEarly}
use Rattle.cw_audit.proofs.Done.{early_bounds}
use Rattle.cw_audit.proofs.finish.too_many.Goals as goal

pub are_many-requires-clause-early : goal.are_many-requires-clause-early
are_many-requires-clause-early c =
    let h = c.args.game.now in
    let s = c.args.search.now in
    let same = (c.in_ok-settle.ensures.tells.same (ap not c.if-not-branch.false)).0 in
    let e = early_bounds (game_of h) (functions_of h) c.requires.fair (found_of s.store) c.requires.kept.sound s.store.hit refl c.args.key in
    subst (λ t. IsEarly t.hit c.early_bound-bound.result) (sym same) (subst (IsEarly s.store.hit) (sym c.early_bound-bound.ensures) e)

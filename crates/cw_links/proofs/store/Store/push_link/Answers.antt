use Rattle.std.proofs.Common.{◌++◌, ◌∷◌, [], ℕ, List, Bool, true, length, sym, ap, ◌∙◌, subst, arith}
use Rattle.cw_links.proofs.Ranks.{number-le}
use Rattle.cw_links.specs.Stores.{Stored, AreStored, Pushes, stored}
use Rattle.cw_links.proofs.Spreading.{pushed_stored, pushed_at}
use Rattle.cw_links.proofs.store.Store.push_link.Goals as goal

pub reserve_link-requires : goal.reserve_link-requires
reserve_link-requires c =
    let s = c.self.inside in
    let view = ap (λ (v : Stored). length v.flags) c.self.view_is in
    let n = number-le s.flags in
    let due = ap (λ (xs : List ℕ). length xs) c.reserve_cells.ensures.due in
    record { few = omega (arith, view, n, due, c.requires, c.self.invariant.keys_of_links) }

pub add_link-requires-clause-few : goal.add_link-requires-clause-few
add_link-requires-clause-few c =
    let s = c.self.inside in
    let view = ap (λ (v : Stored). length v.flags) c.self.view_is in
    let n = number-le s.flags in
    let to = ap (λ (xs : List ℕ). length xs) c.reserve.ensures.to in
    omega (arith, view, n, to, c.requires, c.self.invariant.lists_of_links)

pub invariant_of-self-2 : goal.invariant_of-self-2
invariant_of-self-2 c =
    let s = c.self.inside in
    let view = ap (λ (v : Stored). length v.flags) c.self.view_is in
    subst (λ (ms : List Bool). AreStored ms c.add_link.new.keys c.add_link.new.callers c.add_link.new.waves.items) (sym c.in_ok-push.ensures.pushed)
    (pushed_stored s.flags s.keys c.add_link.new.keys s.callers c.add_link.new.callers s.waves.items c.add_link.new.waves.items c.self.invariant
    (c.add_link.ensures.asked ∙ c.push_cells.ensures.asked ∙ ap (λ (xs : List ℕ). xs ++ 0 ∷ []) (c.reserve_link.ensures.asked ∙ c.reserve_cells.ensures.asked))
    (c.add_link.ensures.due ∙ ap (λ (xs : List ℕ). xs ++ 0 ∷ []) (c.push_cells.ensures.due ∙ c.reserve_link.ensures.due ∙ c.reserve_cells.ensures.due))
    (c.add_link.ensures.to ∙ ap (λ (xs : List ℕ). xs ++ 0 ∷ []) c.reserve.ensures.to)
    (c.add_link.ensures.waves ∙ ap (λ (xs : List ℕ). xs ++ 0 ∷ []) c.in_ok-reserve-2.ensures.items)
    (omega (arith, view, c.requires)))

pub returns-clause-pushed : goal.returns-clause-pushed
returns-clause-pushed c =
    let s = c.self.inside in
    subst (λ (v : Stored). Pushes v (stored c.push.new.self c.add_link.new.keys c.add_link.new.callers c.add_link.new.waves.items) true) c.self.view_is
    (subst (λ (ms : List Bool). Pushes (stored s.flags s.keys s.callers s.waves.items) (stored ms c.add_link.new.keys c.add_link.new.callers c.add_link.new.waves.items) true)
    (sym c.in_ok-push.ensures.pushed)
    (pushed_at s.flags s.keys c.add_link.new.keys s.callers c.add_link.new.callers s.waves.items c.add_link.new.waves.items c.self.invariant
    (c.add_link.ensures.asked ∙ c.push_cells.ensures.asked ∙ ap (λ (xs : List ℕ). xs ++ 0 ∷ []) (c.reserve_link.ensures.asked ∙ c.reserve_cells.ensures.asked))
    (c.add_link.ensures.due ∙ ap (λ (xs : List ℕ). xs ++ 0 ∷ []) (c.push_cells.ensures.due ∙ c.reserve_link.ensures.due ∙ c.reserve_cells.ensures.due))
    (c.add_link.ensures.to ∙ ap (λ (xs : List ℕ). xs ++ 0 ∷ []) c.reserve.ensures.to)
    (c.add_link.ensures.waves ∙ ap (λ (xs : List ℕ). xs ++ 0 ∷ []) c.in_ok-reserve-2.ensures.items)
    (c.add_link.ensures.heights ∙ c.push_cells.ensures.heights ∙ ap (λ (xs : List ℕ). xs ++ 0 ∷ []) (c.reserve_link.ensures.heights ∙ c.reserve_cells.ensures.heights))
    (c.add_link.ensures.lists ∙ ap (λ (ls : List (List ℕ)). length ls) c.reserve.ensures.lists)))

use Rattle.std.proofs.Common.{◌++◌, ℕ, List, Bool, length, replicate, sym, ap, ◌∙◌, subst, arith}
use Rattle.cw_links.specs.Stores.{Stored, AreStored, PushesPlain, stored}
use Rattle.cw_links.proofs.Spreading.{plain_stored, plain_at}
use Rattle.cw_links.proofs.store.Store.push_plain.Goals as goal

pub invariant_of-self-2 : goal.invariant_of-self-2
invariant_of-self-2 c =
    let s = c.self.inside in
    let keys = c.push_cells.new.self in
    let view = ap (λ (v : Stored). length v.flags) c.self.view_is in
    subst (λ (ms : List Bool). AreStored ms keys s.callers s.waves.items) (sym c.in_ok-push_plain.ensures.pushed)
    (plain_stored s.flags s.keys keys s.callers s.waves.items c.args.many c.self.invariant
    (c.push_cells.ensures.asked ∙ ap (λ (xs : List ℕ). xs ++ replicate c.args.many 0) c.reserve_cells.ensures.asked)
    (c.push_cells.ensures.due ∙ c.reserve_cells.ensures.due)
    (omega (arith, view, c.requires)))

pub returns-clause-pushed : goal.returns-clause-pushed
returns-clause-pushed c =
    let s = c.self.inside in
    let keys = c.push_cells.new.self in
    let many = c.args.many in
    subst (λ (v : Stored). PushesPlain v (stored c.push_plain.new.self keys s.callers s.waves.items) many) c.self.view_is
    (subst (λ (ms : List Bool). PushesPlain (stored s.flags s.keys s.callers s.waves.items) (stored ms keys s.callers s.waves.items) many) (sym c.in_ok-push_plain.ensures.pushed)
    (plain_at s.flags s.keys keys s.callers s.waves.items many c.self.invariant
    (c.push_cells.ensures.asked ∙ ap (λ (xs : List ℕ). xs ++ replicate many 0) c.reserve_cells.ensures.asked)
    (c.push_cells.ensures.due ∙ c.reserve_cells.ensures.due)
    (c.push_cells.ensures.heights ∙ ap (λ (xs : List ℕ). xs ++ replicate many 0) c.reserve_cells.ensures.heights)))

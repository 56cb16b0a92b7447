-- Part by part, as the conditions stand.
use Rattle.std.proofs.Common.{◌≡◌, ◌∙◌, sym, ap, map, length, Some, eq-eqb, true, false, arith}
use Rattle.std.proofs.lemmas.List.{length-map}
use Rattle.cw_product.specs.Product.{game_of}
use Rattle.cw_audit_table.specs.Tables.{group_of, audit_of}
use Rattle.cw_audit_table.specs.Conditions.{IsGoodAudit, fault_at}
use Rattle.cw_audit_check.specs.Checks.{fault_of}
use Rattle.cw_audit_check.proofs.Orders.{in_range}
use Rattle.cw_audit_check.proofs.Verdict.{in_ranges, in_groups, in_main, bounds}
use Rattle.cw_audit_check.proofs.check.check_audit.Goals as goal
use Rattle.cw_audit_check.proofs.check.check_audit.Goals.{After-has_main}

pub returns-in-Some-clause-fault : goal.returns-in-Some-clause-fault
returns-in-Some-clause-fault c =
    in_ranges (game_of c.args.game.now) (length c.args.game.now.graph.parts.items) (audit_of c.args.table.now)
    (eq-eqb c.args.table.now.states (game_of c.args.game.now).states.count (c.if-table-states.false ∙ c.states.ensures)) (fault_at c.in-Some.group c.in-Some.row 1)
    (sym (rw c.deref.ensures.value at c.in-Some.ensures))

pub first_bad_group-requires-clause-range : goal.first_bad_group-requires-clause-range
first_bad_group-requires-clause-range c =
    in_range (game_of c.args.game.now) (length c.args.game.now.graph.parts.items) c.args.table.now.groups.items (sym (rw c.deref.ensures.value at c.in_default.ensures))

pub returns-in-Some-first_bad_group-clause-fault :
    goal.returns-in-Some-first_bad_group-clause-fault
returns-in-Some-first_bad_group-clause-fault c =
    in_groups (game_of c.args.game.now) (length c.args.game.now.graph.parts.items) (audit_of c.args.table.now)
    (eq-eqb c.args.table.now.states (game_of c.args.game.now).states.count (c.if-table-states.false ∙ c.states.ensures)) (fault_of c.in-Some-first_bad_group.bad)
    (sym (rw c.deref.ensures.value at c.in_default.ensures)) (sym c.in-Some-first_bad_group.ensures)

pub has_main-requires : goal.has_main-requires
has_main-requires c =
    in_range (game_of c.args.game.now) (length c.args.game.now.graph.parts.items) c.args.table.now.groups.items (sym (rw c.deref.ensures.value at c.in_default.ensures))

pub returns-then-not-has_main-clause-fault : goal.returns-then-not-has_main-clause-fault
returns-then-not-has_main-clause-fault c =
    let many : length (map group_of c.args.table.now.groups.items) ≡ c.len.result =
    omega (arith, length-map c.args.table.now.groups.items group_of, c.len.ensures, c.args.table.now.groups.ok.0) in
    in_main (game_of c.args.game.now) (length c.args.game.now.graph.parts.items) (audit_of c.args.table.now)
    (eq-eqb c.args.table.now.states (game_of c.args.game.now).states.count (c.if-table-states.false ∙ c.states.ensures))
    (sym (rw c.deref.ensures.value at c.in_default.ensures)) (sym c.in_default-first_bad_group.ensures) false (sym c.has_main.ensures ∙ c.if-not-has_main.true)
    ∙ ap (λ n. Some (fault_at n 0 2)) many

good : (c : After-has_main) → c.has_main.result ≡ true → IsGoodAudit (game_of c.args.game.now) (length c.args.game.now.graph.parts.items) (audit_of c.args.table.now)
good c e =
    in_main (game_of c.args.game.now) (length c.args.game.now.graph.parts.items) (audit_of c.args.table.now)
    (eq-eqb c.args.table.now.states (game_of c.args.game.now).states.count (c.if-table-states.false ∙ c.states.ensures))
    (sym (rw c.deref.ensures.value at c.in_default.ensures)) (sym c.in_default-first_bad_group.ensures) true (sym c.has_main.ensures ∙ e)

pub returns-clause-good : goal.returns-clause-good
returns-clause-good c = good (goal.at.returns-clause-good c).After-has_main c.if-not-has_main.false

pub returns-clause-holds : goal.returns-clause-holds
returns-clause-holds c =
    bounds (game_of c.args.game.now) (length c.args.game.now.graph.parts.items) (audit_of c.args.table.now) c.fact_is_closed.ensures.routes
    (good (goal.at.returns-clause-holds c).After-has_main c.if-not-has_main.false)

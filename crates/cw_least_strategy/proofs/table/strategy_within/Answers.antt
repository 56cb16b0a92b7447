use Rattle.std.proofs.Common.{rules, ◌≤◌, ℕ, List, sym, ap, ◌∙◌, subst, arith}
use Rattle.cw_certs.specs.Strategies.{Strategy}
use Rattle.cw_product.specs.Product.{Held, game_of}
use Rattle.cw_least_strategy.specs.Parts.{strategy_by, AreParts}
use Rattle.cw_least_strategy.specs.Small.{wholes}
use Rattle.cw_least_strategy.specs.Strategies.{rows_of, IsLeastStrategy}
use Rattle.cw_least_strategy.proofs.Parts.{few_rows, paired, whole_rows}
use Rattle.cw_least_strategy.proofs.Tabled.{routed, start_low, least_of}
use Rattle.cw_least_strategy.proofs.table.strategy_within.Goals as goal

pub returns-then-start-gt-ROWS-clause-many : goal.returns-then-start-gt-ROWS-clause-many
returns-then-start-gt-ROWS-clause-many c = λ s is.
    let low = start_low c.args.solved.now c.requires.made c.start_key-start.result c.start_key-start.ensures s is in
    let lt = c.if-start-gt-ROWS.true in
    omega (arith, low, lt)

pub aims_of-requires : goal.aims_of-requires
aims_of-requires c = record { routed = routed c.args.solved.now c.requires.made }

pub of-requires : goal.of-requires
of-requires c =
    let parts : AreParts (game_of c.args.solved.now.game) c.deref.result.now c.start_key-start.result c.in-Some.keys.items c.in-Some.hows.items = search rules in
    record { paired = paired (subst (λ (l : List ℕ). AreParts (game_of c.args.solved.now.game) l c.start_key-start.result c.in-Some.keys.items c.in-Some.hows.items) c.deref.ensures.value parts) }

pub returns-in-Some-clause-least : goal.returns-in-Some-clause-least
returns-in-Some-clause-least c =
    let h = c.args.solved.now in
    let g = game_of h.game in
    let aims = c.in_ok-aims.aims.items in
    let keys = c.in-Some.keys.items in
    let hows = c.in-Some.hows.items in
    let given : AreParts g c.deref.result.now c.start_key-start.result keys hows = search rules in
    let parts = subst (λ (l : List ℕ). AreParts g l c.start_key-start.result keys hows) c.deref.ensures.value given in
    subst (IsLeastStrategy g) (sym c.of.ensures)
    (least_of h c.requires.made c.start_key-start.result c.start_key-start.ensures (wholes aims keys) parts.exactly (strategy_by c.states.result aims keys hows)
    (c.states.ensures ∙ ap (λ (x : Held). (game_of x).states.count) c.game.ensures) (whole_rows parts))

pub returns-in-Some-clause-few : goal.returns-in-Some-clause-few
returns-in-Some-clause-few c =
    let g = game_of c.args.solved.now.game in
    let keys = c.in-Some.keys.items in
    let hows = c.in-Some.hows.items in
    let given : AreParts g c.deref.result.now c.start_key-start.result keys hows = search rules in
    subst (λ (s : Strategy). rows_of s ≤ 65536) (sym c.of.ensures)
    (few_rows c.states.result (subst (λ (l : List ℕ). AreParts g l c.start_key-start.result keys hows) c.deref.ensures.value given))

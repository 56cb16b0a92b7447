use Rattle.std.proofs.Common.{◌≡◌, ℕ, ap, ◌∙◌}
use Rattle.cw_core.specs.declared.ids.MemId.{MemId}
use Rattle.cw_product.specs.Product.{game_of}
use Rattle.cw_run.specs.declared.walk.Here.{Here as HereData}
use Rattle.cw_run.specs.Walks.{Here, here_of, start_here}
use Rattle.cw_woven_values.proofs.Beginning.{first, stands_first}
use Rattle.cw_woven_values.proofs.woven.run_from.Goals as goal

pub returns : goal.returns
returns c = λ w mem is_run all begins.
    let h = c.args.game.now in
    let g = game_of h in
    let run = c.args.run.now in
    let t = c.args.table.now in
    let tries = c.args.tries.now in
    let at : ℕ → ℕ → ℕ → Here = λ p q m. record { pos = p; state = q; mem = m } in
    let here : HereData = record { pos = c.start.result.0; state = c.start.result.1; mem = c.start-2.result } in
    let there : here_of here ≡ start_here g t =
    ap (λ (x : ℕ). at x c.start.result.1.0 c.start-2.result.0) c.start.ensures.position
    ∙ (ap (λ (x : ℕ). at (g.entry g.main) x c.start-2.result.0) c.start.ensures.state
    ∙ ap (λ (m : MemId). at (g.entry g.main) g.states.start m.0) c.start-2.ensures)
    in
    c.in_ok-stop.ensures w (first h run t w mem tries c.args.main begins) is_run (stands_first h run t w mem tries c.args.main begins c.args.point here c.requires.entry there all)

use Rattle.std.proofs.Common.{◌≡◌, ◌≤◌, ◌*◌, ◌∙◌, ℕ, List, sym, ap, arith}
use Rattle.std.specs.Prelude.{slice_get}
use Rattle.std.proofs.lemmas.Nat.{mul-le}
use Rattle.std.proofs.lemmas.Option.{none-some}
use Rattle.cw_links.specs.Flags.{number}
use Rattle.cw_links.proofs.Ranks.{number-le}
use Rattle.cw_product.specs.Product.{game_of}
use Rattle.cw_linked.specs.declared.grants.Grants.{Grants}
use Rattle.cw_linked.proofs.Edging.{all_changes_in, begun_changes}
use Rattle.cw_linked.proofs.edges.make_pairs.Goals as goal

pub overflow_mul-lists : goal.overflow_mul-lists
overflow_mul-lists c =
    let most : c.flagged.result ≤ 1048576 = omega (arith, c.flagged.ensures, number-le c.args.flags.now, c.requires.flagged.long, c.requires.routed.short) in
    let product = mul-le c.flagged.result c.from.result 1048576 1024 most (omega (arith, c.requires.routed.few)) in
    omega (arith, product)

pub returns : goal.returns
returns c =
    all_changes_in (game_of c.args.game.now) c.args.flags.now c.loop-p.pairs c.loop-p.p (omega (arith, c.positions-p-end.ensures, c.loop-p-test.false)) c.requires.flagged c.loop-p.invariant.pairs

pub loop-p-init : goal.loop-p-init
loop-p-init c =
    let g = game_of c.args.game.now in
    let flags = c.args.flags.now in
    let states : c.from.result ≡ g.states.count = omega arith in
    record {
      pairs = begun_changes g flags c.reserve.new.self (c.flagged.result * c.from.result)
          (ap (λ (y : ℕ). y * c.from.result) c.flagged.ensures ∙ ap (λ (y : ℕ). number flags * y) states) (c.reserve.ensures.lists ∙ c.in_ok-pairs.ensures.lists) (c.reserve.ensures.values ∙ c.in_ok-pairs.ensures.values);
      grants = λ k grants at. absurd (none-some grants (ap (λ (xs : List Grants). slice_get xs k) (sym c.new-grants.ensures.items) ∙ at));
    }

use Rattle.std.proofs.Common.{◌≡◌, ℕ, length, subst, arith}
use Rattle.cw_product.specs.Product.{game_of}
use Rattle.cw_linked.specs.Grants.{IsRowOf}
use Rattle.cw_linked.proofs.Granting.{one_row_more, last_row}
use Rattle.cw_linked.proofs.grants.grants_at.Goals as goal

pub returns-clause-all : goal.returns-clause-all
returns-clause-all c =
    one_row_more (game_of c.args.game.now) c.args.all.now.items c.push.new.self.items c.in_ok-make_grants.field-0 c.in_ok-push.ensures.items c.requires.all c.in_ok-make_grants.ensures.grants

pub returns-clause-there : goal.returns-clause-there
returns-clause-there c =
    let all = c.push.new.self.items in
    let last : length c.args.all.now.items ≡ c.len-k.result = omega (arith, c.args.all.now.ok.0, c.len-k.ensures) in
    subst (λ (k : ℕ). IsRowOf all c.args.prim k) last
    (last_row c.args.all.now.items all c.in_ok-make_grants.field-0 c.args.prim c.in_ok-push.ensures.items c.in_ok-make_grants.ensures.prim)

use Rattle.std.proofs.Common.{◌<◌, ℕ, Option, length, subst}
use Rattle.std.specs.Prelude.{IfSome}
use Rattle.cw_product.specs.Product.{game_of}
use Rattle.cw_linked.proofs.Sourcing.{a_source_more, no_source_more}
use Rattle.cw_linked.proofs.edges.add_source.Goals as goal

pub push_front-requires-clause-list : goal.push_front-requires-clause-list
push_front-requires-clause-list c = subst (λ (o : Option ℕ). IfSome o (λ r. r < length c.args.sources.now.lists)) c.in-Some.is c.requires.within

pub returns-in_ok-push_front : goal.returns-in_ok-push_front
returns-in_ok-push_front c =
    let old = c.args.sources.now in
    let to = c.in-Some.to in
    a_source_more (game_of c.args.game.now) old c.push_front.new.self c.args.source c.args.to to c.in-Some.is
    (subst (λ (o : Option ℕ). IfSome o (λ r. r < length old.lists)) c.in-Some.is c.requires.within)
    c.in_ok-push_front.ensures.lists
    c.in_ok-push_front.ensures.values (c.requires.step to c.in-Some.is) c.requires.visit

pub returns-in_default : goal.returns-in_default
returns-in_default c = no_source_more (game_of c.args.game.now) c.args.sources.now c.args.source c.args.to c.in_default.is

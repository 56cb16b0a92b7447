use Rattle.std.proofs.Common.{ℕ, subst, arith}
use Rattle.std.specs.Prelude.{slice_get}
use Rattle.cw_product.specs.Product.{game_of}
use Rattle.cw_linked.specs.Added.{PushesIndices}
use Rattle.cw_solve.proofs.Few.{uncalled}
use Rattle.cw_linked.proofs.Lengthening.{plain_indices}
use Rattle.cw_linked.proofs.room.push_plain.Goals as goal

pub push_plain-requires : goal.push_plain-requires
push_plain-requires c = record { few = omega (arith, c.size-many.ensures.is, c.requires.few) }

pub returns : goal.returns
returns c =
    let g = game_of c.args.game.now in
    let old = c.args.store.now in
    let new = c.push_plain.new.self in
    record {
      indices = subst (λ (n : ℕ). PushesIndices old new n) c.size-many.ensures.is (plain_indices old new c.size-many.result c.in_ok-push_plain.ensures.pushed);
      flagged = λ p x call of calls class lt. absurd (uncalled (slice_get g.spots p) call (c.requires.plain p of) calls);
    }

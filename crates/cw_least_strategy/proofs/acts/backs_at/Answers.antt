use Rattle.std.proofs.Common.{ap, ◌∙◌, Vec}
use Rattle.std.specs.Global.{Global}
use Rattle.cw_core.specs.declared.ids.StateId.{StateId}
use Rattle.cw_product.specs.Product.{game_of}
use Rattle.cw_solve.specs.Contexts.{returning}
use Rattle.cw_least_strategy.specs.declared.key.Key.{Key}
use Rattle.cw_least_strategy.specs.Acts.{key_at, key_of}
use Rattle.cw_least_strategy.specs.Strategies.{back_at}
use Rattle.cw_least_strategy.proofs.Acting.{backs_more, backs_same, back_some, back_none}
use Rattle.std.proofs.Common.{map}
use Rattle.cw_least_strategy.proofs.acts.backs_at.Goals as goal
use Rattle.cw_least_strategy.proofs.acts.backs_at.Goals.{then-to-gt0+in_ok-push, else-to-gt0}

pub loop-x-preserved : goal.loop-x-preserved
loop-x-preserved c = elim c.if-to-gt0.branch [
  | then-to-gt0+in_ok-push w ↦
      let g = game_of c.args.solved.now.game in
      let call = returning c.args.back.0 c.args.split in
      backs_more (back_at g (key_of c.args.key.now) call) c.loop-x.x c.loop-x.backs.items c.if-to-gt0.backs.items (record { 0 = c.loop-x.x }, w.key.result) c.loop-x.invariant
      (ap (λ (v : Vec (StateId × Key) Global). v.items) w.backs-is ∙ w.in_ok-push.ensures.items)
      (back_some g (key_of c.args.key.now) call c.loop-x.x w.key.result (w.key.ensures ∙ c.after_return-to.ensures) (rw w.key.ensures w.if-to-gt0.true))
  | else-to-gt0 w ↦
      let g = game_of c.args.solved.now.game in
      let call = returning c.args.back.0 c.args.split in
      ap (λ (v : Vec (StateId × Key) Global). map (λ (b : StateId × Key). (b.0.0, b.1)) v.items) w.backs-is
      ∙ backs_same (back_at g (key_of c.args.key.now) call) c.loop-x.x (map (λ (b : StateId × Key). (b.0.0, b.1)) c.loop-x.backs.items) c.loop-x.invariant
      (back_none g (key_of c.args.key.now) call c.loop-x.x (key_at c.args.key.now.aim.now c.after_return-to.result) c.after_return-to.ensures w.if-to-gt0.false)
]

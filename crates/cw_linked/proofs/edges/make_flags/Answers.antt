use Rattle.std.proofs.Common.{◌≡◌, ◌∙◌, Bool, List, length, drop, sym, subst}
use Rattle.std.proofs.lemmas.List.{take_at}
use Rattle.std.proofs.lemmas.Result.{IfOk-weaker}
use Rattle.cw_product.specs.Product.{game_of}
use Rattle.cw_linked.specs.Edges.{AreReached}
use Rattle.cw_linked.proofs.edges.make_flags.Goals as goal

pub returns : goal.returns
returns c =
    let g = game_of c.args.game.now in
    let reached = c.in_ok-reached.reached in
    let flags = c.flag_all.new.flags in
    let given : c.deref.result.now ≡ flags =
    c.deref.ensures.value ∙ take_at flags (drop (length flags) reached.items) reached.len (c.flag_all.auto.flags ∙ c.deref_mut.ensures.len) in
    IfOk-weaker c.ranked.result (λ (all : List Bool). all ≡ c.deref.result.now) (AreReached g) (λ all is. subst (AreReached g) (sym (is ∙ given)) c.flag_all.ensures) c.ranked.ensures

use Rattle.std.proofs.Common.{◌≡◌, ◌∙◌, length, sym, subst, arith}
use Rattle.cw_product.specs.Product.{game_of}
use Rattle.cw_solve.specs.Tabled.{Tabled}
use Rattle.cw_solve.specs.Tables.{IsTabled}
use Rattle.cw_solve.proofs.Tabling.{same_tabled}
use Rattle.cw_linked.specs.Added.{Each, FreesLinks, HasNoHeights, AsksCells}
use Rattle.cw_linked.specs.Spans.{IsSpanned}
use Rattle.cw_linked.specs.Works.{known_of}
use Rattle.cw_linked.proofs.Alike.{alike}
use Rattle.cw_linked.proofs.Joining.{is_pushed_known, is_pushed_long, is_pushed_flagged, pushed_there, is_freed_known, is_freed_long, is_freed_high, is_freed_right, is_freed_fresh, freed_there, joined}
use Rattle.cw_linked.proofs.Takings.{few_number}
use Rattle.cw_linked.proofs.Widening.{last_there}
use Rattle.cw_linked.proofs.added.add.Goals as goal

pub numbered-at-requires : goal.numbered-at-requires
numbered-at-requires c =
    let g = game_of c.args.game.now in
    let functions = length c.args.game.now.graph.parts.items in
    let w = c.args.work.now in
    let pushed = c.enlarge.new.work in
    let there = pushed_there g functions c.requires.routed (alike c.args.game.now) w pushed c.args.context.now c.requires.kept c.requires.contexts c.in_ok-enlarge.ensures in
    let lt = few_number pushed.blocks.contexts.items (length w.blocks.contexts.items) c.args.context.now there in
    record {
      routed = c.requires.routed;
      blocks = (is_pushed_known g functions c.requires.routed (alike c.args.game.now) w pushed c.args.context.now c.requires.kept c.requires.contexts c.in_ok-enlarge.ensures).blocks;
      within = omega (arith, lt, c.len-number.ensures, w.blocks.contexts.ok.0);
    }

pub spans_at-own-requires-clause-there : goal.spans_at-own-requires-clause-there
spans_at-own-requires-clause-there c =
    last_there (game_of c.args.game.now) (length c.args.game.now.graph.parts.items) c.requires.routed c.args.work.now.blocks.contexts.items c.args.context.now c.requires.contexts

pub free_all-requires : goal.free_all-requires
free_all-requires c =
    let g = game_of c.args.game.now in
    let functions = length c.args.game.now.graph.parts.items in
    let w = c.args.work.now in
    let pushed = c.enlarge.new.work in
    let d = c.args.context.now in
    let last = length w.blocks.contexts.items in
    let here : c.len-number.result ≡ last = omega (arith, c.len-number.ensures, w.blocks.contexts.ok.0) in
    let same = same_tabled pushed.blocks c.numbered-at.result last d (c.numbered-at.ensures.number ∙ here) c.numbered-at.ensures.there
    (pushed_there g functions c.requires.routed (alike c.args.game.now) w pushed d c.requires.kept c.requires.contexts c.in_ok-enlarge.ensures) in
    record {
      routed = c.requires.routed;
      known = is_pushed_known g functions c.requires.routed (alike c.args.game.now) w pushed c.args.context.now c.requires.kept c.requires.contexts c.in_ok-enlarge.ensures;
      tabled = c.numbered-at.ensures.there;
      spans = subst (λ (a : Tabled). IsSpanned g a.context.function c.spans_at-own.result) (sym same) c.spans_at-own.ensures;
      long = is_pushed_long g functions c.requires.routed (alike c.args.game.now) w pushed c.args.context.now c.requires.kept c.requires.contexts c.in_ok-enlarge.ensures;
      flagged = is_pushed_flagged g functions c.requires.routed (alike c.args.game.now) w pushed c.args.context.now c.requires.kept c.requires.contexts c.in_ok-enlarge.ensures;
    }

pub ask_all-requires : goal.ask_all-requires
ask_all-requires c =
    let g = game_of c.args.game.now in
    let functions = length c.args.game.now.graph.parts.items in
    let w = c.args.work.now in
    let pushed = c.enlarge.new.work in
    let freed = c.free_all.new.work in
    let d = c.args.context.now in
    let last = length w.blocks.contexts.items in
    let here : c.len-number.result ≡ last = omega (arith, c.len-number.ensures, w.blocks.contexts.ok.0) in
    let same = same_tabled pushed.blocks c.numbered-at.result last d (c.numbered-at.ensures.number ∙ here) c.numbered-at.ensures.there
    (pushed_there g functions c.requires.routed (alike c.args.game.now) w pushed d c.requires.kept c.requires.contexts c.in_ok-enlarge.ensures) in
    let frees = subst (λ (a : Tabled). FreesLinks g pushed freed a.number a.context Each) same c.in_ok-free_all.ensures in
    record {
      routed = c.requires.routed;
      known = is_freed_known g functions c.requires.routed (alike c.args.game.now) w pushed d c.requires.kept c.requires.contexts c.in_ok-enlarge.ensures freed frees;
      tabled = subst (IsTabled freed.blocks) (sym same)
          (freed_there g functions c.requires.routed (alike c.args.game.now) w pushed d c.requires.kept c.requires.contexts c.in_ok-enlarge.ensures freed frees);
      spans = subst (λ (a : Tabled). IsSpanned g a.context.function c.spans_at-own.result) (sym same) c.spans_at-own.ensures;
      long = is_freed_long g functions c.requires.routed (alike c.args.game.now) w pushed d c.requires.kept c.requires.contexts c.in_ok-enlarge.ensures freed frees;
      high = is_freed_high g functions c.requires.routed (alike c.args.game.now) w pushed d c.requires.kept c.requires.contexts c.in_ok-enlarge.ensures freed frees;
      right = is_freed_right g functions c.requires.routed (alike c.args.game.now) w pushed d c.requires.kept c.requires.contexts c.in_ok-enlarge.ensures freed frees;
      fresh = subst (HasNoHeights g (known_of freed)) (sym same)
          (is_freed_fresh g functions c.requires.routed (alike c.args.game.now) w pushed d c.requires.kept c.requires.contexts c.in_ok-enlarge.ensures freed frees);
    }

pub returns : goal.returns
returns c =
    let g = game_of c.args.game.now in
    let functions = length c.args.game.now.graph.parts.items in
    let w = c.args.work.now in
    let pushed = c.enlarge.new.work in
    let freed = c.free_all.new.work in
    let d = c.args.context.now in
    let last = length w.blocks.contexts.items in
    let here : c.len-number.result ≡ last = omega (arith, c.len-number.ensures, w.blocks.contexts.ok.0) in
    let same = same_tabled pushed.blocks c.numbered-at.result last d (c.numbered-at.ensures.number ∙ here) c.numbered-at.ensures.there
    (pushed_there g functions c.requires.routed (alike c.args.game.now) w pushed d c.requires.kept c.requires.contexts c.in_ok-enlarge.ensures) in
    let frees = subst (λ (a : Tabled). FreesLinks g pushed freed a.number a.context Each) same c.in_ok-free_all.ensures in
    joined g functions c.requires.routed (alike c.args.game.now) w pushed d c.requires.kept c.requires.contexts c.in_ok-enlarge.ensures freed frees c.ask_all.new.work
    (subst (λ (a : Tabled). AsksCells g freed c.ask_all.new.work a.number a.context Each) same c.in_ok-ask_all.ensures)

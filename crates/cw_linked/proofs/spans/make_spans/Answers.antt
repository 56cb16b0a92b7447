use Rattle.std.proofs.Common.{◌≡◌, ◌+◌, ℕ, List, Some, length, sym, ap, ◌∙◌, subst, inl, inr}
use Rattle.std.specs.Prelude.{slice_get}
use Rattle.std.proofs.lemmas.List.{length_push}
use Rattle.cw_product.specs.Product.{game_of}
use Rattle.cw_linked.specs.declared.spans.Spans.{Spans}
use Rattle.cw_linked.specs.Spans.{IsSpanned}
use Rattle.cw_linked.proofs.Adding.{push_cases}
use Rattle.cw_linked.proofs.spans.make_spans.Goals as goal

pub loop-f-preserved : goal.loop-f-preserved
loop-f-preserved c =
    let g = game_of c.args.game.now in
    let old = c.loop-f.spans.items in
    let own = c.spans_of.result in
    let longer = c.in_ok-push.ensures.items in
    record {
      long = ap (λ (xs : List Spans). length xs) longer ∙ length_push old own ∙ ap (λ (n : ℕ). n + 1) c.loop-f.invariant.long;
      are = λ f spans at. elim (push_cases old own f spans (subst (λ (xs : List Spans). slice_get xs f ≡ Some spans) longer at)) [
        | inl was ↦ c.loop-f.invariant.are f spans was
        | inr new ↦ subst (IsSpanned g f) new.1 (subst (λ (n : ℕ). IsSpanned g n own) (sym (new.0 ∙ c.loop-f.invariant.long)) c.spans_of.ensures)
      ];
    }

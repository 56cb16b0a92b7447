-- The fronts that are passed are those of the erased path.
use Rattle.std.proofs.Common.{◌≡◌, ℕ, suc, ◌-◌, List, [], ◌∷◌, ◌++◌, cond, Option, Some, None, map, filter_map, take, length, refl, sym, ap, ap₂, ◌∙◌, arith}
use Rattle.std.specs.List.{cons_option}
use Rattle.cw_syntax.specs.Frames.{Item, front, Frame}
use Rattle.cw_model.specs.Boards.{Phase, Visit, Asked, Refused, Free, FreeSplit, Over}
use Rattle.cw_model.specs.Runs.{State, passed_in, passed, erased}
use Rattle.cw_boards.specs.declared.paths.Front.{Front}
use Rattle.cw_boards.specs.declared.paths.Seen.{Seen}
use Rattle.cw_boards.specs.Seen.{seen_phase, items_by, IsSeen, AreSeen, steps, passed_by}

module _ (item : ℕ → Item) where
  abbrev numbers : List Front → List Item
  numbers path = map (λ (front : Front). item front.0) path

  one_more : (o : Option Front) (path : List Front) → numbers (cons_option o path) ≡ items_by item o ++ numbers path
  one_more None path = refl
  one_more (Some number) path = refl

  passed_on : (phase : Phase) (stack : List Frame) (o : Option Front) → front stack ≡ items_by item o → items_by item (cond (steps (seen_phase phase)) o None) ≡ passed_in phase stack
  passed_on (Visit stage a later) stack o e = refl
  passed_on (Asked stage a later) stack o e = refl
  passed_on (Refused stage a later) stack o e = refl
  passed_on Free stack o e = sym e
  passed_on FreeSplit stack o e = sym e
  passed_on Over stack o e = refl

  passed_is : (s : State) (seen : Seen) → IsSeen item s seen → items_by item (passed_by seen) ≡ passed s
  passed_is s seen h =
      ap (λ phase. items_by item (cond (steps phase) seen.front None)) (sym h.phase) ∙ passed_on s.board.phase s.board.stack seen.front h.front

  pub erased_is : (s : State) (run : List State) (states : List Seen) → AreSeen item (s ∷ run) states → numbers (filter_map passed_by (take (length states - 1) states)) ≡ erased s run
  erased_is s run [] h = absurd h
  erased_is s [] (x ∷ []) h = refl
  erased_is s [] (x ∷ (y ∷ states)) h = absurd h.1
  erased_is s (next ∷ later) (x ∷ []) h = absurd h.1
  erased_is s (next ∷ later) (x ∷ (y ∷ states)) h =
      let e : length (x ∷ (y ∷ states)) - 1 ≡ suc (length (y ∷ states) - 1) = omega arith in
      ap (λ n. numbers (filter_map passed_by (take n (x ∷ (y ∷ states))))) e
      ∙ one_more (passed_by x) (filter_map passed_by (take (length (y ∷ states) - 1) (y ∷ states)))
      ∙ ap₂ (λ a b. a ++ b) (passed_is s x h.0) (erased_is next later (y ∷ states) h.1)

-- What is written at an index, as a step of what is found.
use Rattle.std.proofs.Common.{◌≡◌, ℕ, suc, ◌-◌, ◌<◌, List, not, length, set, sym, ap, ◌∙◌, arith}
use Rattle.std.specs.Prelude.{nat_eq}
use Rattle.std.proofs.lemmas.Bool.{ne_eqb}
use Rattle.cw_game.specs.Games.{Game}
use Rattle.cw_game.specs.Pairs.{Called}
use Rattle.cw_solve.specs.declared.contexts.Context.{Context}
use Rattle.cw_solve.specs.Rounds.{IsCell}
use Rattle.cw_linked.specs.Founds.{Found, IsLink}
use Rattle.cw_linked.specs.Steps.{Takes, Frees, Ties}
use Rattle.cw_linked.specs.Works.{index_at, value_at}
use Rattle.cw_linked.proofs.Asking.{value_here, value_other}

module _ (g : Game) (contexts : List Context) (s : Found) (j : ℕ) (d : Context) (r x : ℕ) where
  -- a height, and no key
  pub takes_written : (heights asked : List ℕ) (n : ℕ) → IsCell g contexts j d r x → index_at g contexts j r x < length heights → index_at g contexts j r x < length asked
      → ((i p q : ℕ) → s.height i p q ≡ value_at g contexts heights i p q) → ((i p q : ℕ) → s.asked i p q ≡ value_at g contexts asked i p q)
      → Takes g contexts s (value_at g contexts (set heights (index_at g contexts j r x) n)) (value_at g contexts (set asked (index_at g contexts j r x) 0)) j r x n
  takes_written heights asked n cell within inside are_heights are_asked = record {
    here = value_here g contexts heights n j r x within;
    done = value_here g contexts asked 0 j r x inside;
    heights = λ i c p q is other. value_other g contexts heights n i c p q j d r x is cell other ∙ sym (are_heights i p q);
    askeds = λ i c p q is other. value_other g contexts asked 0 i c p q j d r x is cell other ∙ sym (are_asked i p q);
  }

  module _ (call : Called) (link : IsLink g contexts j d r x call) where
    -- no key of a link
    pub frees_written : (due : List ℕ) → index_at g contexts j r x < length due → ((i p k : ℕ) → s.due i p k ≡ value_at g contexts due i p k)
        → Frees g contexts s (value_at g contexts (set due (index_at g contexts j r x) 0)) j r x
    frees_written due within are_due = record {
      done = value_here g contexts due 0 j r x within;
      others = λ i c p k other is apart. value_other g contexts due 0 i c p k j d r x is.cell link.cell apart ∙ sym (are_due i p k);
    }

    -- the context of a link, and its number of moves
    pub ties_written : (to waves : List ℕ) (callee n : ℕ) → index_at g contexts j r x < length to → index_at g contexts j r x < length waves
        → ((i p k : ℕ) → s.to i p k ≡ value_at g contexts to i p k - 1) → ((i p k : ℕ) → s.tied i p k ≡ not (nat_eq (value_at g contexts to i p k) 0))
        → ((i p k : ℕ) → s.wave i p k ≡ value_at g contexts waves i p k)
        → Ties g contexts s (λ i p k. value_at g contexts (set to (index_at g contexts j r x) (suc callee)) i p k - 1) (value_at g contexts (set waves (index_at g contexts j r x) n))
        (λ i p k. not (nat_eq (value_at g contexts (set to (index_at g contexts j r x) (suc callee)) i p k) 0)) j r x callee n
    ties_written to waves callee n within inside are_to are_tied are_waves =
        let here = value_here g contexts to (suc callee) j r x within in
        record {
          here = omega (arith, here);
          now = value_here g contexts waves n j r x inside;
          tied_now = ap (λ (y : ℕ). not (nat_eq y 0)) here ∙ ap not (ne_eqb (suc callee) 0 (λ z. omega (arith, z)));
          tos = λ i c p k other is apart. ap (λ (y : ℕ). y - 1) (value_other g contexts to (suc callee) i c p k j d r x is.cell link.cell apart) ∙ sym (are_to i p k);
          waves = λ i c p k other is apart. value_other g contexts waves n i c p k j d r x is.cell link.cell apart ∙ sym (are_waves i p k);
          tieds = λ i c p k other is apart. ap (λ (y : ℕ). not (nat_eq y 0)) (value_other g contexts to (suc callee) i c p k j d r x is.cell link.cell apart) ∙ sym (are_tied i p k);
        }

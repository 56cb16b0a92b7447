-- The cells of a context are asked for, some and then others.
use Rattle.std.proofs.Common.{◌≡◌, ℕ, ◌+◌, ◌*◌, refl, sym, ◌∙◌, subst, arith, inl, inr}
use Rattle.std.specs.Prelude.{◌⊎◌}
use Rattle.std.proofs.lemmas.Bool.{cases_lt}
use Rattle.cw_game.specs.Games.{Game}
use Rattle.cw_solve.specs.declared.contexts.Context.{Context}
use Rattle.cw_solve.specs.Rounds.{IsCell}
use Rattle.cw_linked.specs.declared.work.Work.{Work}
use Rattle.cw_linked.specs.Added.{ThePair, FirstOf, AllOf, Before, AsksCells}
use Rattle.cw_linked.specs.Founds.{Found, AreRight, IsClosed}
use Rattle.cw_linked.specs.Queues.{found_of, AreLong, AreHigh, LowersKeys}
use Rattle.cw_linked.specs.Works.{Known, value_at}
use Rattle.cw_linked.proofs.Lowering.{waits_less}
use Rattle.cw_linked.proofs.Telling.{nothing, two_steps}
use Rattle.cw_linked.proofs.Working.{found_keys}

module _ (g : Game) where
  -- what is asked for stays so where keys become lower
  pub stays_closed : (old new : Work) → LowersKeys g old new → (i : ℕ) (c : Context) (p q : ℕ) → IsCell g old.blocks.contexts.items i c p q → IsClosed g (found_of g old) i c p q
      → IsClosed g (found_of g new) i c p q
  stays_closed old new step i c p q is closed =
      subst (λ (s : Found). IsClosed g s i c p q) (sym (found_keys g old new step.others))
      (λ none plain n lost.
      waits_less ((found_of g old).asked i p q) (value_at g old.blocks.contexts.items new.store.asked i p q) (2 * n + 2) (step.lowers.cells i c p q is) (closed none plain n lost))

  -- nothing is to be asked for at these pairs
  pub asks_nothing : (w : Work) → AreLong w → AreHigh w → AreRight g w.blocks.contexts.items (found_of g w) → (j : ℕ) (c : Context) (These : ℕ → ℕ → Type 0)
      → ((p q : ℕ) → IsCell g w.blocks.contexts.items j c p q → These p q → IsClosed g (found_of g w) j c p q) → AsksCells g w w j c These
  asks_nothing w long high right j c These closed = record { step = nothing g w long high right; closed = closed; due = refl }

  -- one cell
  pub asks_one : (old new : Work) (j : ℕ) (c : Context) (r y : ℕ) → LowersKeys g old new → IsClosed g (found_of g new) j c r y → new.store.due ≡ old.store.due → AsksCells g old new j c (ThePair r y)
  asks_one old new j c r y step closed due = record {
    step = step;
    closed = λ p q is e. subst (λ (z : ℕ). IsClosed g (found_of g new) j c z q) (sym e.0) (subst (λ (z : ℕ). IsClosed g (found_of g new) j c r z) (sym e.1) closed);
    due = due;
  }

  -- those at some pairs, and then those at others
  pub asks_more : (old mid new : Work) (j : ℕ) (c : Context) (These Those All : ℕ → ℕ → Type 0) → AsksCells g old mid j c These → AsksCells g mid new j c Those
      → ((p q : ℕ) → IsCell g old.blocks.contexts.items j c p q → All p q → These p q ⊎ Those p q) → AsksCells g old new j c All
  asks_more old mid new j c These Those All one two parts = record {
    step = two_steps g old mid new one.step two.step;
    closed = λ p q is all. elim (parts p q is all) [
      | inl these ↦ stays_closed mid new two.step j c p q (still p q is) (one.closed p q is these)
      | inr those ↦ two.closed p q (still p q is) those
    ];
    due = two.due ∙ one.due;
  }
    where
      still : (p q : ℕ) → IsCell g old.blocks.contexts.items j c p q → IsCell g mid.blocks.contexts.items j c p q
      still p q is = subst (λ (t : Known). IsCell g t.blocks.contexts.items j c p q) (sym one.step.others.known) is

  -- pairs that are among these
  pub asks_these : (old new : Work) (j : ℕ) (c : Context) (These Those : ℕ → ℕ → Type 0) → AsksCells g old new j c These
      → ((p q : ℕ) → IsCell g old.blocks.contexts.items j c p q → Those p q → These p q) → AsksCells g old new j c Those
  asks_these old new j c These Those asks among = record { step = asks.step; closed = λ p q is those. asks.closed p q is (among p q is those); due = asks.due }

-- Pairs of a position and a state, in parts.
pub one_more_state : (r y p q : ℕ) → FirstOf r (y + 1) p q → FirstOf r y p q ⊎ ThePair r y p q
one_more_state r y p q h = elim (cases_lt q y) [ inl lt ↦ inl (h.0, lt) | inr ge ↦ inr (h.0, omega (arith, h.1, ge)) ]

pub one_more_position : (r p q : ℕ) → Before (r + 1) p q → Before r p q ⊎ AllOf r p q
one_more_position r p q h = elim (cases_lt p r) [ inl lt ↦ inl lt | inr ge ↦ inr (omega (arith, h, ge)) ]

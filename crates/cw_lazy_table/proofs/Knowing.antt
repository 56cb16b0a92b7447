-- Where it is known of each needed pair whether it is lost, it is known what each call promises.
use Rattle.std.proofs.Common.{◌≡◌, ◌⊎◌, inl, inr, ℕ, ◌<◌, Bool, true, false, Some, refl, sym, ◌∙◌}
use Rattle.std.specs.Prelude.{slice_get, nat_lt}
use Rattle.std.proofs.lemmas.Bool.{lt-ltb, ltb-true}
use Rattle.cw_game.specs.Games.{Game, returned}
use Rattle.cw_game.specs.Pairs.{Called, call_in, kept_at}
use Rattle.cw_product.specs.Routed.{AreRouted}
use Rattle.cw_solve.specs.Sets.{set_of}
use Rattle.cw_solve.proofs.Falls.{return_state, back_stays}
use Rattle.cw_solve.proofs.Sets.{has_set}
use Rattle.cw_lemmas.proofs.Truths.{and_first, and_second, and_second_false}
use Rattle.cw_lazy_table.specs.Live.{IsLostBack, IsFull}
use Rattle.cw_lazy_table.specs.Staged.{IsKnown}
use Rattle.cw_lazy_table.proofs.Keeping.{IsSafe}

module _ (g : Game) (functions : ℕ) (routed : AreRouted g functions) (known : IsKnown g) where
  -- what a call promises is a set
  pub full_there : (p q e : ℕ) (call : Called) → IsSafe g functions p q e → call_in (slice_get g.spots p) ≡ Some call → (set : ℕ) × IsFull g call q e set
  full_there p q e call h es = (
    set_of test g.states.count,
    record {
      states = λ x t. ltb-true x g.states.count (and_first (nat_lt x g.states.count) (test x) (sym (has_set test g.states.count x) ∙ t));
      kept = λ x t l.
          let s = ltb-true x g.states.count (and_first (nat_lt x g.states.count) (test x) (sym (has_set test g.states.count x) ∙ t)) in
          good x s (and_second (nat_lt x g.states.count) (test x) (sym (has_set test g.states.count x) ∙ t)) l;
      left_out = λ x s t. bad x s (and_second_false (nat_lt x g.states.count) (test x) (sym (has_set test g.states.count x) ∙ t) (lt-ltb x g.states.count s));
    },
  )
    where
      Answer : ℕ → Type 0
      Answer x = IsLostBack g call q e x ⊎ (IsLostBack g call q e x → ⊥)

      answer : (x : ℕ) → x < g.states.count → Answer x
      answer x s = known h.function call.back (returned g.states (kept_at call.split q) x) e h.needed (back_stays g functions routed h.function p call h.below h.of es)
          (return_state g functions routed p x q call es s h.state)

      keeps : (x : ℕ) → Answer x → Bool
      keeps x (inl l) = false
      keeps x (inr n) = true

      test_in : (x : ℕ) (b : Bool) → nat_lt x g.states.count ≡ b → Bool
      test_in x true l = keeps x (answer x (ltb-true x g.states.count l))
      test_in x false l = false

      test : ℕ → Bool
      test x = test_in x (nat_lt x g.states.count) refl

      good_in : (x : ℕ) (b : Bool) (l : nat_lt x g.states.count ≡ b) → test_in x b l ≡ true → IsLostBack g call q e x → ⊥
      good_in x true l t = by (answer x (ltb-true x g.states.count l)) t
        where
          by : (a : Answer x) → keeps x a ≡ true → IsLostBack g call q e x → ⊥
          by (inl k) t = cc
          by (inr n) t = n
      good_in x false l t = cc

      good : (x : ℕ) → x < g.states.count → test x ≡ true → IsLostBack g call q e x → ⊥
      good x s t = good_in x (nat_lt x g.states.count) refl t

      bad_in : (x : ℕ) (b : Bool) (l : nat_lt x g.states.count ≡ b) → b ≡ true → test_in x b l ≡ false → IsLostBack g call q e x
      bad_in x true l is t = by (answer x (ltb-true x g.states.count l)) t
        where
          by : (a : Answer x) → keeps x a ≡ false → IsLostBack g call q e x
          by (inl k) t = k
          by (inr n) t = cc
      bad_in x false l is t = cc

      bad : (x : ℕ) → x < g.states.count → test x ≡ false → IsLostBack g call q e x
      bad x s t = bad_in x (nat_lt x g.states.count) refl (lt-ltb x g.states.count s) t

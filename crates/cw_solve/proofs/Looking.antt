-- A round looks at one cell after the other.
use Rattle.std.proofs.Common.{◌≡◌, ◌≢◌, ℕ, suc, ◌+◌, ◌<◌, List, true, false, Some, length, get_or, set, refl, sym, ap, subst, arith, inl, inr, get_or-set_same, get_or-set_other}
use Rattle.std.specs.Prelude.{slice_get, Contains}
use Rattle.std.proofs.lemmas.Bool.{cases_lt, cases_eq}
use Rattle.cw_game.specs.Games.{Game, Holds}
use Rattle.cw_game.specs.Pairs.{has, all_states}
use Rattle.cw_solve.specs.declared.contexts.Context.{Context}
use Rattle.cw_solve.specs.Contexts.{context, cells_of, HeightIs, IsNeeded}
use Rattle.cw_product.specs.Routed.{AreRouted}
use Rattle.cw_solve.specs.Rounds.{slot, IsCell, height_by, IsWritten, AreWritten, IsAsked, IsLooked, AreLooked, WereAsked}
use Rattle.cw_solve.proofs.Written.{writes, goes_on, stands, ends}
use Rattle.cw_solve.proofs.Still.{still_at, always_asked, needed_tabled}
use Rattle.cw_solve.proofs.Slots.{IsSame, same_slot, slot_within}

-- at the beginning nothing is written and nothing was looked at
pub nothing_written : (g : Game) (contexts : List Context) (heights : List ℕ) → ((k : ℕ) → get_or heights k 0 ≡ 0) → AreWritten g contexts heights 0 0
nothing_written g contexts heights none = record { each = λ i c p q is. inl (none (slot g contexts i c.function p q), refl) }

pub nothing_looked : (g : Game) (contexts : List Context) (heights : List ℕ) (n : ℕ) → AreLooked g contexts heights n 0
nothing_looked g contexts heights n = record { each = λ i c p q is lt. absurd (omega (arith, lt)) }

pub nothing_asked : (g : Game) (contexts : List Context) → WereAsked g contexts 0
nothing_asked g contexts = record { each = λ m i c p q lt is. absurd (omega (arith, lt)) }

-- what is true of a cell is true of the same one
carry : (g : Game) (contexts : List Context) (i j : ℕ) (c d : Context) (p r q x k l : ℕ) (F : Context → ℕ → ℕ → ℕ → Type 0) → IsSame g contexts i j c d p r q x → k ≡ l → F c p q k → F d r x l
carry g contexts i j c d p r q x k l F s e h =
    subst (λ (y : ℕ). F d r x y) e (subst (λ (y : ℕ). F d r y k) s.state (subst (λ (y : ℕ). F d y q k) s.position (subst (λ (y : Context). F y p q k) s.context h)))

module _ (g : Game) (functions : ℕ) (routed : AreRouted g functions) (contexts : List Context) where
  abbrev pub Value : List ℕ → ℕ → Context → ℕ → ℕ → ℕ
  Value heights i c p q = get_or heights (slot g contexts i c.function p q) 0

  abbrev IsLookedAt : ℕ → Context → ℕ → ℕ → ℕ → Type 0
  IsLookedAt n c p q k = IsLooked g contexts n p q c.promise k

  -- one cell more, where nothing is written
  pub looked_more : (heights : List ℕ) (n i : ℕ) (c : Context) (p q : ℕ) → IsCell g contexts i c p q → AreLooked g contexts heights n (slot g contexts i c.function p q)
      → IsLooked g contexts n p q c.promise (Value heights i c p q) → AreLooked g contexts heights n (slot g contexts i c.function p q + 1)
  looked_more heights n i c p q is old new = record {
    each = λ j d r x are lt. elim (cases_lt (slot g contexts j d.function r x) (slot g contexts i c.function p q)) [
      | inl less ↦ old.each j d r x are less
      | inr le ↦
          let z : slot g contexts i c.function p q ≡ slot g contexts j d.function r x = omega (arith, lt, le) in
          carry g contexts i j c d p r q x (Value heights i c p q) (Value heights j d r x) (IsLookedAt n) (same_slot g contexts i j c d p r q x is are z) (ap (λ y. get_or heights y 0) z) new
    ];
  }

  -- what is true of each cell, and of this one with what is written, is true of each after the write
  at_cells : (heights : List ℕ) (v i : ℕ) (c : Context) (p q : ℕ) → IsCell g contexts i c p q → slot g contexts i c.function p q < length heights → (F : Context → ℕ → ℕ → ℕ → Type 0)
      → F c p q v → (j : ℕ) (d : Context) (r x : ℕ) → IsCell g contexts j d r x
      → (slot g contexts j d.function r x ≢ slot g contexts i c.function p q → F d r x (Value heights j d r x)) → F d r x (Value (set heights (slot g contexts i c.function p q) v) j d r x)
  at_cells heights v i c p q is lt F here j d r x are old =
      elim (cases_eq (slot g contexts j d.function r x) (slot g contexts i c.function p q)) [
        | inl e ↦
            let value : get_or (set heights (slot g contexts i c.function p q) v) (slot g contexts j d.function r x) 0 ≡ v = rw e (rw get_or-set_same refl) in
            carry g contexts i j c d p r q x v (Value (set heights (slot g contexts i c.function p q) v) j d r x) F (same_slot g contexts i j c d p r q x is are (sym e)) (sym value) here
        | inr ne ↦
            let value : get_or (set heights (slot g contexts i c.function p q) v) (slot g contexts j d.function r x) 0 ≡ get_or heights (slot g contexts j d.function r x) 0 =
            rw get_or-set_other refl in
            subst (λ (y : ℕ). F d r x y) (sym value) (old ne)
      ]

  -- one cell more, whose height is written
  pub written_more : (heights : List ℕ) (n i : ℕ) (c : Context) (p q : ℕ) → IsCell g contexts i c p q → slot g contexts i c.function p q < length heights
      → AreWritten g contexts heights n (suc n) → Holds g n p q (has c.promise) ≡ true → Holds g (suc n) p q (has c.promise) ≡ false
      → AreWritten g contexts (set heights (slot g contexts i c.function p q) (suc n)) n (suc n)
  written_more heights n i c p q is lt old h l = record {
    each = λ j d r x are. at_cells heights (suc n) i c p q is lt (λ c p q k. IsWritten g n (suc n) p q c.promise k) (writes g functions routed n p q c.promise is.state h l) j d r x are
        (λ ne. old.each j d r x are);
  }

  pub looked_written : (heights : List ℕ) (n i : ℕ) (c : Context) (p q : ℕ) → IsCell g contexts i c p q → slot g contexts i c.function p q < length heights
      → AreLooked g contexts heights n (slot g contexts i c.function p q) → IsAsked g contexts n p q c.promise
      → AreLooked g contexts (set heights (slot g contexts i c.function p q) (suc n)) n (slot g contexts i c.function p q + 1)
  looked_written heights n i c p q is lt old asked = record {
    each = λ j d r x are less. at_cells heights (suc n) i c p q is lt (IsLookedAt n) (record { asked = asked; holds = λ e. absurd (omega (arith, e)) }) j d r x are
        (λ ne. old.each j d r x are (omega (arith, less, ne)));
  }

  -- after a round
  pub round_written : (heights : List ℕ) (n m : ℕ) → AreWritten g contexts heights n m → AreLooked g contexts heights n (cells_of g contexts) → AreWritten g contexts heights (suc n) m
  round_written heights n m w l = record {
    each = λ i c p q is. goes_on g functions routed n m p q c.promise (Value heights i c p q) (w.each i c p q is) (l.each i c p q is (slot_within g contexts i c p q is)).holds;
  }

  pub round_asked : (heights : List ℕ) (n : ℕ) → WereAsked g contexts n → AreLooked g contexts heights n (cells_of g contexts) → WereAsked g contexts (suc n)
  round_asked heights n were l = record {
    each = λ m i c p q lt is. elim (cases_lt m n) [
      | inl less ↦ were.each m i c p q less is
      | inr le ↦
          let e : n ≡ m = omega (arith, lt, le) in
          subst (λ (y : ℕ). IsAsked g contexts y p q c.promise) e (l.each i c p q is (slot_within g contexts i c p q is)).asked
    ];
  }

  module _ (heights : List ℕ) (n : ℕ) (w : AreWritten g contexts heights n n) (l : AreLooked g contexts heights n (cells_of g contexts)) (were : WereAsked g contexts n)
      (below : (i : ℕ) (c : Context) → slice_get contexts i ≡ Some c → c.function < functions) where
    looked : (i : ℕ) (c : Context) (p q : ℕ) → IsCell g contexts i c p q → IsLookedAt n c p q (Value heights i c p q)
    looked i c p q is = l.each i c p q is (slot_within g contexts i c p q is)

    rests : (i : ℕ) (c : Context) (p q : ℕ) → IsCell g contexts i c p q → Holds g (suc n) p q (has c.promise) ≡ Holds g n p q (has c.promise)
    rests i c p q is = stands g functions routed n p q c.promise (Value heights i c p q) is.state (w.each i c p q is) (looked i c p q is).holds

    -- Where a round wrote nothing, what is written are the heights ..
    pub heights_are : (i : ℕ) (c : Context) (p q : ℕ) → IsCell g contexts i c p q → HeightIs g p q c.promise (height_by (Value heights i c p q))
    heights_are i c p q is =
        ends g functions routed n p q c.promise (Value heights i c p q) is.state (w.each i c p q is)
        (λ m le. still_at g functions routed contexts n below rests (λ i c p q is. (looked i c p q is).asked) m le i c p q is)

    -- .. and the tabled contexts are all that are needed.
    pub all_tabled : Contains contexts (context g.main (all_states g)) → (c : Context) → IsNeeded g c → Contains contexts c
    all_tabled main c need = needed_tabled g contexts (always_asked g functions routed contexts n below rests (λ i c p q is. (looked i c p q is).asked) were) main c need

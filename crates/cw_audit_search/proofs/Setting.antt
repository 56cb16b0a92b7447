-- A search stays sound where a number is set to that of a run, and isn't greater than before.
use Rattle.std.proofs.Common.{◌≡◌, ℕ, ◌≤◌, Bool, true, false, cond, Option, Some, None, nat_eq, eqb-true, refl, sym, ap, ◌∙◌, subst, arith, ◌⊎◌, inl, inr}
use Rattle.std.specs.Prelude.{slice_get}
use Rattle.std.proofs.lemmas.Option.{none-some, same_Some}
use Rattle.std.proofs.lemmas.Bool.{and_parts}
use Rattle.std.proofs.lemmas.Bool.{and_from as both}
use Rattle.cw_lemmas.proofs.Numbers.{nat_eq_self}
use Rattle.cw_game.specs.Games.{Game, bad_in}
use Rattle.cw_audit_table.specs.Runs.{skipped, cut, IsWithin}
use Rattle.cw_audit_search.specs.Searches.{Found, is_group, is_row, IsNumberSet, IsReachSet, IsBestSet}
use Rattle.cw_audit_search.specs.Sound.{IsFair, IsRowKey, IsArrival, IsSound, IsProposal, IsHitCut, HasFallen}
use Rattle.cw_audit_search.proofs.Runs.{within_run}
use Rattle.cw_audit_search.proofs.Proposing.{proposal_row_key}

-- what holds at a row key holds where the row key is said to be the same
pub same_row : (P : (f q p x : ℕ) → Type 0) (f q p x f2 q2 p2 x2 : ℕ) → is_row f q p x f2 q2 p2 x2 ≡ true → P f q p x → P f2 q2 p2 x2
same_row P f q p x f2 q2 p2 x2 e h =
    let a = and_parts (nat_eq f2 f) _ e in
    let b = and_parts (nat_eq q2 q) _ a.1 in
    let c = and_parts (nat_eq p2 p) (nat_eq x2 x) b.1 in
    subst (λ x. P f2 q2 p2 x) (sym (eqb-true x2 x c.1))
    (subst (λ p. P f2 q2 p x) (sym (eqb-true p2 p c.0))
    (subst (λ q. P f2 q p x) (sym (eqb-true q2 q b.0))
    (subst (λ f. P f q p x) (sym (eqb-true f2 f a.0)) h)))

pub same_group : (P : (f q : ℕ) → Type 0) (f q f2 q2 : ℕ) → is_group f q f2 q2 ≡ true → P f q → P f2 q2
same_group P f q f2 q2 e h =
    let a = and_parts (nat_eq f2 f) (nat_eq q2 q) e in
    subst (λ q. P f2 q) (sym (eqb-true q2 q a.1)) (subst (λ f. P f q) (sym (eqb-true f2 f a.0)) h)

pub row_itself : (f q p x : ℕ) → is_row f q p x f q p x ≡ true
row_itself f q p x =
    both (nat_eq f f) _ (nat_eq_self f) (both (nat_eq q q) _ (nat_eq_self q) (both (nat_eq p p) (nat_eq x x) (nat_eq_self p) (nat_eq_self x)))

pub group_itself : (f q : ℕ) → is_group f q f q ≡ true
group_itself f q = both (nat_eq f f) (nat_eq q q) (nat_eq_self f) (nat_eq_self q)

-- what is there after a choice
pub chosen : {A : Type 0} (b : Bool) (n a : A) (old : Option A) → cond b (Some n) old ≡ Some a → ((b ≡ true) × (n ≡ a)) ⊎ ((b ≡ false) × (old ≡ Some a))
chosen true n a old e = inl (refl, same_Some n a e)
chosen false n a old e = inr (refl, e)

module _ (g : Game) (functions : ℕ) (fair : IsFair g functions) (s s2 : Found) (sound : IsSound g functions s) where
  module _ (f q p x n : ℕ) (set : IsNumberSet s s2 f q (skipped g p) x n) where
    was : (f2 q2 p2 x2 a : ℕ) → s2.number f2 q2 p2 x2 ≡ Some a
        → ((is_row f q (skipped g p) x f2 q2 p2 x2 ≡ true) × (n ≡ a)) ⊎ ((is_row f q (skipped g p) x f2 q2 p2 x2 ≡ false) × (s.number f2 q2 p2 x2 ≡ Some a))
    was f2 q2 p2 x2 a e = chosen (is_row f q (skipped g p) x f2 q2 p2 x2) n a (s.number f2 q2 p2 x2) (sym (set.number f2 q2 p2 x2) ∙ e)

    is_here : s2.number f q (skipped g p) x ≡ Some n
    is_here = set.number f q (skipped g p) x ∙ ap (λ b. cond b (Some n) (s.number f q (skipped g p) x)) (row_itself f q (skipped g p) x)

    elsewhere : (f2 q2 p2 x2 : ℕ) → is_row f q (skipped g p) x f2 q2 p2 x2 ≡ false → s2.number f2 q2 p2 x2 ≡ s.number f2 q2 p2 x2
    elsewhere f2 q2 p2 x2 e = set.number f2 q2 p2 x2 ∙ ap (λ b. cond b (Some n) (s.number f2 q2 p2 x2)) e

    module _ (falls : (a : ℕ) → s.number f q (skipped g p) x ≡ Some a → n ≤ a) where
      pub number_falls : HasFallen s s2
      number_falls = record {
        reach = λ f2 q2 r e. (r, set.reach f2 q2 ∙ e, omega arith);
        number = λ f2 q2 p2 x2 a e. by f2 q2 p2 x2 a e (is_row f q (skipped g p) x f2 q2 p2 x2) refl;
        best = λ k e. (k, set.best ∙ e, omega arith);
      }
        where
          by : (f2 q2 p2 x2 a : ℕ) → s.number f2 q2 p2 x2 ≡ Some a → (b : Bool) → is_row f q (skipped g p) x f2 q2 p2 x2 ≡ b
              → (m : ℕ) × (s2.number f2 q2 p2 x2 ≡ Some m) × (m ≤ a)
          by f2 q2 p2 x2 a e true i = (
            n,
            set.number f2 q2 p2 x2 ∙ ap (λ b. cond b (Some n) (s.number f2 q2 p2 x2)) i,
            same_row (λ f q p x. s.number f q p x ≡ Some a → n ≤ a) f q (skipped g p) x f2 q2 p2 x2 i (falls a) e,
          )
          by f2 q2 p2 x2 a e false i = (a, elsewhere f2 q2 p2 x2 i ∙ e, omega arith)

      module _ (o : IsProposal g s f q p x n) (good : bad_in g x (slice_get g.spots (skipped g p)) ≡ false) where
        -- the entry's row of the group itself
        entry_there : s2.number f q (skipped g (g.entry f)) q ≡ Some 0
        entry_there = elim o.begun [
          | inl h ↦ let z = number_falls.number f q (skipped g (g.entry f)) q 0 h in z.1 ∙ ap (λ n. Some n) (omega (arith, z.2))
          | inr h ↦ subst (λ p. s2.number f q p q ≡ Some 0) h.0 (subst (λ x. s2.number f q (skipped g p) x ≡ Some 0) h.1 (is_here ∙ ap (λ n. Some n) h.2))
        ]

        still_begun : (f2 q2 p2 x2 a : ℕ) → s2.number f2 q2 p2 x2 ≡ Some a → s2.number f2 q2 (skipped g (g.entry f2)) q2 ≡ Some 0
        still_begun f2 q2 p2 x2 a e = elim (was f2 q2 p2 x2 a e) [
          | inl h ↦ same_row (λ f q p x. s2.number f q (skipped g (g.entry f)) q ≡ Some 0) f q (skipped g p) x f2 q2 p2 x2 h.0 entry_there
          | inr h ↦ let z = number_falls.number f2 q2 (skipped g (g.entry f2)) q2 0 (sound.begun f2 q2 p2 x2 a h.1) in z.1 ∙ ap (λ n. Some n) (omega (arith, z.2))
        ]

        -- a row is set
        pub number_sound : IsSound g functions s2
        number_sound = record {
          main = set.reach g.main g.states.start ∙ sound.main;
          entered = λ f2 q2 r e. sound.entered f2 q2 r (sym (set.reach f2 q2) ∙ e);
          known = λ f2 q2 p2 x2 a e. elim (was f2 q2 p2 x2 a e) [
            | inl h ↦ same_row (λ f q p x. (r : ℕ) × (s2.reach f q ≡ Some r)) f q (skipped g p) x f2 q2 p2 x2 h.0 (o.known.0, set.reach f q ∙ o.known.1)
            | inr h ↦ let z = sound.known f2 q2 p2 x2 a h.1 in (z.0, set.reach f2 q2 ∙ z.1)
          ];
          inside = λ f2 q2 p2 x2 a e. elim (was f2 q2 p2 x2 a e) [
            | inl h ↦ same_row (λ f q p x. (m : ℕ) × IsWithin g f q p x m × (a ≡ cut m)) f q (skipped g p) x f2 q2 p2 x2 h.0
                (o.moves, within_run g f q p x o.moves o.run good, sym h.1 ∙ o.number)
            | inr h ↦ sound.inside f2 q2 p2 x2 a h.1
          ];
          keyed = λ f2 q2 p2 x2 a e. elim (was f2 q2 p2 x2 a e) [
            | inl h ↦ same_row (IsRowKey g functions) f q (skipped g p) x f2 q2 p2 x2 h.0 (proposal_row_key g functions fair s sound f q p x n o good)
            | inr h ↦ sound.keyed f2 q2 p2 x2 a h.1
          ];
          begun = still_begun;
          violated = λ k e. sound.violated k (sym set.best ∙ e);
        }

  -- a group is entered, or nearer than before
  module _ (f q r : ℕ) (set : IsReachSet s s2 f q r) (falls : (a : ℕ) → s.reach f q ≡ Some a → r ≤ a) where
    pub reach_falls : HasFallen s s2
    reach_falls = record {
      reach = λ f2 q2 a e. by f2 q2 a e (is_group f q f2 q2) refl;
      number = λ f2 q2 p2 x2 a e. (a, set.number f2 q2 p2 x2 ∙ e, omega arith);
      best = λ k e. (k, set.best ∙ e, omega arith);
    }
      where
        by : (f2 q2 a : ℕ) → s.reach f2 q2 ≡ Some a → (b : Bool) → is_group f q f2 q2 ≡ b → (m : ℕ) × (s2.reach f2 q2 ≡ Some m) × (m ≤ a)
        by f2 q2 a e true i =
            (r, set.reach f2 q2 ∙ ap (λ b. cond b (Some r) (s.reach f2 q2)) i, same_group (λ f q. s.reach f q ≡ Some a → r ≤ a) f q f2 q2 i (falls a) e)
        by f2 q2 a e false i = (a, set.reach f2 q2 ∙ ap (λ b. cond b (Some r) (s.reach f2 q2)) i ∙ e, omega arith)

    pub reach_sound : IsArrival g f q r → IsSound g functions s2
    reach_sound arrival = record {
      main = let z = reach_falls.reach g.main g.states.start 0 sound.main in z.1 ∙ ap (λ n. Some n) (omega (arith, z.2));
      entered = λ f2 q2 a e. elim (chosen (is_group f q f2 q2) r a (s.reach f2 q2) (sym (set.reach f2 q2) ∙ e)) [
        | inl h ↦ same_group (λ f q. IsArrival g f q a) f q f2 q2 h.0 (subst (IsArrival g f q) h.1 arrival)
        | inr h ↦ sound.entered f2 q2 a h.1
      ];
      known = λ f2 q2 p2 x2 a e. let z = sound.known f2 q2 p2 x2 a (sym (set.number f2 q2 p2 x2) ∙ e) in let y = reach_falls.reach f2 q2 z.0 z.1 in (y.0, y.1);
      inside = λ f2 q2 p2 x2 a e. sound.inside f2 q2 p2 x2 a (sym (set.number f2 q2 p2 x2) ∙ e);
      keyed = λ f2 q2 p2 x2 a e. sound.keyed f2 q2 p2 x2 a (sym (set.number f2 q2 p2 x2) ∙ e);
      begun = λ f2 q2 p2 x2 a e. set.number f2 q2 (skipped g (g.entry f2)) q2 ∙ sound.begun f2 q2 p2 x2 a (sym (set.number f2 q2 p2 x2) ∙ e);
      violated = λ k e. sound.violated k (sym set.best ∙ e);
    }

  -- a violation is found, or a nearer one
  module _ (k : ℕ) (set : IsBestSet s s2 k) where
    pub best_falls : ((a : ℕ) → s.best ≡ Some a → k ≤ a) → HasFallen s s2
    best_falls falls = record {
      reach = λ f2 q2 a e. (a, set.reach f2 q2 ∙ e, omega arith);
      number = λ f2 q2 p2 x2 a e. (a, set.number f2 q2 p2 x2 ∙ e, omega arith);
      best = λ a e. (k, set.best, falls a e);
    }

    pub best_sound : IsHitCut g k → IsSound g functions s2
    best_sound hit = record {
      main = set.reach g.main g.states.start ∙ sound.main;
      entered = λ f2 q2 a e. sound.entered f2 q2 a (sym (set.reach f2 q2) ∙ e);
      known = λ f2 q2 p2 x2 a e. let z = sound.known f2 q2 p2 x2 a (sym (set.number f2 q2 p2 x2) ∙ e) in (z.0, set.reach f2 q2 ∙ z.1);
      inside = λ f2 q2 p2 x2 a e. sound.inside f2 q2 p2 x2 a (sym (set.number f2 q2 p2 x2) ∙ e);
      keyed = λ f2 q2 p2 x2 a e. sound.keyed f2 q2 p2 x2 a (sym (set.number f2 q2 p2 x2) ∙ e);
      begun = λ f2 q2 p2 x2 a e. set.number f2 q2 (skipped g (g.entry f2)) q2 ∙ sound.begun f2 q2 p2 x2 a (sym (set.number f2 q2 p2 x2) ∙ e);
      violated = λ a e. subst (IsHitCut g) (same_Some k a (sym set.best ∙ e)) hit;
    }

-- the search in which only `main` is entered
pub begins_sound : (g : Game) (functions : ℕ) → IsFair g functions → (s : Found) → ((f q : ℕ) → s.reach f q ≡ cond (is_group g.main g.states.start f q) (Some 0) None)
    → ((f q p x : ℕ) → s.number f q p x ≡ None) → s.best ≡ None → IsArrival g g.main g.states.start 0 → IsSound g functions s
begins_sound g functions fair s er en eb arrival = record {
  main = er g.main g.states.start ∙ ap (λ b. cond b (Some 0) None) (group_itself g.main g.states.start);
  entered = λ f q a e. elim (chosen (is_group g.main g.states.start f q) 0 a None (sym (er f q) ∙ e)) [
    | inl h ↦ same_group (λ f q. IsArrival g f q a) g.main g.states.start f q h.0 (subst (IsArrival g g.main g.states.start) h.1 arrival)
    | inr h ↦ absurd (none-some a h.1)
  ];
  known = λ f q p x a e. absurd (none-some a (sym (en f q p x) ∙ e));
  inside = λ f q p x a e. absurd (none-some a (sym (en f q p x) ∙ e));
  keyed = λ f q p x a e. absurd (none-some a (sym (en f q p x) ∙ e));
  begun = λ f q p x a e. absurd (none-some a (sym (en f q p x) ∙ e));
  violated = λ k e. absurd (none-some k (sym eb ∙ e));
}

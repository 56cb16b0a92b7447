-- A key that is written at a cell's index, as a step of what is found.
use Rattle.std.proofs.Common.{◌≡◌, ◌≢◌, ℕ, zero, suc, ◌<◌, ◌≤◌, List, Bool, true, false, ◌&&◌, ◌||◌, length, set, refl, sym, ◌∙◌, subst, arith, inl, inr, get_or-set_same, get_or-set_other}
use Rattle.std.specs.Prelude.{if◌then◌else◌, slice_index, nat_eq, nat_lt}
use Rattle.std.proofs.lemmas.Bool.{cases_lt, lt-ltb, ltb-true, eqb-true, eq-eqb}
use Rattle.cw_game.specs.Games.{Game}
use Rattle.cw_game.specs.Pairs.{Called}
use Rattle.cw_links.specs.Keys.{asked_with, lowered}
use Rattle.cw_solve.specs.declared.contexts.Context.{Context}
use Rattle.cw_solve.specs.Rounds.{IsCell}
use Rattle.cw_solve.proofs.Slots.{same_slot}
use Rattle.cw_linked.specs.Founds.{Found, IsLink, Waits}
use Rattle.cw_linked.specs.Steps.{IsOther, AsksCell, AsksLink}
use Rattle.cw_linked.specs.Works.{index_at, value_at}
use Rattle.cw_linked.proofs.Bounding.{index_is}
use Rattle.std.proofs.lemmas.Bool.{and_parts as both_are, cases_Bool as decide, or_cases as either_is, or_parts as neither_is}
use Rattle.cw_lemmas.proofs.Truths.{and_second_false}

module _ (g : Game) (contexts : List Context) where
  -- two cells with one index are the same
  pub other_index : (i : ℕ) (c : Context) (p q j : ℕ) (d : Context) (r x : ℕ) → IsCell g contexts i c p q → IsCell g contexts j d r x → IsOther i p q j r x
      → index_at g contexts i p q ≢ index_at g contexts j r x
  other_index i c p q j d r x is are other e =
      let s = same_slot g contexts i j c d p r q x is are (sym (index_is g contexts i c p q is.at) ∙ e ∙ index_is g contexts j d r x are.at) in
      other (s.number, s.position, s.state)

  -- what stands at a cell's index, and at the others
  pub value_here : (values : List ℕ) (v i p q : ℕ) → index_at g contexts i p q < length values → value_at g contexts (set values (index_at g contexts i p q) v) i p q ≡ v
  value_here values v i p q lt = get_or-set_same values (index_at g contexts i p q) v 0 lt

  pub value_other : (values : List ℕ) (v i : ℕ) (c : Context) (p q j : ℕ) (d : Context) (r x : ℕ) → IsCell g contexts i c p q → IsCell g contexts j d r x → IsOther i p q j r x
      → value_at g contexts (set values (index_at g contexts j r x) v) i p q ≡ value_at g contexts values i p q
  value_other values v i c p q j d r x is are other = get_or-set_other values (index_at g contexts j r x) (index_at g contexts i p q) v 0 (other_index i c p q j d r x is are other)

-- a key that isn't written waits under no more already
pub kept_low : (old key : ℕ) → (nat_eq old 0 || nat_lt key old) ≡ false → Waits old key
kept_low old key h =
    let n = neither_is (nat_eq old 0) (nat_lt key old) h in (
      some old n.0,
      elim (cases_lt key old) [
        | inr le ↦ le
        | inl lt ↦ absurd (let z : true ≡ false = sym (lt-ltb key old lt) ∙ n.1 in cc)
      ],
    )
  where
    some : (k : ℕ) → nat_eq k 0 ≡ false → 0 < k
    some zero e = absurd (let z : true ≡ false = sym (eq-eqb 0 0 refl) ∙ e in cc)
    some (suc k) e = omega arith

-- and one that is written is lower
written_low : (old key : ℕ) → (nat_eq old 0 || nat_lt key old) ≡ true → 0 < old → key ≤ old
written_low old key h some = elim (either_is (nat_eq old 0) (nat_lt key old) h) [
  | inl z ↦ absurd (let e = eqb-true old 0 z in omega (arith, e, some))
  | inr lt ↦ let l = ltb-true key old lt in omega (arith, l)
]

pub chosen_then : {X : Type 0} (b : Bool) (x y : X) → b ≡ true → (if b then x else y) ≡ x
chosen_then true x y e = refl
chosen_then false x y e = cc

pub chosen_else : {X : Type 0} (b : Bool) (x y : X) → b ≡ false → (if b then x else y) ≡ y
chosen_else false x y e = refl
chosen_else true x y e = cc

module _ (g : Game) (contexts : List Context) (s : Found) (heights asked due : List ℕ) (j : ℕ) (d : Context) (r x key : ℕ) (some : 0 < key) where
  -- a cell is asked for
  module _ (cell : IsCell g contexts j d r x) (within : index_at g contexts j r x < length asked)
      (is_height : s.height j r x ≡ slice_index heights (index_at g contexts j r x))
      (is_asked : (i p q : ℕ) → s.asked i p q ≡ value_at g contexts asked i p q) where
    abbrev Test : Bool
    Test = nat_eq (slice_index heights (index_at g contexts j r x)) 0 && (nat_eq (slice_index asked (index_at g contexts j r x)) 0 || nat_lt key (slice_index asked (index_at g contexts j r x)))

    pub asks_for_cell : AsksCell g contexts s (value_at g contexts (asked_with heights asked (index_at g contexts j r x) key)) j r x key
    asks_for_cell =
        elim (decide Test) [
          | inl yes_is ↦
              let list : asked_with heights asked (index_at g contexts j r x) key ≡ set asked (index_at g contexts j r x) key = chosen_then Test _ _ yes_is in
              subst (λ (y : List ℕ). AsksCell g contexts s (value_at g contexts y) j r x key) (sym list) (written yes_is)
          | inr not_is ↦
              let list : asked_with heights asked (index_at g contexts j r x) key ≡ asked = chosen_else Test _ _ not_is in
              subst (λ (y : List ℕ). AsksCell g contexts s (value_at g contexts y) j r x key) (sym list) (kept not_is)
        ]
      where
        written : Test ≡ true → AsksCell g contexts s (value_at g contexts (set asked (index_at g contexts j r x) key)) j r x key
        written h =
            let tests = both_are _ _ h in
            let here = value_here g contexts asked key j r x within in
            record {
              here = λ none. (omega (arith, some, here), omega (arith, here));
              is = inl (is_height ∙ eqb-true (slice_index heights (index_at g contexts j r x)) 0 tests.0, here);
              lower = λ lt.
                  let low = written_low (slice_index asked (index_at g contexts j r x)) key tests.1 (omega (arith, lt, is_asked j r x)) in
                  (omega (arith, some, here), omega (arith, here, low, is_asked j r x));
              others = λ i c p q is other. value_other g contexts asked key i c p q j d r x is cell other ∙ sym (is_asked i p q);
            }

        kept : Test ≡ false → AsksCell g contexts s (value_at g contexts asked) j r x key
        kept h = record {
          here = λ none. kept_low (slice_index asked (index_at g contexts j r x)) key
              (and_second_false _ _ h (eq-eqb (slice_index heights (index_at g contexts j r x)) 0 (sym is_height ∙ none)));
          is = inr (sym (is_asked j r x));
          lower = λ lt. (omega (arith, lt, is_asked j r x), omega (arith, is_asked j r x));
          others = λ i c p q is other. sym (is_asked i p q);
        }

  -- a link is asked for
  module _ (call : Called) (link : IsLink g contexts j d r x call) (within : index_at g contexts j r x < length due)
      (is_due : (i p k : ℕ) → s.due i p k ≡ value_at g contexts due i p k) where
    abbrev LinkTest : Bool
    LinkTest = nat_eq (slice_index due (index_at g contexts j r x)) 0 || nat_lt key (slice_index due (index_at g contexts j r x))

    pub asks_for_link : AsksLink g contexts s (value_at g contexts (lowered due (index_at g contexts j r x) key)) j r x key
    asks_for_link =
        elim (decide LinkTest) [
          | inl yes_is ↦
              let list : lowered due (index_at g contexts j r x) key ≡ set due (index_at g contexts j r x) key = chosen_then LinkTest _ _ yes_is in
              subst (λ (y : List ℕ). AsksLink g contexts s (value_at g contexts y) j r x key) (sym list) (written yes_is)
          | inr not_is ↦
              let list : lowered due (index_at g contexts j r x) key ≡ due = chosen_else LinkTest _ _ not_is in
              subst (λ (y : List ℕ). AsksLink g contexts s (value_at g contexts y) j r x key) (sym list) (kept not_is)
        ]
      where
        written : LinkTest ≡ true → AsksLink g contexts s (value_at g contexts (set due (index_at g contexts j r x) key)) j r x key
        written h =
            let here = value_here g contexts due key j r x within in
            record {
              here = (omega (arith, some, here), omega (arith, here));
              is = inl here;
              lower = λ lt.
                  let low = written_low (slice_index due (index_at g contexts j r x)) key h (omega (arith, lt, is_due j r x)) in
                  (omega (arith, some, here), omega (arith, here, low, is_due j r x));
              others = λ i c p k other is apart. value_other g contexts due key i c p k j d r x is.cell link.cell apart ∙ sym (is_due i p k);
            }

        kept : LinkTest ≡ false → AsksLink g contexts s (value_at g contexts due) j r x key
        kept h = record {
          here = kept_low (slice_index due (index_at g contexts j r x)) key h;
          is = inr (sym (is_due j r x));
          lower = λ lt. (omega (arith, lt, is_due j r x), omega (arith, is_due j r x));
          others = λ i c p k other is apart. sym (is_due i p k);
        }

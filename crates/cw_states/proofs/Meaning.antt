-- The states are the policy's.
use Rattle.std.proofs.Common.{◌≡◌, ℕ, ◌/◌, ◌%◌, ◌<◌, List, [], ◌∷◌, ◌++◌, true, Option, Some, None, length, get_or, refl, sym, ap, ap₂, ◌∙◌, subst}
use Rattle.std.proofs.Common.{is_some}
use Rattle.std.specs.Prelude.{slice_get, slice_index}
use Rattle.std.specs.List.{Contains}
use Rattle.std.proofs.Math.Nat.{mul_comm}
use Rattle.std.proofs.lemmas.Nat.{mul-add-lt, div-mul-add, mod-mul-add}
use Rattle.cw_rights.specs.declared.capabilities.Caps.{Caps}
use Rattle.cw_rights.specs.declared.capabilities.Allowed.{Allowed}
use Rattle.cw_rights.specs.declared.capabilities.Allowed.TheVariants.{Yes, NotCapable, BadDescriptor}
use Rattle.cw_rights.specs.declared.capabilities.Primitive.{Primitive}
use Rattle.cw_rights.specs.declared.capabilities.Primitive.TheVariants.{Limit, Enter, Split}
use Rattle.cw_rights.specs.declared.words.Letter.{Letter}
use Rattle.cw_rights.specs.Capabilities.{allowed, applied, closed}
use Rattle.cw_rights.specs.Policies.{PlainRule, Breaks, IsBad, primitives, start_caps}
use Rattle.cw_rights.specs.Words.{Word}
use Rattle.cw_dfa.specs.Kept.{KeepsRules}
use Rattle.cw_dfa.specs.Positions.{IsSetOf}
use Rattle.cw_dfa.specs.Verdicts.{IsVerdict, verdict, next_of}
use Rattle.cw_dfa.proofs.Kept.{states_of_words, nothing_kept, longer}
use Rattle.cw_dfa.proofs.Whole.{start_set, next_set, verdict_is}
use Rattle.cw_model.specs.Boards.{is_yes, may_grant, with_opened}
use Rattle.cw_game.specs.declared.spots.Spot.{Spot}
use Rattle.cw_game.specs.Games.{AreStates, IsOpenedIn, letter_of}
use Rattle.cw_game.specs.Reached.{Reached}
use Rattle.cw_game.proofs.Reached.{are_reached}
use Rattle.cw_states.specs.declared.uses.Uses.{Uses}
use Rattle.cw_states.specs.Rights.{IsRightsState, at_start, by_enter, by_limit, by_open, by_close}
use Rattle.cw_states.specs.States.{Lists, AreLists, Means, count, pair, set_at, caps_at, set_index, caps_index, with_caps, set_after, label_count, letters_of, states_of}
use Rattle.cw_states.specs.Spots.{Have}
use Rattle.cw_states.proofs.Letters.{letter_below}
use Rattle.cw_states.proofs.Narrow.{limit_of}
use Rattle.cw_states.proofs.Indices.{caps_found, number_found}

pub yes_is : (a : Allowed) → is_yes a ≡ true → a ≡ Yes
yes_is Yes e = refl
yes_is NotCapable e = cc
yes_is BadDescriptor e = cc

-- ---- a verdict tells whether a word is bad

module _ (rules : List PlainRule) (word : Word) where
  abbrev Bad : Type 0
  Bad = (i : ℕ) × Breaks rules word i

  pub verdict_bad : (o : Option ℕ) → IsVerdict rules word o → is_some o ≡ true → Bad
  verdict_bad None v e = cc
  verdict_bad (Some i) v e = (i, v.0)

  pub bad_verdict : (o : Option ℕ) → IsVerdict rules word o → Bad → is_some o ≡ true
  bad_verdict None v b = absurd (v b.0 b.1)
  bad_verdict (Some i) v b = refl

module _ (uses : Uses) (v : Lists) (are : AreLists uses v) where
  abbrev rules : List PlainRule
  rules = v.policy.rules

  abbrev letters : List Letter
  letters = letters_of v.policy uses v.rights

  abbrev Is : Caps → Type 0
  Is c = IsRightsState v.policy uses c

  -- ---- what a state that means something is made of

  column_below : (c : Caps) → Is c → caps_index v c < length v.rights
  column_below c is = (caps_found v.rights c ((are.rights.1 c).1 is)).0

  in_sets : (w : Word) (set : ℕ) → KeepsRules rules letters w → IsSetOf rules w set → Contains v.sets set
  in_sets w set k s = (are.sets.1 set).1 ((states_of_words rules letters set).1 (w, k, s))

  module _ (q : ℕ) (w : Word) (c : Caps) (m : Means uses v q w c) where
    row_is : q / length v.rights ≡ set_index v m.set
    row_is = ap (λ p. p / length v.rights) m.is ∙ div-mul-add (set_index v m.set) (length v.rights) (caps_index v c) (column_below c m.held)

    column_is : q % length v.rights ≡ caps_index v c
    column_is = ap (λ p. p % length v.rights) m.is ∙ mod-mul-add (set_index v m.set) (length v.rights) (caps_index v c) (column_below c m.held)

    pub caps_is : caps_at v q ≡ c
    caps_is =
        ap (λ j. get_or v.rights j (start_caps v.policy)) column_is ∙ (caps_found v.rights c ((are.rights.1 c).1 m.held)).1 (start_caps v.policy)

    pub set_is : set_at v q ≡ m.set
    set_is = ap (λ i. slice_index v.sets i) row_is ∙ (number_found v.sets m.set (in_sets w m.set m.keeps m.is_set)).1 0

    pub below : q < count v
    below = subst (λ p. p < count v) (sym m.is)
        (subst (λ n. pair v (set_index v m.set) (caps_index v c) < n) (mul_comm (length v.rights) (length v.sets))
        (mul-add-lt (set_index v m.set) (length v.rights) (caps_index v c) (length v.sets)
        (number_found v.sets m.set (in_sets w m.set m.keeps m.is_set)).0 (column_below c m.held)))

    -- the same word with other capabilities
    moved : (d x : Caps) → x ≡ d → Is d → Means uses v (with_caps v q x) w d
    moved d x e is = record { keeps = m.keeps; set = m.set; is_set = m.is_set; held = is; is = ap₂ (λ i y. pair v i (caps_index v y)) row_is e }

    abbrev letter : ℕ → Letter
    letter label = letter_of label c

    after_is : (label : ℕ) → set_after v q label ≡ next_of rules m.set (letter label)
    after_is label = ap₂ (λ s d. next_of rules s (letter_of label d)) set_is caps_is

    pub verdict_after : (label : ℕ) → IsVerdict rules (w ++ letter label ∷ []) (verdict rules 0 1 (set_after v q label))
    verdict_after label =
        subst (λ s. IsVerdict rules (w ++ letter label ∷ []) (verdict rules 0 1 s)) (sym (after_is label))
        (verdict_is rules (w ++ letter label ∷ []) (next_of rules m.set (letter label)) (next_set rules w m.set (letter label) m.is_set))

    lettered : (label : ℕ) → label < label_count v.policy uses → (IsBad v.policy (w ++ letter label ∷ []) → ⊥)
        → Means uses v (pair v (set_index v (set_after v q label)) (q % length v.rights)) (w ++ letter label ∷ []) c
    lettered label l good = record {
      keeps = longer rules letters w (letter label) m.keeps
          (letter_below v.rights c label (label_count v.policy uses) l ((are.rights.1 c).1 m.held)) (λ rule b. good (rule, b));
      set = next_of rules m.set (letter label);
      is_set = next_set rules w m.set (letter label) m.is_set;
      held = m.held;
      is = ap₂ (λ s j. pair v (set_index v s) j) (after_is label) column_is;
    }

  -- ---- the calls

  pub applied_is : (c : Caps) (a : Primitive) → Contains (primitives v.policy true) a → may_grant c a ≡ true → Is c → Is (applied c a)
  applied_is c (Limit limit) there e is = by_limit c limit (limit_of v.policy limit there) (yes_is (allowed c limit) e) is
  applied_is c Enter there e is = by_enter c is
  applied_is c Split there e is = is

  pub begins : Means uses v (states_of v).start [] (start_caps v.policy)
  begins = record { keeps = nothing_kept rules letters; set = 1; is_set = start_set rules; held = at_start; is = refl }

  pub start_below : (states_of v).start < count v
  start_below = below (states_of v).start [] (start_caps v.policy) begins

  module _ (spots : List Spot) (have : Have v.policy uses spots) where
    pub opened_is : (c : Caps) (d : ℕ) → IsOpenedIn spots d → Is c → Is (with_opened c d (slice_get v.policy.descriptors d))
    opened_is c d o is =
        let x = have.opens d o in
        subst Is (ap (with_opened c d) (sym x.1.0)) (by_open c d x.0 x.1 is)

    pub states_are : AreStates v.policy spots (states_of v) (Means uses v)
    states_are = record {
      begins = begins;
      within = λ q w c m. below q w c m;
      grants = λ q w c a there m. ap (λ x. may_grant x a) (caps_is q w c m);
      granted = λ q w c a there m e.
          moved q w c m (applied c a) (applied (caps_at v q) a) (ap (λ x. applied x a) (caps_is q w c m)) (applied_is c a there e m.held);
      opened = λ q w c d o l m. let x = slice_get v.policy.descriptors d in
          moved q w c m (with_opened c d x) (with_opened (caps_at v q) d x) (ap (λ y. with_opened y d x) (caps_is q w c m)) (opened_is c d o m.held);
      closed = λ q w c d o l m.
          moved q w c m (closed c d) (closed (caps_at v q) d) (ap (λ y. closed y d) (caps_is q w c m)) (by_close c d (have.closes d o) m.held);
      bad = λ q w c label there m. (
        verdict_bad rules (w ++ letter_of label c ∷ []) (verdict rules 0 1 (set_after v q label)) (verdict_after q w c m label),
        bad_verdict rules (w ++ letter_of label c ∷ []) (verdict rules 0 1 (set_after v q label)) (verdict_after q w c m label),
      );
      lettered = λ q w c label there m good. lettered q w c m label (have.labels label there) good;
      returned = λ x q w u c k m n. record {
        keeps = m.keeps;
        set = m.set;
        is_set = m.is_set;
        held = n.held;
        is = ap₂ (pair v) (row_is x w c m) (column_is q u k n);
      };
    }

    -- and by the least meaning
    pub states_are_reached : AreStates v.policy spots (states_of v) (Reached v.policy spots (states_of v))
    states_are_reached = are_reached v.policy spots (states_of v) (Means uses v) states_are

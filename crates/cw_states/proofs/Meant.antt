-- The states are the policy's where a state stands for the words with its set of positions, under its capabilities.
use Rattle.std.proofs.Common.{◌≡◌, ℕ, ◌/◌, ◌%◌, ◌<◌, List, [], ◌∷◌, ◌++◌, true, length, sym, ap, ◌∙◌, subst}
use Rattle.std.specs.Prelude.{slice_get, slice_index, slice_index_or}
use Rattle.std.specs.List.{Contains}
use Rattle.std.proofs.lemmas.List.Elements.{Contains-get_or}
use Rattle.std.proofs.lemmas.Nat.{div-mul-add, mod-mul-add}
use Rattle.cw_rights.specs.declared.capabilities.Caps.{Caps}
use Rattle.cw_rights.specs.declared.words.Letter.{Letter}
use Rattle.cw_rights.specs.Capabilities.{applied, closed}
use Rattle.cw_rights.specs.Policies.{PlainPolicy, PlainRule, IsBad, start_caps}
use Rattle.cw_rights.specs.Words.{Word}
use Rattle.cw_dfa.specs.Positions.{IsSetOf}
use Rattle.cw_dfa.specs.Verdicts.{verdict}
use Rattle.cw_dfa.proofs.Kept.{states_of_words, longer}
use Rattle.cw_dfa.proofs.Whole.{next_set}
use Rattle.cw_model.specs.Boards.{Problem, may_grant, with_opened}
use Rattle.cw_game.specs.declared.spots.Spot.{Spot}
use Rattle.cw_game.specs.Games.{AreStates, Game, letter_of}
use Rattle.cw_game.specs.Reached.{Reached}
use Rattle.cw_game.specs.Places.{IsLaidOut, HasRoutines}
use Rattle.cw_game.specs.Linked.{AreLinkedBy}
use Rattle.cw_game.proofs.Reached.{reached_means}
use Rattle.cw_game.proofs.Linking.{linked_by}
use Rattle.cw_states.specs.declared.uses.Uses.{Uses}
use Rattle.cw_states.specs.Rights.{IsRightsState, by_close}
use Rattle.cw_states.specs.States.{Lists, AreLists, pair, set_at, caps_at, set_index, caps_index, with_caps, set_after, label_count, letters_of, states_of}
use Rattle.cw_states.specs.Spots.{Have}
use Rattle.cw_states.specs.Meant.{Tells}
use Rattle.cw_states.proofs.Letters.{letter_below}
use Rattle.cw_states.proofs.Meaning.{verdict_bad, bad_verdict, caps_is, set_is, below, begins, applied_is, opened_is}
use Rattle.cw_states.proofs.Indices.{caps_found, number_found}
use Rattle.cw_states.proofs.Below.{pair_below, row_below, column_below}
use Rattle.cw_states.proofs.Broken.{violations_are_verdicts}

module _ (uses : Uses) (v : Lists) (are : AreLists uses v) where
  abbrev rules : List PlainRule
  rules = v.policy.rules

  abbrev Is : Caps → Type 0
  Is c = IsRightsState v.policy uses c

  row_of : (i j : ℕ) → j < length v.rights → pair v i j / length v.rights ≡ i
  row_of i j l = div-mul-add i (length v.rights) j l

  column_of : (i j : ℕ) → j < length v.rights → pair v i j % length v.rights ≡ j
  column_of i j l = mod-mul-add i (length v.rights) j l

  -- what a pair of a row and a column tells
  meant : (i j : ℕ) (w : Word) (c : Caps) → i < length v.sets → j < length v.rights → IsSetOf rules w (slice_index v.sets i) → slice_index_or v.rights j (start_caps v.policy) ≡ c
      → Tells v (pair v i j) w c
  meant i j w c l r s e = (
    pair_below v i j l r,
    subst (λ k. IsSetOf rules w (slice_index v.sets k)) (sym (row_of i j r)) s,
    ap (λ k. slice_index_or v.rights k (start_caps v.policy)) (column_of i j r) ∙ e,
  )

  module _ (q : ℕ) (w : Word) (c : Caps) (t : Tells v q w c) where
    held : Is c
    held = subst Is t.2 ((are.rights.1 (caps_at v q)).0 (Contains-get_or v.rights (q % length v.rights) (start_caps v.policy) (column_below v q t.0)))

    moved : (d : Caps) → Is d → (x : Caps) → x ≡ d → Tells v (with_caps v q x) w d
    moved d is x e =
        let f = caps_found v.rights d ((are.rights.1 d).1 is) in
        subst (λ y. Tells v (with_caps v q y) w d) (sym e)
        (meant (q / length v.rights) (caps_index v d) w d (row_below v q t.0) f.0 t.1 (f.1 (start_caps v.policy)))

    -- the set after a letter that is good is a policy state
    after_found : (label : ℕ) → label < label_count v.policy uses → (IsBad v.policy (w ++ letter_of label c ∷ []) → ⊥) → Contains v.sets (set_after v q label)
    after_found label l good =
        let letters = letters_of v.policy uses v.rights in
        let k = (states_of_words rules letters (set_at v q)).0 ((are.sets.1 (set_at v q)).0 (Contains-get_or v.sets (q / length v.rights) 0 (row_below v q t.0))) in
        let letter : Letter = letter_of label (caps_at v q) in
        let there = letter_below v.rights (caps_at v q) label (label_count v.policy uses) l (Contains-get_or v.rights (q % length v.rights) (start_caps v.policy) (column_below v q t.0)) in
        let bad = λ (b : IsBad v.policy (k.0 ++ letter ∷ [])). good (subst (λ (x : Caps). IsBad v.policy (w ++ letter_of label x ∷ [])) t.2
        (verdict_bad rules (w ++ letter ∷ []) (verdict rules 0 1 (set_after v q label)) (violations_are_verdicts v q label w t.1)
        (bad_verdict rules (k.0 ++ letter ∷ []) (verdict rules 0 1 (set_after v q label)) (violations_are_verdicts v q label k.0 k.2) b))) in
        (are.sets.1 (set_after v q label)).1
        ((states_of_words rules letters (set_after v q label)).1 (k.0 ++ letter ∷ [], longer rules letters k.0 letter k.1 there (λ rule b. bad (rule, b)), next_set rules k.0 (set_at v q) letter k.2))

    lettered : (label : ℕ) → label < label_count v.policy uses → (IsBad v.policy (w ++ letter_of label c ∷ []) → ⊥)
        → Tells v (pair v (set_index v (set_after v q label)) (q % length v.rights)) (w ++ letter_of label c ∷ []) c
    lettered label l good =
        let f = number_found v.sets (set_after v q label) (after_found label l good) in
        let s = next_set rules w (set_at v q) (letter_of label (caps_at v q)) t.1 in
        let s2 = subst (λ (x : Caps). IsSetOf rules (w ++ letter_of label x ∷ []) (set_after v q label)) t.2 s in
        meant (set_index v (set_after v q label)) (q % length v.rights) (w ++ letter_of label c ∷ []) c f.0 (column_below v q t.0)
        (subst (IsSetOf rules (w ++ letter_of label c ∷ [])) (sym (f.1 0)) s2) t.2

    is_bad : (label : ℕ) → ((states_of v).bad q label ≡ true → IsBad v.policy (w ++ letter_of label c ∷ [])) × (IsBad v.policy (w ++ letter_of label c ∷ []) → (states_of v).bad q label ≡ true)
    is_bad label =
        subst (λ (x : Caps). ((states_of v).bad q label ≡ true → IsBad v.policy (w ++ letter_of label x ∷ [])) × (IsBad v.policy (w ++ letter_of label x ∷ []) → (states_of v).bad q label ≡ true)) t.2 (
          verdict_bad rules (w ++ letter_of label (caps_at v q) ∷ []) (verdict rules 0 1 (set_after v q label)) (violations_are_verdicts v q label w t.1),
          bad_verdict rules (w ++ letter_of label (caps_at v q) ∷ []) (verdict rules 0 1 (set_after v q label)) (violations_are_verdicts v q label w t.1),
        )

  start_meant : Tells v (states_of v).start [] (start_caps v.policy)
  start_meant =
      let s = (states_of v).start in
      let c = start_caps v.policy in
      let m = begins uses v are in
      (below uses v are s [] c m, subst (IsSetOf rules []) (sym (set_is uses v are s [] c m)) m.is_set, caps_is uses v are s [] c m)

  module _ (spots : List Spot) (have : Have v.policy uses spots) where
    pub states_tell : AreStates v.policy spots (states_of v) (Tells v)
    states_tell = record {
      begins = start_meant;
      within = λ q w c t. t.0;
      grants = λ q w c a there t. ap (λ x. may_grant x a) t.2;
      granted = λ q w c a there t e. moved q w c t (applied c a) (applied_is uses v are c a there e (held q w c t)) (applied (caps_at v q) a) (ap (λ x. applied x a) t.2);
      opened = λ q w c d o l t. let x = slice_get v.policy.descriptors d in
          moved q w c t (with_opened c d x) (opened_is uses v are spots have c d o (held q w c t)) (with_opened (caps_at v q) d x) (ap (λ y. with_opened y d x) t.2);
      closed = λ q w c d o l t. moved q w c t (closed c d) (by_close c d (have.closes d o) (held q w c t)) (closed (caps_at v q) d) (ap (λ y. closed y d) t.2);
      bad = λ q w c label there t. is_bad q w c t label;
      lettered = λ q w c label there t good. lettered q w c t label (have.labels label there) good;
      returned = λ x q w u c k t n. meant (x / length v.rights) (q % length v.rights) w k (row_below v x t.0) (column_below v q n.0) t.1 n.2;
    }

pub reached_is_meant : (uses : Uses) (v : Lists) (spots : List Spot) → AreLists uses v → Have v.policy uses spots
    → (q : ℕ) (w : Word) (c : Caps) → Reached v.policy spots (states_of v) q w c → Tells v q w c
reached_is_meant uses v spots are have q w c h = reached_means v.policy spots (states_of v) (Tells v) (states_tell uses v are spots have) q w c h

pub linked_by_meaning : (uses : Uses) (v : Lists) (p : Problem) (g : Game) → AreLists uses v → Have v.policy uses g.spots
    → v.policy ≡ g.policy → g.policy ≡ p.policy → g.states ≡ states_of v → IsLaidOut p.plan g → HasRoutines p.plan g → AreLinkedBy (Tells v) p g
linked_by_meaning uses v p g are have e under s laid has =
    let t = subst (λ (y : PlainPolicy). AreStates y g.spots (states_of v) (Tells v)) e (states_tell uses v are g.spots have) in
    linked_by (Tells v) p g (record { policy = under; states = subst (λ y. AreStates g.policy g.spots y (Tells v)) (sym s) t; laid = laid; routines = has })

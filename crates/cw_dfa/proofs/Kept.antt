-- The policy states are the position sets of the words that keep the rules all along.
use Rattle.std.proofs.Common.{◌≡◌, ◌≢◌, ◌↔◌, ℕ, ◌<◌, ◌≤◌, List, [], ◌∷◌, ◌++◌, Bool, true, false, Option, Some, None, nat_lt, length, take, refl, sym, ap, ◌∙◌, subst, arith, eqb-true}
use Rattle.std.proofs.Common.{eq-eqb, append_assoc, length-append}
use Rattle.std.specs.Int.{bit_at}
use Rattle.std.specs.List.{Contains}
use Rattle.std.proofs.lemmas.Bool.Decides.{nat_tests}
use Rattle.std.proofs.lemmas.List.{take_all, take_at, take-append-le}
use Rattle.std.proofs.lemmas.List.Elements.{All-nil, All-push, All-contains, Contains-push, Contains-append_left, Contains-append_right}
use Rattle.std.proofs.lemmas.Nat.Bits.{bit_at-lt, same_from_bits}
use Rattle.cw_rights.specs.declared.words.Letter.{Letter}
use Rattle.cw_rights.specs.Words.{Word}
use Rattle.cw_rights.specs.Policies.{PlainRule, Breaks}
use Rattle.cw_lemmas.proofs.Lists.{from_kept, to_kept}
use Rattle.cw_dfa.specs.Kept.{KeepsRules}
use Rattle.cw_dfa.specs.Positions.{IsSetOf}
use Rattle.cw_dfa.specs.Sets.{has}
use Rattle.cw_dfa.specs.States.{first, then, unless_bad, after, Reached}
use Rattle.cw_dfa.specs.Verdicts.{IsVerdict, verdict, next_of, walk}
use Rattle.cw_dfa.proofs.Whole.{start_set, next_set, verdict_is, walk_set}

-- ---- a word has one set

bit_of : (a b p : ℕ) → (has a p ≡ true → has b p ≡ true) → (has b p ≡ true → has a p ≡ true) → bit_at a p ≡ bit_at b p
bit_of a b p f g = by (has a p) (has b p) refl refl
  where
    by : (s t : Bool) → has a p ≡ s → has b p ≡ t → bit_at a p ≡ bit_at b p
    by true t e h = eqb-true _ 1 e ∙ sym (eqb-true _ 1 (f e))
    by false true e h = let z : has a p ≡ true = g h in absurd (cc)
    by false false e h =
        let x : bit_at a p ≢ 1 = λ q. let z = eq-eqb (bit_at a p) 1 q in cc in
        let y : bit_at b p ≢ 1 = λ q. let z = eq-eqb (bit_at b p) 1 q in cc in
        let m = bit_at-lt a p in
        let n = bit_at-lt b p in
        omega arith

one_set : (rules : List PlainRule) (w : Word) (a b : ℕ) → IsSetOf rules w a → IsSetOf rules w b → a ≡ b
one_set rules w a b h k = same_from_bits a b (λ p. bit_of a b p (λ e. (k p).1 ((h p).0 e)) (λ e. (h p).1 ((k p).0 e)))

module _ (rules : List PlainRule) (letters : List Letter) where
  abbrev Keeps : Word → Type 0
  Keeps w = (rule : ℕ) → Breaks rules w rule → ⊥

  no_verdict : (w : Word) (o : Option ℕ) → IsVerdict rules w o → Keeps w → o ≡ None
  no_verdict w None v n = refl
  no_verdict w (Some i) v n = absurd (n i v.0)

  kept_verdict : (w : Word) (set : ℕ) → IsSetOf rules w set → Keeps w → verdict rules 0 1 set ≡ None
  kept_verdict w set h n = no_verdict w (verdict rules 0 1 set) (verdict_is rules w set h) n

  verdict_kept : (w : Word) (set : ℕ) → IsSetOf rules w set → verdict rules 0 1 set ≡ None → Keeps w
  verdict_kept w set h e = subst (IsVerdict rules w) e (verdict_is rules w set h)

  passed : (o : Option ℕ) (a b : ℕ) → unless_bad o a ≡ Some b → (o ≡ None) × (a ≡ b)
  passed None a b e = (refl, cc)
  passed (Some i) a b e = absurd (cc)

  -- ---- each policy state is the set of a word

  pub longer : (w : Word) (c : Letter) → KeepsRules rules letters w → Contains letters c → Keeps (w ++ c ∷ []) → KeepsRules rules letters (w ++ c ∷ [])
  longer w c k l n = record { over = All-push (Contains letters) w c k.over l; fronts = λ m rule b. front m rule b (nat_lt (length w) m) refl }
    where
      front : (m rule : ℕ) → Breaks rules (take m (w ++ c ∷ [])) rule → (t : Bool) → nat_lt (length w) m ≡ t → ⊥
      front m rule b true t =
          let all : length (w ++ c ∷ []) ≤ m = let z = length-append w (c ∷ []) in let y : length w < m = grind (arith, nat_tests) in omega arith in
          n rule (subst (λ v. Breaks rules v rule) (take_all m (w ++ c ∷ []) all) b)
      front m rule b false t =
          let few : m ≤ length w = grind (arith, nat_tests) in
          k.fronts m rule (subst (λ v. Breaks rules v rule) (take-append-le m w (c ∷ []) few) b)

  pub nothing_kept : KeepsRules rules letters []
  nothing_kept = record { over = All-nil (Contains letters); fronts = λ m rule b. b.0 (take_all m [] (omega arith)) }

  abbrev pub HasWord : ℕ → Type 0
  HasWord set = (w : Word) × KeepsRules rules letters w × IsSetOf rules w set

  word_of : (set : ℕ) → Reached rules letters set → HasWord set
  word_of set first = ([], nothing_kept, start_set rules)
  word_of set (then a b r c) =
      let x = word_of a r in
      let s = from_kept (after rules a) letters b c in
      let p = passed (verdict rules 0 1 (next_of rules a s.0)) (next_of rules a s.0) b s.2 in
      let set = next_set rules x.0 a s.0 x.2 in
      let keeps = verdict_kept (x.0 ++ s.0 ∷ []) (next_of rules a s.0) set p.0 in
      (x.0 ++ s.0 ∷ [], longer x.0 s.0 x.1 s.1 keeps, subst (IsSetOf rules (x.0 ++ s.0 ∷ [])) p.1 set)

  -- ---- and the set of each word is a policy state

  reach_word : (v w : Word) (set : ℕ) → Reached rules letters set → IsSetOf rules v set → KeepsRules rules letters (v ++ w) → Reached rules letters (walk rules set w)
  reach_word v [] set r h k = r
  reach_word v (c ∷ w) set r h k =
      let next = next_of rules set c in
      let same : (v ++ c ∷ []) ++ w ≡ v ++ c ∷ w = append_assoc v (c ∷ []) w in
      let more = subst (KeepsRules rules letters) (sym same) k in
      let is = next_set rules v set c h in
      let keeps : Keeps (v ++ c ∷ []) = λ rule b. more.fronts (length (v ++ c ∷ [])) rule (subst (λ u. Breaks rules u rule) (sym (take_at (v ++ c ∷ []) w (length (v ++ c ∷ [])) refl)) b) in
      let e = kept_verdict (v ++ c ∷ []) next is keeps in
      let goes : after rules set c ≡ Some next = ap (λ o. unless_bad o next) e in
      let here = All-contains (Contains letters) (v ++ c ∷ w) c k.over (Contains-append_right v (c ∷ w) c (Contains-append_left (c ∷ []) w c (Contains-push [] c))) in
      reach_word (v ++ c ∷ []) w next (then set next r (to_kept (after rules set) letters c next here goes)) is more

  reached_of : (set : ℕ) → HasWord set → Reached rules letters set
  reached_of set (w, k, h) =
      let whole = reach_word [] w 1 first (start_set rules) k in
      subst (Reached rules letters) (one_set rules w (walk rules 1 w) set (walk_set rules [] w 1 (start_set rules)) h) whole

  pub states_of_words : (set : ℕ) → Reached rules letters set ↔ HasWord set
  states_of_words set = (word_of set, reached_of set)

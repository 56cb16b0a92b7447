-- The set of a word tells the least rule that it breaks.
use Rattle.std.proofs.Common.{◌≡◌, inl, inr, ℕ, zero, suc, ◌+◌, ◌≤◌, List, [], ◌∷◌, ◌++◌, Bool, true, false, cond, Option, Some, None, refl, sym, ap, ◌∙◌, subst, arith, append_assoc}
use Rattle.std.proofs.Common.{append-nil, ⊎_elim}
use Rattle.cw_rights.specs.declared.words.Letter.{Letter}
use Rattle.cw_rights.specs.Policies.{PlainRule, Breaks}
use Rattle.cw_rights.specs.Trees.{Tree, nothing, never, one, seq, alt, star, plus, maybe, count}
use Rattle.cw_rights.specs.Words.{Word, Matches}
use Rattle.cw_dfa.specs.Positions.{Reads, bad_of, IsSetOf}
use Rattle.cw_dfa.specs.Sets.{has, ends}
use Rattle.cw_dfa.specs.Verdicts.{IsVerdict, verdict, next_of, walk}
use Rattle.cw_dfa.proofs.Bools.{has_pow_only}
use Rattle.cw_rights.proofs.Factors.{NotNil, nil_or_not, not_nil_right, not_nil}
use Rattle.cw_dfa.proofs.Known.{Within, Known, Decides, reads_low, reads_exact, ends_sound, ends_complete, alt_left, alt_right}

abbrev AtStart : Word → Type 0
AtStart x = x ≡ []

reads_not_nil : (r : Tree) (k : ℕ) (w : Word) (p : ℕ) → Reads r k w p → NotNil w
reads_not_nil nothing k w p h = absurd h
reads_not_nil never k w p h = absurd h
reads_not_nil (one l) k w p h = subst NotNil (sym h.1.1) tt
reads_not_nil (seq r s) k w p (inl h) = reads_not_nil r k w p h
reads_not_nil (seq r s) k w p (inr h) = subst NotNil (sym h.2) (not_nil_right h.0 h.1 (reads_not_nil s _ h.1 p h.4))
reads_not_nil (alt r s) k w p (inl h) = reads_not_nil r k w p h
reads_not_nil (alt r s) k w p (inr h) = reads_not_nil s _ w p h
reads_not_nil (star r) k w p h = subst NotNil (sym h.2) (not_nil_right h.0 h.1 (reads_not_nil r k h.1 p h.4))
reads_not_nil (plus r) k w p h = subst NotNil (sym h.2) (not_nil_right h.0 h.1 (reads_not_nil r k h.1 p h.4))
reads_not_nil (maybe r) k w p h = reads_not_nil r k w p h

pub start_set : (rules : List PlainRule) → IsSetOf rules [] 1
start_set rules p = (λ e. inl (has_pow_only 0 p e, refl), λ h. ⊎_elim (λ x. subst (λ q. has 1 q ≡ true) (sym x.0) refl) (λ x. absurd (reads_not_nil (bad_of rules) 1 [] p x)) h)

whole : (r : Tree) (k : ℕ) (w : Word) (p : ℕ) → Within AtStart r k w p → Reads r k w p
whole r k w p i = subst (λ y. Reads r k y p) (sym (i.2 ∙ ap (λ x. x ++ i.1) i.3)) i.4

known_of : (rules : List PlainRule) (w : Word) (set : ℕ) → IsSetOf rules w set → Known AtStart (bad_of rules) 1 w set
known_of rules w set h p l m = (
  λ e. ⊎_elim (λ x. let z = x.0 in absurd (omega arith)) (λ x. ([], w, refl, refl, x)) ((h p).0 e),
  λ i. (h p).1 (inr (whole (bad_of rules) 1 w p i)),
)

at_start : (rules : List PlainRule) (w : Word) (set : ℕ) → IsSetOf rules w set → Decides (has set 0) (w ≡ [])
at_start rules w set h = (
  λ e. ⊎_elim (λ x. x.1) (λ x. let z = reads_low (bad_of rules) 1 w 0 x in absurd (omega arith)) ((h 0).0 e),
  λ e. (h 0).1 (inl (refl, e)),
)

pub next_set : (rules : List PlainRule) (w : Word) (set : ℕ) (c : Letter) → IsSetOf rules w set → IsSetOf rules (w ++ c ∷ []) (next_of rules set c)
next_set rules w set c h p =
    let f = reads_exact (bad_of rules) AtStart 1 w set c (has set 0) (known_of rules w set h) (at_start rules w set h) p in (
      λ e. inr (whole (bad_of rules) 1 (w ++ c ∷ []) p (f.0 e)),
      λ x. ⊎_elim (λ y. absurd (not_nil (w ++ c ∷ []) (not_nil_right w (c ∷ []) tt) y.1)) (λ y. f.1 ([], w ++ c ∷ [], refl, refl, y)) x,
    )

-- the first rule, its number counted from n
abbrev FirstFrom : List PlainRule → Word → ℕ → Option ℕ → Type 0
FirstFrom rules w n None = (i : ℕ) → Breaks rules w i → ⊥
FirstFrom rules w n (Some m) = (i : ℕ) × (m ≡ n + i) × Breaks rules w i × ((j : ℕ) → Breaks rules w j → i ≤ j)

first_is : (rules : List PlainRule) (n k : ℕ) (w : Word) (set : ℕ) → Known AtStart (bad_of rules) k w set → FirstFrom rules w n (verdict rules n k set)
first_is [] n k w set h = λ i b. let e = b.2 in absurd (cc)
first_is (r ∷ rs) n k w set h = by (ends r.bad k set) refl (first_is rs (n + 1) (k + count r.bad) w set (alt_right AtStart r.bad (bad_of rs) k w set h))
  where
    here : Known AtStart r.bad k w set
    here = alt_left AtStart r.bad (bad_of rs) k w set h

    not_first : ends r.bad k set ≡ false → Breaks (r ∷ rs) w 0 → ⊥
    not_first t b = ⊎_elim (λ e. b.0 e) (λ m. let same : r ≡ b.1 = cc in let e = ends_complete r.bad AtStart k w set here ([], w, refl, refl, m, subst (λ x. Matches x.bad w) (sym same) b.3)
        in let z : true ≡ false = sym e ∙ t in absurd (cc)) (nil_or_not w)

    pass : (o : Option ℕ) → ends r.bad k set ≡ false → FirstFrom rs w (n + 1) o → FirstFrom (r ∷ rs) w n o
    pass None t f = nowhere
      where
        nowhere : (i : ℕ) → Breaks (r ∷ rs) w i → ⊥
        nowhere zero b = not_first t b
        nowhere (suc i) b = f i b
    pass (Some m) t f = let e = f.1 in (suc f.0, omega arith, f.2, least)
      where
        least : (j : ℕ) → Breaks (r ∷ rs) w j → suc f.0 ≤ j
        least zero b = absurd (not_first t b)
        least (suc j) b = let z = f.3 j b in omega arith

    by : (t : Bool) → ends r.bad k set ≡ t → FirstFrom rs w (n + 1) (verdict rs (n + 1) (k + count r.bad) set) → FirstFrom (r ∷ rs) w n (cond t (Some n) (verdict rs (n + 1) (k + count r.bad) set))
    by true t f =
        let i = ends_sound r.bad AtStart k w set here t in
        let e : w ≡ i.1 = i.2 ∙ ap (λ x. x ++ i.1) i.3 in
        (0, omega arith, (not_nil w (subst NotNil (sym e) i.4), r, refl, subst (Matches r.bad) (sym e) i.5), λ j b. omega arith)
    by false t f = pass (verdict rs (n + 1) (k + count r.bad) set) t f

pub verdict_is : (rules : List PlainRule) (w : Word) (set : ℕ) → IsSetOf rules w set → IsVerdict rules w (verdict rules 0 1 set)
verdict_is rules w set h = by (verdict rules 0 1 set) (first_is rules 0 1 w set (known_of rules w set h))
  where
    by : (o : Option ℕ) → FirstFrom rules w 0 o → IsVerdict rules w o
    by None f = f
    by (Some m) f = let e = f.1 in let z : f.0 ≡ m = omega arith in (subst (Breaks rules w) z f.2, λ j b. let y = f.3 j b in omega arith)

pub walk_set : (rules : List PlainRule) (v w : Word) (set : ℕ) → IsSetOf rules v set → IsSetOf rules (v ++ w) (walk rules set w)
walk_set rules v [] set h = subst (λ x. IsSetOf rules x set) (sym (append-nil v)) h
walk_set rules v (c ∷ w) set h = subst (λ x. IsSetOf rules x (walk rules (next_of rules set c) w)) (append_assoc v (c ∷ []) w)
    (walk_set rules (v ++ c ∷ []) w (next_of rules set c) (next_set rules v set c h))

pub judged : (rules : List PlainRule) (w : Word) → IsVerdict rules w (verdict rules 0 1 (walk rules 1 w))
judged rules w = verdict_is rules w (walk rules 1 w) (walk_set rules [] w 1 (start_set rules))

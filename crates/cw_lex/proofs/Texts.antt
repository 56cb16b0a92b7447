-- Looking for the end of a string.
use Rattle.std.proofs.Common.{◌≡◌, ℕ, zero, suc, ◌+◌, ◌-◌, ◌<◌, ◌≤◌, true, false, eqb, List, [], ◌∷◌, length, drop, get_or, Some, None, refl, sym, ap, ◌∙◌, arith, length-drop, drop-drop}
use Rattle.std.proofs.Math.ListN.{drop_of_length-le}
use Rattle.cw_lex.specs.Characters.{Spelled, more_by, item_at, text_len}
use Rattle.cw_lex.proofs.Close.{more_twice, more_zero, drop_here}

-- bytes that are still to be passed
pub skipped : (k : ℕ) (bs : List ℕ) → k ≤ length bs → text_len k bs ≡ more_by k (text_len 0 (drop k bs))
unfolding text_len
skipped zero bs le = sym (more_zero (text_len 0 bs))
skipped (suc k) [] le = absurd (omega arith)
skipped (suc k) (b ∷ bs) le =
    let order : k + 1 ≡ suc k = omega arith in
    ap (more_by 1) (skipped k bs (omega arith)) ∙ more_twice 1 k (text_len 0 (drop k bs)) ∙ ap (λ (j : ℕ). more_by j (text_len 0 (drop k bs))) order

pub item_first : (b : ℕ) (bs : List ℕ) (x : Spelled) → eqb b 34 ≡ false → item_at 34 (b ∷ bs) ≡ Some x → text_len 0 (b ∷ bs) ≡ more_by 1 (text_len (x.1 - 1) bs)
unfolding text_len
item_first b bs x e is = rw (e, is) refl

pub none_first : (b : ℕ) (bs : List ℕ) → eqb b 34 ≡ false → item_at 34 (b ∷ bs) ≡ None → text_len 0 (b ∷ bs) ≡ None
unfolding text_len
none_first b bs e is = rw (e, is) refl

pub quote_first : (b : ℕ) (bs : List ℕ) → eqb b 34 ≡ true → text_len 0 (b ∷ bs) ≡ Some 1
unfolding text_len
quote_first b bs e = rw e refl

pub text_step : (bs : List ℕ) (at : ℕ) (x : Spelled) → at < length bs → eqb (get_or bs at 0) 34 ≡ false → item_at 34 (drop at bs) ≡ Some x → 0 < x.1 → at + x.1 ≤ length bs
    → more_by (at + x.1) (text_len 0 (drop (at + x.1) bs)) ≡ more_by at (text_len 0 (drop at bs))
text_step bs at x lt e is some le =
    let d : drop at bs ≡ get_or bs at 0 ∷ drop (at + 1) bs = drop_here bs at lt in
    let first = item_first (get_or bs at 0) (drop (at + 1) bs) x e (rw d at is) in
    let behind : text_len (x.1 - 1) (drop (at + 1) bs) ≡ more_by (x.1 - 1) (text_len 0 (drop (x.1 - 1) (drop (at + 1) bs))) =
    skipped (x.1 - 1) (drop (at + 1) bs) (omega (arith, length-drop (at + 1) bs)) in
    let place : at + 1 + (x.1 - 1) ≡ at + x.1 = omega arith in
    let same : drop (x.1 - 1) (drop (at + 1) bs) ≡ drop (at + x.1) bs = drop-drop (x.1 - 1) (at + 1) bs ∙ ap (λ (j : ℕ). drop j bs) place in
    let count : x.1 - 1 + 1 + at ≡ at + x.1 = omega arith in
    let rest = text_len 0 (drop (at + x.1) bs) in
    let all : text_len 0 (drop at bs) ≡ more_by 1 (more_by (x.1 - 1) rest) = ap (text_len 0) d ∙ first ∙ ap (more_by 1) (behind ∙ ap (λ (z : List ℕ). more_by (x.1 - 1) (text_len 0 z)) same) in
    sym (ap (more_by at) (all ∙ more_twice 1 (x.1 - 1) rest) ∙ more_twice at (x.1 - 1 + 1) rest ∙ ap (λ (j : ℕ). more_by j rest) count)

pub text_here : (bs : List ℕ) (at : ℕ) → at < length bs → eqb (get_or bs at 0) 34 ≡ true → more_by at (text_len 0 (drop at bs)) ≡ Some (at + 1)
text_here bs at lt e =
    let d : drop at bs ≡ get_or bs at 0 ∷ drop (at + 1) bs = drop_here bs at lt in
    let order : 1 + at ≡ at + 1 = omega arith in
    ap (λ (z : List ℕ). more_by at (text_len 0 z)) d ∙ ap (more_by at) (quote_first (get_or bs at 0) (drop (at + 1) bs) e) ∙ ap (λ (k : ℕ). Some k) order

pub text_bad : (bs : List ℕ) (at : ℕ) → at < length bs → eqb (get_or bs at 0) 34 ≡ false → item_at 34 (drop at bs) ≡ None → more_by at (text_len 0 (drop at bs)) ≡ None
text_bad bs at lt e is =
    let d : drop at bs ≡ get_or bs at 0 ∷ drop (at + 1) bs = drop_here bs at lt in
    ap (λ (z : List ℕ). more_by at (text_len 0 z)) d ∙ ap (more_by at) (none_first (get_or bs at 0) (drop (at + 1) bs) e (rw d at is))

pub text_none : (bs : List ℕ) (at : ℕ) → length bs ≤ at → more_by at (text_len 0 (drop at bs)) ≡ None
unfolding text_len
text_none bs at le = rw (drop_of_length-le bs le) refl

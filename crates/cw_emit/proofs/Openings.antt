-- No opening begins in bytes without `cw{*`, and a part is cut out whole.
use Rattle.std.proofs.Common.{◌≡◌, ℕ, zero, suc, eqb, Bool, true, false, not, List, [], ◌∷◌, ◌++◌, length, take, drop, refl, sym, ap, ◌∙◌, append_assoc, arith}
use Rattle.std.specs.Prelude.{nat_eq, ◌&&◌, codes}
use Rattle.std.specs.List.{starts_with}
use Rattle.std.proofs.lemmas.Bool.{and_parts, and_left, false_from_ne_true, not-true, true≢false, ne_eqb, eq-eqb, both_ways, and_from, not_from_false}
use Rattle.std.proofs.lemmas.List.{take-append-drop}
use Rattle.cw_emit.specs.Cut.{opening, closing, cut_from, part}
use Rattle.cw_syntax.specs.PlainMarks.{HasNone}
use Rattle.cw_emit.proofs.Slashes.{is_plain}
use Rattle.cw_lemmas.proofs.Texts.{starts_front as starts_again, starts_is}

-- no `cw{*` stands in the bytes
abbrev pub is_free : List ℕ → Bool
is_free [] = true
is_free (b ∷ bs) = not (starts_with nat_eq (b ∷ bs) (codes "cw{*")) && is_free bs

pub free_from_none : (bs : List ℕ) → HasNone (codes "cw{*") bs → is_free bs ≡ true
free_from_none [] none = refl
free_from_none (b ∷ bs) none = and_from (not (starts_with nat_eq (b ∷ bs) (codes "cw{*"))) (is_free bs) (not_from_false (starts_with nat_eq (b ∷ bs) (codes "cw{*")) (none 0)) (free_from_none bs (λ at. none (suc at)))

-- passing the bytes of an opening or a closing
pub opens : (rest : List ℕ) → cut_from 0 false (opening ++ rest) ≡ cut_from 0 true rest
unfolding cut_from
opens rest = refl

pub closes : (rest : List ℕ) → cut_from 0 true (closing ++ rest) ≡ cut_from 0 false rest
unfolding cut_from
closes rest = refl

-- a spelling is passed
passed : (spelling rest : List ℕ) → is_plain spelling ≡ true → cut_from 0 true (spelling ++ rest) ≡ cut_from 0 true rest
unfolding cut_from
passed [] rest plain = refl
passed (b ∷ bs) rest plain =
    let p = and_parts (not (eqb b 47)) (is_plain bs) plain in
    let ne : eqb b 47 ≡ false = not-true (eqb b 47) p.0 in
    let no : starts_with nat_eq (b ∷ (bs ++ rest)) closing ≡ false = and_left (eqb 47 b) _ (ne_eqb 47 b (λ h. true≢false (sym (eq-eqb b 47 (sym h)) ∙ ne))) in
    rw no (passed bs rest p.1)

pub part_cut : (spelling rest : List ℕ) → is_plain spelling ≡ true → cut_from 0 false (part spelling ++ rest) ≡ cut_from 0 false rest
part_cut spelling rest plain =
    let e : part spelling ++ rest ≡ opening ++ (spelling ++ (closing ++ rest)) = append_assoc opening (spelling ++ closing) rest ∙ ap (λ (z : List ℕ). opening ++ z) (append_assoc spelling closing rest) in
    ap (cut_from 0 false) e ∙ opens (spelling ++ (closing ++ rest)) ∙ passed spelling (closing ++ rest) plain ∙ closes rest

-- a list that can't go on to an opening: it ends, or a slash comes
abbrev pub Slash : List ℕ → Type 0
Slash [] = Unit {0}
Slash (b ∷ bs) = b ≡ 47

apart : (rest t : List ℕ) (k : ℕ) → Slash rest → rest ≡ k ∷ t → (k ≡ 47 → ⊥) → ⊥
apart [] t k slash e ne = absurd cc
apart (b ∷ bs) t k slash e ne = ne (let f : b ≡ k = cc in sym f ∙ slash)

marked : (p q r s : ℕ) (more : List ℕ) → p ≡ 99 → q ≡ 119 → r ≡ 123 → s ≡ 42 → starts_with nat_eq (p ∷ q ∷ r ∷ s ∷ more) (codes "cw{*") ≡ true
marked p q r s more e f g h = rw (e, f, g, h) refl

-- Where free bytes are followed by nothing or a slash, an opening begins at none of them.
by_bytes : (b : ℕ) (bs rest t : List ℕ) → is_free (b ∷ bs) ≡ true → Slash rest → b ∷ (bs ++ rest) ≡ 47 ∷ 42 ∷ 99 ∷ 119 ∷ 123 ∷ 42 ∷ 47 ∷ t → ⊥
by_bytes b [] rest t free slash e = apart rest (99 ∷ 119 ∷ 123 ∷ 42 ∷ 47 ∷ t) 42 slash (cc) (λ h. omega arith)
by_bytes b (c ∷ []) rest t free slash e = apart rest (119 ∷ 123 ∷ 42 ∷ 47 ∷ t) 99 slash (cc) (λ h. omega arith)
by_bytes b (c ∷ d ∷ []) rest t free slash e = apart rest (123 ∷ 42 ∷ 47 ∷ t) 119 slash (cc) (λ h. omega arith)
by_bytes b (c ∷ d ∷ f ∷ []) rest t free slash e = apart rest (42 ∷ 47 ∷ t) 123 slash (cc) (λ h. omega arith)
by_bytes b (c ∷ d ∷ f ∷ g ∷ []) rest t free slash e = apart rest (47 ∷ t) 42 slash (cc) (λ h. omega arith)
by_bytes b (c ∷ d ∷ f ∷ g ∷ h ∷ more) rest t free slash e =
    let p = and_parts (not (starts_with nat_eq (b ∷ c ∷ d ∷ f ∷ g ∷ h ∷ more) (codes "cw{*"))) (is_free (c ∷ d ∷ f ∷ g ∷ h ∷ more)) free in
    let q = and_parts (not (starts_with nat_eq (c ∷ d ∷ f ∷ g ∷ h ∷ more) (codes "cw{*"))) (is_free (d ∷ f ∷ g ∷ h ∷ more)) p.1 in
    let r = and_parts (not (starts_with nat_eq (d ∷ f ∷ g ∷ h ∷ more) (codes "cw{*"))) (is_free (f ∷ g ∷ h ∷ more)) q.1 in
    let e1 : d ≡ 99 = cc in
    let e2 : f ≡ 119 = cc in
    let e3 : g ≡ 123 = cc in
    let e4 : h ≡ 42 = cc in
    both_ways (starts_with nat_eq (d ∷ f ∷ g ∷ h ∷ more) (codes "cw{*")) (not-true (starts_with nat_eq (d ∷ f ∷ g ∷ h ∷ more) (codes "cw{*")) r.0) (marked d f g h more e1 e2 e3 e4)

pub no_opening : (b : ℕ) (bs rest : List ℕ) → is_free (b ∷ bs) ≡ true → Slash rest → starts_with nat_eq (b ∷ (bs ++ rest)) opening ≡ true → ⊥
no_opening b bs rest free slash e = by_bytes b bs rest (drop 7 (b ∷ (bs ++ rest))) free slash (starts_is (b ∷ (bs ++ rest)) opening e)

pub free_cut : (bs rest : List ℕ) → is_free bs ≡ true → Slash rest → cut_from 0 false (bs ++ rest) ≡ bs ++ cut_from 0 false rest
unfolding cut_from
free_cut [] rest free slash = refl
free_cut (b ∷ bs) rest free slash =
    let no : starts_with nat_eq (b ∷ (bs ++ rest)) opening ≡ false = false_from_ne_true _ (no_opening b bs rest free slash) in
    rw no (ap (λ (z : List ℕ). b ∷ z) (free_cut bs rest (and_parts (not (starts_with nat_eq (b ∷ bs) (codes "cw{*"))) (is_free bs) free).1 slash))

-- ---- parts of free bytes are free

pub free_drop : (n : ℕ) (bs : List ℕ) → is_free bs ≡ true → is_free (drop n bs) ≡ true
free_drop zero bs e = e
free_drop (suc n) [] e = refl
free_drop (suc n) (b ∷ bs) e = free_drop n bs (and_parts (not (starts_with nat_eq (b ∷ bs) (codes "cw{*"))) (is_free bs) e).1

starts_longer : (a b w : List ℕ) → starts_with nat_eq a w ≡ true → starts_with nat_eq (a ++ b) w ≡ true
starts_longer a b w e =
    let f : a ++ b ≡ w ++ (drop (length w) a ++ b) = ap (λ (z : List ℕ). z ++ b) (starts_is a w e) ∙ append_assoc w (drop (length w) a) b in
    rw f (starts_again w (drop (length w) a ++ b))

free_front : (a b : List ℕ) → is_free (a ++ b) ≡ true → is_free a ≡ true
free_front [] b e = refl
free_front (x ∷ a) b e =
    let p = and_parts (not (starts_with nat_eq (x ∷ (a ++ b)) (codes "cw{*"))) (is_free (a ++ b)) e in
    let no : starts_with nat_eq (x ∷ a) (codes "cw{*") ≡ false = false_from_ne_true (starts_with nat_eq (x ∷ a) (codes "cw{*")) (λ h. both_ways (starts_with nat_eq (x ∷ (a ++ b)) (codes "cw{*")) (not-true (starts_with nat_eq (x ∷ (a ++ b)) (codes "cw{*")) p.0) (starts_longer (x ∷ a) b (codes "cw{*") h)) in
    and_from (not (starts_with nat_eq (x ∷ a) (codes "cw{*"))) (is_free a) (not_from_false (starts_with nat_eq (x ∷ a) (codes "cw{*")) no) (free_front a b p.1)

pub free_take : (n : ℕ) (bs : List ℕ) → is_free bs ≡ true → is_free (take n bs) ≡ true
free_take n bs e = free_front (take n bs) (drop n bs) (ap is_free (take-append-drop n bs) ∙ e)

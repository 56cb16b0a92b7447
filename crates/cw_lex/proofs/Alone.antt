-- The items of characters and strings, where the bytes behind them are cut off.
use Rattle.std.proofs.Common.{◌≡◌, ℕ, zero, suc, ◌+◌, ◌-◌, ◌<◌, ◌≤◌, Bool, true, false, cond, eqb, leb, ◌||◌, List, [], ◌∷◌, length, drop, take, Option, Some, None, refl, sym, ap, subst, ◌∙◌, arith}
use Rattle.std.specs.Prelude.{nat_eq, codes}
use Rattle.std.specs.Option.{option_map}
use Rattle.std.specs.List.{starts_with, prefix_len, take_while}
use Rattle.std.specs.Str.Parse.{digits_value}
use Rattle.std.proofs.lemmas.List.{take-take, drop-take}
use Rattle.std.proofs.lemmas.List.Folds.{length-prefix_len}
use Rattle.cw_lex.specs.Bytes.{is_octal_digit, is_hexadecimal_digit}
use Rattle.cw_lex.specs.Characters.{Spelled, longer, spelled, simple_escape, escape_at, item_at, closed, character_len, more_by, text_len}

pub both : {A : Type 0} (t : Bool) (a b c d v : A) → (a ≡ v → c ≡ v) → (b ≡ v → d ≡ v) → cond t a b ≡ v → cond t c d ≡ v
both true a b c d v f g e = f e
both false a b c d v f g e = g e

pub chosen : {A : Type 0} (t : Bool) (a b v : A) (P : Type 0) → (t ≡ true → a ≡ v → P) → (t ≡ false → b ≡ v → P) → cond t a b ≡ v → P
chosen true a b v P f g e = f refl e
chosen false a b v P f g e = g refl e

-- ---- runs

run_step : (t : Bool) (m n k : ℕ) → (n ≤ k → m ≡ n) → cond t (1 + n) 0 ≤ suc k → cond t (1 + m) 0 ≡ cond t (1 + n) 0
run_step true m n k same le = ap (λ (j : ℕ). 1 + j) (same (omega arith))
run_step false m n k same le = refl

-- the run of such bytes at the front
run_cut : (p : ℕ → Bool) (xs : List ℕ) (k : ℕ) → prefix_len p xs ≤ k → prefix_len p (take k xs) ≡ prefix_len p xs
run_cut p [] zero le = refl
run_cut p [] (suc k) le = refl
run_cut p (x ∷ xs) zero le = omega arith
run_cut p (x ∷ xs) (suc k) le = run_step (p x) (prefix_len p (take k xs)) (prefix_len p xs) k (run_cut p xs k) le

pub while_cut : (p : ℕ → Bool) (xs : List ℕ) (k : ℕ) → length (take_while p xs) ≤ k → take_while p (take k xs) ≡ take_while p xs
while_cut p xs k le =
    let short : prefix_len p xs ≤ k = omega (arith, le, length-prefix_len p xs) in
    rw (run_cut p xs k short) (take-take (prefix_len p xs) k xs short)

take_swap : (m k : ℕ) (xs : List ℕ) → take m (take k xs) ≡ take k (take m xs)
take_swap zero zero xs = refl
take_swap zero (suc k) xs = refl
take_swap (suc m) zero xs = refl
take_swap (suc m) (suc k) [] = refl
take_swap (suc m) (suc k) (x ∷ xs) = ap (λ (z : List ℕ). x ∷ z) (take_swap m k xs)

few_cut : (p : ℕ → Bool) (m : ℕ) (xs : List ℕ) (k : ℕ) → length (take_while p (take m xs)) ≤ k → take_while p (take m (take k xs)) ≡ take_while p (take m xs)
few_cut p m xs k le = rw (take_swap m k xs) (while_cut p (take m xs) k le)

-- ---- items

pub longer_is : (more : ℕ) (o : Option Spelled) (x : Spelled) → longer more o ≡ Some x → (y : Spelled) × (o ≡ Some y) × (y.1 + more ≡ x.1)
longer_is more None x e = absurd cc
longer_is more (Some y) x e = (y, refl, cc)

spelled_is : (base : ℕ) (ds : List ℕ) (x : Spelled) → spelled base ds ≡ Some x → (length ds ≡ x.1) × (0 < x.1)
spelled_is base [] x e = absurd cc
spelled_is base (d ∷ ds) x e = chosen (leb (digits_value base (d ∷ ds)) 255) _ _ (Some x) _ (λ t h. (let same : length (d ∷ ds) ≡ x.1 = cc in (same, omega arith))) (λ t h. absurd cc) e

simple_is : (o : Option ℕ) (x : Spelled) → option_map (λ value. (value, 1)) o ≡ Some x → 0 < x.1
simple_is None x e = absurd cc
simple_is (Some v) x e = let same : 1 ≡ x.1 = cc in omega arith

longer_some : (o : Option Spelled) (x : Spelled) → longer 1 o ≡ Some x → 0 < x.1
longer_some o x e = let y = longer_is 1 o x e in let same = y.2 in omega arith

escape_some : (bs : List ℕ) (x : Spelled) → escape_at bs ≡ Some x → 0 < x.1
unfolding escape_at
escape_some [] x e = absurd cc
escape_some (b ∷ bs) x e = chosen (is_octal_digit b) _ _ (Some x) _ (λ t h. (spelled_is 8 (take_while is_octal_digit (take 3 (b ∷ bs))) x h).1) (λ t h.
    chosen (eqb b 120) _ _ (Some x) _ (λ u g. longer_some (spelled 16 (take_while is_hexadecimal_digit (take 2 bs))) x g) (λ u g. simple_is (simple_escape b) x g) h) e

spelled_cut : (base : ℕ) (p : ℕ → Bool) (m : ℕ) (bs : List ℕ) (k : ℕ) (x : Spelled) → spelled base (take_while p (take m bs)) ≡ Some x → x.1 ≤ k
    → spelled base (take_while p (take m (take k bs))) ≡ Some x
spelled_cut base p m bs k x e le =
    let long = (spelled_is base (take_while p (take m bs)) x e).0 in
    rw (few_cut p m bs k (omega arith)) e

pub longer_cut : (o p : Option Spelled) (x : Spelled) → ((y : Spelled) → o ≡ Some y → y.1 + 1 ≡ x.1 → p ≡ Some y) → longer 1 o ≡ Some x → longer 1 p ≡ Some x
longer_cut o p x same e =
    let y = longer_is 1 o x e in
    let q : p ≡ o = same y.0 y.1 y.2 ∙ sym y.1 in
    ap (longer 1) q ∙ e

escape_cut : (bs : List ℕ) (k : ℕ) (x : Spelled) → escape_at bs ≡ Some x → x.1 ≤ k → escape_at (take k bs) ≡ Some x
unfolding escape_at
escape_cut [] k x e le = absurd cc
escape_cut (b ∷ bs) zero x e le = absurd (let some = escape_some (b ∷ bs) x e in omega arith)
escape_cut (b ∷ bs) (suc k) x e le = both (is_octal_digit b) _ _ _ _ (Some x) (λ h. spelled_cut 8 is_octal_digit 3 (b ∷ bs) (suc k) x h le) (λ h.
    both (eqb b 120) _ _ _ _ (Some x) (λ g. longer_cut (spelled 16 (take_while is_hexadecimal_digit (take 2 bs)))
    (spelled 16 (take_while is_hexadecimal_digit (take 2 (take k bs)))) x (λ y is long. spelled_cut 16 is_hexadecimal_digit 2 bs k y is (omega arith)) g) (λ g. g) h) e

pub item_some : (q : ℕ) (bs : List ℕ) (x : Spelled) → item_at q bs ≡ Some x → 0 < x.1
unfolding item_at
item_some q [] x e = absurd cc
item_some q (b ∷ bs) x e = chosen (eqb b q || eqb b 10) _ _ (Some x) _ (λ t h. absurd cc) (λ t h.
    chosen (eqb b 92) _ _ (Some x) _ (λ u g. longer_some (escape_at bs) x g) (λ u g. (let same : 1 ≡ x.1 = cc in omega arith)) h) e

pub item_cut : (q : ℕ) (bs : List ℕ) (k : ℕ) (x : Spelled) → item_at q bs ≡ Some x → x.1 ≤ k → item_at q (take k bs) ≡ Some x
unfolding item_at
item_cut q [] k x e le = absurd cc
item_cut q (b ∷ bs) zero x e le = absurd (let some = item_some q (b ∷ bs) x e in omega arith)
item_cut q (b ∷ bs) (suc k) x e le = both (eqb b q || eqb b 10) _ _ _ _ (Some x) (λ h. h) (λ h.
    both (eqb b 92) _ _ _ _ (Some x) (λ g. longer_cut (escape_at bs) (escape_at (take k bs)) x (λ y is long. escape_cut bs k y is (omega arith)) g) (λ g. g) h) e

-- ---- characters and strings

pub starts_cut : (ys w : List ℕ) (k : ℕ) → length w ≤ k → starts_with nat_eq (take k ys) w ≡ starts_with nat_eq ys w
starts_cut ys w k le = rw (take-take (length w) k ys le) refl

closed_cut : (bs : List ℕ) (k n : ℕ) (o : Option Spelled) → item_at 39 bs ≡ o → closed bs o ≡ Some n → n ≤ k → closed (take k bs) (item_at 39 (take k bs)) ≡ Some n
closed_cut bs k n None is e le = absurd cc
closed_cut bs k n (Some x) is e le = chosen (starts_with nat_eq (drop x.1 bs) (codes "'")) _ _ (Some n) _ (λ t h. (
    let count : x.1 + 1 ≡ n = cc in
    let whole : x.1 + (k - x.1) ≡ k = omega arith in
    let behind : drop x.1 (take k bs) ≡ take (k - x.1) (drop x.1 bs) = subst (λ (j : ℕ). drop x.1 (take j bs) ≡ take (k - x.1) (drop x.1 bs)) whole (drop-take x.1 (k - x.1) bs) in
    let quote : starts_with nat_eq (drop x.1 (take k bs)) (codes "'") ≡ true = ap (λ (z : List ℕ). starts_with nat_eq z (codes "'")) behind
    ∙ starts_cut (drop x.1 bs) (codes "'") (k - x.1) (omega arith) ∙ t in
    rw (item_cut 39 bs k x is (omega arith), quote) h)) (λ t h. absurd cc) e

pub character_cut : (bs : List ℕ) (k n : ℕ) → character_len bs ≡ Some n → n ≤ k → character_len (take k bs) ≡ Some n
unfolding character_len
character_cut bs k n e le = closed_cut bs k n (item_at 39 bs) refl e le

pub more_is : (more : ℕ) (o : Option ℕ) (n : ℕ) → more_by more o ≡ Some n → (m : ℕ) × (o ≡ Some m) × (m + more ≡ n)
more_is more None n e = absurd cc
more_is more (Some m) n e = (m, refl, cc)

abbrev pub by_item : List ℕ → Option Spelled → Option ℕ
by_item bs o = elim o as (λ x. Option ℕ) [ None ↦ None | Some item ↦ more_by 1 (text_len (item.1 - 1) bs) ]

item_long : (o : Option Spelled) (bs : List ℕ) (n : ℕ) → by_item bs o ≡ Some n → 0 < n
item_long None bs n e = absurd cc
item_long (Some x) bs n e = let m = more_is 1 (text_len (x.1 - 1) bs) n e in let same = m.2 in omega arith

pub text_long : (skip : ℕ) (bs : List ℕ) (n : ℕ) → text_len skip bs ≡ Some n → skip < n
unfolding text_len
text_long skip [] n e = absurd cc
text_long (suc skip) (b ∷ bs) n e =
    let m = more_is 1 (text_len skip bs) n e in
    let lt = text_long skip bs m.0 m.1 in
    let same = m.2 in omega arith
text_long zero (b ∷ bs) n e = chosen (eqb b 34) _ _ (Some n) _ (λ t h. (let same : 1 ≡ n = cc in omega arith)) (λ t h. item_long (item_at 34 (b ∷ bs)) bs n h) e

by_item_cut : (b : ℕ) (bs : List ℕ) (k n : ℕ) (o : Option Spelled) → item_at 34 (b ∷ bs) ≡ o → by_item bs o ≡ Some n → n ≤ suc k
    → ((skip m : ℕ) → text_len skip bs ≡ Some m → m ≤ k → text_len skip (take k bs) ≡ Some m) → by_item (take k bs) (item_at 34 (b ∷ take k bs)) ≡ Some n
by_item_cut b bs k n None is e le rec = absurd cc
by_item_cut b bs k n (Some x) is e le rec =
    let m = more_is 1 (text_len (x.1 - 1) bs) n e in
    let lt = text_long (x.1 - 1) bs m.0 m.1 in
    let same = m.2 in
    let cut : item_at 34 (b ∷ take k bs) ≡ Some x = item_cut 34 (b ∷ bs) (suc k) x is (omega arith) in
    rw cut (ap (more_by 1) (rec (x.1 - 1) m.0 m.1 (omega arith)) ∙ ap (λ (j : ℕ). Some j) same)

pub text_cut : (skip : ℕ) (bs : List ℕ) (k n : ℕ) → text_len skip bs ≡ Some n → n ≤ k → text_len skip (take k bs) ≡ Some n
unfolding text_len
text_cut skip [] k n e le = absurd cc
text_cut skip (b ∷ bs) zero n e le = absurd (let some = text_long skip (b ∷ bs) n e in omega arith)
text_cut (suc skip) (b ∷ bs) (suc k) n e le =
    let m = more_is 1 (text_len skip bs) n e in
    let same = m.2 in
    ap (more_by 1) (text_cut skip bs k m.0 m.1 (omega arith)) ∙ ap (λ (j : ℕ). Some j) same
text_cut zero (b ∷ bs) (suc k) n e le = both (eqb b 34) _ _ _ _ (Some n) (λ h. h) (λ h. by_item_cut b bs k n (item_at 34 (b ∷ bs)) refl h le (λ skip m f g. text_cut skip bs k m f g)) e

-- What stands at the front stays, whatever the bytes behind the next one are: the next may be another one that goes on with nothing.
use Rattle.std.proofs.Common.{◌≡◌, ◌⊎◌, ℕ, zero, suc, ◌+◌, ◌-◌, ◌<◌, ◌≤◌, Bool, true, false, cond, eqb, leb, ◌&&◌, ◌||◌, List, [], ◌∷◌, ◌++◌, length, drop, take, Option, Some, None, refl, sym}
use Rattle.std.proofs.Common.{ap, subst, ◌∙◌, arith, inl, inr, length-drop, rules}
use Rattle.std.specs.Prelude.{nat_eq, codes, not}
use Rattle.std.specs.List.{starts_with, prefix_len, take_while}
use Rattle.std.specs.Str.Parse.{digits_value}
use Rattle.std.proofs.lemmas.Bool.{eqb-true, both_ways}
use Rattle.std.proofs.lemmas.List.{drop-append-le, take-append-le}
use Rattle.std.proofs.lemmas.List.Sums.{prefix_len-le-length}
use Rattle.std.proofs.Math.Seq.{take-append_seam}
use Rattle.cw_lemmas.proofs.Truths.{and_false}
use Rattle.cw_lex.specs.declared.tokens.TokenKind.{TokenKind}
use Rattle.cw_lex.specs.declared.tokens.TokenKind.TheVariants as kind
use Rattle.cw_lex.specs.declared.front.Front.{Front}
use Rattle.cw_lex.specs.declared.front.Front.TheVariants as lexed
use Rattle.cw_lex.specs.Bytes.{is_white, is_blank, is_line_byte, is_letter, is_digit, is_name_byte, is_number_byte, is_octal_digit, is_hexadecimal_digit}
use Rattle.cw_lex.specs.Keywords.{is_keyword}
use Rattle.cw_lex.specs.Numbers.{is_number}
use Rattle.cw_lex.specs.Characters.{Spelled, spelled, escape_at, item_at, closed, character_len, more_by, text_len}
use Rattle.cw_lex.specs.Punctuators.{three_byte_punctuators, two_byte_punctuators, one_byte_punctuators, begins, punctuator_len}
use Rattle.cw_lex.specs.Fronts.{identifier, number, quoted, to_close, comment, is_include, line, directive, punctuator, front_at, size}
use Rattle.cw_lex.proofs.Alone.{both, chosen, more_is, by_item, text_long, longer_cut}
use Rattle.cw_lex.proofs.Tokened.{no_directive}

-- A byte stands where another one stood: the same, or `{` where it was no line feed.
abbrev pub Follows : ℕ → ℕ → Type 0
Follows a b = (b ≡ a) ⊎ ((b ≡ 123) × (eqb a 10 ≡ false))

-- what goes on with neither goes on with no brace
stops : (q : ℕ → Bool) (a b : ℕ) → q 123 ≡ false → Follows a b → q a ≡ false → q b ≡ false
stops q a b brace (inl same) ended = ap q same ∙ ended
stops q a b brace (inr (is, other)) ended = ap q is ∙ brace

line_feed : (a b : ℕ) → Follows a b → is_line_byte a ≡ false → (a ≡ 10) × (b ≡ 10)
line_feed a b f ended = by (eqb a 10) refl ended f
  where
    by : (t : Bool) → eqb a 10 ≡ t → not t ≡ false → Follows a b → (a ≡ 10) × (b ≡ 10)
    by true is ended (inl same) = let ten = eqb-true a 10 is in (ten, same ∙ ten)
    by true is ended (inr (brace, other)) = absurd (both_ways (eqb a 10) other is)
    by false is ended g = absurd cc

-- ---- runs

-- a run that stops before a byte
pub run_stops : (q : ℕ → Bool) (w : List ℕ) (a : ℕ) (r : List ℕ) → q a ≡ false → prefix_len q (w ++ a ∷ r) ≡ prefix_len q w
run_stops q [] a r ended = rw ended refl
run_stops q (c ∷ w) a r ended = ap (λ (n : ℕ). cond (q c) (1 + n) 0) (run_stops q w a r ended)

-- a run of all before a byte stops there
run_ends : (q : ℕ → Bool) (w : List ℕ) (a : ℕ) (r : List ℕ) → prefix_len q (w ++ a ∷ r) ≡ length w → q a ≡ false
run_ends q [] a r e = by (q a) refl e
  where
    by : (t : Bool) → q a ≡ t → cond t (1 + prefix_len q r) 0 ≡ 0 → q a ≡ false
    by true is h = absurd (omega arith)
    by false is h = is
run_ends q (c ∷ w) a r e = by (q c) (run_ends q w a r) e
  where
    by : (t : Bool) → (prefix_len q (w ++ a ∷ r) ≡ length w → q a ≡ false) → cond t (1 + prefix_len q (w ++ a ∷ r)) 0 ≡ suc (length w) → q a ≡ false
    by true rec h = rec (omega arith)
    by false rec h = absurd (omega arith)

run_all : (q : ℕ → Bool) (w : List ℕ) (a b : ℕ) (r s : List ℕ) → q 123 ≡ false → Follows a b → prefix_len q (w ++ a ∷ r) ≡ length w → prefix_len q (w ++ b ∷ s) ≡ length w
run_all q w a b r s brace f e =
    let ended = run_ends q w a r e in
    run_stops q w b s (stops q a b brace f ended) ∙ sym (run_stops q w a r ended) ∙ e

while_is : (q : ℕ → Bool) (w y : List ℕ) → prefix_len q (w ++ y) ≡ length w → take_while q (w ++ y) ≡ w
while_is q w y e = rw e (take-append_seam w y)

-- how long a run at the front is
while_long : (q : ℕ → Bool) (xs : List ℕ) → length (take_while q xs) ≡ prefix_len q xs
while_long q [] = refl
while_long q (x ∷ xs) = by (q x) (while_long q xs)
  where
    by : (t : Bool) → length (take_while q xs) ≡ prefix_len q xs → length (take (cond t (1 + prefix_len q xs) 0) (x ∷ xs)) ≡ cond t (1 + prefix_len q xs) 0
    by true rec = let order : 1 + prefix_len q xs ≡ suc (prefix_len q xs) = omega arith in rw order (ap suc rec)
    by false rec = refl

while_all : (q : ℕ → Bool) (w : List ℕ) (a b : ℕ) (r s : List ℕ) → q 123 ≡ false → Follows a b → length (take_while q (w ++ a ∷ r)) ≡ length w → take_while q (w ++ b ∷ s) ≡ take_while q (w ++ a ∷ r)
while_all q w a b r s brace f long =
    let e : prefix_len q (w ++ a ∷ r) ≡ length w = sym (while_long q (w ++ a ∷ r)) ∙ long in
    while_is q w (b ∷ s) (run_all q w a b r s brace f e) ∙ sym (while_is q w (a ∷ r) e)

-- ---- items

spelled_is : (base : ℕ) (ds : List ℕ) (x : Spelled) → spelled base ds ≡ Some x → length ds ≡ x.1
spelled_is base [] x e = absurd cc
spelled_is base (d ∷ ds) x e = chosen (leb (digits_value base (d ∷ ds)) 255) _ _ (Some x) _ (λ t h. cc) (λ t h. absurd cc) e

-- a run of at most so many that ends before the first part does
run_few : (q : ℕ → Bool) (m : ℕ) (u x y : List ℕ) → prefix_len q (take m (u ++ x)) < length u → prefix_len q (take m (u ++ y)) ≡ prefix_len q (take m (u ++ x))
run_few q zero [] x y lt = absurd (omega arith)
run_few q zero (c ∷ u) x y lt = refl
run_few q (suc m) [] x y lt = absurd (omega arith)
run_few q (suc m) (c ∷ u) x y lt = by (q c) (run_few q m u x y) lt
  where
    by : (t : Bool) → (prefix_len q (take m (u ++ x)) < length u → prefix_len q (take m (u ++ y)) ≡ prefix_len q (take m (u ++ x)))
        → cond t (1 + prefix_len q (take m (u ++ x))) 0 < suc (length u) → cond t (1 + prefix_len q (take m (u ++ y))) 0 ≡ cond t (1 + prefix_len q (take m (u ++ x))) 0
    by true rec h = ap (λ (n : ℕ). 1 + n) (rec (omega arith))
    by false rec h = refl

take_few : (n m : ℕ) (u x y : List ℕ) → n < length u → take n (take m (u ++ y)) ≡ take n (take m (u ++ x))
take_few zero m u x y lt = refl
take_few (suc n) m [] x y lt = absurd (omega arith)
take_few (suc n) zero (c ∷ u) x y lt = refl
take_few (suc n) (suc m) (c ∷ u) x y lt = ap (λ (z : List ℕ). c ∷ z) (take_few n m u x y (omega arith))

while_few : (q : ℕ → Bool) (m : ℕ) (u x y : List ℕ) → length (take_while q (take m (u ++ x))) < length u → take_while q (take m (u ++ y)) ≡ take_while q (take m (u ++ x))
while_few q m u x y lt =
    let short : prefix_len q (take m (u ++ x)) < length u = omega (arith, lt, while_long q (take m (u ++ x))) in
    rw (run_few q m u x y short) (take_few (prefix_len q (take m (u ++ x))) m u x y short)

spelled_few : (base : ℕ) (q : ℕ → Bool) (m : ℕ) (u x y : List ℕ) (it : Spelled) → spelled base (take_while q (take m (u ++ x))) ≡ Some it → it.1 < length u
    → spelled base (take_while q (take m (u ++ y))) ≡ Some it
spelled_few base q m u x y it e lt =
    let long = spelled_is base (take_while q (take m (u ++ x))) it e in
    rw (while_few q m u x y (omega arith)) e

escape_few : (u x y : List ℕ) (it : Spelled) → escape_at (u ++ x) ≡ Some it → it.1 < length u → escape_at (u ++ y) ≡ Some it
unfolding escape_at
escape_few [] x y it e lt = absurd (omega arith)
escape_few (c ∷ u) x y it e lt = both (is_octal_digit c) _ _ _ _ (Some it) (λ h. spelled_few 8 is_octal_digit 3 (c ∷ u) x y it h lt) (λ h.
    both (eqb c 120) _ _ _ _ (Some it) (λ g. longer_cut (spelled 16 (take_while is_hexadecimal_digit (take 2 (u ++ x))))
    (spelled 16 (take_while is_hexadecimal_digit (take 2 (u ++ y)))) it (λ z is long. spelled_few 16 is_hexadecimal_digit 2 u x y z is (omega arith)) g) (λ g. g) h) e

item_few : (q : ℕ) (u x y : List ℕ) (it : Spelled) → item_at q (u ++ x) ≡ Some it → it.1 < length u → item_at q (u ++ y) ≡ Some it
unfolding item_at
item_few q [] x y it e lt = absurd (omega arith)
item_few q (c ∷ u) x y it e lt = both (eqb c q || eqb c 10) _ _ _ _ (Some it) (λ h. h) (λ h.
    both (eqb c 92) _ _ _ _ (Some it) (λ g. longer_cut (escape_at (u ++ x)) (escape_at (u ++ y)) it (λ z is long. escape_few u x y z is (omega arith)) g) (λ g. g) h) e

closed_few : (v x y : List ℕ) (o : Option Spelled) → item_at 39 (v ++ x) ≡ o → closed (v ++ x) o ≡ Some (length v) → closed (v ++ y) (item_at 39 (v ++ y)) ≡ Some (length v)
closed_few v x y None is e = absurd cc
closed_few v x y (Some it) is e = chosen (starts_with nat_eq (drop it.1 (v ++ x)) (codes "'")) _ _ (Some (length v)) _ (λ t h. (
    let count : it.1 + 1 ≡ length v = cc in
    let before = drop-append-le it.1 v x (omega arith) in
    let after = drop-append-le it.1 v y (omega arith) in
    let some : drop it.1 v ≡ [] → ⊥ = λ none. (let z : length (drop it.1 v) ≡ 0 = ap length none in omega (arith, z, length-drop it.1 v)) in
    let quote : starts_with nat_eq (drop it.1 (v ++ y)) (codes "'") ≡ true = ap (λ (z : List ℕ). starts_with nat_eq z (codes "'")) after ∙ first (drop it.1 v) some (rw before at t) in
    rw (item_few 39 v x y it is (omega arith), quote) h)) (λ t h. absurd cc) e
  where
    first : (z : List ℕ) → (z ≡ [] → ⊥) → starts_with nat_eq (z ++ x) (codes "'") ≡ true → starts_with nat_eq (z ++ y) (codes "'") ≡ true
    first [] some is = absurd (some refl)
    first (c ∷ z) some is = is

character_few : (v x y : List ℕ) → character_len (v ++ x) ≡ Some (length v) → character_len (v ++ y) ≡ Some (length v)
unfolding character_len
character_few v x y e = closed_few v x y (item_at 39 (v ++ x)) refl e

by_item_few : (b : ℕ) (v x y : List ℕ) (o : Option Spelled) → item_at 34 (b ∷ v ++ x) ≡ o → by_item (v ++ x) o ≡ Some (suc (length v))
    → ((skip : ℕ) → text_len skip (v ++ x) ≡ Some (length v) → text_len skip (v ++ y) ≡ Some (length v)) → by_item (v ++ y) (item_at 34 (b ∷ v ++ y)) ≡ Some (suc (length v))
by_item_few b v x y None is e rec = absurd cc
by_item_few b v x y (Some it) is e rec =
    let m = more_is 1 (text_len (it.1 - 1) (v ++ x)) (suc (length v)) e in
    let lt = text_long (it.1 - 1) (v ++ x) m.0 m.1 in
    let same : m.0 ≡ length v = (let z = m.2 in omega arith) in
    let count : length v + 1 ≡ suc (length v) = omega arith in
    let here : item_at 34 (b ∷ v ++ y) ≡ Some it = item_few 34 (b ∷ v) x y it is (omega arith) in
    rw here (ap (more_by 1) (rec (it.1 - 1) (m.1 ∙ ap (λ (j : ℕ). Some j) same)) ∙ ap (λ (j : ℕ). Some j) count)

text_few : (skip : ℕ) (v x y : List ℕ) → text_len skip (v ++ x) ≡ Some (length v) → text_len skip (v ++ y) ≡ Some (length v)
unfolding text_len
text_few skip [] x y e = absurd (let lt = text_long skip x 0 e in omega arith)
text_few (suc skip) (b ∷ v) x y e =
    let m = more_is 1 (text_len skip (v ++ x)) (suc (length v)) e in
    let same : m.0 ≡ length v = (let z = m.2 in omega arith) in
    let count : length v + 1 ≡ suc (length v) = omega arith in
    ap (more_by 1) (text_few skip v x y (m.1 ∙ ap (λ (j : ℕ). Some j) same)) ∙ ap (λ (j : ℕ). Some j) count
text_few zero (b ∷ v) x y e = both (eqb b 34) _ _ _ _ (Some (suc (length v))) (λ h. h) (λ h. by_item_few b v x y (item_at 34 (b ∷ v ++ x)) refl h (λ skip f. text_few skip v x y f)) e

-- ---- comments

close_some : (bs : List ℕ) (n : ℕ) → to_close bs ≡ Some n → 2 ≤ n
close_some [] n e = absurd cc
close_some (b ∷ bs) n e = chosen (starts_with nat_eq (b ∷ bs) (codes "*/")) _ _ (Some n) _ (λ t h. (let z : 2 ≡ n = cc in omega arith))
    (λ t h. (let m = more_is 1 (to_close bs) n h in let le = close_some bs m.0 m.1 in let z = m.2 in omega arith)) e

close_few : (v x y : List ℕ) → to_close (v ++ x) ≡ Some (length v) → to_close (v ++ y) ≡ Some (length v)
close_few [] x y e = absurd (let le = close_some x 0 e in omega arith)
close_few (b ∷ []) x y e = absurd (let le = close_some (b ∷ x) 1 e in omega arith)
close_few (b ∷ (c ∷ v)) x y e = both (starts_with nat_eq (b ∷ c ∷ v ++ x) (codes "*/")) _ _ _ _ (Some (length (b ∷ c ∷ v))) (λ h. h) (λ h. (
    let m = more_is 1 (to_close (c ∷ v ++ x)) (length (b ∷ c ∷ v)) h in
    let same : m.0 ≡ length (c ∷ v) = (let z = m.2 in omega arith) in
    let count : length (c ∷ v) + 1 ≡ length (b ∷ c ∷ v) = omega arith in
    ap (more_by 1) (close_few (c ∷ v) x y (m.1 ∙ ap (λ (j : ℕ). Some j) same)) ∙ ap (λ (j : ℕ). Some j) count)) e

-- ---- include lines

include_same : (v r s : List ℕ) → is_include (v ++ 10 ∷ r) ≡ is_include (v ++ 10 ∷ s)
include_same v r s =
    let k = prefix_len is_blank v in
    let le : k ≤ length v = prefix_len-le-length is_blank v in
    let there = behind k r le in
    let here = behind k s le in
    rw (run_stops is_blank v 10 r refl, run_stops is_blank v 10 s refl, there, here) refl
  where
    behind : (k : ℕ) (z : List ℕ) → k ≤ length v → take_while is_name_byte (drop k (v ++ 10 ∷ z)) ≡ take_while is_name_byte (drop k v)
    behind k z le =
        let d = drop-append-le k v (10 ∷ z) le in
        let n = run_stops is_name_byte (drop k v) 10 z refl in
        rw d (rw n (take-append-le (prefix_len is_name_byte (drop k v)) (drop k v) (10 ∷ z) (prefix_len-le-length is_name_byte (drop k v))))

-- ---- punctuators

-- no punctuator goes on with a brace
abbrev Plain : List (List ℕ) → Type 0
Plain [] = Unit {0}
Plain ((x ∷ (y ∷ w)) ∷ ws) = (eqb y 123 ≡ false) × Plain ws
Plain (w ∷ ws) = ⊥

no_brace : (ws : List (List ℕ)) (c : ℕ) (r : List ℕ) → Plain ws → begins ws (c ∷ 123 ∷ r) ≡ false
no_brace [] c r h = refl
no_brace ([] ∷ ws) c r h = absurd h
no_brace ((x ∷ []) ∷ ws) c r h = absurd h
no_brace ((x ∷ (y ∷ w)) ∷ ws) c r h = rw (h.0, no_brace ws c r h.1) (by (eqb x c))
  where
    by : (t : Bool) → ((t && false) || false) ≡ false
    by true = refl
    by false = refl

two_plain : Plain two_byte_punctuators
two_plain = search rules

three_plain : Plain three_byte_punctuators
three_plain = search rules

abbrev punctuators : Bool → Bool → Bool → ℕ
punctuators t u o = cond t 3 (cond u 2 (cond o 1 0))

one_punctuator : (t u o : Bool) → punctuators t u o ≡ 1 → (t ≡ false) × (u ≡ false)
one_punctuator true u o e = absurd (omega arith)
one_punctuator false true o e = absurd (omega arith)
one_punctuator false false o e = (refl, refl)

two_punctuator : (t u o : Bool) → punctuators t u o ≡ 2 → t ≡ false
two_punctuator true u o e = absurd (omega arith)
two_punctuator false u o e = refl

few_punctuators : (t u o : Bool) → punctuators t u o ≤ 3
few_punctuators true u o = omega arith
few_punctuators false true o = omega arith
few_punctuators false false true = omega arith
few_punctuators false false false = omega arith

-- a punctuator of three bytes goes on from one of two
longer_punctuators : (x y u v rest p q : Bool) → ((x && (y && true)) || ((u && (v && true)) || rest)) ≡ false → ((x && (y && p)) || ((u && (v && q)) || false)) ≡ false
longer_punctuators true true u v rest p q e = absurd cc
longer_punctuators true false true true rest p q e = absurd cc
longer_punctuators true false true false rest p q e = refl
longer_punctuators true false false v rest p q e = refl
longer_punctuators false y true true rest p q e = absurd cc
longer_punctuators false y true false rest p q e = refl
longer_punctuators false y false v rest p q e = refl

three_ended : (c a : ℕ) (r s : List ℕ) → begins two_byte_punctuators (c ∷ a ∷ r) ≡ false → begins three_byte_punctuators (c ∷ a ∷ s) ≡ false
three_ended c a r s e = longer_punctuators (eqb 60 c) (eqb 60 a) (eqb 62 c) (eqb 62 a) _ _ _ e

third_none : (x y u v : Bool) → ((x && (y && false)) || ((u && (v && false)) || false)) ≡ false
third_none true true true true = refl
third_none true true true false = refl
third_none true true false v = refl
third_none true false true true = refl
third_none true false true false = refl
third_none true false false v = refl
third_none false y true true = refl
third_none false y true false = refl
third_none false y false v = refl

punctuator_ahead : (w : List ℕ) (a b : ℕ) (r s : List ℕ) → Follows a b → 0 < length w → punctuator_len (w ++ a ∷ r) ≡ length w → punctuator_len (w ++ b ∷ s) ≡ length w
unfolding punctuator_len
punctuator_ahead [] a b r s f some e = absurd (omega arith)
punctuator_ahead (c ∷ []) a b r s (inl same) some e =
    let h = one_punctuator (begins three_byte_punctuators (c ∷ a ∷ r)) (begins two_byte_punctuators (c ∷ a ∷ r)) (begins one_byte_punctuators (c ∷ a ∷ r)) e in
    subst (λ (z : ℕ). punctuator_len (c ∷ z ∷ s) ≡ 1) (sym same) (rw (three_ended c a r s h.1, h.1) (rw (h.0, h.1) at e))
punctuator_ahead (c ∷ []) a b r s (inr (brace, other)) some e =
    let h = one_punctuator (begins three_byte_punctuators (c ∷ a ∷ r)) (begins two_byte_punctuators (c ∷ a ∷ r)) (begins one_byte_punctuators (c ∷ a ∷ r)) e in
    subst (λ (z : ℕ). punctuator_len (c ∷ z ∷ s) ≡ 1) (sym brace) (rw (no_brace three_byte_punctuators c s three_plain, no_brace two_byte_punctuators c s two_plain) (rw (h.0, h.1) at e))
punctuator_ahead (c ∷ (d ∷ [])) a b r s (inl same) some e = subst (λ (z : ℕ). punctuator_len (c ∷ d ∷ z ∷ s) ≡ 2) (sym same) e
punctuator_ahead (c ∷ (d ∷ [])) a b r s (inr (brace, other)) some e =
    let h = two_punctuator (begins three_byte_punctuators (c ∷ d ∷ a ∷ r)) (begins two_byte_punctuators (c ∷ d ∷ a ∷ r)) (begins one_byte_punctuators (c ∷ d ∷ a ∷ r)) e in
    subst (λ (z : ℕ). punctuator_len (c ∷ d ∷ z ∷ s) ≡ 2) (sym brace) (rw (third_none (eqb 60 c) (eqb 60 d) (eqb 62 c) (eqb 62 d)) (rw h at e))
punctuator_ahead (c ∷ (d ∷ (g ∷ []))) a b r s f some e = e
punctuator_ahead (c ∷ (d ∷ (g ∷ (h ∷ w)))) a b r s f some e = absurd (let few = few_punctuators (begins three_byte_punctuators (c ∷ d ∷ g ∷ h ∷ w ++ a ∷ r)) (begins two_byte_punctuators
    (c ∷ d ∷ g ∷ h ∷ w ++ a ∷ r)) (begins one_byte_punctuators (c ∷ d ∷ g ∷ h ∷ w ++ a ∷ r)) in omega (arith, few, e))

-- ---- fronts

gap_as : (m n : ℕ) (p : Front) → n ≡ m → lexed.Gap m ≡ p → lexed.Gap n ≡ p
gap_as m n p same is = ap (λ (k : ℕ). lexed.Gap k) same ∙ is

gap_size : (m : ℕ) (p : Front) (n : ℕ) → size p ≡ n → lexed.Gap m ≡ p → m ≡ n
gap_size m p n long is = ap size is ∙ long

fault_none : (d : _) (p : Front) → 0 < size p → lexed.Fault d ≡ p → ⊥
fault_none d p some is = let z : 0 ≡ size p = ap size is in omega arith

identifier_size : (text : List ℕ) (p : Front) → identifier text ≡ p → length text ≡ size p
identifier_size text p e = chosen (is_keyword text) _ _ p _ (λ t h. ap size h) (λ t h. ap size h) e

number_size : (text : List ℕ) (p : Front) → 0 < size p → number text ≡ p → length text ≡ size p
number_size text p some e = chosen (is_number text) _ _ p _ (λ t h. ap size h) (λ t h. absurd (fault_none _ p some h)) e

quoted_ahead : (k : TokenKind) (o u : Option ℕ) (n : ℕ) (p : Front) → 0 < size p → size p ≡ suc n → (o ≡ Some n → u ≡ Some n) → quoted k o ≡ p → quoted k u ≡ p
quoted_ahead k None u n p some long same e = absurd (fault_none _ p some e)
quoted_ahead k (Some m) u n p some long same e =
    let count : m + 1 ≡ size p = ap size e in
    let is : m ≡ n = omega arith in
    rw (same (ap (λ (j : ℕ). Some j) is)) (rw is at e)

punctuator_size : (n : ℕ) (p : Front) → 0 < size p → punctuator n ≡ p → n ≡ size p
punctuator_size n p some e = chosen (eqb n 0) _ _ p _ (λ t h. absurd (fault_none _ p some h)) (λ t h. ap size h) e

line_ahead : (w : List ℕ) (a b : ℕ) (r s : List ℕ) (p : Front) → Follows a b → size p ≡ length w → line (w ++ a ∷ r) ≡ p → ((a ≡ 10) × (b ≡ 10)) × (line (w ++ b ∷ s) ≡ p)
line_ahead w a b r s p f long e =
    let all : prefix_len is_line_byte (w ++ a ∷ r) ≡ length w = gap_size _ p (length w) long e in
    let stop = run_ends is_line_byte w a r all in
    let both_feeds = line_feed a b f stop in
    let there : is_line_byte b ≡ false = ap is_line_byte both_feeds.1 in
    let same : prefix_len is_line_byte (w ++ b ∷ s) ≡ prefix_len is_line_byte (w ++ a ∷ r) = run_stops is_line_byte w b s there ∙ sym (run_stops is_line_byte w a r stop) in
    (both_feeds, gap_as _ _ p same e)

directive_ahead : (f : Bool) (c : ℕ) (v : List ℕ) (a b : ℕ) (r s : List ℕ) (p : Front) → Follows a b → 0 < size p → size p ≡ suc (length v) → directive f (c ∷ v ++ a ∷ r) ≡ p
    → directive f (c ∷ v ++ b ∷ s) ≡ p
directive_ahead f c v a b r s p fo some long e = both f _ _ _ _ p (λ h.
    chosen (is_include (v ++ a ∷ r)) _ _ p _ (λ t g. (
    let l = line_ahead (c ∷ v) a b r s p fo long g in
    let same : is_include (v ++ b ∷ s) ≡ true =
    ap (λ (z : ℕ). is_include (v ++ z ∷ s)) l.0.1 ∙ include_same v s r ∙ sym (ap (λ (z : ℕ). is_include (v ++ z ∷ r)) l.0.0) ∙ t in
    rw same l.1)) (λ t g. absurd (fault_none _ p some g)) h) (λ h. h) e

slashes : (x c : ℕ) (v : List ℕ) (a b : ℕ) (r s : List ℕ) → Follows a b → eqb x 123 ≡ false → starts_with nat_eq (c ∷ v ++ a ∷ r) (47 ∷ x ∷ []) ≡ false
    → starts_with nat_eq (c ∷ v ++ b ∷ s) (47 ∷ x ∷ []) ≡ false
slashes x c [] a b r s (inl same) other e = rw same e
slashes x c [] a b r s (inr (brace, is)) other e = rw (brace, other) (and_false (eqb 47 c))
slashes x c (d ∷ v) a b r s f other e = e

close_size : (o : Option ℕ) (p : Front) (n : ℕ) → 0 < size p → size p ≡ suc (suc n) → comment o ≡ p → o ≡ Some n
close_size None p n some long e = absurd (fault_none _ p some e)
close_size (Some m) p n some long e = let count : m + 2 ≡ size p = ap size e in let is : m ≡ n = omega arith in ap (λ (j : ℕ). Some j) is

close_short : (bs : List ℕ) (p : Front) → 0 < size p → size p ≡ 1 → comment (to_close bs) ≡ p → ⊥
close_short bs p some long e = by (to_close bs) e
  where
    by : (o : Option ℕ) → comment o ≡ p → ⊥
    by None h = fault_none _ p some h
    by (Some m) h = let count : m + 2 ≡ size p = ap size h in omega arith

comment_ahead : (c : ℕ) (v : List ℕ) (a b : ℕ) (r s : List ℕ) (p x y : Front) → Follows a b → 0 < size p → size p ≡ suc (length v) → (x ≡ p → y ≡ p)
    → cond (starts_with nat_eq (c ∷ v ++ a ∷ r) (codes "/*")) (comment (to_close (drop 2 (c ∷ v ++ a ∷ r)))) x ≡ p
    → cond (starts_with nat_eq (c ∷ v ++ b ∷ s) (codes "/*")) (comment (to_close (drop 2 (c ∷ v ++ b ∷ s)))) y ≡ p
comment_ahead c [] a b r s p x y f some long rest e = chosen (starts_with nat_eq (c ∷ a ∷ r) (codes "/*")) _ _ p _ (λ t h. absurd (close_short r p some long h))
    (λ t h. rw (slashes 42 c [] a b r s f refl t) (rest h)) e
comment_ahead c (d ∷ v) a b r s p x y f some long rest e = both (starts_with nat_eq (c ∷ d ∷ v ++ a ∷ r) (codes "/*")) _ _ _ _ p
    (λ h. (let is = close_size (to_close (v ++ a ∷ r)) p (length v) some long h in ap comment (close_few v (a ∷ r) (b ∷ s) is ∙ sym is) ∙ h)) rest e

lines_ahead : (c : ℕ) (v : List ℕ) (a b : ℕ) (r s : List ℕ) (p x y : Front) → Follows a b → size p ≡ suc (length v) → (x ≡ p → y ≡ p)
    → cond (starts_with nat_eq (c ∷ v ++ a ∷ r) (codes "//")) (line (c ∷ v ++ a ∷ r)) x ≡ p
    → cond (starts_with nat_eq (c ∷ v ++ b ∷ s) (codes "//")) (line (c ∷ v ++ b ∷ s)) y ≡ p
lines_ahead c [] a b r s p x y f long rest e = chosen (starts_with nat_eq (c ∷ a ∷ r) (codes "//")) _ _ p _ (λ t h. (
    let l = line_ahead (c ∷ []) a b r s p f long h in
    absurd (both_ways (starts_with nat_eq (c ∷ a ∷ r) (codes "//")) (rw l.0.0 (and_false (eqb 47 c))) t)))
    (λ t h. rw (slashes 47 c [] a b r s f refl t) (rest h)) e
lines_ahead c (d ∷ v) a b r s p x y f long rest e = both (starts_with nat_eq (c ∷ d ∷ v ++ a ∷ r) (codes "//")) _ _ _ _ p
    (λ h. (line_ahead (c ∷ d ∷ v) a b r s p f long h).1) rest e

pub ahead : (f : Bool) (w : List ℕ) (a b : ℕ) (r s : List ℕ) (p : Front) → Follows a b → 0 < size p → size p ≡ length w → front_at f (w ++ a ∷ r) ≡ p → front_at f (w ++ b ∷ s) ≡ p
unfolding front_at
ahead f [] a b r s p fo some long e = absurd (omega arith)
ahead f (c ∷ v) a b r s p fo some long e =
    both (is_white c) _ _ _ _ p (λ h. (let is = gap_size _ p (suc (length v)) long h in gap_as _ _ p (run_all is_white (c ∷ v) a b r s refl fo is ∙ sym is) h)) (λ h1.
    both (is_letter c) _ _ _ _ p (λ h. ap identifier (while_all is_name_byte (c ∷ v) a b r s refl fo (identifier_size _ p h ∙ long)) ∙ h) (λ h2.
    both (is_digit c) _ _ _ _ p (λ h. ap number (while_all is_number_byte (c ∷ v) a b r s refl fo (number_size _ p some h ∙ long)) ∙ h) (λ h3.
    both (eqb c 39) _ _ _ _ p (λ h. quoted_ahead kind.Character _ _ (length v) p some long (character_few v (a ∷ r) (b ∷ s)) h) (λ h4.
    both (eqb c 34) _ _ _ _ p (λ h. quoted_ahead kind.Text _ _ (length v) p some long (text_few 0 v (a ∷ r) (b ∷ s)) h) (λ h5.
    both (eqb c 35) _ _ _ _ p (λ h. directive_ahead f c v a b r s p fo some long h) (λ h6.
    comment_ahead c v a b r s p _ _ fo some long (λ h7.
    lines_ahead c v a b r s p _ _ fo long (λ h8.
    (let is : punctuator_len (c ∷ v ++ a ∷ r) ≡ suc (length v) = punctuator_size _ p some h8 ∙ long in ap punctuator (punctuator_ahead (c ∷ v) a b r s fo (omega arith) is ∙ sym is) ∙ h8)) h7) h6) h5) h4) h3) h2) h1) e

-- a token is one whatever stands before it on its line
pub any_line : (f g : Bool) (bs : List ℕ) (k : TokenKind) (n : ℕ) → front_at f bs ≡ lexed.Token k n → front_at g bs ≡ lexed.Token k n
unfolding front_at
any_line f g [] k n e = e
any_line f g (c ∷ bs) k n e =
    let v = lexed.Token k n in
    both (is_white c) _ _ _ _ v (λ h. h) (λ h1.
    both (is_letter c) _ _ _ _ v (λ h. h) (λ h2.
    both (is_digit c) _ _ _ _ v (λ h. h) (λ h3.
    both (eqb c 39) _ _ _ _ v (λ h. h) (λ h4.
    both (eqb c 34) _ _ _ _ v (λ h. h) (λ h5.
    both (eqb c 35) _ _ _ _ v (λ h. absurd (no_directive f (c ∷ bs) k n h)) (λ h. h) h5) h4) h3) h2) h1) e

-- no token begins with a line feed
pub no_feed : (f : Bool) (a : ℕ) (r : List ℕ) (k : TokenKind) (n : ℕ) → front_at f (a ∷ r) ≡ lexed.Token k n → eqb a 10 ≡ false
unfolding front_at
no_feed f a r k n e = by (eqb a 10) refl
  where
    by : (t : Bool) → eqb a 10 ≡ t → t ≡ false
    by true is = absurd (let z : front_at f (10 ∷ r) ≡ lexed.Token k n = subst (λ (x : ℕ). front_at f (x ∷ r) ≡ lexed.Token k n) (eqb-true a 10 is) e in cc)
    by false is = refl

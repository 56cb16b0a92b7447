-- A front takes bytes, and no more than there are.
use Rattle.std.proofs.Common.{◌≡◌, ℕ, zero, suc, ◌+◌, ◌<◌, ◌≤◌, ◌-◌, Bool, true, false, cond, eqb, List, [], ◌∷◌, length, drop, Option, Some, None, refl, arith, length-drop, inl, inr, rules}
use Rattle.std.specs.Prelude.{nat_eq, codes, IfSome}
use Rattle.std.specs.List.{starts_with, prefix_len, take_while}
use Rattle.std.proofs.lemmas.Bool.{cond_both, eqb-true, or_left, or_right, or_cases, and_parts}
use Rattle.std.proofs.lemmas.List.Sums.{prefix_len-le-length}
use Rattle.std.proofs.lemmas.List.Folds.{length-prefix_len}
use Rattle.cw_lex.specs.declared.tokens.TokenKind.{TokenKind}
use Rattle.cw_lex.specs.declared.tokens.TokenKind.TheVariants as kind
use Rattle.cw_lex.specs.declared.front.Front.{Front}
use Rattle.cw_lex.specs.Bytes.{is_white, is_letter, is_digit, is_name_byte, is_number_byte, is_line_byte}
use Rattle.cw_lex.specs.Keywords.{is_keyword}
use Rattle.cw_lex.specs.Numbers.{is_number}
use Rattle.cw_lex.specs.Characters.{Spelled, more_by, item_at, closed, character_len, text_len}
use Rattle.cw_lex.specs.Punctuators.{three_byte_punctuators, two_byte_punctuators, one_byte_punctuators, begins, punctuator_len}
use Rattle.cw_lex.specs.Fronts.{identifier, number, quoted, to_close, comment, is_include, line, directive, punctuator, front_at, IsWithin}

pub starts_le : (bs w : List ℕ) → starts_with nat_eq bs w ≡ true → length w ≤ length bs
starts_le bs [] e = omega arith
starts_le [] (x ∷ w) e = absurd cc
starts_le (b ∷ bs) (x ∷ w) e = let p = starts_le bs w (and_parts (eqb x b) (starts_with nat_eq bs w) e).1 in omega arith

one_more : (o : Option ℕ) (k : ℕ) → IfSome o (λ n. n ≤ k) → IfSome (more_by 1 o) (λ n. n ≤ suc k)
one_more None k h = tt
one_more (Some n) k h = omega arith

pub close_le : (bs : List ℕ) → IfSome (to_close bs) (λ n. n ≤ length bs)
close_le [] = tt
close_le (b ∷ bs) = cond_both (starts_with nat_eq (b ∷ bs) (codes "*/")) (Some 2) (more_by 1 (to_close bs)) (λ o. IfSome o (λ n. n ≤ length (b ∷ bs)))
    (λ e. starts_le (b ∷ bs) (codes "*/") e) (λ e. one_more (to_close bs) (length bs) (close_le bs))

item_le : (o : Option Spelled) (bs : List ℕ) → ((k : ℕ) → IfSome (text_len k bs) (λ n. n ≤ length bs))
    → IfSome (elim o as (λ x. Option ℕ) [ None ↦ None | Some item ↦ more_by 1 (text_len (item.1 - 1) bs) ]) (λ n. n ≤ suc (length bs))
item_le None bs rec = tt
item_le (Some x) bs rec = one_more (text_len (x.1 - 1) bs) (length bs) (rec (x.1 - 1))

text_le : (k : ℕ) (bs : List ℕ) → IfSome (text_len k bs) (λ n. n ≤ length bs)
unfolding text_len
text_le k [] = tt
text_le (suc k) (b ∷ bs) = one_more (text_len k bs) (length bs) (text_le k bs)
text_le zero (b ∷ bs) = cond_both (eqb b 34) _ _ (λ o. IfSome o (λ n. n ≤ length (b ∷ bs))) (λ e. omega arith) (λ e. item_le (item_at 34 (b ∷ bs)) bs (λ k. text_le k bs))

closed_le : (bs : List ℕ) (o : Option Spelled) → IfSome (closed bs o) (λ n. n ≤ length bs)
closed_le bs None = tt
closed_le bs (Some x) = cond_both (starts_with nat_eq (drop x.1 bs) (codes "'")) (Some (x.1 + 1)) None (λ o. IfSome o (λ n. n ≤ length bs))
    (λ e. (let p = starts_le (drop x.1 bs) (codes "'") e in omega (arith, p, length-drop x.1 bs))) (λ e. tt)

character_le : (bs : List ℕ) → IfSome (character_len bs) (λ n. n ≤ length bs)
unfolding character_len
character_le bs = closed_le bs (item_at 39 bs)

quoted_within : (k : TokenKind) (o : Option ℕ) (len : ℕ) → IfSome o (λ n. n ≤ len) → IsWithin (suc len) (quoted k o)
quoted_within k None len h = tt
quoted_within k (Some n) len h = (omega arith, omega arith)

comment_within : (o : Option ℕ) (len : ℕ) → IfSome o (λ n. n ≤ len - 2) → 2 ≤ len → IsWithin len (comment o)
comment_within None len h le = tt
comment_within (Some n) len h le = (omega arith, omega arith)

choose : (len : ℕ) (t : Bool) (x y : Front) → (t ≡ true → IsWithin len x) → (t ≡ false → IsWithin len y) → IsWithin len (cond t x y)
choose len true x y f g = f refl
choose len false x y f g = g refl

some_prefix : (p : ℕ → Bool) (b : ℕ) (bs : List ℕ) → p b ≡ true → 0 < prefix_len p (b ∷ bs)
some_prefix p b bs e = rw e (omega arith)

-- the run of such bytes at the front, where the first is one
pub run_within : (p : ℕ → Bool) (b : ℕ) (bs : List ℕ) → p b ≡ true → (0 < length (take_while p (b ∷ bs))) × (length (take_while p (b ∷ bs)) ≤ length (b ∷ bs))
run_within p b bs e =
    let same = length-prefix_len p (b ∷ bs) in
    let some = some_prefix p b bs e in
    let le = prefix_len-le-length p (b ∷ bs) in
    (omega (arith, same, some), omega (arith, same, le))

identifier_within : (len : ℕ) (text : List ℕ) → 0 < length text → length text ≤ len → IsWithin len (identifier text)
identifier_within len text some le = choose len (is_keyword text) _ _ (λ e. (some, le)) (λ e. (some, le))

number_within : (len : ℕ) (text : List ℕ) → 0 < length text → length text ≤ len → IsWithin len (number text)
number_within len text some le = choose len (is_number text) _ _ (λ e. (some, le)) (λ e. tt)

line_within : (b : ℕ) (bs : List ℕ) → is_line_byte b ≡ true → IsWithin (length (b ∷ bs)) (line (b ∷ bs))
line_within b bs e = (some_prefix is_line_byte b bs e, prefix_len-le-length is_line_byte (b ∷ bs))

directive_within : (fresh : Bool) (b : ℕ) (bs : List ℕ) → is_line_byte b ≡ true → IsWithin (length (b ∷ bs)) (directive fresh (b ∷ bs))
directive_within fresh b bs e = choose (length (b ∷ bs)) fresh _ _ (λ f. choose (length (b ∷ bs)) (is_include bs) _ _ (λ g. line_within b bs e) (λ g. tt)) (λ f. tt)

abbrev pub AllLong : ℕ → List (List ℕ) → Type 0
AllLong n [] = Unit {0}
AllLong n (w ∷ ws) = (n ≤ length w) × AllLong n ws

pub begins_le : (n : ℕ) (ws : List (List ℕ)) (bs : List ℕ) → AllLong n ws → begins ws bs ≡ true → n ≤ length bs
begins_le n [] bs h e = absurd cc
begins_le n (w ∷ ws) bs h e = elim (or_cases (starts_with nat_eq bs w) (begins ws bs) e) [
  | inl p ↦ let q = starts_le bs w p in omega (arith, q, h.0)
  | inr p ↦ begins_le n ws bs h.1 p
]

positive : (n : ℕ) → eqb n 0 ≡ false → 0 < n
positive zero e = absurd cc
positive (suc n) e = omega arith

punctuator_choice : (len : ℕ) (n : ℕ) → n ≤ len → IsWithin len (punctuator n)
punctuator_choice len n le = choose len (eqb n 0) _ _ (λ e. tt) (λ e. (positive n e, le))

three_long : AllLong 3 three_byte_punctuators
three_long = search rules

two_long : AllLong 2 two_byte_punctuators
two_long = search rules

one_long : AllLong 1 one_byte_punctuators
one_long = search rules

punctuator_le : (bs : List ℕ) → punctuator_len bs ≤ length bs
unfolding punctuator_len
punctuator_le bs =
    cond_both (begins three_byte_punctuators bs) 3 _ (λ n. n ≤ length bs) (λ e. begins_le 3 three_byte_punctuators bs three_long e) (λ e.
    cond_both (begins two_byte_punctuators bs) 2 _ (λ n. n ≤ length bs) (λ f. begins_le 2 two_byte_punctuators bs two_long f) (λ f.
    cond_both (begins one_byte_punctuators bs) 1 0 (λ n. n ≤ length bs) (λ g. begins_le 1 one_byte_punctuators bs one_long g) (λ g. omega arith)))

slash_is_line : (b : ℕ) (bs : List ℕ) → starts_with nat_eq (b ∷ bs) (codes "//") ≡ true → is_line_byte b ≡ true
slash_is_line b bs e = rw (← eqb-true 47 b (and_parts (eqb 47 b) (starts_with nat_eq bs (codes "/")) e).0) refl

pub front_within : (fresh : Bool) (bs : List ℕ) → 0 < length bs → IsWithin (length bs) (front_at fresh bs)
unfolding front_at
front_within fresh [] some = absurd (omega arith)
front_within fresh (b ∷ bs) some =
    let len = length (b ∷ bs) in
    choose len (is_white b) _ _ (λ e. (some_prefix is_white b bs e, prefix_len-le-length is_white (b ∷ bs))) (λ e1.
    choose len (is_letter b) _ _ (λ e. (let r = run_within is_name_byte b bs (or_left (is_letter b) (is_digit b) e) in identifier_within len (take_while is_name_byte (b ∷ bs)) r.0 r.1)) (λ e2.
    choose len (is_digit b) _ _ (λ e. (let r = run_within is_number_byte b bs (or_left (is_name_byte b) (eqb b 46) (or_right (is_letter b) (is_digit b) e)) in
    number_within len (take_while is_number_byte (b ∷ bs)) r.0 r.1)) (λ e3.
    choose len (eqb b 39) _ _ (λ e. quoted_within kind.Character (character_len bs) (length bs) (character_le bs)) (λ e4.
    choose len (eqb b 34) _ _ (λ e. quoted_within kind.Text (text_len 0 bs) (length bs) (text_le 0 bs)) (λ e5.
    choose len (eqb b 35) _ _ (λ e. directive_within fresh b bs (rw (eqb-true b 35 e) refl)) (λ e6.
    choose len (starts_with nat_eq (b ∷ bs) (codes "/*")) _ _
    (λ e. comment_within (to_close (drop 2 (b ∷ bs))) len (rw (← length-drop 2 (b ∷ bs)) (close_le (drop 2 (b ∷ bs)))) (starts_le (b ∷ bs) (codes "/*") e)) (λ e7.
    choose len (starts_with nat_eq (b ∷ bs) (codes "//")) _ _ (λ e. line_within b bs (slash_is_line b bs e)) (λ e8.
    punctuator_choice len (punctuator_len (b ∷ bs)) (punctuator_le (b ∷ bs))))))))))

-- The bytes of a token, alone, are that token.
use Rattle.std.proofs.Common.{◌≡◌, ℕ, zero, suc, ◌+◌, ◌<◌, ◌≤◌, Bool, true, false, cond, eqb, List, [], ◌∷◌, length, drop, take, Option, Some, None, refl, subst, ◌∙◌, arith, inl, inr, rules}
use Rattle.std.specs.Prelude.{nat_eq, codes}
use Rattle.std.specs.List.{starts_with, take_while}
use Rattle.std.proofs.lemmas.Bool.{or_cases, both_ways, cases_Bool}
use Rattle.cw_lemmas.proofs.Truths.{still_false}
use Rattle.cw_lemmas.proofs.Texts.{starts_whole}
use Rattle.cw_lex.specs.declared.tokens.TokenKind.{TokenKind}
use Rattle.cw_lex.specs.declared.tokens.TokenKind.TheVariants as kind
use Rattle.cw_lex.specs.declared.front.Front.TheVariants as front
use Rattle.cw_lex.specs.Bytes.{is_white, is_letter, is_digit, is_name_byte, is_number_byte}
use Rattle.cw_lex.specs.Keywords.{is_keyword}
use Rattle.cw_lex.specs.Numbers.{is_number}
use Rattle.cw_lex.specs.Characters.{character_len, text_len}
use Rattle.cw_lex.specs.Punctuators.{three_byte_punctuators, two_byte_punctuators, one_byte_punctuators, begins, punctuator_len}
use Rattle.cw_lex.specs.Fronts.{identifier, number, quoted, to_close, comment, is_include, line, directive, punctuator, front_at, IsWithin}
use Rattle.cw_lex.proofs.Within.{front_within}
use Rattle.cw_lex.proofs.Alone.{both, chosen, while_cut, starts_cut, character_cut, text_cut}

-- ---- punctuation

begins_whole : (ws : List (List ℕ)) (bs : List ℕ) (k : ℕ) → begins ws (take k bs) ≡ true → begins ws bs ≡ true
begins_whole [] bs k e = e
begins_whole (w ∷ ws) bs k e = elim (or_cases (starts_with nat_eq (take k bs) w) (begins ws (take k bs)) e) [
  | inl p ↦ rw (starts_whole bs w k p) refl
  | inr p ↦ elim (cases_Bool (starts_with nat_eq bs w)) [
    | inl q ↦ rw q refl
    | inr q ↦ rw q (begins_whole ws bs k p)
  ]
]

abbrev pub AllShort : ℕ → List (List ℕ) → Type 0
AllShort n [] = Unit {0}
AllShort n (w ∷ ws) = (length w ≤ n) × AllShort n ws

begins_cut : (ws : List (List ℕ)) (bs : List ℕ) (k : ℕ) → AllShort k ws → begins ws (take k bs) ≡ begins ws bs
begins_cut [] bs k h = refl
begins_cut (w ∷ ws) bs k h = rw (starts_cut bs w k h.0, begins_cut ws bs k h.1) refl

three_short : AllShort 3 three_byte_punctuators
three_short = search rules

two_short : AllShort 2 two_byte_punctuators
two_short = search rules

one_short : AllShort 1 one_byte_punctuators
one_short = search rules

punctuator_cut : (bs : List ℕ) (n : ℕ) → punctuator_len bs ≡ n → 0 < n → punctuator_len (take n bs) ≡ n
unfolding punctuator_len
punctuator_cut bs n e some = chosen (begins three_byte_punctuators bs) _ _ n _ (λ t h. (
    let three : begins three_byte_punctuators (take n bs) ≡ true = subst (λ (j : ℕ). begins three_byte_punctuators (take j bs) ≡ true) h (begins_cut three_byte_punctuators bs 3 three_short ∙ t) in
    rw three h)) (λ t h.
    chosen (begins two_byte_punctuators bs) _ _ n _ (λ u g. (
    let two : begins two_byte_punctuators (take n bs) ≡ true = subst (λ (j : ℕ). begins two_byte_punctuators (take j bs) ≡ true) g (begins_cut two_byte_punctuators bs 2 two_short ∙ u) in
    rw (still_false (begins three_byte_punctuators bs) (begins three_byte_punctuators (take n bs)) (begins_whole three_byte_punctuators bs n) t, two) g)) (λ u g.
    chosen (begins one_byte_punctuators bs) 1 0 n _ (λ v f. (
    let one : begins one_byte_punctuators (take n bs) ≡ true = subst (λ (j : ℕ). begins one_byte_punctuators (take j bs) ≡ true) f (begins_cut one_byte_punctuators bs 1 one_short ∙ v) in
    rw (
      still_false (begins three_byte_punctuators bs) (begins three_byte_punctuators (take n bs)) (begins_whole three_byte_punctuators bs n) t,
      still_false (begins two_byte_punctuators bs)
          (begins two_byte_punctuators (take n bs)) (begins_whole two_byte_punctuators bs n) u,
      one,
    ) f)) (λ v f. absurd (omega arith)) g) h) e

-- ---- fronts

pub identifier_length : (text : List ℕ) (k : TokenKind) (n : ℕ) → identifier text ≡ front.Token k n → length text ≡ n
identifier_length text k n e = chosen (is_keyword text) _ _ (front.Token k n) _ (λ t h. cc) (λ t h. cc) e

pub number_length : (text : List ℕ) (k : TokenKind) (n : ℕ) → number text ≡ front.Token k n → length text ≡ n
number_length text k n e = chosen (is_number text) _ _ (front.Token k n) _ (λ t h. cc) (λ t h. absurd cc) e

quoted_cut : (q : TokenKind) (o p : Option ℕ) (k : TokenKind) (n : ℕ) → ((m : ℕ) → o ≡ Some m → m + 1 ≡ n → p ≡ Some m) → quoted q o ≡ front.Token k n → quoted q p ≡ front.Token k n
quoted_cut q None p k n same e = absurd cc
quoted_cut q (Some m) p k n same e = let count : m + 1 ≡ n = cc in rw (same m refl count) e

pub no_line : (bs : List ℕ) (k : TokenKind) (n : ℕ) → line bs ≡ front.Token k n → ⊥
no_line bs k n e = absurd cc

pub no_directive : (fresh : Bool) (bs : List ℕ) (k : TokenKind) (n : ℕ) → directive fresh bs ≡ front.Token k n → ⊥
no_directive fresh bs k n e = chosen fresh _ _ (front.Token k n) ⊥ (λ t h. chosen (is_include (drop 1 bs)) _ _ (front.Token k n) ⊥ (λ u g. absurd cc) (λ u g. absurd cc) h) (λ t h. absurd cc) e

pub no_comment : (o : Option ℕ) (k : TokenKind) (n : ℕ) → comment o ≡ front.Token k n → ⊥
no_comment None k n e = absurd cc
no_comment (Some m) k n e = absurd cc

punctuator_is : (m : ℕ) (k : TokenKind) (n : ℕ) → punctuator m ≡ front.Token k n → m ≡ n
punctuator_is m k n e = chosen (eqb m 0) _ _ (front.Token k n) _ (λ t h. absurd cc) (λ t h. cc) e

-- what isn't there whole isn't there where the bytes behind are cut off
left_out : {A : Type 0} (t u : Bool) (a b c d v : A) → (a ≡ v → ⊥) → (u ≡ true → t ≡ true) → (b ≡ v → d ≡ v) → cond t a b ≡ v → cond u c d ≡ v
left_out true u a b c d v never same f e = absurd (never e)
left_out false true a b c d v never same f e = absurd (both_ways false refl (same refl))
left_out false false a b c d v never same f e = f e

pub alone : (fresh : Bool) (bs : List ℕ) (k : TokenKind) (n : ℕ) → front_at fresh bs ≡ front.Token k n → front_at true (take n bs) ≡ front.Token k n
unfolding front_at
alone fresh [] k n e = absurd cc
alone fresh (b ∷ bs) k zero e = absurd (let h = subst (IsWithin (length (b ∷ bs))) e (front_within fresh (b ∷ bs) (omega arith)) in let some = h.0 in omega arith)
alone fresh (b ∷ bs) k (suc m) e =
    let v = front.Token k (suc m) in
    both (is_white b) _ _ _ _ v (λ h. absurd cc) (λ h1.
    both (is_letter b) _ _ _ _ v (λ h. (let long = identifier_length (take_while is_name_byte (b ∷ bs)) k (suc m) h in rw (while_cut is_name_byte (b ∷ bs) (suc m) (omega arith)) h)) (λ h2.
    both (is_digit b) _ _ _ _ v (λ h. (let long = number_length (take_while is_number_byte (b ∷ bs)) k (suc m) h in rw (while_cut is_number_byte (b ∷ bs) (suc m) (omega arith)) h)) (λ h3.
    both (eqb b 39) _ _ _ _ v (λ h. quoted_cut kind.Character (character_len bs) (character_len (take m bs)) k (suc m) (λ j is count. character_cut bs m j is (omega arith)) h) (λ h4.
    both (eqb b 34) _ _ _ _ v (λ h. quoted_cut kind.Text (text_len 0 bs) (text_len 0 (take m bs)) k (suc m) (λ j is count. text_cut 0 bs m j is (omega arith)) h) (λ h5.
    both (eqb b 35) _ _ _ _ v (λ h. absurd (no_directive fresh (b ∷ bs) k (suc m) h)) (λ h6.
    left_out (starts_with nat_eq (b ∷ bs) (codes "/*")) (starts_with nat_eq (b ∷ take m bs) (codes "/*")) _ _ _ _ v (no_comment (to_close (drop 2 (b ∷ bs))) k (suc m))
    (starts_whole (b ∷ bs) (codes "/*") (suc m)) (λ h7.
    left_out (starts_with nat_eq (b ∷ bs) (codes "//")) (starts_with nat_eq (b ∷ take m bs) (codes "//")) _ _ _ _ v (no_line (b ∷ bs) k (suc m)) (starts_whole (b ∷ bs) (codes "//") (suc m)) (λ h8.
    (let len = punctuator_is (punctuator_len (b ∷ bs)) k (suc m) h8 in rw (punctuator_cut (b ∷ bs) (suc m) len (omega arith)) (rw len at h8))) h7) h6) h5) h4) h3) h2) h1) e

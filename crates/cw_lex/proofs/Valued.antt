-- What the kind of a token says of its bytes.
use Rattle.std.proofs.Common.{◌≡◌, ◌≢◌, ℕ, suc, ◌^◌, ◌<◌, ◌≤◌, ◌↔◌, ◌⊎◌, Bool, true, false, eqb, ◌&&◌, List, [], ◌∷◌, length, drop, Option, Some, None, refl, sym, subst, ◌∙◌, arith, inl, inr}
use Rattle.std.specs.Prelude.{nat_eq, codes}
use Rattle.std.specs.List.{starts_with, list_any, prefix_len, take_while}
use Rattle.std.specs.Str.{bytes_eq}
use Rattle.std.proofs.lemmas.List.{take_all}
use Rattle.std.proofs.lemmas.List.Folds.{length-prefix_len}
use Rattle.std.proofs.lemmas.Bool.{ltb-true, and_parts, or_cases, both_ways, eqb-true}
use Rattle.cw_lex.specs.declared.tokens.TokenKind.{TokenKind}
use Rattle.cw_lex.specs.declared.tokens.TokenKind.TheVariants as kind
use Rattle.cw_lex.specs.declared.front.Front.TheVariants as front
use Rattle.cw_lex.specs.Bytes.{is_white, is_letter, is_digit, is_name_byte, is_number_byte}
use Rattle.cw_lex.specs.Keywords.{keywords, is_keyword}
use Rattle.cw_lex.specs.Numbers.{is_number, number_of}
use Rattle.cw_lex.specs.Characters.{character_len, text_len}
use Rattle.cw_lex.specs.Punctuators.{punctuator_len}
use Rattle.cw_lex.specs.Fronts.{identifier, number, quoted, to_close, punctuator, front_at}
use Rattle.cw_lex.proofs.Alone.{chosen}
use Rattle.cw_lex.proofs.Tokened.{identifier_length, number_length, no_line, no_directive, no_comment}

-- 64 bits hold the value of a number
pub number_is_small : (text : List ℕ) → is_number text ≡ true → number_of text < 2 ^ 64
unfolding is_number
number_is_small text e = ltb-true _ _ (and_parts _ _ e).1

-- a run that is as long as the bytes is all of them
whole_run : (p : ℕ → Bool) (bs : List ℕ) → length (take_while p bs) ≡ length bs → take_while p bs ≡ bs
whole_run p bs e = let le : length bs ≤ prefix_len p bs = omega (arith, e, length-prefix_len p bs) in take_all (prefix_len p bs) bs le

pub quoted_kind : (q : TokenKind) (o : Option ℕ) (k : TokenKind) (n : ℕ) → quoted q o ≡ front.Token k n → k ≡ q
quoted_kind q None k n e = absurd cc
quoted_kind q (Some m) k n e = cc

punctuator_kind : (m : ℕ) (k : TokenKind) (n : ℕ) → punctuator m ≡ front.Token k n → k ≡ kind.Punctuation
punctuator_kind m k n e = chosen (eqb m 0) _ _ (front.Token k n) _ (λ t h. absurd cc) (λ t h. cc) e

-- What bytes are that alone are a token.
module _ (b : ℕ) (bs : List ℕ) (k : TokenKind) (P : Type 0)
    (an_identifier : is_letter b ≡ true → identifier (b ∷ bs) ≡ front.Token k (suc (length bs)) → P)
    (a_number : is_letter b ≡ false → number (b ∷ bs) ≡ front.Token k (suc (length bs)) → P)
    (a_character : is_letter b ≡ false → b ≡ 39 → quoted kind.Character (character_len bs) ≡ front.Token k (suc (length bs)) → P)
    (a_text : is_letter b ≡ false → b ≡ 34 → quoted kind.Text (text_len 0 bs) ≡ front.Token k (suc (length bs)) → P)
    (a_punctuator : is_letter b ≡ false → k ≡ kind.Punctuation → P) where
  pub by_kind : front_at true (b ∷ bs) ≡ front.Token k (suc (length bs)) → P
  unfolding front_at
  by_kind e =
      let v = front.Token k (suc (length bs)) in
      chosen (is_white b) _ _ v P (λ t h. absurd cc) (λ t1 h1.
      chosen (is_letter b) _ _ v P (λ t h. an_identifier t (subst (λ (z : List ℕ). identifier z ≡ v)
      (whole_run is_name_byte (b ∷ bs) (identifier_length (take_while is_name_byte (b ∷ bs)) k (suc (length bs)) h)) h)) (λ t2 h2.
      chosen (is_digit b) _ _ v P (λ t h. a_number t2 (subst (λ (z : List ℕ). number z ≡ v)
      (whole_run is_number_byte (b ∷ bs) (number_length (take_while is_number_byte (b ∷ bs)) k (suc (length bs)) h)) h)) (λ t3 h3.
      chosen (eqb b 39) _ _ v P (λ t h. a_character t2 (eqb-true b 39 t) h) (λ t4 h4.
      chosen (eqb b 34) _ _ v P (λ t h. a_text t2 (eqb-true b 34 t) h) (λ t5 h5.
      chosen (eqb b 35) _ _ v P (λ t h. absurd (no_directive true (b ∷ bs) k (suc (length bs)) h)) (λ t6 h6.
      chosen (starts_with nat_eq (b ∷ bs) (codes "/*")) _ _ v P (λ t h. absurd (no_comment (to_close (drop 2 (b ∷ bs))) k (suc (length bs)) h)) (λ t7 h7.
      chosen (starts_with nat_eq (b ∷ bs) (codes "//")) _ _ v P (λ t h. absurd (no_line (b ∷ bs) k (suc (length bs)) h)) (λ t8 h8.
      a_punctuator t2 (punctuator_kind (punctuator_len (b ∷ bs)) k (suc (length bs)) h8)) h7) h6) h5) h4) h3) h2) h1) e

pub identifier_kind : (text : List ℕ) (k : TokenKind) (n : ℕ) → identifier text ≡ front.Token k n → (k ≡ kind.Keyword) ⊎ (k ≡ kind.Name)
identifier_kind text k n e = chosen (is_keyword text) _ _ (front.Token k n) _ (λ t h. inl cc) (λ t h. inr cc) e

pub number_kind : (text : List ℕ) (k : TokenKind) (n : ℕ) → number text ≡ front.Token k n → (k ≡ kind.Number) × (is_number text ≡ true)
number_kind text k n e = chosen (is_number text) _ _ (front.Token k n) _ (λ t h. (cc, t)) (λ t h. absurd cc) e

pub empty_text : (k : TokenKind) → front_at true [] ≡ front.Token k 0 → ⊥
unfolding front_at
empty_text k e = absurd cc

-- no token is of two kinds
pub no_identifier : (text : List ℕ) (k : TokenKind) (n : ℕ) → k ≢ kind.Keyword → k ≢ kind.Name → identifier text ≡ front.Token k n → ⊥
no_identifier text k n one two e = elim (identifier_kind text k n e) [
  | inl h ↦ one h
  | inr h ↦ two h
]

pub numbers : (text : List ℕ) → front_at true text ≡ front.Token kind.Number (length text) → is_number text ≡ true
numbers [] e = absurd (empty_text kind.Number e)
numbers (b ∷ bs) e =
    let n = suc (length bs) in
    by_kind b bs kind.Number (is_number (b ∷ bs) ≡ true)
    (λ t h. absurd (no_identifier (b ∷ bs) kind.Number n (λ x. absurd cc) (λ x. absurd cc) h))
    (λ t h. (number_kind (b ∷ bs) kind.Number n h).1)
    (λ t same h. absurd (let q = quoted_kind kind.Character (character_len bs) kind.Number n h in absurd cc))
    (λ t same h. absurd (let q = quoted_kind kind.Text (text_len 0 bs) kind.Number n h in absurd cc))
    (λ t h. absurd cc) e

-- ---- keywords

all_begin : List (List ℕ) → Bool
all_begin [] = true
all_begin ([] ∷ ws) = false
all_begin ((c ∷ w) ∷ ws) = is_letter c && all_begin ws

begin_so : (ws : List (List ℕ)) (b : ℕ) (bs : List ℕ) → all_begin ws ≡ true → list_any (bytes_eq (b ∷ bs)) ws ≡ true → is_letter b ≡ true
unfolding all_begin
begin_so [] b bs h e = absurd cc
begin_so ([] ∷ ws) b bs h e = absurd cc
begin_so ((c ∷ w) ∷ ws) b bs h e = elim (or_cases (bytes_eq (b ∷ bs) (c ∷ w)) (list_any (bytes_eq (b ∷ bs)) ws) e) [
  | inl p ↦ rw (eqb-true b c (and_parts (eqb b c) (bytes_eq bs w) p).0) (and_parts (is_letter c) (all_begin ws) h).0
  | inr p ↦ begin_so ws b bs (and_parts (is_letter c) (all_begin ws) h).1 p
]

keyword_begins : (b : ℕ) (bs : List ℕ) → is_keyword (b ∷ bs) ≡ true → is_letter b ≡ true
unfolding is_keyword all_begin
keyword_begins b bs e = begin_so keywords b bs refl e

keyword_identifier : (text : List ℕ) (k : TokenKind) (n : ℕ) → identifier text ≡ front.Token k n → (k ≡ kind.Keyword) ↔ (is_keyword text ≡ true)
keyword_identifier text k n e = chosen (is_keyword text) _ _ (front.Token k n) _ (λ t h. ((λ same. t), (λ f. cc))) (λ t h. ((λ same. absurd cc), (λ f. absurd (both_ways (is_keyword text) t f)))) e

pub keywords_are : (text : List ℕ) (k : TokenKind) → front_at true text ≡ front.Token k (length text) → (k ≡ kind.Keyword) ↔ (is_keyword text ≡ true)
keywords_are [] k e = absurd (empty_text k e)
keywords_are (b ∷ bs) k e =
    let n = suc (length bs) in
    by_kind b bs k ((k ≡ kind.Keyword) ↔ (is_keyword (b ∷ bs) ≡ true))
    (λ t h. keyword_identifier (b ∷ bs) k n h)
    (λ t h. other t (number_kind (b ∷ bs) k n h).0 (λ x. absurd cc))
    (λ t same h. other t (quoted_kind kind.Character (character_len bs) k n h) (λ x. absurd cc))
    (λ t same h. other t (quoted_kind kind.Text (text_len 0 bs) k n h) (λ x. absurd cc))
    (λ t h. other t h (λ x. absurd cc)) e
  where
    other : {q : TokenKind} → is_letter b ≡ false → k ≡ q → q ≢ kind.Keyword → (k ≡ kind.Keyword) ↔ (is_keyword (b ∷ bs) ≡ true)
    other t same differs = ((λ f. absurd (differs (sym same ∙ f))), (λ h. absurd (both_ways (is_letter b) t (keyword_begins b bs h))))

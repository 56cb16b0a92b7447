-- Characters and strings are what their forms say.
use Rattle.std.proofs.Common.{◌≡◌, ℕ, zero, suc, ◌+◌, ◌-◌, ◌≤◌, ◌↔◌, true, eqb, List, [], ◌∷◌, ◌++◌, length, drop, take, Option, Some, None, refl, sym, ap, subst, ◌∙◌}
use Rattle.std.proofs.Common.{append_assoc, arith, length-append, length-drop, inl, inr}
use Rattle.std.specs.Prelude.{nat_eq, codes}
use Rattle.std.specs.List.{concat, starts_with}
use Rattle.std.proofs.lemmas.List.{take-append-drop, drop_at, length-take-le}
use Rattle.std.proofs.lemmas.Bool.{and_parts, eqb-true, cases_Bool}
use Rattle.cw_lex.specs.declared.tokens.TokenKind.{TokenKind}
use Rattle.cw_lex.specs.declared.tokens.TokenKind.TheVariants as kind
use Rattle.cw_lex.specs.declared.front.Front.TheVariants as front
use Rattle.cw_lex.specs.Characters.{Spelled, item_at, closed, character_len, more_by, text_len, character_of}
use Rattle.cw_lex.specs.Forms.{IsCharacter, AreItems, IsString}
use Rattle.cw_lex.specs.Fronts.{quoted, front_at}
use Rattle.cw_lex.proofs.Texts.{skipped, item_first}
use Rattle.cw_lex.proofs.Alone.{chosen, item_some, more_is, text_long, by_item}
use Rattle.cw_lex.proofs.Valued.{by_kind, quoted_kind, number_kind, no_identifier, empty_text}

-- ---- characters

one_quote : (q : ℕ) (ys : List ℕ) → length ys ≡ 1 → starts_with nat_eq ys (q ∷ []) ≡ true → ys ≡ q ∷ []
one_quote q [] len e = absurd (omega (arith, len))
one_quote q (y ∷ []) len e = ap (λ (z : ℕ). z ∷ []) (sym (eqb-true q y (and_parts (eqb q y) true e).0))
one_quote q (y ∷ z ∷ ys) len e = absurd (omega (arith, len))

value_of : (bs : List ℕ) (x : Spelled) → item_at 39 bs ≡ Some x → character_of (39 ∷ bs) ≡ x.0
unfolding character_of
value_of bs x is = rw (is, character_of) refl

pair_is : (a b c d : ℕ) → a ≡ c → b ≡ d → ◌≡◌ {A = Option Spelled} (Some (a, b)) (Some (c, d))
pair_is a b c d e f = cc

closed_form : (bs : List ℕ) (o : Option Spelled) → item_at 39 bs ≡ o → closed bs o ≡ Some (length bs) → IsCharacter (39 ∷ bs) (character_of (39 ∷ bs))
closed_form bs None is e = absurd cc
closed_form bs (Some x) is e = chosen (starts_with nat_eq (drop x.1 bs) (codes "'")) _ _ (Some (length bs)) _ (λ t h. (
    let count : x.1 + 1 ≡ length bs = cc in
    let last : drop x.1 bs ≡ 39 ∷ [] = one_quote 39 (drop x.1 bs) (omega (arith, length-drop x.1 bs, count)) t in
    let item : List ℕ = take x.1 bs in
    let long : length item ≡ x.1 = length-take-le x.1 bs (omega (arith, count)) in
    let all : bs ≡ item ++ 39 ∷ [] = sym (take-append-drop x.1 bs) ∙ ap (λ (z : List ℕ). item ++ z) last in
    let value : character_of (39 ∷ bs) ≡ x.0 = value_of bs x is in
    let same : Some x ≡ Some (character_of (39 ∷ bs), length item) = pair_is x.0 x.1 (character_of (39 ∷ bs)) (length item) (sym value) (sym long) in
    (item, ap (λ (z : List ℕ). 39 ∷ z) all, ap (item_at 39) (sym all) ∙ is ∙ same))) (λ t h. absurd cc) e

quoted_len : (q : TokenKind) (o : Option ℕ) (k : TokenKind) (n : ℕ) → quoted q o ≡ front.Token k (suc n) → o ≡ Some n
quoted_len q None k n e = absurd cc
quoted_len q (Some m) k n e = let count : m + 1 ≡ suc n = cc in ap (λ (j : ℕ). Some j) (omega (arith, count))

character_form : (bs : List ℕ) → character_len bs ≡ Some (length bs) → IsCharacter (39 ∷ bs) (character_of (39 ∷ bs))
unfolding character_len
character_form bs e = closed_form bs (item_at 39 bs) refl e

pub characters : (text : List ℕ) → front_at true text ≡ front.Token kind.Character (length text) → IsCharacter text (character_of text)
characters [] e = absurd (empty_text kind.Character e)
characters (b ∷ bs) e =
    let n = suc (length bs) in
    by_kind b bs kind.Character (IsCharacter (b ∷ bs) (character_of (b ∷ bs)))
    (λ t h. absurd (no_identifier (b ∷ bs) kind.Character n (λ x. absurd cc) (λ x. absurd cc) h))
    (λ t h. absurd (let q = (number_kind (b ∷ bs) kind.Character n h).0 in absurd cc))
    (λ t same h. subst (λ (c : ℕ). IsCharacter (c ∷ bs) (character_of (c ∷ bs))) (sym same) (character_form bs (quoted_len kind.Character (character_len bs) kind.Character (length bs) h)))
    (λ t same h. absurd (let q = quoted_kind kind.Text (text_len 0 bs) kind.Character n h in absurd cc))
    (λ t h. absurd cc) e

character_long : (item : List ℕ) (value : ℕ) → item_at 39 (item ++ 39 ∷ []) ≡ Some (value, length item) → character_len (item ++ 39 ∷ []) ≡ Some (length (item ++ 39 ∷ []))
unfolding character_len
character_long item value is =
    let last : drop (length item) (item ++ 39 ∷ []) ≡ 39 ∷ [] = drop_at item (39 ∷ []) (length item) refl in
    let quote : starts_with nat_eq (drop (length item) (item ++ 39 ∷ [])) (codes "'") ≡ true = rw last refl in
    let count : length item + 1 ≡ length (item ++ 39 ∷ []) = omega (arith, length-append item (39 ∷ [])) in
    rw (is, quote) (ap (λ (j : ℕ). Some j) count)

quote_front : (bs : List ℕ) → character_len bs ≡ Some (length bs) → front_at true (39 ∷ bs) ≡ front.Token kind.Character (suc (length bs))
unfolding front_at
quote_front bs e = rw e (let count : length bs + 1 ≡ suc (length bs) = omega arith in ap (λ (j : ℕ). front.Token kind.Character j) count)

pub all_characters : (text : List ℕ) (value : ℕ) → IsCharacter text value → (front_at true text ≡ front.Token kind.Character (length text)) × (character_of text ≡ value)
all_characters text value h =
    let bs : List ℕ = h.0 ++ 39 ∷ [] in
    rw h.1 (quote_front bs (character_long h.0 value h.2), value_of bs (value, length h.0) h.2)

-- ---- strings

double_quote_front : (bs : List ℕ) → text_len 0 bs ≡ Some (length bs) → front_at true (34 ∷ bs) ≡ front.Token kind.Text (suc (length bs))
unfolding front_at
double_quote_front bs e = rw e (let count : length bs + 1 ≡ suc (length bs) = omega arith in ap (λ (j : ℕ). front.Token kind.Text j) count)

no_item : (q b : ℕ) (bs : List ℕ) → eqb b q ≡ true → item_at q (b ∷ bs) ≡ None
unfolding item_at
no_item q b bs e = rw e refl

item_behind : (w rest : List ℕ) (value n : ℕ) → item_at 34 (w ++ rest) ≡ Some (value, length w) → text_len 0 rest ≡ Some n → text_len 0 (w ++ rest) ≡ Some (length w + n)
item_behind [] rest value n is e = absurd (let some = item_some 34 rest (value, 0) is in omega arith)
item_behind (b ∷ w) rest value n is e = elim (cases_Bool (eqb b 34)) [
  | inl t ↦ absurd (let none = no_item 34 b (w ++ rest) t in let both = sym none ∙ is in absurd cc)
  | inr t ↦
      let first = item_first b (w ++ rest) (value, suc (length w)) t is in
      let less : suc (length w) - 1 ≡ length w = omega arith in
      let behind : drop (length w) (w ++ rest) ≡ rest = drop_at w rest (length w) refl in
      let passed : text_len (length w) (w ++ rest) ≡ more_by (length w) (Some n) = skipped (length w) (w ++ rest) (omega (arith, length-append w rest))
      ∙ ap (λ (z : List ℕ). more_by (length w) (text_len 0 z)) behind ∙ ap (more_by (length w)) e in
      let count : n + length w + 1 ≡ suc (length w) + n = omega arith in
      first ∙ ap (λ (j : ℕ). more_by 1 (text_len j (w ++ rest))) less ∙ ap (more_by 1) passed ∙ ap (λ (j : ℕ). Some j) count
]

string_long : (items : List (List ℕ)) → AreItems items (34 ∷ []) → text_len 0 (concat items ++ 34 ∷ []) ≡ Some (length (concat items ++ 34 ∷ []))
unfolding text_len
string_long [] h = refl
string_long (w ∷ items) h =
    let rest : List ℕ = concat items ++ 34 ∷ [] in
    let count : length w + length rest ≡ length (w ++ rest) = sym (length-append w rest) in
    rw append_assoc (item_behind w rest h.0.0 (length rest) h.0.1 (string_long items h.1) ∙ ap (λ (j : ℕ). Some j) count)

Parts : List ℕ → Type 0
Parts bs = (items : List (List ℕ)) × (bs ≡ concat items ++ 34 ∷ []) × AreItems items (34 ∷ [])

nothing : (bs : List ℕ) → 0 ≡ length bs → bs ≡ []
nothing [] e = refl
nothing (b ∷ bs) e = absurd (omega (arith, e))

first_part : (b : ℕ) (bs : List ℕ) (x : Spelled) → item_at 34 (b ∷ bs) ≡ Some x → x.1 ≤ suc (length bs) → Parts (drop (x.1 - 1) bs) → Parts (b ∷ bs)
unfolding Parts
first_part b bs x is le h =
    let some = item_some 34 (b ∷ bs) x is in
    let w : List ℕ = take x.1 (b ∷ bs) in
    let long : length w ≡ x.1 = length-take-le x.1 (b ∷ bs) le in
    let count : suc (x.1 - 1) ≡ x.1 = omega (arith, some) in
    let behind : drop x.1 (b ∷ bs) ≡ drop (x.1 - 1) bs = subst (λ (j : ℕ). drop j (b ∷ bs) ≡ drop (x.1 - 1) bs) count refl in
    let all : b ∷ bs ≡ w ++ (concat h.0 ++ 34 ∷ []) = sym (take-append-drop x.1 (b ∷ bs)) ∙ ap (λ (z : List ℕ). w ++ z) (behind ∙ h.1) in
    let same : Some x ≡ Some (x.0, length w) = pair_is x.0 x.1 x.0 (length w) refl (sym long) in
    (w ∷ h.0, all ∙ sym (append_assoc w (concat h.0) (34 ∷ [])), ((x.0, ap (item_at 34) (sym all) ∙ is ∙ same), h.2))

item_parts : (b : ℕ) (bs : List ℕ) (o : Option Spelled) → item_at 34 (b ∷ bs) ≡ o → by_item bs o ≡ Some (suc (length bs))
    → ((rest : List ℕ) → length rest ≤ length bs → text_len 0 rest ≡ Some (length rest) → Parts rest) → Parts (b ∷ bs)
item_parts b bs None is e rec = absurd cc
item_parts b bs (Some x) is e rec =
    let m = more_is 1 (text_len (x.1 - 1) bs) (suc (length bs)) e in
    let count = m.2 in
    let lt = text_long (x.1 - 1) bs m.0 m.1 in
    let rest : List ℕ = drop (x.1 - 1) bs in
    let left = length-drop (x.1 - 1) bs in
    let passed = skipped (x.1 - 1) bs (omega (arith, lt, count)) in
    let j = more_is (x.1 - 1) (text_len 0 rest) m.0 (sym passed ∙ m.1) in
    let sum = j.2 in
    let whole : j.0 ≡ length rest = omega (arith, sum, count, left, lt) in
    first_part b bs x is (omega (arith, lt, count)) (rec rest (omega (arith, left)) (j.1 ∙ ap (λ (i : ℕ). Some i) whole))

string_parts : (k : ℕ) (bs : List ℕ) → length bs ≤ k → text_len 0 bs ≡ Some (length bs) → Parts bs
unfolding text_len Parts
string_parts k [] le e = absurd cc
string_parts zero (b ∷ bs) le e = absurd (omega (arith, le))
string_parts (suc k) (b ∷ bs) le e = chosen (eqb b 34) _ _ (Some (suc (length bs))) _ (λ t h. (
    let one : 1 ≡ suc (length bs) = cc in
    let none : bs ≡ [] = nothing bs (omega (arith, one)) in
    ([], rw (none, eqb-true b 34 t) refl, tt))) (λ t h. item_parts b bs (item_at 34 (b ∷ bs)) refl h (λ rest short is. string_parts k rest (omega (arith, short, le)) is)) e

string_form : (bs : List ℕ) → text_len 0 bs ≡ Some (length bs) → IsString (34 ∷ bs)
unfolding Parts
string_form bs e = let h = string_parts (length bs) bs (omega arith) e in (h.0, ap (λ (z : List ℕ). 34 ∷ z) h.1, h.2)

strings_to : (text : List ℕ) → front_at true text ≡ front.Token kind.Text (length text) → IsString text
strings_to [] e = absurd (empty_text kind.Text e)
strings_to (b ∷ bs) e =
    let n = suc (length bs) in
    by_kind b bs kind.Text (IsString (b ∷ bs))
    (λ t h. absurd (no_identifier (b ∷ bs) kind.Text n (λ x. absurd cc) (λ x. absurd cc) h))
    (λ t h. absurd (let q = (number_kind (b ∷ bs) kind.Text n h).0 in absurd cc))
    (λ t same h. absurd (let q = quoted_kind kind.Character (character_len bs) kind.Text n h in absurd cc))
    (λ t same h. subst (λ (c : ℕ). IsString (c ∷ bs)) (sym same) (string_form bs (quoted_len kind.Text (text_len 0 bs) kind.Text (length bs) h)))
    (λ t h. absurd cc) e

strings_from : (text : List ℕ) → IsString text → front_at true text ≡ front.Token kind.Text (length text)
strings_from text h = rw h.1 (double_quote_front (concat h.0 ++ 34 ∷ []) (string_long h.0 h.2))

pub strings : (text : List ℕ) → (front_at true text ≡ front.Token kind.Text (length text)) ↔ IsString text
strings text = (strings_to text, strings_from text)

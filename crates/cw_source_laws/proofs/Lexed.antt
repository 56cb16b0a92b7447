-- A token that is a name is a C name.
use Rattle.std.proofs.Common.{◌≡◌, ℕ, suc, ◌+◌, ◌-◌, ◌≤◌, Bool, true, false, cond, ◌&&◌, ◌||◌, List, [], ◌∷◌, length, Option, Some, None, refl, sym, ap, ◌∙◌}
use Rattle.std.proofs.Common.{subst, arith, drop, length-drop, length-take}
use Rattle.std.specs.Prelude.{IsTrue, nat_le, nat_eq, unwrap_or}
use Rattle.std.specs.List.{AllByRecursion, list_all, prefix_len, take_while}
use Rattle.std.proofs.lemmas.List.Folds.{length-prefix_len}
use Rattle.std.proofs.lemmas.Bool.{both_ways}
use Rattle.std.specs.Str.{bytes_eq}
use Rattle.cw_rights.specs.Valid.{is_name, is_name_start, is_name_byte}
use Rattle.cw_syntax.specs.Names.{slice}
use Rattle.cw_lex.specs.declared.tokens.TokenKind.{TokenKind}
use Rattle.cw_lex.specs.declared.tokens.TokenKind.TheVariants as kind
use Rattle.cw_lex.specs.declared.tokens.Token.{Token}
use Rattle.cw_lex.specs.declared.front.Front.TheVariants as front
use Rattle.cw_lex.specs.Bytes.{is_letter, is_white}
use Rattle.cw_lex.specs.Bytes.{is_name_byte as is_word_byte}
use Rattle.cw_lex.specs.Characters.{character_len, text_len}
use Rattle.cw_lex.specs.Fronts.{identifier, front_at}
use Rattle.cw_lex.specs.Tokens.{AreTokens}
use Rattle.cw_lex.specs.Listed.{IsTokenOf}
use Rattle.cw_lex.proofs.Each.{each_token}
use Rattle.cw_lex.proofs.Alone.{chosen}
use Rattle.cw_lex.proofs.Tokened.{identifier_length}
use Rattle.cw_lex.proofs.Valued.{by_kind, number_kind, quoted_kind, empty_text}
use Rattle.cw_grammar.specs.declared.terminals.Terminal.{Terminal}
use Rattle.cw_grammar.specs.declared.terminals.Terminal.TheVariants as w
use Rattle.cw_grammar.specs.declared.terminals.Lexeme.{Lexeme}
use Rattle.cw_grammar.specs.Spelling.{Spellings, keywords, long_punctuators, short_punctuators, spelled, punctuator, terminal_of, lexemes_of}
use Rattle.cw_lex.proofs.Each.{slice_long}

-- the terminal of names
abbrev is_name_terminal : Terminal → Bool
is_name_terminal w.Name = true
is_name_terminal _ = false

abbrev none_named : Spellings → Bool
none_named [] = true
none_named (s ∷ ss) = cond (is_name_terminal s.1) false (none_named ss)

abbrev terminal_in : Option Terminal → Bool
terminal_in None = false
terminal_in (Some identifier) = is_name_terminal identifier

spelled_other : (ss : Spellings) → none_named ss ≡ true → (text : List ℕ) → terminal_in (spelled ss text) ≡ false
spelled_other [] h text = refl
spelled_other (s ∷ ss) h text = by (is_name_terminal s.1) refl h (bytes_eq text s.0) (spelled_other ss)
  where
    by : (named : Bool) → is_name_terminal s.1 ≡ named → cond named false (none_named ss) ≡ true → (same : Bool)
        → (none_named ss ≡ true → (rest : List ℕ) → terminal_in (spelled ss rest) ≡ false) → terminal_in (cond same (Some s.1) (spelled ss text)) ≡ false
    by true n e same rest = cc
    by false n e true rest = n
    by false n e false rest = rest e text

or_other : (o : Option Terminal) → terminal_in o ≡ false → is_name_terminal (unwrap_or o w.OtherKeyword) ≡ false
or_other None h = refl
or_other (Some identifier) h = h

two_other : (o p : Option Terminal) → terminal_in o ≡ false → terminal_in p ≡ false → terminal_in (elim o [ Some identifier ↦ Some identifier | None ↦ p ]) ≡ false
two_other None p h k = k
two_other (Some identifier) p h k = h

-- only a name has the terminal of names
terminal_named : (k : TokenKind) (text : List ℕ) → terminal_of k text ≡ w.Name → k ≡ kind.Name
unfolding terminal_of
terminal_named kind.Name text e = refl
terminal_named kind.Keyword text e = let z : true ≡ false = sym (ap is_name_terminal e) ∙ or_other (spelled keywords text)
    (spelled_other keywords refl text) in absurd (cc)
terminal_named kind.Number text e = absurd (cc)
terminal_named kind.Character text e = absurd (cc)
terminal_named kind.Text text e = absurd (cc)
terminal_named kind.Punctuation text e =
    let long = spelled_other long_punctuators refl text in
    let short = spelled_other short_punctuators refl text in
    let z : true ≡ false = sym (ap is_name_terminal e) ∙ or_other (punctuator text)
    (two_other (spelled long_punctuators text) (spelled short_punctuators text) long short) in
    absurd (cc)

swapped : (x y z : Bool) → (x || y || z) ≡ true → (y || x || z) ≡ true
swapped true true z h = refl
swapped true false z h = refl
swapped false true z h = refl
swapped false false z h = h

letter_starts : (b : ℕ) → is_letter b ≡ true → is_name_start b ≡ true
letter_starts b h = swapped (nat_le 97 b && nat_le b 122) (nat_le 65 b && nat_le b 90) (nat_eq b 95) h

byte_passes : (b : ℕ) → is_word_byte b ≡ true → is_name_byte b ≡ true
byte_passes b h = by (nat_le 97 b && nat_le b 122) (nat_le 65 b && nat_le b 90) (nat_eq b 95) (nat_le 48 b && nat_le b 57) h
  where
    by : (x y z d : Bool) → ((x || y || z) || d) ≡ true → ((y || x || z) || d) ≡ true
    by true true z d h = refl
    by true false z d h = refl
    by false true z d h = refl
    by false false z d h = h

-- a run that is as long as the bytes passes whole
all_run : (bs : List ℕ) → length bs ≤ prefix_len is_word_byte bs → list_all is_name_byte bs ≡ true
all_run [] h = refl
all_run (b ∷ bs) h = by (is_word_byte b) refl (λ le. all_run bs le) h
  where
    by : (t : Bool) → is_word_byte b ≡ t → (length bs ≤ prefix_len is_word_byte bs → list_all is_name_byte bs ≡ true) → suc (length bs) ≤ cond t (1 + prefix_len is_word_byte bs) 0 → list_all is_name_byte (b ∷ bs) ≡ true
    by true e rest le = rw (byte_passes b e) (rest (omega (arith, le)))
    by false e rest le = absurd (omega (arith, le))

run_long : (b : ℕ) (bs : List ℕ) → is_letter b ≡ true → front_at true (b ∷ bs) ≡ front.Token kind.Name (suc (length bs)) → length (take_while is_word_byte (b ∷ bs)) ≡ suc (length bs)
unfolding front_at
run_long b bs l e =
    let v = front.Token kind.Name (suc (length bs)) in
    chosen (is_white b) _ _ v _ (λ t h. absurd cc) (λ t1 h1.
    chosen (is_letter b) _ _ v _ (λ t h. identifier_length (take_while is_word_byte (b ∷ bs)) kind.Name (suc (length bs)) h) (λ t h. absurd (both_ways (is_letter b) t l)) h1) e

letter_named : (b : ℕ) (bs : List ℕ) → is_letter b ≡ true → front_at true (b ∷ bs) ≡ front.Token kind.Name (suc (length bs)) → is_name (b ∷ bs) ≡ true
letter_named b bs l e =
    let long = run_long b bs l e in
    let whole = all_run (b ∷ bs) (omega (arith, long, length-prefix_len is_word_byte (b ∷ bs))) in
    both (is_name_start b) (list_all is_name_byte bs) (is_name_byte b) (letter_starts b l) whole
  where
    both : (s a n : Bool) → s ≡ true → (n && a) ≡ true → (s && a) ≡ true
    both true a true f g = g
    both true a false f g = absurd (cc)
    both false a n f g = absurd (cc)

name_named : (text : List ℕ) → front_at true text ≡ front.Token kind.Name (length text) → IsTrue (is_name text)
name_named [] e = absurd (empty_text kind.Name e)
name_named (b ∷ bs) e =
    let n = suc (length bs) in
    by_kind b bs kind.Name (is_name (b ∷ bs) ≡ true)
    (λ t h. letter_named b bs t e)
    (λ t h. absurd (let q = (number_kind (b ∷ bs) kind.Name n h).0 in absurd cc))
    (λ t same h. absurd (let q = quoted_kind kind.Character (character_len bs) kind.Name n h in absurd cc))
    (λ t same h. absurd (let q = quoted_kind kind.Text (text_len 0 bs) kind.Name n h in absurd cc))
    (λ t h. absurd cc) e

-- each of these that is a name is a C name
abbrev pub EachNamed : List ℕ → List Lexeme → Type 0
EachNamed source [] = Unit {0}
EachNamed source (t ∷ ts) = (t.terminal ≡ w.Name → IsTrue (is_name (slice source t.from t.to))) × EachNamed source ts

token_named : (source : List ℕ) (t : Token) → IsTokenOf source t → t.kind ≡ kind.Name → IsTrue (is_name (slice source t.from t.to))
token_named source t h is =
    let alone = subst (λ (n : ℕ). front_at true (slice source t.from t.to) ≡ front.Token t.kind n) (sym (slice_long source t h)) h.alone in
    name_named (slice source t.from t.to) (subst (λ k. front_at true (slice source t.from t.to) ≡ front.Token k
    (length (slice source t.from t.to))) is alone)

each_named : (source : List ℕ) (ts : List Token) → AllByRecursion (IsTokenOf source) ts → EachNamed source (lexemes_of source ts)
each_named source [] h = tt
each_named source (t ∷ ts) h = ((λ e. token_named source t h.0 (terminal_named t.kind (slice source t.from t.to) e)), each_named source ts h.1)

pub tokens_named : (source : List ℕ) (ts : List Token) → AreTokens source ts → EachNamed source (lexemes_of source ts)
tokens_named source ts h = each_named source ts (each_token source ts h)

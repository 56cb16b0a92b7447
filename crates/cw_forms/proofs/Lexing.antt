-- The tokens of a form are those of the source, with those that are brought in between.
use Rattle.std.proofs.Common.{◌≡◌, ℕ, zero, suc, ◌+◌, ◌-◌, ◌<◌, ◌≤◌, Bool, true, false, cond, eqb, not, ◌||◌, List, [], ◌∷◌, ◌++◌, map, length, drop, take, Option, Some, None, refl, sym, le_refl}
use Rattle.std.proofs.Common.{ap, subst, ◌∙◌, arith, inl, inr, length-drop, drop-drop}
use Rattle.std.specs.Prelude.{codes}
use Rattle.std.specs.List.{list_all}
use Rattle.std.specs.Option.{unwrap_or}
use Rattle.std.specs.Str.{bytes_eq}
use Rattle.std.proofs.lemmas.Bool.{and_parts}
use Rattle.std.proofs.lemmas.Slice.Eq.{bytes_eq-Decides}
use Rattle.std.proofs.lemmas.List.{append-nil, append_assoc, length-take-le, map-append, take-append-le, take_all}
use Rattle.std.proofs.Math.Seq.{take-append-add, drop-append_seam}
use Rattle.cw_syntax.specs.Names.{slice}
use Rattle.cw_lex.specs.declared.tokens.TokenKind.{TokenKind}
use Rattle.cw_lex.specs.declared.tokens.TokenKind.TheVariants as kind
use Rattle.cw_lex.specs.declared.tokens.Token.{Token}
use Rattle.cw_lex.specs.declared.front.Front.{Front}
use Rattle.cw_lex.specs.declared.front.Front.TheVariants as lexed
use Rattle.cw_lex.specs.Keywords.{is_keyword}
use Rattle.cw_lex.specs.Numbers.{is_number, number_of, digits_of, suffix_of}
use Rattle.cw_lex.specs.Punctuators.{punctuator_len}
use Rattle.cw_lex.specs.Fronts.{front_at}
use Rattle.cw_lex.specs.Tokens.{Stand, tokens_of}
use Rattle.cw_grammar.specs.declared.terminals.Terminal.{Terminal}
use Rattle.cw_grammar.specs.declared.terminals.Terminal.TheVariants as w
use Rattle.cw_grammar.specs.declared.terminals.Lexeme.{Lexeme}
use Rattle.cw_grammar.specs.Lexemes.{Is}
use Rattle.cw_grammar.specs.Spelling.{Spellings, keywords, long_punctuators, short_punctuators, spelled, terminal_of, lexeme_of, lexemes_of}
use Rattle.cw_forms.specs.Moved.{moved, IsKept, AreKept}
use Rattle.cw_forms.specs.Stretches.{Stretch, Keeps, Calls, call_tokens, lefts, opening, closed, rights, AreEnded, AreSame}
use Rattle.cw_detach.specs.Form.{before, behind}
use Rattle.cw_forms.specs.Spans.{spans_of, with_texts}
use Rattle.cw_forms.proofs.Ahead.{any_line, no_feed}
use Rattle.cw_forms.proofs.Standing.{total, stand_both, tokens_both, stand_ahead, reach, drop_on, slice_take, read_at, tokens_read, tokens_same, same_lexeme}
use Rattle.cw_detach.proofs.Kept.{slice_behind}

-- ---- a `;`

abbrev is_semicolon : Terminal → Bool
is_semicolon w.Semicolon = true
is_semicolon _ = false

-- only `;` spells it
abbrev is_plain : List ℕ × Terminal → Bool
is_plain s = not (is_semicolon s.1) || bytes_eq s.0 (codes ";")

only_semicolon : (ss : Spellings) (text : List ℕ) → list_all is_plain ss ≡ true → spelled ss text ≡ Some w.Semicolon → text ≡ codes ";"
only_semicolon [] text h e = absurd cc
only_semicolon (s ∷ ss) text h e =
    let parts = and_parts (is_plain s) (list_all is_plain ss) h in
    by parts.0 (only_semicolon ss text parts.1) (bytes_eq text s.0) refl e
  where
    plain : (t : Bool) (x : Terminal) → (not (is_semicolon x) || t) ≡ true → x ≡ w.Semicolon → t ≡ true
    plain t x p q = rw q at p

    by : is_plain s ≡ true → (spelled ss text ≡ Some w.Semicolon → text ≡ codes ";") → (t : Bool) → bytes_eq text s.0 ≡ t → cond t (Some s.1) (spelled ss text) ≡ Some w.Semicolon → text ≡ codes ";"
    by first rec true is g =
        let terminal : s.1 ≡ w.Semicolon = cc in
        let same : text ≡ s.0 = (bytes_eq-Decides text s.0).0 is in
        same ∙ (bytes_eq-Decides s.0 (codes ";")).0 (plain (bytes_eq s.0 (codes ";")) s.1 first terminal)
    by first rec false is g = rec g

no_semicolon : (ss : Spellings) (text : List ℕ) → list_all (λ s. not (is_semicolon s.1)) ss ≡ true → spelled ss text ≡ Some w.Semicolon → ⊥
no_semicolon [] text h e = cc
no_semicolon (s ∷ ss) text h e =
    let parts = and_parts (not (is_semicolon s.1)) (list_all (λ s. not (is_semicolon s.1)) ss) h in
    by parts.0 (no_semicolon ss text parts.1) (bytes_eq text s.0) e
  where
    other : (x : Terminal) → not (is_semicolon x) ≡ true → x ≡ w.Semicolon → ⊥
    other x p q = let z : false ≡ true = rw q at p in cc

    by : not (is_semicolon s.1) ≡ true → (spelled ss text ≡ Some w.Semicolon → ⊥) → (t : Bool) → cond t (Some s.1) (spelled ss text) ≡ Some w.Semicolon → ⊥
    by first rec true g = other s.1 first (cc)
    by first rec false g = rec g

keyword_none : (o : Option Terminal) → unwrap_or o w.OtherKeyword ≡ w.Semicolon → o ≡ Some w.Semicolon
keyword_none None e = absurd cc
keyword_none (Some x) e = ap (λ (z : Terminal). Some z) e

by_length : (text : List ℕ) (o : Option Terminal) → o ≡ spelled long_punctuators text
    → unwrap_or (elim o as (λ x. Option Terminal) [ Some terminal ↦ Some terminal | None ↦ spelled short_punctuators text ]) w.OtherKeyword ≡ w.Semicolon → text ≡ codes ";"
by_length text None is e = only_semicolon short_punctuators text refl (keyword_none (spelled short_punctuators text) e)
by_length text (Some x) is e = absurd (no_semicolon long_punctuators text refl (sym is ∙ keyword_none (Some x) e))

semicolon_is : (k : TokenKind) (text : List ℕ) → terminal_of k text ≡ w.Semicolon → (k ≡ kind.Punctuation) × (text ≡ codes ";")
unfolding terminal_of
semicolon_is kind.Name text e = absurd cc
semicolon_is kind.Keyword text e = absurd (no_semicolon keywords text refl (keyword_none (spelled keywords text) e))
semicolon_is kind.Number text e = absurd cc
semicolon_is kind.Character text e = absurd cc
semicolon_is kind.Text text e = absurd cc
semicolon_is kind.Punctuation text e = (refl, by_length text (spelled long_punctuators text) refl e)

-- the front at a `;`
pub semicolon_here : (f : Bool) (bs : List ℕ) → front_at f (59 ∷ bs) ≡ lexed.Token kind.Punctuation 1
unfolding front_at punctuator_len
semicolon_here f bs = refl

first_byte : (n : ℕ) (l : List ℕ) (x : ℕ) → take n l ≡ x ∷ [] → l ≡ x ∷ drop 1 l
first_byte zero l x e = absurd cc
first_byte (suc n) [] x e = absurd cc
first_byte (suc n) (b ∷ l) x e = let same : b ≡ x = cc in ap (λ (z : ℕ). z ∷ l) same

semicolon_stands : (f : Bool) (l : List ℕ) (n : ℕ) → take n l ≡ codes ";" → front_at f l ≡ lexed.Token kind.Punctuation n → (l ≡ 59 ∷ drop 1 l) × (n ≡ 1)
semicolon_stands f l n text is =
    let whole = first_byte n l 59 text in
    let there : lexed.Token kind.Punctuation n ≡ lexed.Token kind.Punctuation 1 = sym is ∙ ap (front_at f) whole ∙ semicolon_here f (drop 1 l) in
    (whole, (cc))

-- ---- what is brought in

pub opening_fronts : List Front
opening_fronts =
    lexed.Token kind.Punctuation 1 ∷ lexed.Token kind.Keyword 2 ∷ lexed.Token kind.Punctuation 1 ∷ lexed.Token kind.Punctuation 1 ∷ lexed.Token kind.Name 4
    ∷ lexed.Token kind.Punctuation 1 ∷ lexed.Token kind.Punctuation 1 ∷ lexed.Token kind.Punctuation 1 ∷ lexed.Token kind.Punctuation 1 ∷ []

pub closed_fronts : List Front
closed_fronts =
    lexed.Token kind.Name 5 ∷ lexed.Token kind.Punctuation 1 ∷ lexed.Token kind.Number 1 ∷ lexed.Token kind.Punctuation 1 ∷ lexed.Token kind.Punctuation 1
    ∷ lexed.Token kind.Keyword 3 ∷ lexed.Token kind.Punctuation 1 ∷ lexed.Token kind.Punctuation 1 ∷ lexed.Token kind.Punctuation 1 ∷ lexed.Token kind.Punctuation 1
    ∷ lexed.Token kind.Punctuation 1 ∷ lexed.Token kind.Punctuation 1 ∷ lexed.Token kind.Punctuation 1 ∷ []

opening_stand : (f : Bool) (bs : List ℕ) → Stand f (before ++ bs) opening_fronts false bs
unfolding opening_fronts before front_at punctuator_len is_keyword
opening_stand f bs = (
  refl,
  omega arith,
  (
    refl,
    omega arith,
    (
      refl,
      omega arith,
      (
        refl,
        omega arith,
        (
          refl,
          omega arith,
          (
            refl,
            omega arith,
            (
              refl,
              omega arith,
              (
                refl,
                omega arith,
                (refl, omega arith, (refl, refl)),
              ),
            ),
          ),
        ),
      ),
    ),
  ),
)

closed_stand : (f : Bool) (bs : List ℕ) → Stand f (behind ++ bs) closed_fronts false bs
unfolding closed_fronts behind front_at punctuator_len is_keyword is_number number_of digits_of suffix_of
closed_stand f bs = (
  refl,
  omega arith,
  (
    refl,
    omega arith,
    (
      refl,
      omega arith,
      (
        refl,
        omega arith,
        (
          refl,
          omega arith,
          (
            refl,
            omega arith,
            (
              refl,
              omega arith,
              (
                refl,
                omega arith,
                (refl, omega arith, (refl, omega arith, (refl, omega arith, (refl, omega arith, (refl, omega arith, (refl, refl)))))),
              ),
            ),
          ),
        ),
      ),
    ),
  ),
)

opening_read : (p : ℕ) (bs : List ℕ) → read_at p opening_fronts (before ++ bs) ≡ opening p
unfolding opening_fronts before terminal_of
opening_read p bs = refl

closed_read : (p : ℕ) (bs : List ℕ) → read_at p closed_fronts (behind ++ bs) ≡ closed p
unfolding closed_fronts behind terminal_of number_of digits_of
closed_read p bs = refl

opening_long : total opening_fronts ≡ 13
unfolding opening_fronts
opening_long = refl

closed_long : total closed_fronts ≡ 19
unfolding closed_fronts
closed_long = refl

opening_name : (form : List ℕ) (p : ℕ) (bs : List ℕ) → drop p form ≡ before ++ bs → slice form (p + 1 + 2 + 1 + 1) (p + 1 + 2 + 1 + 1 + 4) ≡ codes "fork"
unfolding before
opening_name form p bs e =
    let a = drop_on form p 1 _ e in
    let b = drop_on form (p + 1) 2 _ a in
    let c = drop_on form (p + 1 + 2) 1 _ b in
    let d = drop_on form (p + 1 + 2 + 1) 1 _ c in
    slice_take form (p + 1 + 2 + 1 + 1) 4 ∙ ap (take 4) d

closed_name : (form : List ℕ) (p : ℕ) (bs : List ℕ) → drop p form ≡ behind ++ bs → slice form p (p + 5) ≡ codes "_exit"
unfolding behind
closed_name form p bs e = slice_take form p 5 ∙ ap (take 5) e

-- ---- one part behind another

pub record Lexed (form : List ℕ) (p : ℕ) (f : Bool) (bs : List ℕ) (us : List Lexeme) (q : ℕ) (g : Bool) (rest : List ℕ) : Type 0 where
  pub fronts : List Front
  pub stand : Stand f bs fronts g rest
  pub terminals : lexemes_of form (tokens_of p fronts) ≡ us
  pub place : p + total fronts ≡ q

total_both : (ps qs : List Front) → total (ps ++ qs) ≡ total ps + total qs
total_both [] qs = omega arith
total_both (p ∷ ps) qs = let rest = total_both ps qs in omega arith

module _ (form : List ℕ) where
  join : (p : ℕ) (f : Bool) (bs : List ℕ) (us : List Lexeme) (q : ℕ) (g : Bool) (rest : List ℕ) (vs : List Lexeme) (r : ℕ) (h : Bool) (end : List ℕ)
      → Lexed form p f bs us q g rest → Lexed form q g rest vs r h end → Lexed form p f bs (us ++ vs) r h end
  join p f bs us q g rest vs r h end a b = record {
    fronts = a.fronts ++ b.fronts;
    stand = stand_both a.fronts b.fronts f g h bs rest end a.stand b.stand;
    terminals = ap (lexemes_of form) (tokens_both p a.fronts b.fronts) ∙ map-append (lexeme_of form) (tokens_of p a.fronts) (tokens_of (p + total a.fronts) b.fronts)
        ∙ ap (λ (z : List Lexeme). z ++ lexemes_of form (tokens_of (p + total a.fronts) b.fronts)) a.terminals
        ∙ ap (λ (k : ℕ). us ++ lexemes_of form (tokens_of k b.fronts)) a.place
        ∙ ap (λ (z : List Lexeme). us ++ z) b.terminals;
    place = (let x = a.place in let y = b.place in omega (arith, x, y, total_both a.fronts b.fronts));
  }

  at_place : (p p' : ℕ) (f : Bool) (bs : List ℕ) (us : List Lexeme) (q q' : ℕ) (g : Bool) (rest : List ℕ) → p ≡ p' → q ≡ q' → Lexed form p f bs us q g rest → Lexed form p' f bs us q' g rest
  at_place p p' f bs us q q' g rest e h l = rw (← e, ← h) l

  opens_at : (p : ℕ) (f : Bool) (bs : List ℕ) → drop p form ≡ before ++ bs → Lexed form p f (before ++ bs) (opening p) (p + 13) false bs
  opens_at p f bs e = record {
    fronts = opening_fronts;
    stand = opening_stand f bs;
    terminals = tokens_read form opening_fronts p (before ++ bs) e ∙ opening_read p bs;
    place = ap (λ (k : ℕ). p + k) opening_long;
  }

  closes_at : (p : ℕ) (f : Bool) (bs : List ℕ) → drop p form ≡ behind ++ bs → Lexed form p f (behind ++ bs) (closed p) (p + 19) false bs
  closes_at p f bs e = record {
    fronts = closed_fronts;
    stand = closed_stand f bs;
    terminals = tokens_read form closed_fronts p (behind ++ bs) e ∙ closed_read p bs;
    place = ap (λ (k : ℕ). p + k) closed_long;
  }

-- tokens whose terminals are some, and others behind them
terminals_both : (source : List ℕ) (ts : List Token) (a b : List Lexeme) → lexemes_of source ts ≡ a ++ b
    → (x : List Token) × (y : List Token) × (ts ≡ x ++ y) × (lexemes_of source x ≡ a) × (lexemes_of source y ≡ b)
terminals_both source ts [] b e = ([], ts, refl, refl, e)
terminals_both source [] (t ∷ a) b e = absurd cc
terminals_both source (u ∷ ts) (t ∷ a) b e =
    let same : lexeme_of source u ≡ t = cc in
    let h = terminals_both source ts a b (cc) in
    (u ∷ h.0, h.1, ap (λ (z : List Token). u ∷ z) h.2, ap (λ (z : Lexeme). z ∷ lexemes_of source h.0) same ∙ ap (λ (z : List Lexeme). t ∷ z) h.3, h.4)

terminals_first : (source : List ℕ) (ts : List Token) (t : Lexeme) (b : List Lexeme) → lexemes_of source ts ≡ t ∷ b
    → (u : Token) × (y : List Token) × (ts ≡ u ∷ y) × (lexeme_of source u ≡ t) × (lexemes_of source y ≡ b)
terminals_first source [] t b e = absurd cc
terminals_first source (u ∷ ts) t b e = (u, ts, refl, (cc), (cc))

some_bytes : (f : Bool) (l : List ℕ) (k : TokenKind) (n : ℕ) → front_at f l ≡ lexed.Token k n → (a : ℕ) × (r : List ℕ) × (l ≡ a ∷ r)
unfolding front_at
some_bytes f [] k n e = absurd cc
some_bytes f (a ∷ r) k n e = (a, r, refl)

slice_long : (source : List ℕ) (a b : ℕ) → b ≤ length source → length (slice source a b) ≡ b - a
slice_long source a b le = length-take-le (b - a) (drop a source) (omega (arith, length-drop a source))

in_text : (source : List ℕ) (at a : ℕ) (r : List ℕ) → drop at source ≡ a ∷ r → at < length source
in_text source at a r e = let n : length (drop at source) ≡ suc (length r) = ap length e in omega (arith, n, length-drop at source)

module _ (source form : List ℕ) where
  kept_ends : (d : ℕ) (xs : List Lexeme) (c : Lexeme) → AreKept source form d xs → IsKept source form d c → AreKept source form d (xs ++ c ∷ [])
  kept_ends d [] c h k = (k, tt)
  kept_ends d (x ∷ xs) c h k = (h.0, kept_ends d xs c h.1 k)

  kept_first : (d : ℕ) (xs : List Lexeme) (c : Lexeme) → AreKept source form d (xs ++ c ∷ []) → AreKept source form d xs × IsKept source form d c
  kept_first d [] c h = (tt, h.0)
  kept_first d (x ∷ xs) c h = let rest = kept_first d xs c h.1 in ((h.0, rest.0), rest.1)

  -- fronts over bytes that both texts have, before others
  same_part : (ps : List Front) (f g : Bool) (at d to : ℕ) (ts : List Lexeme) (y z : List ℕ) → at ≤ to → to ≤ length source → at + total ps ≡ to
      → drop (at + d) form ≡ slice source at to ++ z → Stand f (slice source at to ++ z) ps g z → lexemes_of source (tokens_of at ps) ≡ ts
      → Lexed form (at + d) f (slice source at to ++ z) (map (moved d) ts) (to + d) g z × AreKept source form d ts
  same_part ps f g at d to ts y z le in_source place there stand terminals =
      let m = to - at in
      let long : length (slice source at to) ≡ m = slice_long source at to in_source in
      let here : take m (drop (at + d) form) ≡ slice source at to =
      ap (take m) there ∙ take-append-le m (slice source at to) z (omega arith)
      ∙ ap (λ (k : ℕ). take k (slice source at to)) (sym long) ∙ take_all (length (slice source at to)) (slice source at to) (le_refl (length (slice source at to))) in
      let same = tokens_same source form d ps (at + d) at m refl here (omega arith) in (
        record {
          fronts = ps;
          stand = stand;
          terminals = same.0 ∙ ap (map (moved d)) terminals;
          place = omega arith;
        },
        subst (λ (l : List Lexeme). AreKept source form d l) terminals same.1,
      )

  abbrev Result : List Stretch → List Lexeme → ℕ → ℕ → Bool → Type 0
  Result P xs at d f =
      (end : ℕ) × (h : Bool) × Lexed form (at + d) f (with_texts source at (spans_of P)) (map (moved d) xs ++ rights d P) end h [] × AreKept source form d xs × AreSame source form d P

  -- ---- places and bytes

  semi_slice : (a k e : ℕ) (z : List ℕ) → a ≤ k → e ≡ k + 1 → k < length source → drop k source ≡ 59 ∷ drop e source → slice source a e ++ z ≡ slice source a k ++ 59 ∷ z
  semi_slice a k e z le next in_source here =
      let m = slice source a k in
      let long : length m ≡ k - a = slice_long source a k (omega arith) in
      let whole : drop a source ≡ m ++ 59 ∷ drop e source = sym (slice_behind source a k le) ∙ ap (λ (l : List ℕ). m ++ l) here in
      let count : e - a ≡ length m + 1 = omega arith in
      let cut : slice source a e ≡ m ++ 59 ∷ [] = ap (λ (n : ℕ). take n (drop a source)) count ∙ ap (take (length m + 1)) whole ∙ take-append-add m (59 ∷ drop e source) 1 in
      ap (λ (l : List ℕ). l ++ z) cut ∙ append_assoc m (59 ∷ []) z

  on_by : (at d to : ℕ) (w z : List ℕ) → at ≤ to → length w ≡ to - at → drop (at + d) form ≡ w ++ z → drop (to + d) form ≡ z
  on_by at d to w z le long e =
      let same : at + d + length w ≡ to + d = omega arith in
      ap (λ (k : ℕ). drop k form) (sym same) ∙ drop_on form (at + d) (length w) (w ++ z) e ∙ drop-append_seam w z

  opening_on : (p d : ℕ) (z : List ℕ) → drop (p + d) form ≡ before ++ z → drop (p + (d + 13)) form ≡ z
  unfolding before
  opening_on p d z e = let same : p + d + 13 ≡ p + (d + 13) = omega arith in ap (λ (k : ℕ). drop k form) (sym same) ∙ drop_on form (p + d) 13 _ e

  closed_on : (p d : ℕ) (z : List ℕ) → drop (p + (d + 13)) form ≡ behind ++ z → drop (p + (d + 32)) form ≡ z
  unfolding behind
  closed_on p d z e = let same : p + (d + 13) + 19 ≡ p + (d + 32) = omega arith in ap (λ (k : ℕ). drop k form) (sym same) ∙ drop_on form (p + (d + 13)) 19 _ e

  brace_ahead : (ps : List Front) (f g : Bool) (w : List ℕ) (a : ℕ) (r z : List ℕ) → eqb a 10 ≡ false → total ps ≡ length w → Stand f (w ++ a ∷ r) ps g (a ∷ r)
      → Stand f (w ++ (before ++ z)) ps g (before ++ z)
  unfolding before
  brace_ahead ps f g w a r z feed long h = stand_ahead ps f g w a 123 r (codes "if(!fork()){" ++ z) (inr (refl, feed)) long h

  first_token : (t : Token) (n : ℕ) (ps : List Front) (ys : List Lexeme) → t.to ≡ t.from + n → lexemes_of source (tokens_of t.to ps) ≡ ys
      → lexemes_of source (tokens_of t.from (lexed.Token t.kind n ∷ ps)) ≡ lexeme_of source t ∷ ys
  first_token t n ps ys end e =
      ap (λ (k : ℕ). lexeme_of source (record { kind = t.kind; from = t.from; to = k }) ∷ lexemes_of source (tokens_of k ps)) (sym end) ∙ ap (λ (z : List Lexeme). lexeme_of source t ∷ z) e

  semi_kept : (k e d : ℕ) (y z : List ℕ) → e ≡ k + 1 → drop (k + d) form ≡ 59 ∷ z → drop k source ≡ 59 ∷ y → slice form (k + d) (e + d) ≡ slice source k e
  semi_kept k e d y z next there here =
      let same : e + d ≡ k + d + 1 = omega arith in
      let text : slice form (k + d) (k + d + 1) ≡ 59 ∷ [] = slice_take form (k + d) 1 ∙ ap (take 1) there in
      let own : slice source k (k + 1) ≡ 59 ∷ [] = slice_take source k 1 ∙ ap (take 1) here in
      ap (λ (j : ℕ). slice form (k + d) j) same ∙ text ∙ sym own ∙ ap (λ (j : ℕ). slice source k j) (sym next)

  semi_terminals : (t : Token) (d : ℕ) (z : List ℕ) → t.to ≡ t.from + 1 → terminal_of t.kind (slice source t.from t.to) ≡ w.Semicolon → drop (t.from + d) form ≡ 59 ∷ z
      → lexemes_of form (tokens_of (t.from + d) (lexed.Token kind.Punctuation 1 ∷ [])) ≡ moved d (lexeme_of source t) ∷ []
  unfolding terminal_of
  semi_terminals t d z next ends there =
      let text : slice form (t.from + d) (t.from + d + 1) ≡ 59 ∷ [] = slice_take form (t.from + d) 1 ∙ ap (take 1) there in
      let same : t.from + d + 1 ≡ t.to + d = omega arith in
      let terminal : terminal_of kind.Punctuation (slice form (t.from + d) (t.from + d + 1)) ≡ terminal_of t.kind (slice source t.from t.to) = ap (terminal_of kind.Punctuation) text ∙ sym ends in
      ap (λ (l : Lexeme). l ∷ []) (same_lexeme _ _ (t.from + d) (t.from + d) _ _ terminal refl same)

  terminals_as : (m : Lexeme → Lexeme) (t c : Lexeme) (ys zs : List Lexeme) → map m (t ∷ ys) ++ (m c ∷ zs) ≡ map m (call_tokens t ys c) ++ zs
  terminals_as m t c ys zs = ap (λ (l : List Lexeme). m t ∷ l) (sym (append_assoc (map m ys) (m c ∷ []) zs) ∙ ap (λ (l : List Lexeme). l ++ zs) (sym (map-append m ys (c ∷ []))))

  -- ---- a call, and what is behind it

  abbrev Rest : List Stretch → ℕ → ℕ → Bool → Type 0
  Rest P to d g = (qs : List Front) → Stand false (drop to source) qs g [] → lexemes_of source (tokens_of to qs) ≡ lefts P → drop (to + (d + 32)) form ≡ with_texts source to (spans_of P)
      → Result P [] to (d + 32) false

  called_at : (P : List Stretch) (xs ys : List Lexeme) (first inner last : List Token) (t c : Token) (at d : ℕ) (f g : Bool) (ps : List Front) → Stand f (drop at source) ps g []
      → tokens_of at ps ≡ first ++ t ∷ (inner ++ c ∷ last) → lexemes_of source first ≡ xs → lexemes_of source inner ≡ ys → lexemes_of source last ≡ lefts P
      → Is w.Semicolon (lexeme_of source c) → drop (at + d) form ≡ with_texts source at ((t.from, c.to) ∷ spans_of P) → Rest P c.to d g
      → Result (Calls (lexeme_of source t) ys (lexeme_of source c) ∷ P) xs at d f
  unfolding with_texts
  called_at P xs ys first inner last t c at d f g ps stand terminals first_is inner_is last_is ends text rec =
      let r = reach source ps f g at first t (inner ++ c ∷ last) stand terminals in
      let on : drop r.long (drop t.from source) ≡ drop t.to source = drop-drop r.long t.from source ∙ ap (λ (k : ℕ). drop k source) (sym r.end) in
      let r2 = reach source r.back false g t.to inner c last (subst (λ (z : List ℕ). Stand false z r.back g []) on r.here.2) r.behind in
      let t_bytes = some_bytes r.fresh (drop t.from source) t.kind r.long r.here.0 in
      let c_bytes = some_bytes r2.fresh (drop c.from source) c.kind r2.long r2.here.0 in
      let t_in : t.from < length source = in_text source t.from t_bytes.0 t_bytes.1 t_bytes.2 in
      let c_in : c.from < length source = in_text source c.from c_bytes.0 c_bytes.1 c_bytes.2 in
      let semi = semicolon_is c.kind (slice source c.from c.to) ends in
      let c_text : take r2.long (drop c.from source) ≡ codes ";" =
      sym (slice_take source c.from r2.long) ∙ ap (λ (k : ℕ). slice source c.from k) (sym r2.end) ∙ semi.1 in
      let c_here = semicolon_stands r2.fresh (drop c.from source) r2.long c_text (subst (λ (k : TokenKind). front_at r2.fresh (drop c.from source) ≡ lexed.Token k r2.long) semi.0 r2.here.0) in
      let c_end : c.to ≡ c.from + 1 = r2.end ∙ ap (λ (k : ℕ). c.from + k) c_here.1 in
      let at_semi : drop c.from source ≡ 59 ∷ drop c.to source =
      c_here.0 ∙ ap (λ (z : List ℕ). 59 ∷ z) (drop-drop 1 c.from source ∙ ap (λ (k : ℕ). drop k source) (sym c_end)) in
      let place1 = r.place in
      let place2 = r2.place in
      let t_end = r.end in
      let at_t : at ≤ t.from = omega (arith, place1) in
      let t_c : t.from ≤ c.from = omega (arith, place2, t_end) in
      let long1 = slice_long source at t.from (omega (arith, t_in)) in
      let long2 = slice_long source t.from c.from (omega (arith, c_in)) in
      -- the text from here on
      let F = with_texts source c.to (spans_of P) in
      let X4 = behind ++ F in
      let m0 = slice source t.from c.from in
      let X3 = m0 ++ 59 ∷ X4 in
      let X2 = before ++ X3 in
      let text_is : with_texts source at ((t.from, c.to) ∷ spans_of P) ≡ slice source at t.from ++ X2 =
      ap (λ (z : List ℕ). slice source at t.from ++ (before ++ z)) (semi_slice t.from c.from c.to X4 t_c c_end c_in at_semi) in
      let there : drop (at + d) form ≡ slice source at t.from ++ X2 = text ∙ text_is in
      let there2 : drop (t.from + d) form ≡ X2 = on_by at d t.from (slice source at t.from) X2 at_t long1 there in
      let there3 : drop (t.from + (d + 13)) form ≡ X3 = opening_on t.from d X3 there2 in
      let there4 : drop (c.from + (d + 13)) form ≡ 59 ∷ X4 = on_by t.from (d + 13) c.from m0 (59 ∷ X4) t_c long2 there3 in
      let next : c.from + (d + 13) + 1 ≡ c.to + (d + 13) = omega (arith, c_end) in
      let there5 : drop (c.to + (d + 13)) form ≡ X4 = ap (λ (k : ℕ). drop k form) (sym next) ∙ drop_on form (c.from + (d + 13)) 1 (59 ∷ X4) there4 in
      let there6 : drop (c.to + (d + 32)) form ≡ F = closed_on c.to d F there5 in
      -- the parts
      let feed : eqb t_bytes.0 10 ≡ false = no_feed r.fresh t_bytes.0 t_bytes.1 t.kind r.long (subst (λ (z : List ℕ). front_at r.fresh z ≡ lexed.Token t.kind r.long) t_bytes.2 r.here.0) in
      let stand1 : Stand f (slice source at t.from ++ X2) r.front r.fresh X2 =
      brace_ahead r.front f r.fresh (slice source at t.from) t_bytes.0 t_bytes.1 X3 feed (omega (arith, place1, long1))
      (subst (λ (z : List ℕ). Stand f (slice source at t.from ++ z) r.front r.fresh z) t_bytes.2 (subst (λ (z : List ℕ). Stand f z r.front r.fresh (drop t.from source)) (sym
      (slice_behind source at t.from at_t)) r.stand)) in
      let p1 = same_part r.front f r.fresh at d t.from xs [] X2 at_t (omega (arith, t_in)) place1 there stand1 (ap (lexemes_of source) r.tokens ∙ first_is) in
      let p2 = at_place form (t.from + d) (t.from + d) r.fresh X2 (opening (t.from + d)) (t.from + d + 13) (t.from + (d + 13)) false X3 refl (omega arith) (opens_at form
      (t.from + d) r.fresh X3 there2) in
      let own : List Front = lexed.Token t.kind r.long ∷ r2.front in
      let own_stand : Stand false (drop t.from source) own r2.fresh (drop c.from source) =
      (any_line r.fresh false (drop t.from source) t.kind r.long r.here.0, r.here.1, subst (λ (z : List ℕ). Stand false z r2.front r2.fresh (drop c.from source)) (sym on) r2.stand) in
      let own_long : t.from + total own ≡ c.from = omega (arith, place2, t_end) in
      let stand3 : Stand false X3 own r2.fresh (59 ∷ X4) =
      stand_ahead own false r2.fresh m0 59 59 (drop c.to source) X4 (inl refl) (omega (arith, own_long, long2))
      (subst (λ (z : List ℕ). Stand false (m0 ++ z) own r2.fresh z) at_semi (subst (λ (z : List ℕ). Stand false z own r2.fresh (drop c.from source)) (sym
      (slice_behind source t.from c.from t_c)) own_stand)) in
      let own_terminals : lexemes_of source (tokens_of t.from own) ≡ lexeme_of source t ∷ ys = first_token t r.long r2.front ys r.end (ap (lexemes_of source) r2.tokens ∙ inner_is) in
      let p3 = same_part own false r2.fresh t.from (d + 13) c.from (lexeme_of source t ∷ ys) [] (59 ∷ X4) t_c (omega (arith, c_in)) own_long there3 stand3 own_terminals in
      let p4 : Lexed form (c.from + (d + 13)) r2.fresh (59 ∷ X4) (moved (d + 13) (lexeme_of source c) ∷ []) (c.to + (d + 13)) false X4 = record {
        fronts = lexed.Token kind.Punctuation 1 ∷ [];
        stand = (semicolon_here r2.fresh X4, omega arith, (refl, refl));
        terminals = semi_terminals c (d + 13) X4 c_end ends there4;
        place = next;
      } in
      let p5 = at_place form (c.to + (d + 13)) (c.to + (d + 13)) false X4 (closed (c.to + (d + 13))) (c.to + (d + 13) + 19) (c.to + (d + 32)) false F refl (omega arith) (closes_at form
      (c.to + (d + 13)) false F there5) in
      let back : Stand false (drop c.to source) r2.back g [] =
      subst (λ (z : List ℕ). Stand false z r2.back g []) (drop-drop r2.long c.from source ∙ ap (λ (k : ℕ). drop k source) (sym r2.end)) r2.here.2 in
      let p6 = rec r2.back back (ap (lexemes_of source) r2.behind ∙ last_is) there6 in
      let j5 = join form _ _ _ _ _ _ _ _ _ _ _ p5 p6.2 in
      let j4 = join form _ _ _ _ _ _ _ _ _ _ _ p4 j5 in
      let j3 = join form _ _ _ _ _ _ _ _ _ _ _ p3.0 j4 in
      let k3 = subst (λ (z : List Lexeme). Lexed form (t.from + (d + 13)) false X3 z p6.0 p6.1 []) (terminals_as (moved (d + 13)) (lexeme_of source t) (lexeme_of source c) ys (closed (c.to +
      (d + 13)) ++ rights (d + 32) P)) j3 in
      let j2 = join form _ _ _ _ _ _ _ _ _ _ _ p2 k3 in
      let j1 = join form _ _ _ _ _ _ _ _ _ _ _ p1.0 j2 in
      let whole = subst (λ (z : List ℕ). Lexed form (at + d) f z (map (moved d) xs ++ rights d (Calls (lexeme_of source t) ys (lexeme_of source c) ∷ P)) p6.0 p6.1 []) (sym text_is) j1 in
      let c_kept : IsKept source form (d + 13) (lexeme_of source c) = semi_kept c.from c.to (d + 13) (drop c.to source) X4 c_end there4 at_semi in (
        p6.0,
        p6.1,
        whole,
        p1.1,
        (kept_ends (d + 13) (lexeme_of source t ∷ ys) (lexeme_of source c) p3.1 c_kept, (opening_name form (t.from + d) X3 there2, closed_name form (c.to + (d + 13)) F there5), p6.4),
      )

  abbrev Called : List Stretch → List Lexeme → List Lexeme → ℕ → ℕ → Bool → Bool → Lexeme → Lexeme → Type 0
  Called P xs ys at d f g t c =
      Is w.Semicolon c → drop (at + d) form ≡ with_texts source at ((t.from, c.to) ∷ spans_of P) → Rest P c.to d g → Result (Calls t ys c ∷ P) xs at d f

  called : (P : List Stretch) (xs ys : List Lexeme) (t c : Lexeme) (at d : ℕ) (f g : Bool) (ps : List Front) → Stand f (drop at source) ps g []
      → lexemes_of source (tokens_of at ps) ≡ xs ++ (call_tokens t ys c ++ lefts P) → Called P xs ys at d f g t c
  called P xs ys t c at d f g ps stand terminals =
      let first = terminals_both source (tokens_of at ps) xs (call_tokens t ys c ++ lefts P) terminals in
      let head = terminals_first source first.1 t ((ys ++ c ∷ []) ++ lefts P) first.4 in
      let inner = terminals_both source head.1 ys (c ∷ lefts P) (head.4 ∙ append_assoc ys (c ∷ []) (lefts P)) in
      let last = terminals_first source inner.1 c (lefts P) inner.4 in
      let tokens : tokens_of at ps ≡ first.0 ++ head.0 ∷ (inner.0 ++ last.0 ∷ last.1) =
      first.2 ∙ ap (λ (z : List Token). first.0 ++ z) (head.2 ∙ ap (λ (z : List Token). head.0 ∷ z) (inner.2 ∙ ap (λ (z : List Token). inner.0 ++ z) last.2)) in
      subst (λ (z : Lexeme). Called P xs ys at d f g z c) head.3
      (subst (λ (z : Lexeme). Called P xs ys at d f g (lexeme_of source head.0) z) last.3
      (λ ends text rec. called_at P xs ys first.0 inner.0 last.1 head.0 last.0 at d f g ps stand tokens first.3 inner.3 last.4 ends text rec))

  pub lexing : (P : List Stretch) (xs : List Lexeme) (at d : ℕ) (f g : Bool) (ps : List Front) → Stand f (drop at source) ps g [] → lexemes_of source (tokens_of at ps) ≡ xs ++ lefts P
      → AreEnded P → drop (at + d) form ≡ with_texts source at (spans_of P) → Result P xs at d f
  unfolding with_texts
  lexing [] xs at d f g ps stand terminals ended text =
      let own : lexemes_of source (tokens_of at ps) ≡ xs = terminals ∙ append-nil xs in
      let same = tokens_same source form d ps (at + d) at (total ps) refl (ap (take (total ps)) text) (omega arith) in
      let all : Lexed form (at + d) f (drop at source) (map (moved d) xs ++ []) (at + d + total ps) g [] = record {
        fronts = ps;
        stand = stand;
        terminals = same.0 ∙ ap (map (moved d)) own ∙ sym (append-nil (map (moved d) xs));
        place = refl;
      } in
      (at + d + total ps, g, all, subst (λ (l : List Lexeme). AreKept source form d l) own same.1, tt)
  lexing (Keeps t ∷ P) xs at d f g ps stand terminals ended text =
      let h = lexing P (xs ++ t ∷ []) at d f g ps stand (terminals ∙ sym (append_assoc xs (t ∷ []) (lefts P))) ended text in
      let same : map (moved d) (xs ++ t ∷ []) ++ rights d P ≡ map (moved d) xs ++ (moved d t ∷ rights d P) =
      ap (λ (z : List Lexeme). z ++ rights d P) (map-append (moved d) xs (t ∷ [])) ∙ append_assoc (map (moved d) xs) (moved d t ∷ []) (rights d P) in
      let kept = kept_first d xs t h.3 in
      (h.0, h.1, subst (λ (z : List Lexeme). Lexed form (at + d) f (with_texts source at (spans_of P)) z h.0 h.1 []) same h.2, kept.0, (kept.1, h.4))
  lexing (Calls t ys c ∷ P) xs at d f g ps stand terminals ended text =
      called P xs ys t c at d f g ps stand terminals ended.0 text
      (λ qs stands own there. lexing P [] c.to (d + 32) false g qs stands own ended.1 there)

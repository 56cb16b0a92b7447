-- Fronts that stand one after the other, where the bytes behind them are others.
use Rattle.std.proofs.Common.{◌≡◌, ℕ, ◌+◌, ◌-◌, ◌<◌, ◌≤◌, Bool, false, eqb, ◌||◌, List, [], ◌∷◌, ◌++◌, map, length, drop, take, refl, sym, ap, subst, ◌∙◌, arith, inl}
use Rattle.std.proofs.Common.{length-drop, drop-drop}
use Rattle.std.specs.List.{list_any}
use Rattle.std.proofs.lemmas.List.{append-nil, append_assoc, take-append-drop, drop-append-le, take-append-le, take-take, drop-take, length-take-le}
use Rattle.cw_syntax.specs.Names.{slice}
use Rattle.cw_lex.specs.declared.tokens.Token.{Token}
use Rattle.cw_lex.specs.declared.front.Front.{Front}
use Rattle.cw_lex.specs.declared.front.Front.TheVariants as lexed
use Rattle.cw_lex.specs.Fronts.{front_at, size}
use Rattle.cw_lex.specs.Tokens.{fresh_behind, Stand, tokens_of}
use Rattle.cw_grammar.specs.declared.terminals.Terminal.{Terminal}
use Rattle.cw_grammar.specs.declared.terminals.Lexeme.{Lexeme}
use Rattle.cw_grammar.specs.Spelling.{terminal_of, lexeme_of, lexemes_of}
use Rattle.cw_forms.specs.Moved.{moved, AreKept}
use Rattle.cw_forms.proofs.Ahead.{Follows, ahead}

abbrev pub total : List Front → ℕ
total [] = 0
total (p ∷ ps) = size p + total ps

pub stand_both : (ps qs : List Front) (f g h : Bool) (a b c : List ℕ) → Stand f a ps g b → Stand g b qs h c → Stand f a (ps ++ qs) h c
stand_both [] qs f g h a b c s t = subst (λ (x : Bool). Stand x a qs h c) s.0 (subst (λ (z : List ℕ). Stand g z qs h c) s.1 t)
stand_both (p ∷ ps) qs f g h a b c s t = (s.0, s.1, stand_both ps qs (fresh_behind f p a) g h (drop (size p) a) b c s.2 t)

pub tokens_both : (at : ℕ) (ps qs : List Front) → tokens_of at (ps ++ qs) ≡ tokens_of at ps ++ tokens_of (at + total ps) qs
tokens_both at [] qs = let same : at ≡ at + 0 = omega arith in ap (λ (k : ℕ). tokens_of k qs) same
tokens_both at (lexed.Gap n ∷ ps) qs =
    let same : at + n + total ps ≡ at + (n + total ps) = omega arith in
    tokens_both (at + n) ps qs ∙ ap (λ (k : ℕ). tokens_of (at + n) ps ++ tokens_of k qs) same
tokens_both at (lexed.Token k n ∷ ps) qs =
    let same : at + n + total ps ≡ at + (n + total ps) = omega arith in
    let t : Token = record { kind = k; from = at; to = at + n } in
    ap (λ (z : List Token). t ∷ z) (tokens_both (at + n) ps qs ∙ ap (λ (j : ℕ). tokens_of (at + n) ps ++ tokens_of j qs) same)
tokens_both at (lexed.Fault d ∷ ps) qs =
    let same : at + total ps ≡ at + (0 + total ps) = omega arith in
    tokens_both at ps qs ∙ ap (λ (j : ℕ). tokens_of at ps ++ tokens_of j qs) same

-- ---- other bytes behind

front_step : (f : Bool) (x y : List ℕ) (a b : ℕ) (r s : List ℕ) (p : Front) → Follows a b → 0 < size p → size p ≡ length x → front_at f ((x ++ y) ++ a ∷ r) ≡ p → front_at f ((x ++ y) ++ b ∷ s) ≡ p
front_step f x [] a b r s p fo some long e =
    let same = append-nil x in
    rw same (ahead f x a b r s p fo some long (rw same at e))
front_step f x (c ∷ y) a b r s p fo some long e =
    let before = append_assoc x (c ∷ y) (a ∷ r) in
    let after = append_assoc x (c ∷ y) (b ∷ s) in
    rw after (ahead f x c c (y ++ a ∷ r) (y ++ b ∷ s) p (inl refl) some long (rw before at e))

fresh_same : (f : Bool) (p : Front) (w y z : List ℕ) → size p ≤ length w → fresh_behind f p (w ++ y) ≡ fresh_behind f p (w ++ z)
fresh_same f (lexed.Gap n) w y z le =
    let same : take n (w ++ y) ≡ take n (w ++ z) = take-append-le n w y le ∙ sym (take-append-le n w z le) in
    ap (λ (l : List ℕ). f || list_any (λ b. eqb b 10) l) same
fresh_same f (lexed.Token k n) w y z le = refl
fresh_same f (lexed.Fault d) w y z le = refl

pub stand_ahead : (ps : List Front) (f g : Bool) (w : List ℕ) (a b : ℕ) (r s : List ℕ) → Follows a b → total ps ≡ length w → Stand f (w ++ a ∷ r) ps g (a ∷ r) → Stand f (w ++ b ∷ s) ps g (b ∷ s)
stand_ahead [] f g [] a b r s fo long h = (h.0, refl)
stand_ahead [] f g (c ∷ w) a b r s fo long h = absurd (omega arith)
stand_ahead (p ∷ ps) f g w a b r s fo long h =
    let le : size p ≤ length w = omega arith in
    let whole : take (size p) w ++ drop (size p) w ≡ w = take-append-drop (size p) w in
    let here : front_at f (w ++ b ∷ s) ≡ p = subst (λ (z : List ℕ). front_at f (z ++ b ∷ s) ≡ p) whole
    (front_step f (take (size p) w) (drop (size p) w) a b r s p fo h.1 (sym (length-take-le (size p) w le)) (subst (λ (z : List ℕ). front_at f (z ++ a ∷ r) ≡ p) (sym whole) h.0)) in
    let first : drop (size p) (w ++ a ∷ r) ≡ drop (size p) w ++ a ∷ r = drop-append-le (size p) w (a ∷ r) le in
    let second : drop (size p) (w ++ b ∷ s) ≡ drop (size p) w ++ b ∷ s = drop-append-le (size p) w (b ∷ s) le in
    let flag : fresh_behind f p (w ++ a ∷ r) ≡ fresh_behind f p (w ++ b ∷ s) = fresh_same f p w (a ∷ r) (b ∷ s) le in
    let rest : Stand (fresh_behind f p (w ++ b ∷ s)) (drop (size p) w ++ a ∷ r) ps g (a ∷ r) =
    subst (λ (x : Bool). Stand x (drop (size p) w ++ a ∷ r) ps g (a ∷ r)) flag (subst (λ (z : List ℕ). Stand (fresh_behind f p (w ++ a ∷ r)) z ps g (a ∷ r)) first h.2) in
    let count : total ps ≡ length (drop (size p) w) = omega (arith, long, length-drop (size p) w) in (
      here,
      h.1,
      subst (λ (z : List ℕ). Stand (fresh_behind f p (w ++ b ∷ s)) z ps g (b ∷ s)) (sym second)
          (stand_ahead ps (fresh_behind f p (w ++ b ∷ s)) g (drop (size p) w) a b r s fo count rest),
    )

-- ---- up to a token

pub record Reach (source : List ℕ) (f g : Bool) (at : ℕ) (xs : List Token) (t : Token) (zs : List Token) : Type 0 where
  pub front : List Front
  pub back : List Front
  pub fresh : Bool
  pub long : ℕ
  pub stand : Stand f (drop at source) front fresh (drop t.from source)
  pub place : at + total front ≡ t.from
  pub tokens : tokens_of at front ≡ xs
  pub here : Stand fresh (drop t.from source) (lexed.Token t.kind long ∷ back) g []
  pub end : t.to ≡ t.from + long
  pub behind : tokens_of t.to back ≡ zs

none_reached : (xs : List Token) (t : Token) (zs : List Token) → [] ≡ xs ++ t ∷ zs → ⊥
none_reached [] t zs e = cc
none_reached (x ∷ xs) t zs e = cc

module _ (source : List ℕ) where
  pub reach : (ps : List Front) (f g : Bool) (at : ℕ) (xs : List Token) (t : Token) (zs : List Token) → Stand f (drop at source) ps g [] → tokens_of at ps ≡ xs ++ t ∷ zs → Reach source f g at xs t zs
  reach [] f g at xs t zs h e = absurd (none_reached xs t zs e)
  reach (lexed.Gap n ∷ ps) f g at xs t zs h e =
      let f' = fresh_behind f (lexed.Gap n) (drop at source) in
      let r = reach ps f' g (at + n) xs t zs (subst (λ (z : List ℕ). Stand f' z ps g []) (drop-drop n at source) h.2) e in
      record {
        front = lexed.Gap n ∷ r.front;
        back = r.back;
        fresh = r.fresh;
        long = r.long;
        stand = (h.0, h.1, subst (λ (z : List ℕ). Stand f' z r.front r.fresh (drop t.from source)) (sym (drop-drop n at source)) r.stand);
        place = (let p = r.place in omega (arith, p));
        tokens = r.tokens;
        here = r.here;
        end = r.end;
        behind = r.behind;
      }
  reach (lexed.Token k n ∷ ps) f g at [] t zs h e =
      let u : Token = record { kind = k; from = at; to = at + n } in
      let same : u ≡ t = cc in
      let rest : tokens_of (at + n) ps ≡ zs = cc in
      subst (λ (x : Token). Reach source f g at [] x zs) same (record {
        front = [];
        back = ps;
        fresh = f;
        long = n;
        stand = (refl, refl);
        place = omega arith;
        tokens = refl;
        here = h;
        end = refl;
        behind = rest;
      })
  reach (lexed.Token k n ∷ ps) f g at (x ∷ xs) t zs h e =
      let u : Token = record { kind = k; from = at; to = at + n } in
      let same : u ≡ x = cc in
      let rest : tokens_of (at + n) ps ≡ xs ++ t ∷ zs = cc in
      let r = reach ps false g (at + n) xs t zs (subst (λ (z : List ℕ). Stand false z ps g []) (drop-drop n at source) h.2) rest in
      record {
        front = lexed.Token k n ∷ r.front;
        back = r.back;
        fresh = r.fresh;
        long = r.long;
        stand = (h.0, h.1, subst (λ (z : List ℕ). Stand false z r.front r.fresh (drop t.from source)) (sym (drop-drop n at source)) r.stand);
        place = (let p = r.place in omega (arith, p));
        tokens = ap (λ (z : List Token). u ∷ z) r.tokens ∙ ap (λ (z : Token). z ∷ xs) same;
        here = r.here;
        end = r.end;
        behind = r.behind;
      }
  reach (lexed.Fault d ∷ ps) f g at xs t zs h e = absurd (let some = h.1 in omega arith)

-- ---- bytes at places

pub drop_on : (l : List ℕ) (p n : ℕ) (bs : List ℕ) → drop p l ≡ bs → drop (p + n) l ≡ drop n bs
drop_on l p n bs e = sym (drop-drop n p l) ∙ ap (drop n) e

pub slice_take : (l : List ℕ) (p n : ℕ) → slice l p (p + n) ≡ take n (drop p l)
slice_take l p n = let same : p + n - p ≡ n = omega arith in ap (λ (k : ℕ). take k (drop p l)) same

-- the tokens of these fronts, read from the bytes where they begin
abbrev pub read_at : ℕ → List Front → List ℕ → List Lexeme
read_at p [] bs = []
read_at p (lexed.Gap n ∷ ps) bs = read_at (p + n) ps (drop n bs)
read_at p (lexed.Token k n ∷ ps) bs = record { terminal = terminal_of k (take n bs); from = p; to = p + n } ∷ read_at (p + n) ps (drop n bs)
read_at p (lexed.Fault d ∷ ps) bs = read_at p ps bs

abbrev pub lexeme : Terminal → ℕ → ℕ → Lexeme
lexeme terminal a b = record { terminal = terminal; from = a; to = b }

pub tokens_read : (l : List ℕ) (ps : List Front) (p : ℕ) (bs : List ℕ) → drop p l ≡ bs → lexemes_of l (tokens_of p ps) ≡ read_at p ps bs
tokens_read l [] p bs e = refl
tokens_read l (lexed.Gap n ∷ ps) p bs e = tokens_read l ps (p + n) (drop n bs) (drop_on l p n bs e)
tokens_read l (lexed.Token k n ∷ ps) p bs e =
    let text : slice l p (p + n) ≡ take n bs = slice_take l p n ∙ ap (take n) e in
    let rest = tokens_read l ps (p + n) (drop n bs) (drop_on l p n bs e) in
    let first : Lexeme = record { terminal = terminal_of k (slice l p (p + n)); from = p; to = p + n } in
    ap (λ (z : List Lexeme). first ∷ z) rest
    ∙ ap (λ (z : List ℕ). lexeme (terminal_of k z) p (p + n) ∷ read_at (p + n) ps (drop n bs)) text
tokens_read l (lexed.Fault d ∷ ps) p bs e = tokens_read l ps p bs e

take_on : (m n : ℕ) (a b : List ℕ) → n ≤ m → take m a ≡ take m b → take (m - n) (drop n a) ≡ take (m - n) (drop n b)
take_on m n a b le e =
    let count : n + (m - n) ≡ m = omega arith in
    let at_a : drop n (take m a) ≡ take (m - n) (drop n a) = subst (λ (j : ℕ). drop n (take j a) ≡ take (m - n) (drop n a)) count (drop-take n (m - n) a) in
    let at_b : drop n (take m b) ≡ take (m - n) (drop n b) = subst (λ (j : ℕ). drop n (take j b) ≡ take (m - n) (drop n b)) count (drop-take n (m - n) b) in
    sym at_a ∙ ap (drop n) e ∙ at_b

take_less : (m n : ℕ) (a b : List ℕ) → n ≤ m → take m a ≡ take m b → take n a ≡ take n b
take_less m n a b le e = sym (take-take n m a le) ∙ ap (take n) e ∙ take-take n m b le

pub same_lexeme : (v w : Terminal) (a b x y : ℕ) → v ≡ w → a ≡ b → x ≡ y → lexeme v a x ≡ lexeme w b y
same_lexeme v w a b x y e f g = rw (e, f, g) refl

module _ (source form : List ℕ) (d : ℕ) where
  -- fronts that stand over the same bytes in the form
  pub tokens_same : (ps : List Front) (p at m : ℕ) → p ≡ at + d → take m (drop p form) ≡ take m (drop at source) → total ps ≤ m
      → (lexemes_of form (tokens_of p ps) ≡ map (moved d) (lexemes_of source (tokens_of at ps))) × AreKept source form d (lexemes_of source (tokens_of at ps))
  tokens_same [] p at m place same le = (refl, tt)
  tokens_same (lexed.Gap n ∷ ps) p at m place same le =
      let on = take_on m n (drop p form) (drop at source) (omega arith) same in
      let there : take (m - n) (drop (p + n) form) ≡ take (m - n) (drop (at + n) source) =
      ap (take (m - n)) (sym (drop-drop n p form)) ∙ on ∙ ap (take (m - n)) (drop-drop n at source) in
      tokens_same ps (p + n) (at + n) (m - n) (omega arith) there (omega arith)
  tokens_same (lexed.Token k n ∷ ps) p at m place same le =
      let on = take_on m n (drop p form) (drop at source) (omega arith) same in
      let there : take (m - n) (drop (p + n) form) ≡ take (m - n) (drop (at + n) source) =
      ap (take (m - n)) (sym (drop-drop n p form)) ∙ on ∙ ap (take (m - n)) (drop-drop n at source) in
      let rest = tokens_same ps (p + n) (at + n) (m - n) (omega arith) there (omega arith) in
      let text : slice form p (p + n) ≡ slice source at (at + n) =
      slice_take form p n ∙ take_less m n (drop p form) (drop at source) (omega arith) same ∙ sym (slice_take source at n) in
      let end : p + n ≡ at + n + d = omega arith in (
        ap (λ (z : List Lexeme). lexeme_of form (record { kind = k; from = p; to = p + n }) ∷ z) rest.0
            ∙ ap (λ (z : Lexeme). z ∷ map (moved d) (lexemes_of source (tokens_of (at + n) ps)))
            (same_lexeme (terminal_of k (slice form p (p + n))) (terminal_of k (slice source at (at + n))) p (at + d) (p + n) (at + n + d) (ap (terminal_of k) text) place end),
        (rw (sym place, sym end) text, rest.1),
      )
  tokens_same (lexed.Fault e ∷ ps) p at m place same le = tokens_same ps p at m place same (omega arith)

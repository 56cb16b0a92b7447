-- Lists, both ways.
use Rattle.std.proofs.Common.{◌≡◌, suc, ◌<◌, ◌≤◌, Bool, true, false, List, [], ◌∷◌, ◌++◌, length, Ok, refl, sym, ap, subst, ◌∙◌, append_assoc, arith, length-append, inl, inr}
use Rattle.std.specs.Prelude.{IfOk}
use Rattle.std.proofs.lemmas.Result.{IfOk-at_ok, IfOk-weaker}
use Rattle.std.proofs.lemmas.List.{append-nil}
use Rattle.cw_grammar.specs.declared.terminals.Lexeme.{Lexeme}
use Rattle.cw_grammar.specs.declared.terminals.Terminal.TheVariants as w
use Rattle.cw_grammar.specs.Lexemes.{Is, AreAll, AreSeparated}
use Rattle.cw_expressions.specs.declared.refusal.Refusal.{Refusal}
use Rattle.cw_expressions.specs.declared.refusal.Refusal.TheVariants as refusal
use Rattle.cw_expressions.specs.Cursor.{Fails, begins, after}
use Rattle.cw_expressions.proofs.Steps.{if_bind, begins_takes}
use Rattle.cw_expressions.proofs.Repeat.{Shortens, repeat_ends, repeat_fails, repeat_keeps, repeat_further}
use Rattle.cw_parse.specs.Lists.{Read, Reader, rest_after, one_more, many, behind, separated}
use Rattle.cw_parse.proofs.BothWays.{Took, Reads, reads_bind, reads_of, took_shorter}

-- an item behind a comma
abbrev pub Behind : {X : Type 0} → (List Lexeme → X → Type 0) → List Lexeme → X → Type 0
Behind P ts x = (c : Lexeme) × (b : List Lexeme) × (ts ≡ c ∷ b) × Is w.Comma c × P b x

pub separated_all : {X : Type 0} (P : List Lexeme → X → Type 0) (ts : List Lexeme) (x : X) (xs : List X) → AreSeparated P ts (x ∷ xs) → (a : List Lexeme) × (b : List Lexeme)
    × (ts ≡ a ++ b) × P a x × AreAll (Behind P) b xs
separated_all P ts x [] h = (ts, [], sym (append-nil ts), h, refl)
separated_all P ts x (y ∷ ys) (a, c, b, parts, comma, p, h) =
    let r = separated_all P b y ys h in
    (a, c ∷ b, parts, p, (c ∷ r.0, r.1, ap (λ (z : List Lexeme). c ∷ z) r.2, (c, r.0, refl, comma, r.3), r.4))

pub separated_more : {X : Type 0} (P : List Lexeme → X → Type 0) (xs : List X) (ts b : List Lexeme) (y : X) → 0 < length xs → AreSeparated P ts xs → Behind P b y
    → AreSeparated P (ts ++ b) (xs ++ y ∷ [])
separated_more P [] ts b y some h p = absurd (omega arith)
separated_more P (x ∷ []) ts b y some h (c, rest, parts, comma, p) = (ts, c, rest, ap (λ (z : List Lexeme). ts ++ z) parts, comma, h, p)
separated_more P (x ∷ z ∷ xs) ts b y some (a, c, inner, parts, comma, p, h) q =
    (a, c, inner ++ b, rw parts (append_assoc a (c ∷ inner) b), comma, p, separated_more P (z ∷ xs) inner b y (omega arith) h q)

pub all_more : {X : Type 0} (P : List Lexeme → X → Type 0) (xs : List X) (a b : List Lexeme) (y : X) → AreAll P a xs → P b y → AreAll P (a ++ b) (xs ++ y ∷ [])
all_more P [] a b y h p = (b, [], rw h (sym (append-nil b)), p, refl)
all_more P (x ∷ xs) a b y (c, d, parts, q, h) p = (c, d ++ b, rw parts (append_assoc c d b), q, all_more P xs d b y h p)

module _ {X : Type 0} (read : Reader X) (goes : List Lexeme → Bool) where
  abbrev pub Shortening : Type 0
  Shortening = (ts : List Lexeme) → goes ts ≡ true → IfOk (read ts) (λ x. length x.1 < length ts)

  more_shorter : Shortening → (s : List X × List Lexeme) → goes s.1 ≡ true → IfOk (one_more read s) (λ y. length y.1 < length s.1)
  unfolding one_more
  more_shorter short s go = if_bind (read s.1) _ _ _ (short s.1 go) (λ x h. h)

  pub more_shortens : Shortening → Shortens rest_after goes (one_more read)
  more_shortens short x y go e = IfOk-at_ok (λ (z : List X × List Lexeme). length z.1 < length x.1) e (more_shorter short x go)

  pub many_ends : (s : List X × List Lexeme) → goes s.1 ≡ false → many read goes s ≡ Ok s
  unfolding many
  many_ends s e = repeat_ends rest_after goes (one_more read) (length s.1) s e

  pub many_fails : (e : Refusal) (s : List X × List Lexeme) → goes s.1 ≡ true → Fails e (one_more read s) → Fails e (many read goes s)
  unfolding many
  many_fails e s go h = repeat_fails rest_after goes (one_more read) e (length s.1) s go h

  pub many_further : Shortening → (x y : List X × List Lexeme) → goes x.1 ≡ true → one_more read x ≡ Ok y → many read goes y ≡ many read goes x
  unfolding many
  many_further short x y go e = repeat_further rest_after goes (one_more read) (more_shortens short) x y go e

  -- ---- what is read is one

  module _ (P : List Lexeme → X → Type 0) (Q : List Lexeme → List X → Type 0) (sound : (ts : List Lexeme) → goes ts ≡ true → IfOk (read ts) (Took P ts))
      (more : (a b : List Lexeme) (xs : List X) (x : X) → Q a xs → P b x → Q (a ++ b) (xs ++ x ∷ [])) (ts : List Lexeme) where
    one_keeps : (s : List X × List Lexeme) → goes s.1 ≡ true → Took Q ts s → IfOk (one_more read s) (Took Q ts)
    unfolding one_more
    one_keeps s go (a, parts, q) = if_bind (read s.1) _ _ _ (sound s.1 go) (λ x f.
        (a ++ f.0, parts ∙ ap (λ (z : List Lexeme). a ++ z) f.1 ∙ sym (append_assoc a f.0 x.1), more a f.0 s.0 x.0 q f.2))

    pub many_sound : (s : List X × List Lexeme) → Took Q ts s → IfOk (many read goes s) (Took Q ts)
    unfolding many
    many_sound s start = repeat_keeps rest_after goes (one_more read) (Took Q ts) one_keeps (suc (length s.1)) s start

  -- ---- what is one is read

  many_step : (D : Type 0) → Shortening → (s y z : List X × List Lexeme) → goes s.1 ≡ true → Reads D (one_more read s) y → Reads D (many read goes y) z → Reads D (many read goes s) z
  many_step D short s y z go (inl e) h = let f : many read goes y ≡ many read goes s = many_further short s y go e in subst (λ (r : Read (List X)). Reads D r z) f h
  many_step D short s y z go (inr e) h = inr (e.0, many_fails refusal.TooDeep s go e.1)

  module _ (P : List Lexeme → X → Type 0) (D : Type 0) (Stop : List Lexeme → Type 0) (short : Shortening)
      (again : (a : List Lexeme) (x : X) (rest : List Lexeme) → P a x → Stop rest → Reads D (read (a ++ rest)) (x, rest))
      (on : (a : List Lexeme) (x : X) (rest : List Lexeme) → P a x → goes (a ++ rest) ≡ true)
      (stops : (a : List Lexeme) (x : X) (rest : List Lexeme) → P a x → Stop (a ++ rest)) where
    stop_before : (xs : List X) (a rest : List Lexeme) → AreAll P a xs → Stop rest → Stop (a ++ rest)
    stop_before [] a rest h stop = rw h stop
    stop_before (x ∷ xs) a rest (b, c, parts, p, h) stop = rw (parts, append_assoc b c rest) (stops b x (c ++ rest) p)

    one_again : (before : List X) (a : List Lexeme) (x : X) (rest : List Lexeme) → P a x → Stop rest → Reads D (one_more read (before, a ++ rest)) (before ++ x ∷ [], rest)
    unfolding one_more
    one_again before a x rest p stop = reads_bind D (read (a ++ rest)) _ (x, rest) _ (again a x rest p stop) (inl refl)

    abbrev pair : List X → List Lexeme → List X × List Lexeme
    pair xs ts = (xs, ts)

    pub many_again : (xs : List X) (a rest : List Lexeme) (before : List X) → AreAll P a xs → Stop rest → goes rest ≡ false → Reads D (many read goes (before, a ++ rest)) (before ++ xs, rest)
    many_again [] a rest before h stop ends = inl (rw (h, append-nil before) (many_ends (before, rest) ends))
    many_again (x ∷ xs) a rest before (b, c, parts, p, h) stop ends =
        let whole : a ++ rest ≡ b ++ (c ++ rest) = rw parts (append_assoc b c rest) in
        let listed : (before ++ x ∷ []) ++ xs ≡ before ++ x ∷ xs = append_assoc before (x ∷ []) xs in
        let s : Reads D (many read goes (before, b ++ (c ++ rest))) ((before ++ x ∷ []) ++ xs, rest) =
        many_step D short (before, b ++ (c ++ rest)) (before ++ x ∷ [], c ++ rest) ((before ++ x ∷ []) ++ xs, rest) (on b x (c ++ rest) p)
        (one_again before b x (c ++ rest) p (stop_before xs c rest h stop))
        (many_again xs c rest (before ++ x ∷ []) h stop ends) in
        subst (λ (z : List X). Reads D (many read goes (before, a ++ rest)) (z, rest)) listed
        (reads_of D (λ (ts : List Lexeme). many read goes (before, ts)) (a ++ rest) (b ++ (c ++ rest)) _ whole s)

-- ---- items between commas

-- a list with at least one item
abbrev pub Several : {X : Type 0} → (List Lexeme → X → Type 0) → List Lexeme → List X → Type 0
Several P ts xs = (0 < length xs) × AreSeparated P ts xs

-- a reader goes on, or stays
abbrev pub NotLonger : {X : Type 0} → Reader X → Type 0
NotLonger read = (ts : List Lexeme) → IfOk (read ts) (λ x. length x.1 ≤ length ts)

pub not_longer : {X : Type 0} (read : Reader X) (P : List Lexeme → X → Type 0) → ((ts : List Lexeme) → IfOk (read ts) (Took P ts)) → NotLonger read
not_longer read P sound ts = IfOk-weaker (read ts) _ _ (λ x f. took_shorter P ts x f) (sound ts)

module _ {X : Type 0} (read : Reader X) (goes : List Lexeme → Bool) (comma : (ts : List Lexeme) → goes ts ≡ true → begins w.Comma ts ≡ true) where
  pub behind_shortens : NotLonger read → Shortening (behind read) goes
  behind_shortens short ts go =
      let c = begins_takes w.Comma refl ts (comma ts go) in
      IfOk-weaker (read (after ts)) _ _ (λ x f. omega (arith, ap length c.1, f)) (short (after ts))

  module _ (P : List Lexeme → X → Type 0) (sound : (ts : List Lexeme) → IfOk (read ts) (Took P ts)) where
    behind_sound : (ts : List Lexeme) → goes ts ≡ true → IfOk (behind read ts) (Took (Behind P) ts)
    behind_sound ts go =
        let c = begins_takes w.Comma refl ts (comma ts go) in
        IfOk-weaker (read (after ts)) _ _ (λ x f. (c.0 ∷ f.0, c.1 ∙ ap (λ (z : List Lexeme). c.0 ∷ z) f.1, (c.0, f.0, refl, c.2, f.2))) (sound (after ts))

    pub separated_sound : (ts : List Lexeme) → IfOk (separated read goes ts) (Took (Several P) ts)
    unfolding separated
    separated_sound ts =
        if_bind (read ts) _ _ _ (sound ts) (λ x f.
        many_sound (behind read) goes (Behind P) (Several P) behind_sound
        (λ a b xs y q p. (omega (arith, length-append xs (y ∷ [])), separated_more P xs a b y q.0 q.1 p))
        ts (x.0 ∷ [], x.1) (f.0, f.1, (omega arith, f.2)))

  module _ (P : List Lexeme → X → Type 0) (D : Type 0) (Stop : List Lexeme → Type 0) (short : NotLonger read)
      (again : (a : List Lexeme) (x : X) (rest : List Lexeme) → P a x → Stop rest → Reads D (read (a ++ rest)) (x, rest))
      (on : (c : Lexeme) (a : List Lexeme) (x : X) (rest : List Lexeme) → Is w.Comma c → P a x → goes (c ∷ a ++ rest) ≡ true)
      (stops : (c : Lexeme) (rest : List Lexeme) → Is w.Comma c → Stop (c ∷ rest)) where
    behind_again : (a : List Lexeme) (x : X) (rest : List Lexeme) → Behind P a x → Stop rest → Reads D (behind read (a ++ rest)) (x, rest)
    behind_again a x rest (c, b, parts, is, p) stop = rw parts (again b x rest p stop)

    behind_on : (a : List Lexeme) (x : X) (rest : List Lexeme) → Behind P a x → goes (a ++ rest) ≡ true
    behind_on a x rest (c, b, parts, is, p) = rw parts (on c b x rest is p)

    behind_stops : (a : List Lexeme) (x : X) (rest : List Lexeme) → Behind P a x → Stop (a ++ rest)
    behind_stops a x rest (c, b, parts, is, p) = rw parts (stops c (b ++ rest) is)

    all_stop : (xs : List X) (a rest : List Lexeme) → AreAll (Behind P) a xs → Stop rest → Stop (a ++ rest)
    all_stop [] a rest h stop = rw h stop
    all_stop (x ∷ xs) a rest (b, c, parts, p, h) stop = rw (parts, append_assoc b c rest) (behind_stops b x (c ++ rest) p)

    pub separated_again : (xs : List X) (ts rest : List Lexeme) → Several P ts xs → Stop rest → goes rest ≡ false → Reads D (separated read goes (ts ++ rest)) (xs, rest)
    unfolding separated
    separated_again [] ts rest (some, h) stop ends = absurd (omega arith)
    separated_again (x ∷ xs) ts rest (some, h) stop ends =
        let s = separated_all P ts x xs h in
        let whole : ts ++ rest ≡ s.0 ++ (s.1 ++ rest) = ap (λ (z : List Lexeme). z ++ rest) s.2 ∙ append_assoc s.0 s.1 rest in
        reads_of D (separated read goes) (ts ++ rest) (s.0 ++ (s.1 ++ rest)) _ whole
        (reads_bind D (read (s.0 ++ (s.1 ++ rest))) _ (x, s.1 ++ rest) _ (again s.0 x (s.1 ++ rest) s.3 (all_stop xs s.1 rest s.4 stop))
        (many_again (behind read) goes (Behind P) D Stop (behind_shortens short) behind_again behind_on behind_stops xs s.1 rest (x ∷ []) s.4 stop ends))

-- What derives a primary is read as that tree, or nests too deep.
use Rattle.std.proofs.Common.{◌≡◌, ℕ, zero, suc, ◌+◌, ◌<◌, ◌≤◌, max, Bool, true, false, List, [], ◌∷◌, ◌++◌, length, Result, Ok, Err, Some, None, refl, sym, ap, subst, ◌∙◌}
use Rattle.std.proofs.Common.{append_assoc, arith, length-append, inl, inr}
use Rattle.std.specs.Prelude.{◌⊎◌}
use Rattle.std.proofs.lemmas.Bool.{eq-eqb}
use Rattle.cw_syntax.specs.declared.program.Op.{Op}
use Rattle.cw_syntax.specs.declared.program.Op.TheVariants as op
use Rattle.cw_syntax.specs.Trees.{Tree}
use Rattle.cw_grammar.specs.declared.terminals.Lexeme.{Lexeme}
use Rattle.cw_grammar.specs.declared.terminals.Terminal.{Terminal}
use Rattle.cw_grammar.specs.declared.terminals.Terminal.TheVariants as w
use Rattle.cw_grammar.specs.declared.rules.Rule.{Rule}
use Rattle.cw_grammar.specs.declared.rules.Rule.TheVariants.{Expression}
use Rattle.cw_grammar.specs.Terminals.{same}
use Rattle.cw_grammar.specs.Operators as operators
use Rattle.cw_grammar.specs.Lexemes.{Is, name_of, from_of, to_of, AreSeparated}
use Rattle.cw_grammar.specs.Expressions.{node, AreStrings, IsCall, IsPrimary, IsDerived}
use Rattle.cw_expressions.specs.declared.refusal.Refusal.{Refusal}
use Rattle.cw_expressions.specs.declared.refusal.Refusal.TheVariants as refusal
use Rattle.cw_expressions.specs.Cursor.{begins, repeat}
use Rattle.cw_expressions.specs.Reading.{Read, Arguments, rest_of_arguments, built, past_strings, binary_at, argument, arguments, named, between, primary}
use Rattle.cw_expressions.proofs.Steps.{expect_again, begins_again, to_of_append}
use Rattle.cw_expressions.proofs.Repeat.{repeat_ends, repeat_goes}
use Rattle.cw_expressions.proofs.Follows.{starts_expression, starts_append, starts_never, derived_starts, derived_some, extended, StopsAt, ended_by, unextended}
use Rattle.cw_expressions.proofs.Again.{state, NestsTooDeep, Again, wants_unary, built_is}

-- neither a parenthesis nor a string is next
abbrev pub EndsPrimary : List Lexeme → Type 0
EndsPrimary rest = (begins w.Open rest ≡ false) × (begins w.Text rest ≡ false)

pub ends_primary : (rest : List Lexeme) → extended rest ≡ false → EndsPrimary rest
ends_primary rest e = (unextended w.Open refl refl rest e, unextended w.Text refl refl rest e)

strings_again : (t : Lexeme) (a rest : List Lexeme) → AreStrings (t ∷ a) → begins w.Text rest ≡ false → past_strings t.to (a ++ rest) ≡ (to_of (t ∷ a), rest)
strings_again t [] rest s e = by_rest rest e where
  by_rest : (ts : List Lexeme) → begins w.Text ts ≡ false → past_strings t.to ts ≡ (t.to, ts)
  by_rest [] f = refl
  by_rest (u ∷ ts) f = rw f refl
strings_again t (u ∷ a) rest s e = rw s.1.0 (strings_again u a rest s.1 e)

pub step_sign : (terminal : Terminal) (number : ℕ) → operators.step terminal ≡ Some number → operators.sign terminal ≡ None
step_sign w.PlusPlus number e = refl
step_sign w.MinusMinus number e = refl
step_sign _ number e = absurd (cc)

pub binary_here : (l : ℕ) (t : Lexeme) (ts : List Lexeme) (number : ℕ) → operators.binary t.terminal ≡ Some (number, l) → binary_at l (t ∷ ts) ≡ Some number
binary_here l t ts number is = rw (is, eq-eqb l l refl) refl

-- arguments that were read
abbrev arguments_of : List Tree → ℕ → List Lexeme → Result Arguments Refusal
arguments_of list depth rest = Ok (record { list = list; depth = depth; rest = rest })

abbrev ArgumentsAgain : (n m : ℕ) → Result Arguments Refusal → List Tree → List Lexeme → Type 0
ArgumentsAgain n m r list rest = ((d : ℕ) × (d ≤ m) × (r ≡ arguments_of list d rest)) ⊎ NestsTooDeep n m r

module _ (n : ℕ) (read : Rule → List Lexeme → Read) (again : (m : ℕ) (rule : Rule) (ts : List Lexeme) (e : Tree) (rest : List Lexeme) → IsDerived m rule ts e → StopsAt rule rest
    → Again n m (wants_unary rule) (read rule (ts ++ rest)) ts e rest) where
  -- ---- arguments

  abbrev all_arguments : ℕ → List Tree → ℕ → List Lexeme → Result Arguments Refusal
  all_arguments k list depth rest = repeat rest_of_arguments (begins w.Comma) (argument read n) k (record { list = list; depth = depth; rest = rest })

  argument_step : (m k : ℕ) (before : List Tree) (d : ℕ) (c : Lexeme) (b : List Lexeme) (y : Tree) (rest : List Lexeme) → d ≤ m → Is w.Comma c → Again n m false (read Expression (b ++ rest)) b y rest
      → ((d2 : ℕ) × (d2 ≤ m) × (all_arguments (suc k) before d (c ∷ b ++ rest) ≡ all_arguments k (before ++ y ∷ []) d2 rest)) ⊎ NestsTooDeep n m (all_arguments (suc k) before d (c ∷ b ++ rest))
  unfolding argument
  argument_step m k before d c b y rest le comma (inl h) =
      let p = h.fits in
      let go = repeat_goes rest_of_arguments (begins w.Comma) (argument read n) k (record { list = before; depth = d; rest = c ∷ b ++ rest }) (begins_again w.Comma c (b ++ rest) comma) in
      inl (max d h.depth, omega arith, go ∙ rw h.is refl)
  argument_step m k before d c b y rest le comma (inr h) =
      let go = repeat_goes rest_of_arguments (begins w.Comma) (argument read n) k (record { list = before; depth = d; rest = c ∷ b ++ rest }) (begins_again w.Comma c (b ++ rest) comma) in
      inr (h.0, go ∙ rw h.1 refl)

  arguments_end : (k : ℕ) (list : List Tree) (d : ℕ) (rest : List Lexeme) → begins w.Comma rest ≡ false → 0 < k → all_arguments k list d rest ≡ arguments_of list d rest
  arguments_end zero list d rest e lt = absurd (omega arith)
  arguments_end (suc k) list d rest e lt = repeat_ends rest_of_arguments (begins w.Comma) (argument read n) k (record { list = list; depth = d; rest = rest }) e

  -- the arguments behind a comma
  arguments_more : (m : ℕ) (y : Tree) (ys : List Tree) (k : ℕ) (before : List Tree) (d : ℕ) (c : Lexeme) (b rest : List Lexeme) → d ≤ m → Is w.Comma c
      → AreSeparated (IsDerived m Expression) b (y ∷ ys) → StopsAt Expression rest → begins w.Comma rest ≡ false → length b + length rest < k
      → ArgumentsAgain n m (all_arguments (suc k) before d (c ∷ b ++ rest)) (before ++ y ∷ ys) rest
  arguments_more m y [] k before d c b rest le comma h stops close lt = by_step (argument_step m k before d c b y rest le comma (again m Expression b y rest h stops)) where
    by_step : ((d2 : ℕ) × (d2 ≤ m) × (all_arguments (suc k) before d (c ∷ b ++ rest) ≡ all_arguments k (before ++ y ∷ []) d2 rest))
        ⊎ NestsTooDeep n m (all_arguments (suc k) before d (c ∷ b ++ rest)) → ArgumentsAgain n m (all_arguments (suc k) before d (c ∷ b ++ rest)) (before ++ y ∷ []) rest
    by_step (inl s) = inl (s.0, s.1, s.2 ∙ arguments_end k (before ++ y ∷ []) s.0 rest close (omega arith))
    by_step (inr s) = inr s
  arguments_more m y (z ∷ zs) zero before d c b rest le comma h stops close lt = absurd (omega arith)
  arguments_more m y (z ∷ zs) (suc k) before d c b rest le comma h stops close lt =
      let tail : List Lexeme = h.1 ∷ h.2 ++ rest in
      let regrouped : b ++ rest ≡ h.0 ++ tail = rw h.3 (append_assoc h.0 (h.1 ∷ h.2) rest) in
      let some = derived_some m Expression h.0 y h.5 in
      let shorter : length h.2 + length rest < k = omega (arith, lt, some, ap length h.3, length-append h.0 (h.1 ∷ h.2)) in
      by_step tail regrouped (argument_step m (suc k) before d c h.0 y tail le comma (again m Expression h.0 y tail h.5 (ended_by w.Comma h.1 (h.2 ++ rest) h.4 refl)))
      (λ d2 le2. arguments_more m z zs k (before ++ y ∷ []) d2 h.1 h.2 rest le2 h.4 h.6 stops close shorter) where
        by_rest : (tail : List Lexeme) → b ++ rest ≡ h.0 ++ tail → (d2 : ℕ)
            → all_arguments (suc (suc k)) before d (c ∷ h.0 ++ tail) ≡ all_arguments (suc k) (before ++ y ∷ []) d2 tail
            → ArgumentsAgain n m (all_arguments (suc k) (before ++ y ∷ []) d2 tail) ((before ++ y ∷ []) ++ z ∷ zs) rest
            → ArgumentsAgain n m (all_arguments (suc (suc k)) before d (c ∷ b ++ rest)) (before ++ y ∷ z ∷ zs) rest
        by_rest tail regrouped d2 e (inl s) = inl (
          s.0,
          s.1,
          ap (λ (q : List Lexeme). all_arguments (suc (suc k)) before d (c ∷ q)) regrouped ∙ e ∙ s.2
              ∙ ap (λ (q : List Tree). arguments_of q s.0 rest) (append_assoc before (y ∷ []) (z ∷ zs)),
        )
        by_rest tail regrouped d2 e (inr s) = inr (s.0, ap (λ (q : List Lexeme). all_arguments (suc (suc k)) before d (c ∷ q)) regrouped ∙ e ∙ s.1)

        by_step : (tail : List Lexeme) → b ++ rest ≡ h.0 ++ tail
            → ((d2 : ℕ) × (d2 ≤ m) × (all_arguments (suc (suc k)) before d (c ∷ h.0 ++ tail) ≡ all_arguments (suc k) (before ++ y ∷ []) d2 tail))
            ⊎ NestsTooDeep n m (all_arguments (suc (suc k)) before d (c ∷ h.0 ++ tail))
            → ((d2 : ℕ) → d2 ≤ m → ArgumentsAgain n m (all_arguments (suc k) (before ++ y ∷ []) d2 tail) ((before ++ y ∷ []) ++ z ∷ zs) rest)
            → ArgumentsAgain n m (all_arguments (suc (suc k)) before d (c ∷ b ++ rest)) (before ++ y ∷ z ∷ zs) rest
        by_step tail regrouped (inl s) rec = by_rest tail regrouped s.0 s.2 (rec s.0 s.1)
        by_step tail regrouped (inr s) rec = inr (s.0, ap (λ (q : List Lexeme). all_arguments (suc (suc k)) before d (c ∷ q)) regrouped ∙ s.1)

  -- the first argument, and what is behind it
  arguments_first : (x : Tree) (rest : List Lexeme) (a : List Lexeme) → begins w.Close (a ++ rest) ≡ false → (m : ℕ) → Again n m false (read Expression (a ++ rest)) a x rest
      → ((d : ℕ) × (d ≤ m) × (arguments read n (a ++ rest) ≡ all_arguments (suc (length rest)) (x ∷ []) d rest)) ⊎ NestsTooDeep n m (arguments read n (a ++ rest))
  unfolding arguments
  arguments_first x rest a more m (inl h) = inl (h.depth, h.fits, rw (more, h.is) refl)
  arguments_first x rest a more m (inr h) = inr (h.0, rw (more, h.1) refl)

  no_close : (m : ℕ) (a : List Lexeme) (x : Tree) (rest : List Lexeme) → IsDerived m Expression a x → begins w.Close (a ++ rest) ≡ false
  no_close m a x rest h = starts_never starts_expression w.Close refl refl (a ++ rest) (starts_append starts_expression a rest (derived_starts m Expression a x h))

  no_arguments : (rest : List Lexeme) → begins w.Close rest ≡ true → arguments read n rest ≡ arguments_of [] 0 rest
  unfolding arguments
  no_arguments rest close = rw close refl

  arguments_again : (m : ℕ) (es : List Tree) (b : List Lexeme) (c : Lexeme) (rest : List Lexeme) → AreSeparated (IsDerived m Expression) b es → Is w.Close c
      → ArgumentsAgain n m (arguments read n (b ++ c ∷ rest)) es (c ∷ rest)
  arguments_again m [] b c rest h close = inl (0, omega arith, rw h (no_arguments (c ∷ rest) (begins_again w.Close c rest close)))
  arguments_again m (x ∷ []) b c rest h close = by_first
      (arguments_first x (c ∷ rest) b (no_close m b x (c ∷ rest) h) m (again m Expression b x (c ∷ rest) h (ended_by w.Close c rest close refl))) where
        by_first : ((d : ℕ) × (d ≤ m) × (arguments read n (b ++ c ∷ rest) ≡ all_arguments (suc (length (c ∷ rest))) (x ∷ []) d (c ∷ rest)))
            ⊎ NestsTooDeep n m (arguments read n (b ++ c ∷ rest)) → ArgumentsAgain n m (arguments read n (b ++ c ∷ rest)) (x ∷ []) (c ∷ rest)
        by_first (inl s) = inl (s.0, s.1, s.2 ∙ arguments_end (suc (length (c ∷ rest))) (x ∷ []) s.0 (c ∷ rest) (rw close refl) (omega arith))
        by_first (inr s) = inr s
  arguments_again m (x ∷ y ∷ ys) b c rest h close =
      let tail : List Lexeme = h.1 ∷ h.2 ++ c ∷ rest in
      let regrouped : b ++ c ∷ rest ≡ h.0 ++ tail = rw h.3 (append_assoc h.0 (h.1 ∷ h.2) (c ∷ rest)) in
      by_first tail regrouped (arguments_first x tail h.0 (no_close m h.0 x tail h.5) m (again m Expression h.0 x tail h.5 (ended_by w.Comma h.1 (h.2 ++ c ∷ rest) h.4 refl)))
      (λ d le. arguments_more m y ys (length tail) (x ∷ []) d h.1 h.2 (c ∷ rest) le h.4 h.6 (ended_by w.Close c rest close refl) (rw close refl) (omega (arith, length-append h.2 (c ∷ rest)))) where
        by_rest : (tail : List Lexeme) → b ++ c ∷ rest ≡ h.0 ++ tail → (d : ℕ) → arguments read n (h.0 ++ tail) ≡ all_arguments (suc (length tail)) (x ∷ []) d tail
            → ArgumentsAgain n m (all_arguments (suc (length tail)) (x ∷ []) d tail) (x ∷ y ∷ ys) (c ∷ rest) → ArgumentsAgain n m (arguments read n (b ++ c ∷ rest)) (x ∷ y ∷ ys) (c ∷ rest)
        by_rest tail regrouped d e (inl s) = inl (s.0, s.1, ap (arguments read n) regrouped ∙ e ∙ s.2)
        by_rest tail regrouped d e (inr s) = inr (s.0, ap (arguments read n) regrouped ∙ e ∙ s.1)

        by_first : (tail : List Lexeme) → b ++ c ∷ rest ≡ h.0 ++ tail → ((d : ℕ) × (d ≤ m) × (arguments read n (h.0 ++ tail) ≡ all_arguments (suc (length tail)) (x ∷ []) d tail))
            ⊎ NestsTooDeep n m (arguments read n (h.0 ++ tail))
            → ((d : ℕ) → d ≤ m → ArgumentsAgain n m (all_arguments (suc (length tail)) (x ∷ []) d tail) (x ∷ y ∷ ys) (c ∷ rest))
            → ArgumentsAgain n m (arguments read n (b ++ c ∷ rest)) (x ∷ y ∷ ys) (c ∷ rest)
        by_first tail regrouped (inl s) rec = by_rest tail regrouped s.0 s.2 (rec s.0 s.1)
        by_first tail regrouped (inr s) rec = inr (s.0, ap (arguments read n) regrouped ∙ s.1)

  -- ---- primary

  abbrev pub PrimaryAgain : ℕ → List Lexeme → Tree → List Lexeme → Type 0
  PrimaryAgain m ts e rest = Again (suc n) (suc m) true (primary read n (ts ++ rest)) ts e rest

  -- a token without parts
  alone : (m : ℕ) (t : Lexeme) (ts rest : List Lexeme) (o : Op) (e : Tree) → ts ≡ t ∷ [] → e ≡ node o [] ts → primary read n (t ∷ rest) ≡ Ok (built o [] true 1 t.from t.to rest)
      → PrimaryAgain m ts e rest
  alone m t ts rest o e parts same is =
      inl (record {
        depth = 1;
        flag = true;
        fits = omega arith;
        unary = λ u. refl;
        is = ap (λ (z : List Lexeme). primary read n (z ++ rest)) parts ∙ is
            ∙ built_is o [] true 1 t.from t.to ts rest e (sym (ap from_of parts)) (sym (ap to_of parts)) same;
      })

  name_at : (t : Lexeme) (rest : List Lexeme) → Is w.Name t → begins w.Open rest ≡ false → primary read n (t ∷ rest) ≡ Ok (built op.Name [] true 1 t.from t.to rest)
  unfolding primary named
  name_at t rest is stop = rw (is, stop) refl

  number_at : (t : Lexeme) (value : ℕ) (rest : List Lexeme) → Is (w.Number value) t → primary read n (t ∷ rest) ≡ Ok (built (op.Number value) [] true 1 t.from t.to rest)
  unfolding primary
  number_at t value rest is = rw is refl

  character_at : (t : Lexeme) (value : ℕ) (rest : List Lexeme) → Is (w.Character value) t → primary read n (t ∷ rest) ≡ Ok (built (op.Char value) [] true 1 t.from t.to rest)
  unfolding primary
  character_at t value rest is = rw is refl

  text_at : (t : Lexeme) (a rest : List Lexeme) → Is w.Text t → past_strings t.to (a ++ rest) ≡ (to_of (t ∷ a), rest)
      → primary read n (t ∷ a ++ rest) ≡ Ok (built op.Text [] true 1 t.from (to_of (t ∷ a)) rest)
  unfolding primary
  text_at t a rest is strings = rw (is, strings) refl

  text_again : (m : ℕ) (ts : List Lexeme) (e : Tree) (rest : List Lexeme) (t : Lexeme) (a : List Lexeme) → ts ≡ t ∷ a → AreStrings (t ∷ a) → e ≡ node op.Text [] ts
      → begins w.Text rest ≡ false → PrimaryAgain m ts e rest
  text_again m ts e rest t a parts strings same stop =
      inl (record {
        depth = 1;
        flag = true;
        fits = omega arith;
        unary = λ u. refl;
        is = ap (λ (z : List Lexeme). primary read n (z ++ rest)) parts
            ∙ text_at t a rest strings.0 (strings_again t a rest strings stop) ∙ built_is op.Text [] true 1 t.from (to_of (t ∷ a)) ts rest e (sym (ap from_of parts)) (sym (ap to_of parts)) same;
      })

  call_at : (t o : Lexeme) (inner : List Lexeme) (c : Lexeme) (rest : List Lexeme) (es : List Tree) (d : ℕ) → Is w.Name t → Is w.Open o → Is w.Close c
      → arguments read n (inner ++ c ∷ rest) ≡ arguments_of es d (c ∷ rest) → primary read n (t ∷ o ∷ inner ++ c ∷ rest) ≡ Ok (built (op.Call (name_of t)) es true (d + 1) t.from c.to rest)
  unfolding primary named
  call_at t o inner c rest es d p q r is = rw (p, begins_again w.Open o (inner ++ c ∷ rest) q, is, expect_again w.Close c rest r) refl

  call_deep : (t o : Lexeme) (ts : List Lexeme) → Is w.Name t → Is w.Open o → arguments read n ts ≡ Err refusal.TooDeep → primary read n (t ∷ o ∷ ts) ≡ Err refusal.TooDeep
  unfolding primary named
  call_deep t o ts p q is = rw (p, begins_again w.Open o ts q, is) refl

  call_again : (m : ℕ) (ts : List Lexeme) (e : Tree) (rest : List Lexeme) → IsCall (IsDerived m) ts e → PrimaryAgain m ts e rest
  call_again m ts e rest (t, b, es, parts, name, (o, inner, c, between, opens, closes, each), same) =
      let whole : ts ≡ t ∷ o ∷ inner ++ c ∷ [] = parts ∙ ap (λ (z : List Lexeme). t ∷ z) between in
      let regrouped : ts ++ rest ≡ t ∷ o ∷ inner ++ c ∷ rest = rw whole (ap (λ (z : List Lexeme). t ∷ o ∷ z) (append_assoc inner (c ∷ []) rest)) in
      let ends : c.to ≡ to_of ts = sym (ap to_of whole ∙ to_of_append (t ∷ o ∷ inner) (c ∷ []) (omega arith)) in
      by_arguments regrouped (sym (ap from_of whole)) ends (arguments_again m es inner c rest each closes) where
        by_arguments : ts ++ rest ≡ t ∷ o ∷ inner ++ c ∷ rest → t.from ≡ from_of ts → c.to ≡ to_of ts → ArgumentsAgain n m (arguments read n (inner ++ c ∷ rest)) es (c ∷ rest)
            → PrimaryAgain m ts e rest
        by_arguments regrouped begin ends (inl s) =
            let p = s.1 in
            inl (record {
              depth = s.0 + 1;
              flag = true;
              fits = omega arith;
              unary = λ u. refl;
              is = ap (primary read n) regrouped
                  ∙ call_at t o inner c rest es s.0 name opens closes s.2 ∙ built_is (op.Call (name_of t)) es true (s.0 + 1) t.from c.to ts rest e begin ends same;
            })
        by_arguments regrouped begin ends (inr s) = let p = s.0 in inr (omega arith, ap (primary read n) regrouped ∙ call_deep t o (inner ++ c ∷ rest) name opens s.1)

  between_at : (o : Lexeme) (inner : List Lexeme) (c : Lexeme) (rest : List Lexeme) (e : Tree) (d : ℕ) (flag : Bool) → Is w.Open o → Is w.Close c
      → read Expression (inner ++ c ∷ rest) ≡ Ok (state e flag d inner (c ∷ rest))
      → primary read n (o ∷ inner ++ c ∷ rest) ≡ Ok (record { tree = e; unary = true; depth = d + 1; from = o.from; to = c.to; rest = rest })
  unfolding primary between
  between_at o inner c rest e d flag p q is = rw (p, is, expect_again w.Close c rest q) refl

  between_deep : (o : Lexeme) (ts : List Lexeme) → Is w.Open o → read Expression ts ≡ Err refusal.TooDeep → primary read n (o ∷ ts) ≡ Err refusal.TooDeep
  unfolding primary between
  between_deep o ts p is = rw (p, is) refl

  abbrev whole_state : Tree → ℕ → (from to : ℕ) → List Lexeme → Read
  whole_state e d from to rest = Ok (record { tree = e; unary = true; depth = d; from = from; to = to; rest = rest })

  same_places : (e : Tree) (d from to : ℕ) (ts rest : List Lexeme) → from ≡ from_of ts → to ≡ to_of ts → whole_state e d from to rest ≡ whole_state e d (from_of ts) (to_of ts) rest
  same_places e d from to ts rest p q = rw (p, q) refl

  between_again : (m : ℕ) (ts : List Lexeme) (e : Tree) (rest : List Lexeme) (o : Lexeme) (inner : List Lexeme) (c : Lexeme) → ts ≡ o ∷ inner ++ c ∷ [] → Is w.Open o → Is w.Close c
      → IsDerived m Expression inner e → PrimaryAgain m ts e rest
  between_again m ts e rest o inner c parts opens closes h =
      let regrouped : ts ++ rest ≡ o ∷ inner ++ c ∷ rest = rw parts (ap (λ (z : List Lexeme). o ∷ z) (append_assoc inner (c ∷ []) rest)) in
      by_inner regrouped (again m Expression inner e (c ∷ rest) h (ended_by w.Close c rest closes refl)) where
        by_inner : ts ++ rest ≡ o ∷ inner ++ c ∷ rest → Again n m false (read Expression (inner ++ c ∷ rest)) inner e (c ∷ rest) → PrimaryAgain m ts e rest
        by_inner regrouped (inl s) =
            let p = s.fits in
            inl (record {
              depth = s.depth + 1;
              flag = true;
              fits = omega arith;
              unary = λ u. refl;
              is = ap (primary read n) regrouped
                  ∙ between_at o inner c rest e s.depth s.flag opens closes s.is
                  ∙ same_places e (s.depth + 1) o.from c.to ts rest (sym (ap from_of parts)) (sym (ap to_of parts ∙ to_of_append (o ∷ inner) (c ∷ []) (omega arith)));
            })
        by_inner regrouped (inr s) = let p = s.0 in inr (omega arith, ap (primary read n) regrouped ∙ between_deep o (inner ++ c ∷ rest) opens s.1)

  pub primary_again : (m : ℕ) (ts : List Lexeme) (e : Tree) (rest : List Lexeme) → IsPrimary (IsDerived m) ts e → EndsPrimary rest → PrimaryAgain m ts e rest
  primary_again m ts e rest (inl h) stop = alone m h.0 ts rest op.Name e h.1 h.3 (name_at h.0 rest h.2 stop.0)
  primary_again m ts e rest (inr (inl h)) stop = call_again m ts e rest h
  primary_again m ts e rest (inr (inr (inl h))) stop = alone m h.0 ts rest (op.Number h.1) e h.2 h.4 (number_at h.0 h.1 rest h.3)
  primary_again m ts e rest (inr (inr (inr (inl h)))) stop = alone m h.0 ts rest (op.Char h.1) e h.2 h.4 (character_at h.0 h.1 rest h.3)
  primary_again m ts e rest (inr (inr (inr (inr (inl h))))) stop = text_again m ts e rest h.0 h.1 h.2 (subst (λ (z : List Lexeme). AreStrings z) h.2 h.3) h.4 stop.1
  primary_again m ts e rest (inr (inr (inr (inr (inr h))))) stop = between_again m ts e rest h.0 h.1 h.2 h.3 h.4 h.5 h.6

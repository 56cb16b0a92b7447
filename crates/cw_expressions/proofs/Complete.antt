-- What derives a tree is read as that tree, or nests too deep.
use Rattle.std.proofs.Common.{◌≡◌, ℕ, zero, suc, ◌+◌, ◌<◌, ◌≤◌, max, Bool, true, false, cond, ltb, List, [], ◌∷◌, ◌++◌, length, Ok, Err, Some, None, is_some, refl, sym, ap, subst}
use Rattle.std.proofs.Common.{◌∙◌, append_assoc, arith, length-append, inl, inr}
use Rattle.std.proofs.lemmas.Bool.{ltb-true, false≢true}
use Rattle.cw_syntax.specs.declared.program.CType.{CType}
use Rattle.cw_syntax.specs.declared.program.Op.{Op}
use Rattle.cw_syntax.specs.declared.program.Op.TheVariants as op
use Rattle.cw_syntax.specs.Trees.{Tree}
use Rattle.cw_grammar.specs.declared.terminals.Lexeme.{Lexeme}
use Rattle.cw_grammar.specs.declared.terminals.Terminal.{Terminal}
use Rattle.cw_grammar.specs.declared.terminals.Terminal.TheVariants as w
use Rattle.cw_grammar.specs.declared.rules.Rule.{Rule}
use Rattle.cw_grammar.specs.declared.rules.Rule.TheVariants.{Expression, Level, Unary, Postfix}
use Rattle.cw_grammar.specs.Terminals.{same}
use Rattle.cw_grammar.specs.Operators as operators
use Rattle.cw_grammar.specs.Lexemes.{Is, from_of, to_of, IsBetween}
use Rattle.cw_grammar.specs.Types.{IsTypeName}
use Rattle.cw_grammar.specs.Expressions.{node, IsOperand, IsLevel, IsAssignment, IsRule, IsDerived, loosest}
use Rattle.cw_expressions.specs.declared.refusal.Refusal.TheVariants as refusal
use Rattle.cw_expressions.specs.Cursor.{◌>>=◌, expect}
use Rattle.cw_expressions.specs.Reading.{Got, Read, built, above, begins_cast, next_of, goes_on_at, is_suffixed, primary, suffixed, postfix, size_of, prefixed, unary, cast}
use Rattle.cw_expressions.specs.Reading.{operand, joined, chain, assigned, expression, by_rule, read_at}
use Rattle.cw_expressions.proofs.Steps.{expect_again, begins_again, from_of_append, to_of_cons, to_of_append}
use Rattle.cw_expressions.proofs.TypesComplete.{type_between_again, type_between_begins}
use Rattle.cw_expressions.proofs.Follows.{differs, starts_primary, Starts, starts_append, postfix_starts, derived_some, unary_no_cast, Stops, StopsAt, stops_below, assign_stops, ended_by, no_suffix}
use Rattle.cw_expressions.proofs.Again.{state, Again, wants_unary, unwanted, built_is, over_again, pair_again, Arrives, loop_starts, loop_stops, loop_steps}
use Rattle.cw_expressions.proofs.PrimaryComplete.{EndsPrimary, ends_primary, step_sign, binary_here, primary_again}

-- a suffix follows neither a name's parenthesis nor a string
suffix_ends : (t : Lexeme) (ts : List Lexeme) (number : ℕ) → operators.suffix t.terminal ≡ Some number → EndsPrimary (t ∷ ts)
suffix_ends t ts number is = (
  differs (λ terminal. is_some (operators.suffix terminal)) t.terminal w.Open refl (rw is refl) refl,
  differs (λ terminal. is_some (operators.suffix terminal)) t.terminal w.Text refl (rw is refl) refl,
)

no_bracket : (t : Lexeme) (number : ℕ) → operators.suffix t.terminal ≡ Some number → same t.terminal w.OpenBracket ≡ false
no_bracket t number is = differs (λ terminal. is_some (operators.suffix terminal)) t.terminal w.OpenBracket refl (rw is refl) refl

module _ (n : ℕ) (read : Rule → List Lexeme → Read) (again : (m : ℕ) (rule : Rule) (ts : List Lexeme) (e : Tree) (rest : List Lexeme) → IsDerived m rule ts e → StopsAt rule rest
    → Again n m (wants_unary rule) (read rule (ts ++ rest)) ts e rest) where
  -- ---- postfix

  index_reads : (x : Tree) (flag : Bool) (d : ℕ) (a : List Lexeme) (o : Lexeme) (ts : List Lexeme) → Is w.OpenBracket o
      → suffixed read n (state x flag d a (o ∷ ts)) ≡ (read Expression ts >>= λ y. expect w.CloseBracket y.rest >>= λ c. above n (max d y.depth)
      (built op.Index (x ∷ y.tree ∷ []) true (max d y.depth + 1) (from_of a) c.0.to c.1))
  unfolding suffixed
  index_reads x flag d a o ts is = rw (begins_again w.OpenBracket o ts is) refl

  index_again : (m d : ℕ) (flag : Bool) (a : List Lexeme) (o : Lexeme) (inner : List Lexeme) (c : Lexeme) (rest : List Lexeme) (x y : Tree) (ts : List Lexeme) (e : Tree)
      → ts ≡ a ++ (o ∷ inner ++ c ∷ []) → 0 < length a → d ≤ m → Is w.OpenBracket o → Is w.CloseBracket c → Again n m false (read Expression (inner ++ c ∷ rest)) inner y (c ∷ rest)
      → e ≡ node op.Index (x ∷ y ∷ []) ts
      → Again (suc n) (suc m) true (suffixed read n (state x flag d a (o ∷ inner ++ c ∷ rest))) ts e rest
  index_again m d flag a o inner c rest x y ts e parts some le opens closes (inr h) same = let p = h.0 in inr (omega arith, index_reads x flag d a o (inner ++ c ∷ rest) opens ∙ rw h.1 refl)
  index_again m d flag a o inner c rest x y ts e parts some le opens closes (inl h) same = by_test (ltb n (max d h.depth)) refl where
    by_test : (deep : Bool) → ltb n (max d h.depth) ≡ deep → Again (suc n) (suc m) true (suffixed read n (state x flag d a (o ∷ inner ++ c ∷ rest))) ts e rest
    by_test true test =
        let p = h.fits in
        let q = ltb-true n (max d h.depth) test in
        inr (omega arith, index_reads x flag d a o (inner ++ c ∷ rest) opens ∙ rw (h.is, expect_again w.CloseBracket c rest closes, test) refl)
    by_test false test =
        let p = h.fits in
        let b : List Lexeme = o ∷ inner ++ c ∷ [] in
        let begin : from_of a ≡ from_of ts = sym (ap from_of parts ∙ from_of_append a b some) in
        let ends : c.to ≡ to_of ts = sym (ap to_of parts ∙ to_of_append a b (omega arith) ∙ to_of_append (o ∷ inner) (c ∷ []) (omega arith)) in
        inl (record {
          depth = max d h.depth + 1;
          flag = true;
          fits = omega arith;
          unary = λ u. u;
          is = index_reads x flag d a o (inner ++ c ∷ rest) opens
              ∙ rw (h.is, expect_again w.CloseBracket c rest closes, test) (built_is op.Index (x ∷ y ∷ []) true (max d h.depth + 1) (from_of a) c.to ts rest e begin ends same);
        })

  suffix_reads : (x : Tree) (flag : Bool) (d : ℕ) (a : List Lexeme) (t : Lexeme) (rest : List Lexeme) (number : ℕ) → operators.suffix t.terminal ≡ Some number
      → suffixed read n (state x flag d a (t ∷ rest)) ≡ above n d (built (op.Suffix number) (x ∷ []) true (d + 1) (from_of a) t.to rest)
  unfolding suffixed
  suffix_reads x flag d a t rest number is = rw (no_bracket t number is, is) refl

  suffix_again : (m d : ℕ) (flag : Bool) (a : List Lexeme) (t : Lexeme) (rest : List Lexeme) (number : ℕ) (x : Tree) (ts : List Lexeme) (e : Tree) → ts ≡ a ++ t ∷ [] → 0 < length a
      → d ≤ m → operators.suffix t.terminal ≡ Some number → e ≡ node (op.Suffix number) (x ∷ []) ts
      → Again (suc n) (suc m) true (suffixed read n (state x flag d a (t ∷ rest))) ts e rest
  suffix_again m d flag a t rest number x ts e parts some le is same = by_test (ltb n d) refl where
    by_test : (deep : Bool) → ltb n d ≡ deep → Again (suc n) (suc m) true (suffixed read n (state x flag d a (t ∷ rest))) ts e rest
    by_test true test =
        let q = ltb-true n d test in
        inr (omega arith, suffix_reads x flag d a t rest number is ∙ rw test refl)
    by_test false test =
        let begin : from_of a ≡ from_of ts = sym (ap from_of parts ∙ from_of_append a (t ∷ []) some) in
        let ends : t.to ≡ to_of ts = sym (ap to_of parts ∙ to_of_append a (t ∷ []) (omega arith)) in
        inl (record {
          depth = d + 1;
          flag = true;
          fits = omega arith;
          unary = λ u. u;
          is = suffix_reads x flag d a t rest number is ∙ rw test (built_is (op.Suffix number) (x ∷ []) true (d + 1) (from_of a) t.to ts rest e begin ends same);
        })

  abbrev PostfixArrives : ℕ → List Lexeme → Tree → List Lexeme → Type 0
  PostfixArrives m ts e rest = Arrives (suc n) m true is_suffixed (suffixed read n) (postfix read n (ts ++ rest)) ts e rest

  postfix_starts_loop : (m : ℕ) (ts : List Lexeme) (e : Tree) (rest : List Lexeme) → Again (suc n) m true (primary read n (ts ++ rest)) ts e rest → PostfixArrives m ts e rest
  unfolding postfix
  postfix_starts_loop m ts e rest h = loop_starts (suc n) true is_suffixed (suffixed read n) m (primary read n (ts ++ rest)) ts e rest h

  arrive_postfix : (m : ℕ) (ts : List Lexeme) (e : Tree) (rest : List Lexeme) → IsDerived m Postfix ts e → EndsPrimary rest → PostfixArrives m ts e rest
  arrive_postfix zero ts e rest h stop = absurd h
  arrive_postfix (suc m) ts e rest (inl h) stop = postfix_starts_loop (suc m) ts e rest (primary_again n read again m ts e rest h stop)
  arrive_postfix (suc m) ts e rest (inr (inl (a, b, x, y, parts, base, (o, inner, c, between, opens, closes, index), same))) stop =
      let mid : List Lexeme = o ∷ inner ++ c ∷ rest in
      let whole : ts ≡ a ++ (o ∷ inner ++ c ∷ []) = parts ∙ ap (λ (z : List Lexeme). a ++ z) between in
      let regrouped : a ++ mid ≡ ts ++ rest = sym (rw whole (append_assoc a (o ∷ inner ++ c ∷ []) rest ∙ ap (λ (z : List Lexeme). a ++ (o ∷ z)) (append_assoc inner (c ∷ []) rest))) in
      let some = derived_some m Postfix a x base in
      let mid_ends : EndsPrimary mid = (rw opens refl, rw opens refl) in
      let go : is_suffixed mid ≡ true = rw (begins_again w.OpenBracket o (inner ++ c ∷ rest) opens) refl in
      let before : PostfixArrives m a x mid = arrive_postfix m a x mid base mid_ends in
      let here : Arrives (suc n) m true is_suffixed (suffixed read n) (postfix read n (ts ++ rest)) a x mid =
      subst (λ (z : List Lexeme). Arrives (suc n) m true is_suffixed (suffixed read n) (postfix read n z) a x mid) regrouped before in
      loop_steps (suc n) true is_suffixed (suffixed read n) m (postfix read n (ts ++ rest)) a x mid ts e rest here go (omega (arith, length-append inner (c ∷ rest)))
      (λ flag d le. index_again m d flag a o inner c rest x y ts e whole some le opens closes (again m Expression inner y (c ∷ rest) index (ended_by w.CloseBracket c rest closes refl)) same)
  arrive_postfix (suc m) ts e rest (inr (inr (a, t, number, x, parts, is, base, same))) stop =
      let mid : List Lexeme = t ∷ rest in
      let regrouped : a ++ mid ≡ ts ++ rest = sym (rw parts (append_assoc a (t ∷ []) rest)) in
      let some = derived_some m Postfix a x base in
      let go : is_suffixed mid ≡ true = rw (no_bracket t number is, is) refl in
      let before : PostfixArrives m a x mid = arrive_postfix m a x mid base (suffix_ends t rest number is) in
      let here : Arrives (suc n) m true is_suffixed (suffixed read n) (postfix read n (ts ++ rest)) a x mid =
      subst (λ (z : List Lexeme). Arrives (suc n) m true is_suffixed (suffixed read n) (postfix read n z) a x mid) regrouped before in
      loop_steps (suc n) true is_suffixed (suffixed read n) m (postfix read n (ts ++ rest)) a x mid ts e rest here go (omega arith)
      (λ flag d le. suffix_again m d flag a t rest number x ts e parts some le is same)

  postfix_again : (m : ℕ) (ts : List Lexeme) (e : Tree) (rest : List Lexeme) → IsDerived m Postfix ts e → Stops 0 rest → Again (suc n) m true (postfix read n (ts ++ rest)) ts e rest
  postfix_again m ts e rest h stop = loop_stops (suc n) true is_suffixed (suffixed read n) m (postfix read n (ts ++ rest)) ts e rest
      (arrive_postfix m ts e rest h (ends_primary rest stop)) (no_suffix rest stop)

  -- ---- unary

  abbrev UnaryAgain : ℕ → List Lexeme → Tree → List Lexeme → Type 0
  UnaryAgain m ts e rest = Again (suc n) m true (unary read n (ts ++ rest)) ts e rest

  prefixed_is : (number : ℕ) (rule : Rule) (t : Lexeme) (ts : List Lexeme)
      → prefixed read n number rule t ts ≡ (read rule ts >>= λ y. Ok (built (op.Prefix number) (y.tree ∷ []) true (y.depth + 1) t.from y.to y.rest))
  unfolding prefixed
  prefixed_is number rule t ts = refl

  signed_is : (t : Lexeme) (ts : List Lexeme) (number : ℕ) → operators.sign t.terminal ≡ Some number → unary read n (t ∷ ts) ≡ prefixed read n number (Level 0) t ts
  unfolding unary
  signed_is t ts number is = rw (is, unary) refl

  stepped_is : (t : Lexeme) (ts : List Lexeme) (number : ℕ) → operators.step t.terminal ≡ Some number → unary read n (t ∷ ts) ≡ prefixed read n number Unary t ts
  unfolding unary
  stepped_is t ts number is = rw (step_sign t.terminal number is, is, unary) refl

  size_of_is : (t : Lexeme) (ts : List Lexeme) → Is w.SizeOf t → unary read n (t ∷ ts) ≡ size_of read n t ts
  unfolding unary
  size_of_is t ts is = rw is refl

  size_of_part : (t : Lexeme) (ts : List Lexeme) → begins_cast ts ≡ false → size_of read n t ts ≡ (read Unary ts >>= λ y. Ok (built op.SizeOf (y.tree ∷ []) true (y.depth + 1) t.from y.to y.rest))
  unfolding size_of
  size_of_part t ts e = rw e refl

  size_of_kind : (t : Lexeme) (b : List Lexeme) (kind : CType) (rest : List Lexeme) → IsBetween w.Open w.Close IsTypeName b kind
      → size_of read n t (b ++ rest) ≡ Ok (built (op.SizeOfType kind) [] true 1 t.from (to_of b) rest)
  unfolding size_of
  size_of_kind t b kind rest h = rw (type_between_begins b kind rest h, type_between_again b kind rest h) refl

  postfix_is : (ts : List Lexeme) → Starts starts_primary ts → unary read n ts ≡ postfix read n ts
  unfolding unary
  postfix_is [] h = absurd h
  postfix_is (t ∷ ts) h = by_terminal t.terminal h where
    by_terminal : (terminal : Terminal) → starts_primary terminal ≡ true → elim (operators.sign terminal) as
        (λ z. Read) [
          | Some number ↦ prefixed read n number (Level 0) t ts
          | None ↦ elim (operators.step terminal) as
              (λ z. Read) [ Some number ↦ prefixed read n number Unary t ts | None ↦ cond (same terminal w.SizeOf) (size_of read n t ts) (postfix read n (t ∷ ts)) ]
        ] ≡ postfix read n (t ∷ ts)
    by_terminal w.Name h = refl
    by_terminal (w.Number value) h = refl
    by_terminal (w.Character value) h = refl
    by_terminal w.Text h = refl
    by_terminal w.Open h = refl
    by_terminal _ h = absurd (false≢true h)

  -- a token before one part
  before_again : (m : ℕ) (o : Op) (rule : Rule) (t : Lexeme) (b : List Lexeme) (x : Tree) (ts : List Lexeme) (e : Tree) (rest : List Lexeme) → ts ≡ t ∷ b → IsDerived m rule b x
      → StopsAt rule rest → e ≡ node o (x ∷ []) ts → unary read n (t ∷ b ++ rest) ≡
      (read rule (b ++ rest) >>= λ y. Ok (built o (y.tree ∷ []) true (y.depth + 1) t.from y.to y.rest)) → UnaryAgain (suc m) ts e rest
  before_again m o rule t b x ts e rest parts h stop same is =
      let whole : e ≡ node o (x ∷ []) ((t ∷ []) ++ b) = same ∙ ap (node o (x ∷ [])) parts in
      let r : Again (suc n) (suc m) true (read rule (b ++ rest) >>= λ y. Ok (built o (y.tree ∷ []) true (y.depth + 1) t.from y.to y.rest)) (t ∷ b) e rest =
      over_again n m (read rule (b ++ rest)) o true (wants_unary rule) (t ∷ []) b rest x t.from (derived_some m rule b x h) refl (again m rule b x rest h stop) e whole in
      rw (parts, is) r

  unary_again : (m : ℕ) (ts : List Lexeme) (e : Tree) (rest : List Lexeme) → IsDerived m Unary ts e → Stops 0 rest → UnaryAgain m ts e rest
  unary_again zero ts e rest h stop = absurd h
  unary_again (suc m) ts e rest (inl (t, b, number, x, parts, is, part, same)) stop =
      before_again m (op.Prefix number) (Level 0) t b x ts e rest parts part stop same (signed_is t (b ++ rest) number is ∙ prefixed_is number (Level 0) t (b ++ rest))
  unary_again (suc m) ts e rest (inr (inl (t, b, number, x, parts, is, part, same))) stop =
      before_again m (op.Prefix number) Unary t b x ts e rest parts part stop same (stepped_is t (b ++ rest) number is ∙ prefixed_is number Unary t (b ++ rest))
  unary_again (suc m) ts e rest (inr (inr (inl (t, b, x, parts, is, part, same)))) stop =
      before_again m op.SizeOf Unary t b x ts e rest parts part stop same (size_of_is t (b ++ rest) is ∙ size_of_part t (b ++ rest) (unary_no_cast m b x rest part))
  unary_again (suc m) ts e rest (inr (inr (inr (inl (t, b, kind, parts, is, between, same))))) stop =
      let some : 0 < length b = omega (arith, ap length between.3) in
      let ends : to_of b ≡ to_of ts = sym (ap to_of parts ∙ to_of_cons t b some) in
      inl (record {
        depth = 1;
        flag = true;
        fits = omega arith;
        unary = λ u. refl;
        is = ap (λ (z : List Lexeme). unary read n (z ++ rest)) parts ∙ size_of_is t (b ++ rest) is ∙ size_of_kind t b kind rest between
            ∙ built_is (op.SizeOfType kind) [] true 1 t.from (to_of b) ts rest e (sym (ap from_of parts)) ends same;
      })
  unary_again (suc m) ts e rest (inr (inr (inr (inr h)))) stop =
      rw (postfix_is (ts ++ rest) (starts_append starts_primary ts rest (postfix_starts (suc m) ts e h))) (postfix_again (suc m) ts e rest h stop)

  -- ---- operands and levels

  cast_reads : (a : List Lexeme) (kind : CType) (ts : List Lexeme) → IsBetween w.Open w.Close IsTypeName a kind
      → chain read n 0 (a ++ ts) ≡ (read (Level 0) ts >>= λ y. Ok (built (op.Cast kind) (y.tree ∷ []) false (y.depth + 1) (from_of a) y.to y.rest))
  unfolding chain operand cast
  cast_reads a kind ts h = rw (type_between_begins a kind ts h, type_between_again a kind ts h) refl

  unary_reads : (ts : List Lexeme) → begins_cast ts ≡ false → chain read n 0 ts ≡ unary read n ts
  unfolding chain operand
  unary_reads ts e = rw e refl

  abbrev LevelAgain : ℕ → ℕ → Bool → List Lexeme → Tree → List Lexeme → Type 0
  LevelAgain l m wanted ts e rest = Again (suc n) m wanted (chain read n l (ts ++ rest)) ts e rest

  unary_operand_again : (m : ℕ) (ts : List Lexeme) (e : Tree) (rest : List Lexeme) → IsDerived m Unary ts e → Stops 0 rest → LevelAgain 0 m true ts e rest
  unary_operand_again m ts e rest h stop = rw (unary_reads (ts ++ rest) (unary_no_cast m ts e rest h)) (unary_again m ts e rest h stop)

  operand_again : (m : ℕ) (ts : List Lexeme) (e : Tree) (rest : List Lexeme) → IsOperand (IsDerived m) ts e → Stops 0 rest → LevelAgain 0 (suc m) false ts e rest
  operand_again m ts e rest (inr h) stop = unwanted (suc n) (suc m) true (chain read n 0 (ts ++ rest)) ts e rest (unary_operand_again (suc m) ts e rest h stop)
  operand_again m ts e rest (inl (a, b, kind, x, parts, between, part, same)) stop =
      let some : 0 < length a = omega (arith, ap length between.3) in
      let whole : e ≡ node (op.Cast kind) (x ∷ []) (a ++ b) = same ∙ ap (node (op.Cast kind) (x ∷ [])) parts in
      let r : Again (suc n) (suc m) false (read (Level 0) (b ++ rest) >>= λ y. Ok (built (op.Cast kind) (y.tree ∷ []) false (y.depth + 1) (from_of a) y.to y.rest)) (a ++ b) e rest =
      over_again n m (read (Level 0) (b ++ rest)) (op.Cast kind) false false a b rest x (from_of a) (derived_some m (Level 0) b x part) (sym (from_of_append a b some))
      (again m (Level 0) b x rest part stop) e whole in
      let is : chain read n 0 ((a ++ b) ++ rest) ≡ (read (Level 0) (b ++ rest) >>= λ y. Ok (built (op.Cast kind) (y.tree ∷ []) false (y.depth + 1) (from_of a) y.to y.rest)) =
      ap (chain read n 0) (append_assoc a b rest) ∙ cast_reads a kind (b ++ rest) between in
      rw (parts, is) r

  abbrev LevelArrives : ℕ → ℕ → Bool → List Lexeme → Tree → List Lexeme → Type 0
  LevelArrives l m wanted ts e rest = Arrives (suc n) m wanted (goes_on_at (suc l)) (joined read n l) (chain read n (suc l) (ts ++ rest)) ts e rest

  level_starts_loop : (l m : ℕ) (wanted : Bool) (ts : List Lexeme) (e : Tree) (rest : List Lexeme) → LevelAgain l m wanted ts e rest → LevelArrives l m wanted ts e rest
  unfolding chain
  level_starts_loop l m wanted ts e rest h = loop_starts (suc n) wanted (goes_on_at (suc l)) (joined read n l) m (chain read n l (ts ++ rest)) ts e rest h

  joined_reads : (l : ℕ) (x : Tree) (flag : Bool) (d : ℕ) (a : List Lexeme) (t : Lexeme) (ts : List Lexeme) (number : ℕ) → operators.binary t.terminal ≡ Some (number, suc l)
      → joined read n l (state x flag d a (t ∷ ts)) ≡ (read (Level l) ts >>= λ y. above n (max d y.depth)
      (built (op.Binary number) (x ∷ y.tree ∷ []) false (max d y.depth + 1) (from_of a) y.to y.rest))
  unfolding joined
  joined_reads l x flag d a t ts number is = rw (binary_here (suc l) t ts number is) refl

  arrive_level : (l : ℕ) → ((m : ℕ) (ts : List Lexeme) (e : Tree) (rest : List Lexeme) → IsLevel (IsDerived m) l ts e → Stops l rest → LevelAgain l (suc m) false ts e rest)
      → (m : ℕ) (ts : List Lexeme) (e : Tree) (rest : List Lexeme) → IsDerived m (Level (suc l)) ts e → Stops l rest → LevelArrives l m false ts e rest
  arrive_level l lower zero ts e rest h stop = absurd h
  arrive_level l lower (suc m) ts e rest (inl h) stop = level_starts_loop l (suc m) false ts e rest (lower m ts e rest h stop)
  arrive_level l lower (suc m) ts e rest (inr (a, t, b, number, x, y, parts, is, left, right, same)) stop =
      let mid : List Lexeme = t ∷ b ++ rest in
      let regrouped : a ++ mid ≡ ts ++ rest = sym (rw parts (append_assoc a (t ∷ b) rest)) in
      let some = derived_some m (Level (suc l)) a x left in
      let other = derived_some m (Level l) b y right in
      let go : goes_on_at (suc l) mid ≡ true = rw (binary_here (suc l) t (b ++ rest) number is) refl in
      let before : LevelArrives l m false a x mid = arrive_level l lower m a x mid left (stops_below l l t (b ++ rest) number is (omega arith)) in
      let here : Arrives (suc n) m false (goes_on_at (suc l)) (joined read n l) (chain read n (suc l) (ts ++ rest)) a x mid =
      subst (λ (z : List Lexeme). Arrives (suc n) m false (goes_on_at (suc l)) (joined read n l) (chain read n (suc l) z) a x mid) regrouped before in
      let whole : e ≡ node (op.Binary number) (x ∷ y ∷ []) (a ++ t ∷ b) = same ∙ ap (node (op.Binary number) (x ∷ y ∷ [])) parts in
      loop_steps (suc n) false (goes_on_at (suc l)) (joined read n l) m (chain read n (suc l) (ts ++ rest)) a x mid ts e rest here go (omega (arith, length-append b rest))
      (λ flag d le. rw (joined_reads l x flag d a t (b ++ rest) number is, parts)
      (pair_again n m d (read (Level l) (b ++ rest)) (op.Binary number) false a t b rest x y some other le (again m (Level l) b y rest right stop) e whole))

  level_again : (l m : ℕ) (ts : List Lexeme) (e : Tree) (rest : List Lexeme) → IsLevel (IsDerived m) l ts e → Stops l rest → LevelAgain l (suc m) false ts e rest
  level_again zero m ts e rest h stop = operand_again m ts e rest h stop
  level_again (suc l) m ts e rest h stop =
      loop_stops (suc n) false (goes_on_at (suc l)) (joined read n l) (suc m) (chain read n (suc l) (ts ++ rest)) ts e rest (arrive_level l (level_again l) (suc m) ts e rest h stop.1) stop.0

  -- a unary on each level
  unary_up : (l m : ℕ) (ts : List Lexeme) (e : Tree) (rest : List Lexeme) → IsDerived m Unary ts e → Stops l rest → LevelAgain l m true ts e rest
  unary_up zero m ts e rest h stop = unary_operand_again m ts e rest h stop
  unary_up (suc l) m ts e rest h stop =
      loop_stops (suc n) true (goes_on_at (suc l)) (joined read n l) m (chain read n (suc l) (ts ++ rest)) ts e rest (level_starts_loop l m true ts e rest (unary_up l m ts e rest h stop.1)) stop.0

  -- ---- expressions

  abbrev ExpressionAgain : ℕ → List Lexeme → Tree → List Lexeme → Type 0
  ExpressionAgain m ts e rest = Again (suc n) m false (expression read n (ts ++ rest)) ts e rest

  -- behind what may be a target
  abbrev behind : Got → Read
  behind x = elim (next_of operators.assign x.rest) as (λ z. Read) [ Some number ↦ cond x.unary (assigned read n number x) (Ok x) | None ↦ Ok x ]

  target_reads : (ts : List Lexeme) (x : Got) → chain read n loosest ts ≡ Ok x → expression read n ts ≡ behind x
  unfolding expression
  target_reads ts x is = rw is refl

  plain_reads : (ts : List Lexeme) (x : Got) → chain read n loosest ts ≡ Ok x → next_of operators.assign x.rest ≡ None → expression read n ts ≡ Ok x
  plain_reads ts x is stop = target_reads ts x is ∙ rw (stop, behind) refl

  deep_reads : (ts : List Lexeme) → chain read n loosest ts ≡ Err refusal.TooDeep → expression read n ts ≡ Err refusal.TooDeep
  unfolding expression
  deep_reads ts is = rw is refl

  assigned_is : (number : ℕ) (x : Tree) (flag : Bool) (d : ℕ) (a : List Lexeme) (t : Lexeme) (b : List Lexeme)
      → assigned read n number (state x flag d a (t ∷ b)) ≡
      (read Expression b >>= λ y. above n (max d y.depth) (built (op.Assign number) (x ∷ y.tree ∷ []) false (max d y.depth + 1) (from_of a) y.to y.rest))
  unfolding assigned
  assigned_is number x flag d a t b = refl

  behind_target : (number : ℕ) (x : Tree) (flag : Bool) (d : ℕ) (a : List Lexeme) (t : Lexeme) (b : List Lexeme) → operators.assign t.terminal ≡ Some number → flag ≡ true
      → behind (state x flag d a (t ∷ b)) ≡ assigned read n number (state x flag d a (t ∷ b))
  behind_target number x flag d a t b next unary_is = rw (next, behind, unary_is) refl

  assigned_reads : (ts a : List Lexeme) (x : Tree) (d : ℕ) (flag : Bool) (t : Lexeme) (b : List Lexeme) (number : ℕ) → chain read n loosest ts ≡ Ok (state x flag d a (t ∷ b))
      → flag ≡ true → operators.assign t.terminal ≡ Some number
      → expression read n ts ≡ (read Expression b >>= λ y. above n (max d y.depth) (built (op.Assign number) (x ∷ y.tree ∷ []) false (max d y.depth + 1) (from_of a) y.to y.rest))
  assigned_reads ts a x d flag t b number is unary_is next = target_reads ts (state x flag d a (t ∷ b)) is ∙ behind_target number x flag d a t b next unary_is ∙ assigned_is number x flag d a t b

  plain_again : (m : ℕ) (ts : List Lexeme) (e : Tree) (rest : List Lexeme) → LevelAgain loosest m false ts e rest → next_of operators.assign rest ≡ None → ExpressionAgain m ts e rest
  plain_again m ts e rest (inl h) stop = inl (record { depth = h.depth; flag = h.flag; fits = h.fits; unary = h.unary; is = plain_reads (ts ++ rest) (state e h.flag h.depth ts rest) h.is stop })
  plain_again m ts e rest (inr h) stop = inr (h.0, deep_reads (ts ++ rest) h.1)

  assigned_again : (m : ℕ) (ts : List Lexeme) (e : Tree) (rest : List Lexeme) → IsAssignment (IsDerived m) ts e → StopsAt Expression rest → ExpressionAgain (suc m) ts e rest
  assigned_again m ts e rest (a, t, b, number, x, y, parts, is, target, value, same) stop =
      by_target (unary_up loosest m a x (t ∷ b ++ rest) target (assign_stops loosest t (b ++ rest) number is)) where
        regrouped : ts ++ rest ≡ a ++ (t ∷ b ++ rest)
        regrouped = rw parts (append_assoc a (t ∷ b) rest)

        whole : e ≡ node (op.Assign number) (x ∷ y ∷ []) (a ++ t ∷ b)
        whole = same ∙ ap (node (op.Assign number) (x ∷ y ∷ [])) parts

        by_target : LevelAgain loosest m true a x (t ∷ b ++ rest) → ExpressionAgain (suc m) ts e rest
        by_target (inr h) = let p = h.0 in inr (omega arith, ap (expression read n) regrouped ∙ deep_reads (a ++ (t ∷ b ++ rest)) h.1)
        by_target (inl h) =
            let reads = ap (expression read n) regrouped ∙ assigned_reads (a ++ (t ∷ b ++ rest)) a x h.depth h.flag t (b ++ rest) number h.is (h.unary refl) is in
            rw (reads, parts) (pair_again n m h.depth (read Expression (b ++ rest)) (op.Assign number) false a t b rest x y (derived_some m Unary a x target)
            (derived_some m Expression b y value) h.fits (again m Expression b y rest value stop) e whole)

  expression_again : (m : ℕ) (ts : List Lexeme) (e : Tree) (rest : List Lexeme) → IsRule (IsDerived m) Expression ts e → StopsAt Expression rest → ExpressionAgain (suc m) ts e rest
  expression_again m ts e rest (inl h) stop = plain_again (suc m) ts e rest (level_again loosest m ts e rest h stop.1) stop.0
  expression_again m ts e rest (inr h) stop = assigned_again m ts e rest h stop

  rule_again : (m : ℕ) (rule : Rule) (ts : List Lexeme) (e : Tree) (rest : List Lexeme) → IsRule (IsDerived m) rule ts e → StopsAt rule rest
      → Again (suc n) (suc m) (wants_unary rule) (by_rule read n rule (ts ++ rest)) ts e rest
  rule_again m Expression ts e rest h stop = expression_again m ts e rest h stop
  rule_again m (Level l) ts e rest h stop = level_again l m ts e rest h stop
  rule_again m Unary ts e rest h stop = unary_again (suc m) ts e rest h stop
  rule_again m Postfix ts e rest h stop = postfix_again (suc m) ts e rest h stop

pub read_again : (n m : ℕ) (rule : Rule) (ts : List Lexeme) (e : Tree) (rest : List Lexeme) → IsDerived m rule ts e → StopsAt rule rest
    → Again n m (wants_unary rule) (read_at n rule (ts ++ rest)) ts e rest
unfolding read_at
read_again n zero rule ts e rest h stop = absurd h
read_again zero (suc m) rule ts e rest h stop = inr (omega arith, refl)
read_again (suc n) (suc m) rule ts e rest h stop = rule_again n (read_at n) (read_again n) m rule ts e rest h stop

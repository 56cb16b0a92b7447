-- Statements are read as what they are, or nest too deep.
use Rattle.std.proofs.Common.{◌≡◌, ℕ, zero, suc, ◌<◌, Bool, true, false, not, cond, List, [], ◌∷◌, ◌++◌, length, Option, Result, Ok, refl, sym, ap, subst, ◌∙◌, append_assoc, arith}
use Rattle.std.proofs.Common.{length-append, inl, inr}
use Rattle.std.specs.Prelude.{◌≢◌}
use Rattle.std.proofs.lemmas.Bool.{false≢true}
use Rattle.std.proofs.lemmas.List.{append-nil}
use Rattle.cw_syntax.specs.Trees.{Tree, Statement, Stated, Form, Block, Declares, Evaluates, Empties, Labels, Chooses, Whiles, Does, Fors, Breaks, Continues, Returns, Perhaps}
use Rattle.cw_syntax.specs.Trees.{nothing, just, Declaration}
use Rattle.cw_syntax.specs.declared.program.Op.TheVariants as op
use Rattle.cw_grammar.specs.declared.terminals.Lexeme.{Lexeme}
use Rattle.cw_grammar.specs.declared.terminals.Terminal.{Terminal}
use Rattle.cw_grammar.specs.declared.terminals.Terminal.TheVariants as w
use Rattle.cw_grammar.specs.declared.rules.Rule.TheVariants.{Expression, Level}
use Rattle.cw_grammar.specs.Lexemes.{Is, terminals, name_of, from_of, to_of, IsFlag, IsOptional, AreAll, IsBetween, IsEnded, statements}
use Rattle.cw_grammar.specs.Expressions.{IsExpression, IsDerived, node, loosest, nesting_limit}
use Rattle.cw_grammar.specs.Declarations.{IsDeclaration, IsStorage, Specifiers, AreSpecifiers}
use Rattle.cw_grammar.specs.Statements.{Setting, InBlock, BeforeElse, Elsewhere, last, IsTest, IsInit, IsForm, IsStatement}
use Rattle.cw_grammar.proofs.SameTerminal.{is_plain}
use Rattle.cw_expressions.specs.declared.refusal.Refusal.{Refusal}
use Rattle.cw_expressions.specs.Cursor.{◌>>=◌, begins, after, first, expect}
use Rattle.cw_expressions.specs.Reading.{Read as ReadExpression, read_at}
use Rattle.cw_expressions.specs.Next.{ends, next_expression}
use Rattle.cw_expressions.proofs.Steps.{begins_again, begins_takes, to_of_cons, to_of_append}
use Rattle.cw_expressions.proofs.Levels.{level_above, loosest_expression}
use Rattle.cw_expressions.proofs.Again.{Again}
use Rattle.cw_expressions.proofs.Complete.{read_again}
use Rattle.cw_expressions.proofs.Follows.{Starts, starts_some, starts_append, starts_never, starts_expression, derived_starts, StopsAt, stops_all}
use Rattle.std.proofs.lemmas.Bool.{false_from_ne_true as is_false}
use Rattle.cw_parse.specs.Lists.{Read, Reader, many}
use Rattle.cw_parse.specs.DeclarationReading.{optional_expression, declaration, starts_declaration}
use Rattle.cw_parse.proofs.BothWays.{Reads, reads_bind, reads_then, reads_else, reads_of, reads_expect}
use Rattle.cw_parse.proofs.Listed.{Shortening, many_again}
use Rattle.cw_parse.proofs.Wording.{first_again, starts_base, starts_declarator, type_starts}
use Rattle.cw_grammar.proofs.Wording.{one_terminal as one_token, two_terminals as two_tokens}
use Rattle.cw_parse.proofs.DeclarationsComplete.{Deep, three, four, next_reads, optional_again, declaration_again, items_start, between_again}
use Rattle.cw_parse.proofs.StatementsSound.{read_shortens}
use Rattle.cw_parse.specs.StatementReading.{condition, ended, declares, declared, evaluated, start, short, returned, end_of, goes_on, block, labelled, chosen, branched, looped, done}
use Rattle.cw_parse.specs.StatementReading.{counted, stated, statement, read_statement}

pub reads_wider : {A : Type 0} (D E : Type 0) (r : Result A Refusal) (x : A) → (D → E) → Reads D r x → Reads E r x
reads_wider D E r x f (inl e) = inl e
reads_wider D E r x f (inr e) = inr (f e.0, e.1)

abbrev ok_statement : Statement → List Lexeme → Read Statement
ok_statement s rest = Ok (s, rest)

finish : (D : Type 0) (form given : Form) (f t from to : ℕ) (rest : List Lexeme) → given ≡ form → f ≡ from → t ≡ to → Reads D (ok_statement (Stated given f t) rest) (Stated form from to, rest)
finish D form given f t from to rest p q r = inl (rw (p, q, r) refl)

pub statement_to : (limit n : ℕ) (setting : Setting) (ts : List Lexeme) (s : Statement) → IsStatement limit n setting ts s → end_of s ≡ to_of ts
statement_to limit zero setting ts s h = absurd h
statement_to limit (suc n) setting ts (Stated form from to) h = h.1

-- ---- what begins what

-- a terminal that isn't the end of a block, nor an `else`
abbrev opens_statement : Terminal → Bool
opens_statement w.CloseBrace = false
opens_statement w.Else = false
opens_statement _ = true

expression_opens : (terminal : Terminal) → starts_expression terminal ≡ true → opens_statement terminal ≡ true
expression_opens w.CloseBrace e = absurd (false≢true e)
expression_opens w.Else e = absurd (false≢true e)
expression_opens _ e = refl

declaration_opens : (terminal : Terminal) → starts_declaration terminal ≡ true → opens_statement terminal ≡ true
declaration_opens w.CloseBrace e = absurd (false≢true e)
declaration_opens w.Else e = absurd (false≢true e)
declaration_opens _ e = refl

starts_wider : (f g : Terminal → Bool) → ((terminal : Terminal) → f terminal ≡ true → g terminal ≡ true) → (ts : List Lexeme) → Starts f ts → Starts g ts
starts_wider f g wider [] h = absurd h
starts_wider f g wider (t ∷ ts) h = wider t.terminal h

expression_no_declaration : (terminal : Terminal) → starts_expression terminal ≡ true → starts_declaration terminal ≡ false
expression_no_declaration w.Extern e = absurd (false≢true e)
expression_no_declaration w.Static e = absurd (false≢true e)
expression_no_declaration w.Const e = absurd (false≢true e)
expression_no_declaration w.Void e = absurd (false≢true e)
expression_no_declaration w.Char e = absurd (false≢true e)
expression_no_declaration w.Unsigned e = absurd (false≢true e)
expression_no_declaration w.Int e = absurd (false≢true e)
expression_no_declaration w.Long e = absurd (false≢true e)
expression_no_declaration _ e = refl

no_declaration : (ts : List Lexeme) → Starts starts_expression ts → declares ts ≡ false
no_declaration [] h = absurd h
no_declaration (t ∷ ts) h = expression_no_declaration t.terminal h

declares_next : (ts : List Lexeme) → Starts starts_declaration ts → declares ts ≡ true
declares_next [] h = absurd h
declares_next (t ∷ ts) h = h

base_declaration : (terminal : Terminal) → starts_base terminal ≡ true → starts_declaration terminal ≡ true
base_declaration w.Void e = refl
base_declaration w.Char e = refl
base_declaration w.Int e = refl
base_declaration w.Long e = refl
base_declaration w.Unsigned e = refl
base_declaration _ e = absurd (false≢true e)

flag_start : (b : Bool) (a rest : List Lexeme) → IsFlag w.Const a b → Starts starts_declaration rest → Starts starts_declaration (a ++ rest)
flag_start true a rest h s = let p = one_token a w.Const h in rw (p.1, p.2) refl
flag_start false a rest h s = rw h s

storage_start : (external fixed : Bool) (a rest : List Lexeme) → IsStorage a external fixed → Starts starts_declaration rest → Starts starts_declaration (a ++ rest)
storage_start true true a rest h s = absurd h
storage_start true false a rest h s = let p = one_token a w.Extern h in rw (p.1, p.2) refl
storage_start false true a rest h s = let p = one_token a w.Static h in rw (p.1, p.2) refl
storage_start false false a rest h s = rw h s

specifiers_start : (a : List Lexeme) (specs : Specifiers) (rest : List Lexeme) → AreSpecifiers a specs → Starts starts_declarator rest → Starts starts_declaration (a ++ rest)
specifiers_start a specs rest (s, c, t, parts, hs, hc, ht) stop =
    rw (three s c t a rest parts)
    (storage_start specs.external specs.fixed s (c ++ (t ++ rest)) hs
    (flag_start specs.constant c (t ++ rest) hc (starts_wider starts_base starts_declaration base_declaration (t ++ rest) (type_starts t rest specs.base specs.unsigned ht stop))))

-- ---- a name before a colon is no expression

name_level : (t : Lexeme) (l : ℕ) → Is w.Name t → IsDerived 1 (Level l) (t ∷ []) (node op.Name [] (t ∷ []))
name_level t zero is = inr (inr (inr (inr (inr (inl (inl (t, refl, is, refl)))))))
name_level t (suc l) is = level_above 1 l (t ∷ []) (node op.Name [] (t ∷ [])) (name_level t l is)

colon_stops : (u : Lexeme) (ts : List Lexeme) → Is w.Colon u → StopsAt Expression (u ∷ ts)
colon_stops u ts is = (rw is refl, stops_all loosest u ts (rw is refl) (rw is refl))

one_deep : ¬ (nesting_limit < 1)
unfolding nesting_limit
one_deep lt = absurd (omega arith)

abbrev found : Tree → List Lexeme → Result (Tree × List Lexeme) Refusal
found e rest = Ok (e, rest)

name_next : (t u : Lexeme) (ts : List Lexeme) → Is w.Name t → Is w.Colon u → next_expression (t ∷ u ∷ ts) ≡ Ok (node op.Name [] (t ∷ []), u ∷ ts)
unfolding next_expression
name_next t u ts is colon = by_case (read_at nesting_limit Expression (t ∷ u ∷ ts))
    (read_again nesting_limit 1 Expression (t ∷ []) (node op.Name [] (t ∷ [])) (u ∷ ts) (loosest_expression 1 (t ∷ []) (node op.Name [] (t ∷ [])) (name_level t loosest is))
    (colon_stops u ts colon)) where
      by_case : (r : ReadExpression) → Again nesting_limit 1 false r (t ∷ []) (node op.Name [] (t ∷ [])) (u ∷ ts) → (r >>= λ x. found x.tree x.rest) ≡ found (node op.Name [] (t ∷ [])) (u ∷ ts)
      by_case r (inl h) = rw h.is refl
      by_case r (inr h) = absurd (one_deep h.0)

abbrev pair : Tree → List Lexeme → Tree × List Lexeme
pair e rest = (e, rest)

colon_clash : (D : Type 0) (ts : List Lexeme) (e f : Tree) (s u : Lexeme) (a b : List Lexeme) → next_expression ts ≡ found e (u ∷ a) → Reads D (next_expression ts) (f, s ∷ b)
    → Is w.Colon u → Is w.Semicolon s → ⊥
colon_clash D ts e f s u a b p (inl q) colon semi =
    let r : found e (u ∷ a) ≡ found f (s ∷ b) = sym p ∙ q in
    let pairs : pair e (u ∷ a) ≡ pair f (s ∷ b) = cc in
    let lists : u ∷ a ≡ s ∷ b = ap (λ (z : Tree × List Lexeme). z.1) pairs in
    let tokens : u ≡ s = cc in
    let clash : w.Colon ≡ w.Semicolon = sym colon ∙ ap (λ (z : Lexeme). z.terminal) tokens ∙ semi in
    absurd (cc)
colon_clash D ts e f s u a b p (inr q) colon semi = let r = q.1 in absurd (cc)

no_colon : (limit : ℕ) (t : Lexeme) (ts inner : List Lexeme) (e : Tree) (s : Lexeme) (rest : List Lexeme) → t ∷ ts ≡ inner ++ s ∷ rest → IsExpression limit inner e
    → Is w.Semicolon s → Is w.Name t → begins w.Colon ts ≡ false
no_colon limit t ts inner e s rest parts h semi is =
    is_false (begins w.Colon ts) (λ g.
    let u = begins_takes w.Colon refl ts g in
    let whole : t ∷ u.0 ∷ after ts ≡ inner ++ s ∷ rest = sym (ap (λ (z : List Lexeme). t ∷ z) u.1) ∙ parts in
    colon_clash (Deep limit) (t ∷ u.0 ∷ after ts) (node op.Name [] (t ∷ [])) e s u.0 (after ts) rest (name_next t u.0 (after ts) is u.2)
    (reads_of (Deep limit) next_expression (t ∷ u.0 ∷ after ts) (inner ++ s ∷ rest) (e, s ∷ rest) whole (next_reads limit inner e (s ∷ rest) h (rw semi refl))) u.2 semi)

-- ---- what is no statement

module _ (limit : ℕ) (D : Type 0) (deep : nesting_limit < limit → D) where
  abbrev E : List Lexeme → Tree → Type 0
  E ts e = IsExpression limit ts e

  test_again : (a : List Lexeme) (e : Tree) (rest : List Lexeme) → IsTest E a e → Reads D (condition (a ++ rest)) (e, rest)
  unfolding condition
  test_again a e rest (o, inner, c, parts, opens, closes, h) =
      rw (between_again a o inner c rest parts)
      (reads_bind D (expect w.Open (o ∷ (inner ++ (c ∷ rest)))) _ (o, inner ++ (c ∷ rest)) _ (reads_expect D w.Open o (inner ++ (c ∷ rest)) opens)
      (reads_bind D (next_expression (inner ++ (c ∷ rest))) _ (e, c ∷ rest) _ (reads_wider (Deep limit) D _ _ deep (next_reads limit inner e (c ∷ rest) h (rw closes refl)))
      (reads_bind D (expect w.Close (c ∷ rest)) _ (c, rest) _ (reads_expect D w.Close c rest closes) (inl refl))))

  ended_again : (closes : Terminal) → is_plain closes ≡ true → starts_expression closes ≡ false → ends closes ≡ true → (a : List Lexeme) (x : Option Tree) (rest : List Lexeme)
      → IsEnded closes (IsOptional E) a x → Reads D (ended closes (a ++ rest)) ((x, to_of a), rest)
  unfolding ended
  ended_again closes plain refused end a x rest (inner, c, parts, is, h) =
      let whole : a ++ rest ≡ inner ++ (c ∷ rest) = ap (λ (z : List Lexeme). z ++ rest) parts ∙ append_assoc inner (c ∷ []) rest in
      let to : c.to ≡ to_of a = sym (ap to_of parts ∙ to_of_append inner (c ∷ []) (omega arith)) in
      reads_of D (ended closes) (a ++ rest) (inner ++ (c ∷ rest)) ((x, to_of a), rest) whole
      (reads_bind D (optional_expression closes (inner ++ (c ∷ rest))) _ (x, c ∷ rest) _ (reads_wider (Deep limit) D _ _ deep (optional_again limit closes plain refused end inner x c rest h is))
      (reads_bind D (expect closes (c ∷ rest)) _ (c, rest) _ (reads_expect D closes c rest is) (inl (ap (λ (z : ℕ). ok_ended x z rest) to)))) where
        ok_ended : Option Tree → ℕ → List Lexeme → Read (Option Tree × ℕ)
        ok_ended y z r = Ok ((y, z), r)

  declaration_start : (a : List Lexeme) (d : Declaration) (rest : List Lexeme) → IsDeclaration E a d → Starts starts_declaration (a ++ rest)
  declaration_start a d rest (p, q, specs, parts, hs, e1, e2, e3, some, (inner, s, closed, semi, hitems), from, to) =
      let whole : a ++ rest ≡ p ++ (inner ++ (s ∷ rest)) = ap (λ (z : List Lexeme). z ++ rest) parts ∙ append_assoc p q rest
      ∙ ap (λ (z : List Lexeme). p ++ z) (ap (λ (z : List Lexeme). z ++ rest) closed ∙ append_assoc inner (s ∷ []) rest) in
      rw whole (specifiers_start p specs (inner ++ (s ∷ rest)) hs (items_start limit specs d.items inner (s ∷ rest) (some, hitems)))

  ends_of_declaration : (a : List Lexeme) (d : Declaration) → IsDeclaration E a d → (d.from ≡ from_of a) × (d.to ≡ to_of a)
  ends_of_declaration a d (p, q, specs, parts, hs, e1, e2, e3, some, ended_items, from, to) = (from, to)

  declared_again : (a : List Lexeme) (d : Declaration) (from to : ℕ) (rest : List Lexeme) → from ≡ from_of a → to ≡ to_of a → IsDeclaration E a d
      → Reads D (declared (a ++ rest)) (Stated (Declares d) from to, rest)
  unfolding declared
  declared_again a d from to rest p q h =
      let z = ends_of_declaration a d h in
      reads_bind D (declaration (a ++ rest)) _ (d, rest) _ (reads_wider (Deep limit) D _ _ deep (declaration_again limit a d rest h))
      (finish D (Declares d) (Declares d) d.from d.to from to rest refl (z.0 ∙ sym p) (z.1 ∙ sym q))

  evaluated_start : (a : List Lexeme) (e : Tree) (rest : List Lexeme) → IsEnded w.Semicolon E a e → Starts starts_expression (a ++ rest)
  evaluated_start a e rest (inner, s, parts, semi, h) = rw (parts, append_assoc inner (s ∷ []) rest) (starts_append starts_expression inner (s ∷ rest) (derived_starts limit Expression inner e h))

  evaluated_again : (a : List Lexeme) (e : Tree) (from to : ℕ) (rest : List Lexeme) → from ≡ from_of a → to ≡ to_of a → IsEnded w.Semicolon E a e
      → Reads D (evaluated (a ++ rest)) (Stated (Evaluates e) from to, rest)
  unfolding evaluated
  evaluated_again a e from to rest p q (inner, s, parts, semi, h) =
      let whole : a ++ rest ≡ inner ++ (s ∷ rest) = ap (λ (z : List Lexeme). z ++ rest) parts ∙ append_assoc inner (s ∷ []) rest in
      let f = first_again a rest (omega (arith, ap length parts, length-append inner (s ∷ []))) in
      let ends_at : to_of a ≡ s.to = ap to_of parts ∙ to_of_append inner (s ∷ []) (omega arith) in
      reads_bind D (first (a ++ rest)) _ (f.0, f.1) _ (inl f.2)
      (rw whole
      (reads_bind D (next_expression (inner ++ (s ∷ rest))) _ (e, s ∷ rest) _ (reads_wider (Deep limit) D _ _ deep (next_reads limit inner e (s ∷ rest) h (rw semi refl)))
      (reads_bind D (expect w.Semicolon (s ∷ rest)) _ (s, rest) _ (reads_expect D w.Semicolon s rest semi)
      (finish D (Evaluates e) (Evaluates e) f.0.from s.to from to rest refl (f.3 ∙ sym p) (sym ends_at ∙ sym q)))))

  start_again : (a : List Lexeme) (i : Perhaps) (rest : List Lexeme) → IsInit E a i → Reads D (start (a ++ rest)) (i, rest)
  unfolding start
  start_again a nothing rest h = let p = one_token a w.Semicolon h in rw p.1 (reads_then D (begins w.Semicolon (p.0 ∷ rest)) _ _ _ (begins_again w.Semicolon p.0 rest p.2) (inl refl))
  start_again a (just (Stated (Evaluates e) from to)) rest (p, q, h) =
      let s = evaluated_start a e rest h in
      reads_else D (begins w.Semicolon (a ++ rest)) _ _ _ (starts_never starts_expression w.Semicolon refl refl (a ++ rest) s)
      (reads_else D (declares (a ++ rest)) _ _ _ (no_declaration (a ++ rest) s)
      (reads_bind D (evaluated (a ++ rest)) _ (Stated (Evaluates e) from to, rest) _ (evaluated_again a e from to rest p q h) (inl refl)))
  start_again a (just (Stated (Declares d) from to)) rest (p, q, h) =
      let s = declaration_start a d rest h in
      reads_else D (begins w.Semicolon (a ++ rest)) _ _ _ (starts_never starts_declaration w.Semicolon refl refl (a ++ rest) s)
      (reads_then D (declares (a ++ rest)) _ _ _ (declares_next (a ++ rest) s)
      (reads_bind D (declared (a ++ rest)) _ (Stated (Declares d) from to, rest) _ (declared_again a d from to rest p q h) (inl refl)))
  start_again a (just (Stated (Block k) from to)) rest h = absurd h
  start_again a (just (Stated Empties from to)) rest h = absurd h
  start_again a (just (Stated (Labels n m b) from to)) rest h = absurd h
  start_again a (just (Stated (Chooses e b o) from to)) rest h = absurd h
  start_again a (just (Stated (Whiles e b) from to)) rest h = absurd h
  start_again a (just (Stated (Does b e) from to)) rest h = absurd h
  start_again a (just (Stated (Fors x y z b) from to)) rest h = absurd h
  start_again a (just (Stated Breaks from to)) rest h = absurd h
  start_again a (just (Stated Continues from to)) rest h = absurd h
  start_again a (just (Stated (Returns e) from to)) rest h = absurd h

  -- ---- statements

  -- what follows a statement in this setting
  abbrev pub Stops : Setting → List Lexeme → Type 0
  Stops InBlock rest = begins w.Else rest ≡ false
  Stops BeforeElse rest = Unit {0}
  Stops Elsewhere rest = begins w.Else rest ≡ false

  no_else : (setting : Setting) (rest : List Lexeme) → setting ≢ BeforeElse → Stops setting rest → begins w.Else rest ≡ false
  no_else InBlock rest never h = h
  no_else BeforeElse rest never h = absurd (never refl)
  no_else Elsewhere rest never h = h

  abbrev pub may_declare : Setting → Bool
  may_declare InBlock = true
  may_declare BeforeElse = false
  may_declare Elsewhere = false

  expression_starts : (a : List Lexeme) (e : Tree) (rest : List Lexeme) → IsEnded w.Semicolon E a e → Starts opens_statement (a ++ rest)
  expression_starts a e rest h = starts_wider starts_expression opens_statement expression_opens (a ++ rest) (evaluated_start a e rest h)

  form_starts : (P : Setting → List Lexeme → Statement → Type 0) (setting : Setting) (ts : List Lexeme) (form : Form) (rest : List Lexeme)
      → IsForm E P setting ts form → Starts opens_statement (ts ++ rest)
  form_starts P setting ts (Block k) rest (inner, e, (o, b, c, parts, opens, closes, h)) = rw (parts, opens) refl
  form_starts P setting ts (Declares d) rest (e, h) = starts_wider starts_declaration opens_statement declaration_opens (ts ++ rest) (declaration_start ts d rest h)
  form_starts P setting ts (Evaluates e) rest h = expression_starts ts e rest h
  form_starts P setting ts Empties rest h = let p = one_token ts w.Semicolon h in rw (p.1, p.2) refl
  form_starts P setting ts (Labels n m s) rest h = rw (h.3, h.4) refl
  form_starts P setting ts (Chooses e s nothing) rest h = rw (h.3, h.5) refl
  form_starts P setting ts (Chooses e s (just o)) rest h = rw (h.5, h.6) refl
  form_starts P setting ts (Whiles e s) rest h = rw (h.3, h.4) refl
  form_starts P setting ts (Does s e) rest h = rw (h.5, h.6) refl
  form_starts P setting ts (Fors x y z s) rest h = rw (h.6, h.7) refl
  form_starts P setting ts Breaks rest h = let p = two_tokens ts w.Break w.Semicolon h in rw (p.2, p.3) refl
  form_starts P setting ts Continues rest h = let p = two_tokens ts w.Continue w.Semicolon h in rw (p.2, p.3) refl
  form_starts P setting ts (Returns e) rest h = rw (h.2, h.3) refl

  pub statement_starts : (m : ℕ) (setting : Setting) (ts : List Lexeme) (s : Statement) (rest : List Lexeme) → IsStatement limit m setting ts s → Starts opens_statement (ts ++ rest)
  statement_starts zero setting ts s rest h = absurd h
  statement_starts (suc m) setting ts (Stated form from to) rest h = form_starts (IsStatement limit m) setting ts form rest h.2

  pub statement_goes_on : (m : ℕ) (ts : List Lexeme) (s : Statement) (rest : List Lexeme) → IsStatement limit m InBlock ts s → goes_on (ts ++ rest) ≡ true
  statement_goes_on m ts s rest h = ap not (starts_never opens_statement w.CloseBrace refl refl (ts ++ rest) (statement_starts m InBlock ts s rest h))

  pub statement_stops : (m : ℕ) (ts : List Lexeme) (s : Statement) (rest : List Lexeme) → IsStatement limit m InBlock ts s → begins w.Else (ts ++ rest) ≡ false
  statement_stops m ts s rest h = starts_never opens_statement w.Else refl refl (ts ++ rest) (statement_starts m InBlock ts s rest h)

  some : (m : ℕ) (setting : Setting) (a : List Lexeme) (s : Statement) → IsStatement limit m setting a s → 0 < length a
  some m setting a s h = starts_some opens_statement a (subst (λ (z : List Lexeme). Starts opens_statement z) (append-nil a) (statement_starts m setting a s [] h))

  ended_some : (b : List Lexeme) (x : Option Tree) → IsEnded w.Semicolon (IsOptional E) b x → 0 < length b
  ended_some b x (inner, c, parts, is, h) = omega (arith, ap length parts, length-append inner (c ∷ []))

  -- ---- by the first terminal

  module _ (read : Bool → Reader Statement) (m : ℕ) (short_read : Shortening (read true) goes_on)
      (again : (setting : Setting) (a : List Lexeme) (s : Statement) (rest : List Lexeme) → IsStatement limit m setting a s → Stops setting rest
      → Reads D (read (may_declare setting) (a ++ rest)) (s, rest)) where
    abbrev P : Setting → List Lexeme → Statement → Type 0
    P setting ts s = IsStatement limit m setting ts s

    last_again : (setting : Setting) (a : List Lexeme) (s : Statement) (rest : List Lexeme) → P (last setting) a s → Stops setting rest → Reads D (read false (a ++ rest)) (s, rest)
    last_again InBlock a s rest h stop = again Elsewhere a s rest h stop
    last_again BeforeElse a s rest h stop = again BeforeElse a s rest h stop
    last_again Elsewhere a s rest h stop = again Elsewhere a s rest h stop

    in_block_again : (a : List Lexeme) (s : Statement) (rest : List Lexeme) → P InBlock a s → begins w.Else rest ≡ false → Reads D (read true (a ++ rest)) (s, rest)
    in_block_again a s rest h stop = again InBlock a s rest h stop

    pub statements_again : (ss : List Statement) (b : List Lexeme) (c : Lexeme) (rest : List Lexeme) → AreAll (P InBlock) b ss → Is w.CloseBrace c
        → Reads D (many (read true) goes_on ([], b ++ (c ∷ rest))) (ss, c ∷ rest)
    statements_again ss b c rest h is =
        many_again (read true) goes_on (P InBlock) D (λ ts. begins w.Else ts ≡ false) short_read in_block_again (statement_goes_on m) (statement_stops m) ss b (c ∷ rest) [] h
        (rw is refl) (rw is refl)

    abbrev Stating : List Lexeme → Statement → List Lexeme → Type 0
    Stating ts s rest = Reads D (stated read (ts ++ rest)) (s, rest)

    block_again : (ts : List Lexeme) (ss : List Statement) (from to : ℕ) (rest : List Lexeme) → from ≡ from_of ts → to ≡ to_of ts
        → IsBetween w.OpenBrace w.CloseBrace (AreAll (P InBlock)) ts ss → Stating ts (Stated (Block (statements ss)) from to) rest
    unfolding stated block
    block_again ts ss from to rest p q (o, b, c, parts, opens, closes, h) =
        reads_of D (stated read) (ts ++ rest) (o ∷ (b ++ (c ∷ rest))) _ (between_again ts o b c rest parts)
        (rw opens
        (reads_bind D (many (read true) goes_on ([], b ++ (c ∷ rest))) _ (ss, c ∷ rest) _ (statements_again ss b c rest h closes)
        (reads_bind D (expect w.CloseBrace (c ∷ rest)) _ (c, rest) _ (reads_expect D w.CloseBrace c rest closes)
        (finish D (Block (statements ss)) (Block (statements ss)) o.from c.to from to rest refl (sym (p ∙ ap from_of parts))
        (sym (q ∙ ap to_of parts ∙ to_of_append (o ∷ b) (c ∷ []) (omega arith)))))))

    label_again : (setting : Setting) (ts : List Lexeme) (n k : Lexeme) (b : List Lexeme) (s : Statement) (from to : ℕ) (rest : List Lexeme) → from ≡ from_of ts → to ≡ to_of ts
        → ts ≡ n ∷ k ∷ b → Is w.Name n → Is w.Colon k → P (last setting) b s → Stops setting rest → Stating ts (Stated (Labels (name_of n) k.to s) from to) rest
    unfolding stated labelled
    label_again setting ts n k b s from to rest p q parts is colon h stop =
        reads_of D (stated read) (ts ++ rest) (n ∷ k ∷ (b ++ rest)) _ (ap (λ (z : List Lexeme). z ++ rest) parts)
        (rw is
        (reads_then D (begins w.Colon (k ∷ (b ++ rest))) _ _ _ (begins_again w.Colon k (b ++ rest) colon)
        (reads_bind D (expect w.Colon (k ∷ (b ++ rest))) _ (k, b ++ rest) _ (reads_expect D w.Colon k (b ++ rest) colon)
        (reads_bind D (read false (b ++ rest)) _ (s, rest) _ (last_again setting b s rest h stop)
        (finish D (Labels (name_of n) k.to s) (Labels (name_of n) k.to s) n.from (end_of s) from to rest refl (sym (p ∙ ap from_of parts))
        (statement_to limit m (last setting) b s h ∙ sym (to_of_append (n ∷ k ∷ []) b (some m (last setting) b s h)) ∙ sym (q ∙ ap to_of parts)))))))

    alone_again : (setting : Setting) (ts : List Lexeme) (i : Lexeme) (a b : List Lexeme) (e : Tree) (s : Statement) (from to : ℕ) (rest : List Lexeme) → from ≡ from_of ts
        → to ≡ to_of ts → ts ≡ i ∷ a ++ b → setting ≢ BeforeElse → Is w.If i → IsTest E a e → P Elsewhere b s → Stops setting rest → Stating ts (Stated (Chooses e s nothing) from to) rest
    unfolding stated branched chosen
    alone_again setting ts i a b e s from to rest p q parts never is ha hb stop =
        let ends_it = no_else setting rest never stop in
        reads_of D (stated read) (ts ++ rest) (i ∷ (a ++ (b ++ rest))) _ (ap (λ (z : List Lexeme). z ++ rest) parts ∙ ap (λ (z : List Lexeme). i ∷ z) (append_assoc a b rest))
        (rw is
        (reads_bind D (condition (a ++ (b ++ rest))) _ (e, b ++ rest) _ (test_again a e (b ++ rest) ha)
        (reads_bind D (read false (b ++ rest)) _ (s, rest) _ (again Elsewhere b s rest hb ends_it)
        (reads_else D (begins w.Else rest) _ _ _ ends_it
        (finish D (Chooses e s nothing) (Chooses e s nothing) i.from (end_of s) from to rest refl (sym (p ∙ ap from_of parts))
        (statement_to limit m Elsewhere b s hb ∙ sym (to_of_append (i ∷ a) b (some m Elsewhere b s hb)) ∙ sym (q ∙ ap to_of parts)))))))

    both_again : (setting : Setting) (ts : List Lexeme) (i : Lexeme) (a b : List Lexeme) (k : Lexeme) (c : List Lexeme) (e : Tree) (s o : Statement) (from to : ℕ) (rest : List Lexeme)
        → from ≡ from_of ts → to ≡ to_of ts → ts ≡ i ∷ a ++ (b ++ k ∷ c) → Is w.If i → IsTest E a e → P BeforeElse b s → Is w.Else k → P (last setting) c o → Stops setting rest
        → Stating ts (Stated (Chooses e s (just o)) from to) rest
    unfolding stated branched chosen
    both_again setting ts i a b k c e s o from to rest p q parts is ha hb isk hc stop =
        let whole : ts ++ rest ≡ i ∷ (a ++ (b ++ (k ∷ (c ++ rest)))) = ap (λ (z : List Lexeme). z ++ rest) parts
        ∙ ap (λ (z : List Lexeme). i ∷ z) (append_assoc a (b ++ k ∷ c) rest ∙ ap (λ (z : List Lexeme). a ++ z) (append_assoc b (k ∷ c) rest)) in
        let some_c = some m (last setting) c o hc in
        reads_of D (stated read) (ts ++ rest) (i ∷ (a ++ (b ++ (k ∷ (c ++ rest))))) _ whole
        (rw is
        (reads_bind D (condition (a ++ (b ++ (k ∷ (c ++ rest))))) _ (e, b ++ (k ∷ (c ++ rest))) _ (test_again a e (b ++ (k ∷ (c ++ rest))) ha)
        (reads_bind D (read false (b ++ (k ∷ (c ++ rest)))) _ (s, k ∷ (c ++ rest)) _ (again BeforeElse b s (k ∷ (c ++ rest)) hb tt)
        (reads_then D (begins w.Else (k ∷ (c ++ rest))) _ _ _ (begins_again w.Else k (c ++ rest) isk)
        (reads_bind D (read false (c ++ rest)) _ (o, rest) _ (last_again setting c o rest hc stop)
        (finish D (Chooses e s (just o)) (Chooses e s (just o)) i.from (end_of o) from to rest refl (sym (p ∙ ap from_of parts))
        (statement_to limit m (last setting) c o hc ∙ sym (to_of_cons k c some_c) ∙ sym (to_of_append b (k ∷ c) (omega arith))
        ∙ sym (to_of_append (i ∷ a) (b ++ k ∷ c) (omega (arith, length-append b (k ∷ c)))) ∙ sym (q ∙ ap to_of parts))))))))

    while_again : (setting : Setting) (ts : List Lexeme) (i : Lexeme) (a b : List Lexeme) (e : Tree) (s : Statement) (from to : ℕ) (rest : List Lexeme) → from ≡ from_of ts
        → to ≡ to_of ts → ts ≡ i ∷ a ++ b → Is w.While i → IsTest E a e → P (last setting) b s → Stops setting rest → Stating ts (Stated (Whiles e s) from to) rest
    unfolding stated looped
    while_again setting ts i a b e s from to rest p q parts is ha hb stop =
        reads_of D (stated read) (ts ++ rest) (i ∷ (a ++ (b ++ rest))) _ (ap (λ (z : List Lexeme). z ++ rest) parts ∙ ap (λ (z : List Lexeme). i ∷ z) (append_assoc a b rest))
        (rw is
        (reads_bind D (condition (a ++ (b ++ rest))) _ (e, b ++ rest) _ (test_again a e (b ++ rest) ha)
        (reads_bind D (read false (b ++ rest)) _ (s, rest) _ (last_again setting b s rest hb stop)
        (finish D (Whiles e s) (Whiles e s) i.from (end_of s) from to rest refl (sym (p ∙ ap from_of parts))
        (statement_to limit m (last setting) b s hb ∙ sym (to_of_append (i ∷ a) b (some m (last setting) b s hb)) ∙ sym (q ∙ ap to_of parts))))))

    do_again : (ts : List Lexeme) (d : Lexeme) (a : List Lexeme) (h : Lexeme) (b : List Lexeme) (c : Lexeme) (s : Statement) (e : Tree) (from to : ℕ) (rest : List Lexeme)
        → from ≡ from_of ts → to ≡ to_of ts → ts ≡ d ∷ a ++ (h ∷ b ++ c ∷ []) → Is w.Do d → P Elsewhere a s → Is w.While h → IsTest E b e → Is w.Semicolon c
        → Stating ts (Stated (Does s e) from to) rest
    unfolding stated done
    do_again ts d a h b c s e from to rest p q parts is ha isw hb semi =
        let whole : ts ++ rest ≡ d ∷ (a ++ (h ∷ (b ++ (c ∷ rest)))) = ap (λ (z : List Lexeme). z ++ rest) parts
        ∙ ap (λ (z : List Lexeme). d ∷ z) (append_assoc a (h ∷ b ++ c ∷ []) rest ∙ ap (λ (z : List Lexeme). a ++ (h ∷ z)) (append_assoc b (c ∷ []) rest)) in
        reads_of D (stated read) (ts ++ rest) (d ∷ (a ++ (h ∷ (b ++ (c ∷ rest))))) _ whole
        (rw is
        (reads_bind D (read false (a ++ (h ∷ (b ++ (c ∷ rest))))) _ (s, h ∷ (b ++ (c ∷ rest))) _ (again Elsewhere a s (h ∷ (b ++ (c ∷ rest))) ha (rw isw refl))
        (reads_bind D (expect w.While (h ∷ (b ++ (c ∷ rest)))) _ (h, b ++ (c ∷ rest)) _ (reads_expect D w.While h (b ++ (c ∷ rest)) isw)
        (reads_bind D (condition (b ++ (c ∷ rest))) _ (e, c ∷ rest) _ (test_again b e (c ∷ rest) hb)
        (reads_bind D (expect w.Semicolon (c ∷ rest)) _ (c, rest) _ (reads_expect D w.Semicolon c rest semi)
        (finish D (Does s e) (Does s e) d.from c.to from to rest refl (sym (p ∙ ap from_of parts))
        (sym (to_of_append (h ∷ b) (c ∷ []) (omega arith)) ∙ sym (to_of_append (d ∷ a) (h ∷ b ++ c ∷ []) (omega arith)) ∙ sym (q ∙ ap to_of parts))))))))

    for_again : (setting : Setting) (ts : List Lexeme) (f o : Lexeme) (a b c d : List Lexeme) (i : Perhaps) (x y : Option Tree) (s : Statement) (from to : ℕ) (rest : List Lexeme)
        → from ≡ from_of ts → to ≡ to_of ts → ts ≡ f ∷ o ∷ a ++ (b ++ (c ++ d)) → Is w.For f → Is w.Open o → IsInit E a i → IsEnded w.Semicolon (IsOptional E) b x
        → IsEnded w.Close (IsOptional E) c y → P (last setting) d s → Stops setting rest → Stating ts (Stated (Fors i x y s) from to) rest
    unfolding stated counted
    for_again setting ts f o a b c d i x y s from to rest p q parts is iso ha hb hc hd stop =
        let whole : ts ++ rest ≡ f ∷ o ∷ (a ++ (b ++ (c ++ (d ++ rest)))) = ap (λ (z : List Lexeme). z ++ rest) parts
        ∙ ap (λ (z : List Lexeme). f ∷ o ∷ z) (four a b c d (a ++ (b ++ (c ++ d))) rest refl) in
        let some_d = some m (last setting) d s hd in
        reads_of D (stated read) (ts ++ rest) (f ∷ o ∷ (a ++ (b ++ (c ++ (d ++ rest))))) _ whole
        (rw is
        (reads_bind D (expect w.Open (o ∷ (a ++ (b ++ (c ++ (d ++ rest)))))) _ (o, a ++ (b ++ (c ++ (d ++ rest)))) _ (reads_expect D w.Open o (a ++ (b ++ (c ++ (d ++ rest)))) iso)
        (reads_bind D (start (a ++ (b ++ (c ++ (d ++ rest))))) _ (i, b ++ (c ++ (d ++ rest))) _ (start_again a i (b ++ (c ++ (d ++ rest))) ha)
        (reads_bind D (ended w.Semicolon (b ++ (c ++ (d ++ rest)))) _ ((x, to_of b), c ++ (d ++ rest)) _ (ended_again w.Semicolon refl refl refl b x (c ++ (d ++ rest)) hb)
        (reads_bind D (ended w.Close (c ++ (d ++ rest))) _ ((y, to_of c), d ++ rest) _ (ended_again w.Close refl refl refl c y (d ++ rest) hc)
        (reads_bind D (read false (d ++ rest)) _ (s, rest) _ (last_again setting d s rest hd stop)
        (finish D (Fors i x y s) (Fors i x y s) f.from (end_of s) from to rest refl (sym (p ∙ ap from_of parts))
        (statement_to limit m (last setting) d s hd ∙ sym (to_of_append c d some_d) ∙ sym (to_of_append b (c ++ d) (omega (arith, some_d, length-append c d)))
        ∙ sym (to_of_append (f ∷ o ∷ a) (b ++ (c ++ d)) (omega (arith, some_d, length-append c d, length-append b (c ++ d)))) ∙ sym (q ∙ ap to_of parts)))))))))

    return_again : (ts : List Lexeme) (r : Lexeme) (b : List Lexeme) (x : Option Tree) (from to : ℕ) (rest : List Lexeme) → from ≡ from_of ts → to ≡ to_of ts → ts ≡ r ∷ b
        → Is w.Return r → IsEnded w.Semicolon (IsOptional E) b x → Stating ts (Stated (Returns x) from to) rest
    unfolding stated returned
    return_again ts r b x from to rest p q parts is hb =
        reads_of D (stated read) (ts ++ rest) (r ∷ (b ++ rest)) _ (ap (λ (z : List Lexeme). z ++ rest) parts)
        (rw is
        (reads_bind D (ended w.Semicolon (b ++ rest)) _ ((x, to_of b), rest) _ (ended_again w.Semicolon refl refl refl b x rest hb)
        (finish D (Returns x) (Returns x) r.from (to_of b) from to rest refl (sym (p ∙ ap from_of parts)) (sym (to_of_cons r b (ended_some b x hb)) ∙ sym (q ∙ ap to_of parts)))))

    empty_again : (ts : List Lexeme) (from to : ℕ) (rest : List Lexeme) → from ≡ from_of ts → to ≡ to_of ts → terminals ts ≡ w.Semicolon ∷ [] → Stating ts (Stated Empties from to) rest
    unfolding stated
    empty_again ts from to rest p q h =
        let t = one_token ts w.Semicolon h in
        reads_of D (stated read) (ts ++ rest) (t.0 ∷ rest) _ (ap (λ (z : List Lexeme). z ++ rest) t.1)
        (rw (t.2, stated) (finish D Empties Empties t.0.from t.0.to from to rest refl (sym (p ∙ ap from_of t.1)) (sym (q ∙ ap to_of t.1))))

    break_again : (ts : List Lexeme) (from to : ℕ) (rest : List Lexeme) → from ≡ from_of ts → to ≡ to_of ts → terminals ts ≡ w.Break ∷ w.Semicolon ∷ [] → Stating ts (Stated Breaks from to) rest
    unfolding stated short
    break_again ts from to rest p q h =
        let t = two_tokens ts w.Break w.Semicolon h in
        reads_of D (stated read) (ts ++ rest) (t.0 ∷ t.1 ∷ rest) _ (ap (λ (z : List Lexeme). z ++ rest) t.2)
        (rw (t.3, stated)
        (reads_bind D (expect w.Semicolon (t.1 ∷ rest)) _ (t.1, rest) _ (reads_expect D w.Semicolon t.1 rest t.4)
        (finish D Breaks Breaks t.0.from t.1.to from to rest refl (sym (p ∙ ap from_of t.2)) (sym (q ∙ ap to_of t.2)))))

    continue_again : (ts : List Lexeme) (from to : ℕ) (rest : List Lexeme) → from ≡ from_of ts → to ≡ to_of ts → terminals ts ≡ w.Continue ∷ w.Semicolon ∷ []
        → Stating ts (Stated Continues from to) rest
    unfolding stated short
    continue_again ts from to rest p q h =
        let t = two_tokens ts w.Continue w.Semicolon h in
        reads_of D (stated read) (ts ++ rest) (t.0 ∷ t.1 ∷ rest) _ (ap (λ (z : List Lexeme). z ++ rest) t.2)
        (rw (t.3, stated)
        (reads_bind D (expect w.Semicolon (t.1 ∷ rest)) _ (t.1, rest) _ (reads_expect D w.Semicolon t.1 rest t.4)
        (finish D Continues Continues t.0.from t.1.to from to rest refl (sym (p ∙ ap from_of t.2)) (sym (q ∙ ap to_of t.2)))))

    -- an expression's first terminal is none of these, and a name's colon is none of its tokens
    by_expression : (t : Lexeme) (ts : List Lexeme) (terminal : Terminal) → Is terminal t → starts_expression terminal ≡ true → (Is w.Name t → begins w.Colon ts ≡ false)
        → elim terminal as (λ z. Read Statement) [
          | w.OpenBrace ↦ block read t ts
          | w.Semicolon ↦ Ok
              (Stated Empties t.from t.to, ts)
          | w.If ↦ branched read t ts
          | w.While ↦ looped read t ts
          | w.Do ↦ done read t ts
          | w.For ↦ counted read t ts
          | w.Break ↦ short Breaks t ts
          | w.Continue ↦ short Continues t ts
          | w.Return ↦ returned t ts
          | w.Name ↦ cond (begins w.Colon ts) (labelled read t ts) (evaluated (t ∷ ts))
          | _ ↦ evaluated (t ∷ ts)
        ] ≡
        evaluated (t ∷ ts)
    by_expression t ts w.OpenBrace is e colon = absurd (false≢true e)
    by_expression t ts w.Semicolon is e colon = absurd (false≢true e)
    by_expression t ts w.If is e colon = absurd (false≢true e)
    by_expression t ts w.While is e colon = absurd (false≢true e)
    by_expression t ts w.Do is e colon = absurd (false≢true e)
    by_expression t ts w.For is e colon = absurd (false≢true e)
    by_expression t ts w.Break is e colon = absurd (false≢true e)
    by_expression t ts w.Continue is e colon = absurd (false≢true e)
    by_expression t ts w.Return is e colon = absurd (false≢true e)
    by_expression t ts w.Name is e colon = rw (colon is) refl
    by_expression t ts _ is e colon = refl

    stated_expression : (z inner : List Lexeme) (s : Lexeme) (rest : List Lexeme) (e : Tree) → z ≡ inner ++ s ∷ rest → IsExpression limit inner e → Is w.Semicolon s
        → Starts starts_expression z → stated read z ≡ evaluated z
    unfolding stated
    stated_expression [] inner s rest e parts h semi start = absurd start
    stated_expression (t ∷ ts) inner s rest e parts h semi start = by_expression t ts t.terminal refl start (no_colon limit t ts inner e s rest parts h semi)

    expression_again : (ts : List Lexeme) (e : Tree) (from to : ℕ) (rest : List Lexeme) → from ≡ from_of ts → to ≡ to_of ts → IsEnded w.Semicolon E ts e
        → Stating ts (Stated (Evaluates e) from to) rest
    expression_again ts e from to rest p q (inner, s, parts, semi, h) =
        let ended_ts : IsEnded w.Semicolon E ts e = (inner, s, parts, semi, h) in
        let whole : ts ++ rest ≡ inner ++ s ∷ rest = ap (λ (z : List Lexeme). z ++ rest) parts ∙ append_assoc inner (s ∷ []) rest in
        let same_reading : stated read (ts ++ rest) ≡ evaluated (ts ++ rest) = stated_expression (ts ++ rest) inner s rest e whole h semi (evaluated_start ts e rest ended_ts) in
        subst (λ (r : Read Statement). Reads D r (Stated (Evaluates e) from to, rest)) (sym same_reading) (evaluated_again ts e from to rest p q ended_ts)

  -- ---- all forms

  module _ (read : Bool → Reader Statement) (m : ℕ) (short_read : Shortening (read true) goes_on)
      (again : (setting : Setting) (a : List Lexeme) (s : Statement) (rest : List Lexeme) → IsStatement limit m setting a s → Stops setting rest
      → Reads D (read (may_declare setting) (a ++ rest)) (s, rest)) where
    -- no declaration
    abbrev Spoken : Form → Type 0
    Spoken (Declares d) = ⊥
    Spoken _ = Unit {0}

    stated_again : (setting : Setting) (ts : List Lexeme) (form : Form) (from to : ℕ) (rest : List Lexeme) → Spoken form → from ≡ from_of ts → to ≡ to_of ts
        → IsForm E (IsStatement limit m) setting ts form → Stops setting rest → Reads D (stated read (ts ++ rest)) (Stated form from to, rest)
    stated_again setting ts (Block k) from to rest u p q (inner, e, h) stop = rw e (block_again read m short_read again ts inner from to rest p q h)
    stated_again setting ts (Declares d) from to rest u p q h stop = absurd u
    stated_again setting ts (Evaluates e) from to rest u p q h stop = expression_again read m short_read again ts e from to rest p q h
    stated_again setting ts Empties from to rest u p q h stop = empty_again read m short_read again ts from to rest p q h
    stated_again setting ts (Labels name mark s) from to rest u p q (n, k, b, parts, is, colon, e, g, h) stop =
        rw (e, g) (label_again read m short_read again setting ts n k b s from to rest p q parts is colon h stop)
    stated_again setting ts (Chooses e s nothing) from to rest u p q (i, a, b, parts, never, is, ha, hb) stop =
        alone_again read m short_read again setting ts i a b e s from to rest p q parts never is ha hb stop
    stated_again setting ts (Chooses e s (just o)) from to rest u p q (i, a, b, k, c, parts, is, ha, hb, isk, hc) stop =
        both_again read m short_read again setting ts i a b k c e s o from to rest p q parts is ha hb isk hc stop
    stated_again setting ts (Whiles e s) from to rest u p q (i, a, b, parts, is, ha, hb) stop = while_again read m short_read again setting ts i a b e s from to rest p q parts is ha hb stop
    stated_again setting ts (Does s e) from to rest u p q (d, a, h, b, c, parts, is, ha, isw, hb, semi) stop =
        do_again read m short_read again ts d a h b c s e from to rest p q parts is ha isw hb semi
    stated_again setting ts (Fors i x y s) from to rest u p q (f, o, a, b, c, d, parts, is, iso, ha, hb, hc, hd) stop =
        for_again read m short_read again setting ts f o a b c d i x y s from to rest p q parts is iso ha hb hc hd stop
    stated_again setting ts Breaks from to rest u p q h stop = break_again read m short_read again ts from to rest p q h
    stated_again setting ts Continues from to rest u p q h stop = continue_again read m short_read again ts from to rest p q h
    stated_again setting ts (Returns x) from to rest u p q (r, b, parts, is, hb) stop = return_again read m short_read again ts r b x from to rest p q parts is hb

    -- none of the other forms begins as a declaration does
    spoken_start : (setting : Setting) (ts : List Lexeme) (form : Form) (rest : List Lexeme) → Spoken form → IsForm E (IsStatement limit m) setting ts form → declares (ts ++ rest) ≡ false
    spoken_start setting ts (Block k) rest u (inner, e, (o, b, c, parts, opens, closes, h)) = rw (parts, opens) refl
    spoken_start setting ts (Declares d) rest u h = absurd u
    spoken_start setting ts (Evaluates e) rest u h = no_declaration (ts ++ rest) (evaluated_start ts e rest h)
    spoken_start setting ts Empties rest u h = let p = one_token ts w.Semicolon h in rw (p.1, p.2) refl
    spoken_start setting ts (Labels n k s) rest u h = rw (h.3, h.4) refl
    spoken_start setting ts (Chooses e s nothing) rest u h = rw (h.3, h.5) refl
    spoken_start setting ts (Chooses e s (just o)) rest u h = rw (h.5, h.6) refl
    spoken_start setting ts (Whiles e s) rest u h = rw (h.3, h.4) refl
    spoken_start setting ts (Does s e) rest u h = rw (h.5, h.6) refl
    spoken_start setting ts (Fors x y z s) rest u h = rw (h.6, h.7) refl
    spoken_start setting ts Breaks rest u h = let p = two_tokens ts w.Break w.Semicolon h in rw (p.2, p.3) refl
    spoken_start setting ts Continues rest u h = let p = two_tokens ts w.Continue w.Semicolon h in rw (p.2, p.3) refl
    spoken_start setting ts (Returns e) rest u h = rw (h.2, h.3) refl

    by_setting : (setting : Setting) (ts : List Lexeme) (x : Statement × List Lexeme) → declares ts ≡ false → Reads D (stated read ts) x → Reads D (statement read (may_declare setting) ts) x
    unfolding statement
    by_setting InBlock ts x e h = reads_else D (declares ts) _ _ _ e h
    by_setting BeforeElse ts x e h = h
    by_setting Elsewhere ts x e h = h

    spoken_again : (setting : Setting) (ts : List Lexeme) (form : Form) (from to : ℕ) (rest : List Lexeme) → Spoken form → from ≡ from_of ts → to ≡ to_of ts
        → IsForm E (IsStatement limit m) setting ts form → Stops setting rest → Reads D (statement read (may_declare setting) (ts ++ rest)) (Stated form from to, rest)
    spoken_again setting ts form from to rest u p q h stop =
        by_setting setting (ts ++ rest) (Stated form from to, rest) (spoken_start setting ts form rest u h) (stated_again setting ts form from to rest u p q h stop)

    in_block : (setting : Setting) → setting ≡ InBlock → (ts : List Lexeme) (d : Declaration) (from to : ℕ) (rest : List Lexeme) → from ≡ from_of ts → to ≡ to_of ts
        → IsDeclaration E ts d → Reads D (statement read (may_declare setting) (ts ++ rest)) (Stated (Declares d) from to, rest)
    unfolding statement
    in_block setting e ts d from to rest p q h =
        rw e (reads_then D (declares (ts ++ rest)) _ _ _ (declares_next (ts ++ rest) (declaration_start ts d rest h)) (declared_again ts d from to rest p q h))

    pub form_again : (setting : Setting) (ts : List Lexeme) (form : Form) (from to : ℕ) (rest : List Lexeme) → from ≡ from_of ts → to ≡ to_of ts
        → IsForm E (IsStatement limit m) setting ts form → Stops setting rest → Reads D (statement read (may_declare setting) (ts ++ rest)) (Stated form from to, rest)
    form_again setting ts (Declares d) from to rest p q (e, h) stop = in_block setting e ts d from to rest p q h
    form_again setting ts (Block k) from to rest p q h stop = spoken_again setting ts (Block k) from to rest tt p q h stop
    form_again setting ts (Evaluates e) from to rest p q h stop = spoken_again setting ts (Evaluates e) from to rest tt p q h stop
    form_again setting ts Empties from to rest p q h stop = spoken_again setting ts Empties from to rest tt p q h stop
    form_again setting ts (Labels n k s) from to rest p q h stop = spoken_again setting ts (Labels n k s) from to rest tt p q h stop
    form_again setting ts (Chooses e s o) from to rest p q h stop = spoken_again setting ts (Chooses e s o) from to rest tt p q h stop
    form_again setting ts (Whiles e s) from to rest p q h stop = spoken_again setting ts (Whiles e s) from to rest tt p q h stop
    form_again setting ts (Does s e) from to rest p q h stop = spoken_again setting ts (Does s e) from to rest tt p q h stop
    form_again setting ts (Fors x y z s) from to rest p q h stop = spoken_again setting ts (Fors x y z s) from to rest tt p q h stop
    form_again setting ts Breaks from to rest p q h stop = spoken_again setting ts Breaks from to rest tt p q h stop
    form_again setting ts Continues from to rest p q h stop = spoken_again setting ts Continues from to rest tt p q h stop
    form_again setting ts (Returns x) from to rest p q h stop = spoken_again setting ts (Returns x) from to rest tt p q h stop

  -- ---- statements

  pub read_statement_again : (k m : ℕ) → (k < m → D) → (setting : Setting) (a : List Lexeme) (s : Statement) (rest : List Lexeme) → IsStatement limit m setting a s → Stops setting rest
      → Reads D (read_statement k (may_declare setting) (a ++ rest)) (s, rest)
  unfolding read_statement
  read_statement_again k zero low setting a s rest h stop = absurd h
  read_statement_again zero (suc m) low setting a s rest h stop = inr (low (omega arith), refl)
  read_statement_again (suc k) (suc m) low setting a (Stated form from to) rest (p, q, h) stop =
      form_again (read_statement k) m (read_shortens k) (read_statement_again k m (λ lt. low (omega (arith, lt)))) setting a form from to rest p q h stop

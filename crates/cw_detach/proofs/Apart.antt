-- The statements that are calls of some functions stand one behind the other: what derives a statement lies between the tokens of the one around it.
use Rattle.std.proofs.Common.{◌≡◌, ℕ, zero, suc, ◌<◌, ◌≤◌, Bool, true, false, List, [], ◌∷◌, ◌++◌, length, refl, sym, ap, subst, arith, length-append}
use Rattle.std.specs.List.{filter_map, flat_map}
use Rattle.std.proofs.lemmas.List.Elements.{filter_map-append}
use Rattle.cw_lex.proofs.Ordered.{tokens_in_order}
use Rattle.cw_grammar.specs.declared.terminals.Lexeme.{Lexeme}
use Rattle.cw_grammar.specs.Lexemes.{from_of, to_of, AreAll, statements}
use Rattle.cw_grammar.specs.Expressions.{IsExpression, nesting_limit}
use Rattle.cw_grammar.specs.Declarations.{Expressions}
use Rattle.cw_grammar.specs.Spelling.{lexemes_of}
use Rattle.cw_grammar.specs.Statements.{Setting, InBlock, BeforeElse, Elsewhere, last, IsForm, IsStatement}
use Rattle.cw_grammar.specs.Files.{Part, Declares as DeclaresPart, Holds, Defines, IsPart, IsFunction, IsProgram, file_of}
use Rattle.cw_syntax.specs.Trees.{Tree, Statement, Stated, Form, Block, Declares, Evaluates, Empties, Labels, Chooses, Whiles, Does, Fors, Breaks, Continues, Returns, nothing, just, Definition, File}
use Rattle.cw_scope.specs.Walks.{Nested, nested, nested_all, body_of, every_statement}
use Rattle.cw_source.specs.Read.{ReadsAs}
use Rattle.cw_source.proofs.Lying.{Lie, lie_of, lie_le, split, ends, lie_at}
use Rattle.cw_detach.specs.declared.spans.Span.{Span}
use Rattle.cw_detach.specs.Form.{calls_one, span_of, spans, AreApart}

apart_wider : (a b c d : ℕ) (ss : List Span) → c ≤ a → b ≤ d → AreApart a b ss → AreApart c d ss
apart_wider a b c d [] p q h = omega arith
apart_wider a b c d (s ∷ ss) p q h = ((let r = h.0 in omega arith), h.1, apart_wider s.to b s.to d ss (omega arith) q h.2)

apart_both : (a b c : ℕ) (xs ys : List Span) → AreApart a b xs → AreApart b c ys → AreApart a c (xs ++ ys)
apart_both a b c [] ys h k = apart_wider b c a c ys h (omega arith) k
apart_both a b c (x ∷ xs) ys h k = (h.0, h.1, apart_both x.to b c xs ys h.2 k)

module _ (source : List ℕ) (names : List (List ℕ)) where
  abbrev own : List Nested → List Span
  own ps = filter_map (λ p. span_of source names p.statement) ps

  own_both : (ps qs : List Nested) → own (ps ++ qs) ≡ own ps ++ own qs
  own_both ps qs = filter_map-append (λ p. span_of source names p.statement) ps qs

  -- a statement that is an expression
  one : (e : Tree) (looped : Bool) (from to a b : ℕ) → from ≤ a → a ≤ b → b ≤ to → AreApart from to (own (nested looped (Stated (Evaluates e) a b)))
  one e looped from to a b p q r = by (calls_one source names e) refl
    where
      by : (t : Bool) → calls_one source names e ≡ t → AreApart from to (own (nested looped (Stated (Evaluates e) a b)))
      by true t = rw t (p, q, r)
      by false t = rw t (omega arith)

  -- a rule, where the claim holds of the statements in it
  module _ (E : Expressions) (P : Setting → List Lexeme → Statement → Type 0)
      (h : (setting : Setting) (ts : List Lexeme) (st : Statement) (looped : Bool) (from to : ℕ) → P setting ts st → Lie from to ts → AreApart from to (own (nested looped st))) where
    all_apart : (ts : List Lexeme) (ss : List Statement) (looped : Bool) (from to : ℕ) → AreAll (P InBlock) ts ss → Lie from to ts → AreApart from to (own (nested_all looped (statements ss)))
    all_apart ts [] looped from to none lie = lie_le from to ts lie
    all_apart ts (st ∷ ss) looped from to (x, y, whole, first, rest) lie =
        let p = split from to x y (lie_at from to ts (x ++ y) whole lie) in
        rw (own_both (nested looped st) (nested_all looped (statements ss)))
        (apart_both from p.0 to _ _ (h InBlock x st looped from p.0 first p.1) (all_apart y ss looped p.0 to rest p.2))

    form_apart : (setting : Setting) (ts : List Lexeme) (form : Form) (looped : Bool) (from to : ℕ) → IsForm E P setting ts form → Lie from to ts
        → AreApart from to (own (nested looped (Stated form (from_of ts) (to_of ts))))
    form_apart setting ts (Block kids) looped from to (inner, kids_are, (o, x, c, whole, opens, closes, all)) lie =
        let p = lie_at from to ts (o ∷ x ++ c ∷ []) whole lie in
        let q = split o.to to x (c ∷ []) p.2 in
        let up : from ≤ o.to = (let a = p.0 in let b = p.1 in omega arith) in
        rw kids_are (apart_wider o.to q.0 from to _ up (lie_le q.0 to (c ∷ []) q.2) (all_apart x inner looped o.to q.0 all q.1))
    form_apart setting ts (Declares d) looped from to is lie = lie_le from to ts lie
    form_apart setting ts (Evaluates e) looped from to (inner, c, whole, closes, is) lie =
        let some : 0 < length ts = omega (arith, ap length whole, length-append inner (c ∷ [])) in
        let p = ends from to ts some lie in
        one e looped from to (from_of ts) (to_of ts) p.0 p.1 p.2
    form_apart setting ts Empties looped from to is lie = lie_le from to ts lie
    form_apart setting ts (Labels name mark body) looped from to (n, k, x, whole, n_is, k_is, name_is, mark_is, is) lie =
        let p = lie_at from to ts (n ∷ k ∷ x) whole lie in
        let up : from ≤ k.to = (let a = p.0 in let b = p.1 in let c = p.2.0 in let d = p.2.1 in omega arith) in
        apart_wider k.to to from to _ up (omega arith) (h (last setting) x body looped k.to to is p.2.2)
    form_apart setting ts (Chooses test arm nothing) looped from to (i, x, y, whole, setting_is, i_is, test_is, is) lie =
        let p = lie_at from to ts (i ∷ x ++ y) whole lie in
        let q = split i.to to x y p.2 in
        let up : from ≤ q.0 = (let a = p.0 in let b = p.1 in let c = lie_le i.to q.0 x q.1 in omega arith) in
        let first = apart_wider q.0 to from to _ up (omega arith) (h Elsewhere y arm looped q.0 to is q.2) in
        rw (own_both (nested looped arm) []) (apart_both from to to _ _ first (omega arith))
    form_apart setting ts (Chooses test arm (just other)) looped from to (i, x, y, e, z, whole, i_is, test_is, is, e_is, other_is) lie =
        let p = lie_at from to ts (i ∷ x ++ (y ++ e ∷ z)) whole lie in
        let q = split i.to to x (y ++ e ∷ z) p.2 in
        let r = split q.0 to y (e ∷ z) q.2 in
        let up : from ≤ q.0 = (let a = p.0 in let b = p.1 in let c = lie_le i.to q.0 x q.1 in omega arith) in
        let between : r.0 ≤ e.to = (let a = r.2.0 in let b = r.2.1 in omega arith) in
        let first = apart_wider q.0 r.0 from r.0 _ up (omega arith) (h BeforeElse y arm looped q.0 r.0 is r.1) in
        let second = apart_wider e.to to r.0 to _ between (omega arith) (h (last setting) z other looped e.to to other_is r.2.2) in
        rw (own_both (nested looped arm) (nested looped other)) (apart_both from r.0 to _ _ first second)
    form_apart setting ts (Whiles test body) looped from to (w, x, y, whole, w_is, test_is, is) lie =
        let p = lie_at from to ts (w ∷ x ++ y) whole lie in
        let q = split w.to to x y p.2 in
        let up : from ≤ q.0 = (let a = p.0 in let b = p.1 in let c = lie_le w.to q.0 x q.1 in omega arith) in
        apart_wider q.0 to from to _ up (omega arith) (h (last setting) y body true q.0 to is q.2)
    form_apart setting ts (Does body test) looped from to (d, x, w, y, c, whole, d_is, is, w_is, test_is, c_is) lie =
        let p = lie_at from to ts (d ∷ x ++ (w ∷ y ++ c ∷ [])) whole lie in
        let q = split d.to to x (w ∷ y ++ c ∷ []) p.2 in
        let up : from ≤ d.to = (let a = p.0 in let b = p.1 in omega arith) in
        apart_wider d.to q.0 from to _ up (lie_le q.0 to (w ∷ y ++ c ∷ []) q.2) (h Elsewhere x body true d.to q.0 is q.1)
    form_apart setting ts (Fors init test step body) looped from to (f, o, x, y, z, v, whole, f_is, o_is, init_is, test_is, step_is, is) lie =
        let p = lie_at from to ts (f ∷ o ∷ x ++ (y ++ (z ++ v))) whole lie in
        let q = split o.to to x (y ++ (z ++ v)) p.2.2 in
        let r = split q.0 to y (z ++ v) q.2 in
        let u = split r.0 to z v r.2 in
        let head : from ≤ o.to = (let a = p.0 in let b = p.1 in let c = p.2.0 in let d = p.2.1 in omega arith) in
        let up : from ≤ u.0 = (let a = lie_le o.to q.0 x q.1 in let b = lie_le q.0 r.0 y r.1 in let c = lie_le r.0 u.0 z u.1 in omega (arith, head)) in
        apart_wider u.0 to from to _ up (omega arith) (h (last setting) v body true u.0 to is u.2)
    form_apart setting ts Breaks looped from to is lie = lie_le from to ts lie
    form_apart setting ts Continues looped from to is lie = lie_le from to ts lie
    form_apart setting ts (Returns value) looped from to is lie = lie_le from to ts lie

  module _ (limit : ℕ) where
    statement_apart : (n : ℕ) (setting : Setting) (ts : List Lexeme) (st : Statement) (looped : Bool) (from to : ℕ) → IsStatement limit n setting ts st → Lie from to ts
        → AreApart from to (own (nested looped st))
    statement_apart zero setting ts st looped from to is lie = absurd is
    statement_apart (suc n) setting ts (Stated form begin finish) looped from to (begin_is, finish_is, is) lie =
        rw (begin_is, finish_is) (form_apart (IsExpression limit) (IsStatement limit n) (statement_apart n) setting ts form looped from to is lie)

    function_apart : (ts : List Lexeme) (f : Definition) (from to : ℕ) → IsFunction limit ts f → Lie from to ts → AreApart from to (own (body_of f))
    function_apart ts f from to (x, o, y, c, body, whole, header, named, opens, brace, all, body_is, closes) lie =
        let p = split from to x (o ∷ y ++ c ∷ []) (subst (λ (z : List Lexeme). Lie from to z) whole lie) in
        let q = split o.to to y (c ∷ []) p.2.2 in
        let up : from ≤ o.to = (let a = lie_le from p.0 x p.1 in let b = p.2.0 in let c = p.2.1 in omega arith) in
        rw body_is (apart_wider o.to q.0 from to _ up (lie_le q.0 to (c ∷ []) q.2) (all_apart (IsExpression limit) (IsStatement limit limit) (statement_apart limit) y body false o.to q.0 all q.1))

    parts_apart : (parts : List Part) (ts : List Lexeme) (from to : ℕ) → AreAll (IsPart limit) ts parts → Lie from to ts → AreApart from to (own (flat_map body_of (file_of parts).functions))
    parts_apart [] ts from to none lie = lie_le from to ts lie
    parts_apart (DeclaresPart d ∷ parts) ts from to (x, y, whole, first, rest) lie =
        let p = split from to x y (subst (λ (z : List Lexeme). Lie from to z) whole lie) in
        apart_wider p.0 to from to _ (lie_le from p.0 x p.1) (omega arith) (parts_apart parts y p.0 to rest p.2)
    parts_apart (Holds d ∷ parts) ts from to (x, y, whole, first, rest) lie =
        let p = split from to x y (subst (λ (z : List Lexeme). Lie from to z) whole lie) in
        apart_wider p.0 to from to _ (lie_le from p.0 x p.1) (omega arith) (parts_apart parts y p.0 to rest p.2)
    parts_apart (Defines f ∷ parts) ts from to (x, y, whole, first, rest) lie =
        let p = split from to x y (subst (λ (z : List Lexeme). Lie from to z) whole lie) in
        rw (own_both (body_of f) (flat_map body_of (file_of parts).functions)) (apart_both from p.0 to _ _ (function_apart x f from p.0 first p.1) (parts_apart parts y p.0 to rest p.2))

pub spans_apart : (source : List ℕ) (names : List (List ℕ)) (file : File) → ReadsAs source file → AreApart 0 (length source) (spans source names file)
unfolding IsProgram
spans_apart source names file h =
    let derived = h.derived in
    let ts = lexemes_of source h.tokens in
    let lie : Lie 0 (length source) ts = lie_of source 0 (length source) h.tokens (tokens_in_order source h.tokens h.lexed) in
    subst (λ (z : File). AreApart 0 (length source) (own source names (every_statement z))) (sym derived.2) (parts_apart source names nesting_limit derived.0 ts 0 (length source) derived.1 lie)

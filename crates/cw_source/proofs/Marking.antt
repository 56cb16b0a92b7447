-- The marks of a program that is read stand in the order of the text: what derives a statement has its marks between its tokens.
use Rattle.std.proofs.Common.{ℕ, zero, suc, ◌+◌, ◌<◌, ◌≤◌, List, [], ◌∷◌, ◌++◌, length, sym, ap, subst, arith, length-append}
use Rattle.cw_lex.proofs.Ordered.{tokens_in_order}
use Rattle.cw_grammar.specs.declared.terminals.Lexeme.{Lexeme}
use Rattle.cw_grammar.specs.Lexemes.{from_of, AreAll, statements}
use Rattle.cw_grammar.specs.Expressions.{IsExpression, nesting_limit}
use Rattle.cw_grammar.specs.Declarations.{Expressions}
use Rattle.cw_grammar.specs.Statements.{Setting, InBlock, BeforeElse, Elsewhere, last, IsForm, IsStatement}
use Rattle.cw_grammar.specs.Spelling.{lexemes_of}
use Rattle.cw_grammar.specs.Files.{Part, Declares as DeclaresPart, Holds, Defines, IsPart, IsFunction, IsProgram, file_of}
use Rattle.cw_syntax.specs.Names.{Names}
use Rattle.cw_syntax.specs.Trees.{Statement, Stated, Form, Block, Declares, Evaluates, Empties, Labels, Chooses, Whiles, Does, Fors, Breaks, Continues, Returns, nothing, just, Definition, File}
use Rattle.cw_syntax.specs.Plans.{Scene, Action, Computes, Opens, Closes, Invokes, action_of, acting, steps_of, steps_of_form, steps_of_all, seams, seams_all, numbered}
use Rattle.cw_syntax.specs.Plans.{numbered_all, routines_from, scene_of, plan_of}
use Rattle.cw_syntax.specs.Marks.{marks_in, marks_in_all, marks_from, marks_of, AreInOrder}
use Rattle.cw_source.specs.Read.{ReadsAs}
use Rattle.cw_source.proofs.Ordered.{wider, joined}
use Rattle.cw_source.proofs.Lying.{Lie, lie_of, lie_le, split, first_within, lie_at}

acting_marks : (action : Action) (at j from to : ℕ) → (from ≤ at) × (at < to) → AreInOrder from to (marks_in (numbered (acting action at) j))
acting_marks Computes at j from to (p, q) = omega arith
acting_marks (Opens d) at j from to (p, q) = (p, (omega arith), (omega arith))
acting_marks (Closes d) at j from to (p, q) = (p, (omega arith), (omega arith))
acting_marks (Invokes callee) at j from to (p, q) = (p, (omega arith), (omega arith))

-- a rule, where the claim holds of the statements in it
module _ (s : Scene) (E : Expressions) (P : Setting → List Lexeme → Statement → Type 0)
    (h : (setting : Setting) (ts : List Lexeme) (st : Statement) (j from to : ℕ) → P setting ts st → Lie from to ts → AreInOrder from to (marks_in (numbered (steps_of s st) j))) where
  all_marks : (ts : List Lexeme) (ss : List Statement) (j from to : ℕ) → AreAll (P InBlock) ts ss → Lie from to ts
      → AreInOrder from to (marks_in_all (numbered_all (steps_of_all s (statements ss)) j))
  all_marks ts [] j from to none lie = lie_le from to ts lie
  all_marks ts (st ∷ ss) j from to (x, y, whole, one, rest) lie =
      let p = split from to x y (lie_at from to ts (x ++ y) whole lie) in
      joined from p.0 to _ _ (h InBlock x st j from p.0 one p.1) (all_marks y ss (j + seams (steps_of s st)) p.0 to rest p.2)

  form_marks : (setting : Setting) (ts : List Lexeme) (form : Form) (j from to : ℕ) → IsForm E P setting ts form → Lie from to ts
      → AreInOrder from to (marks_in (numbered (steps_of_form s (from_of ts) form) j))
  form_marks setting ts (Block kids) j from to (inner, kids_are, (o, x, c, whole, opens, closes, all)) lie =
      let p = lie_at from to ts (o ∷ x ++ c ∷ []) whole lie in
      let q = split o.to to x (c ∷ []) p.2 in
      let before : from ≤ o.to = (let a = p.0 in let b = p.1 in omega arith) in
      rw kids_are (wider o.to q.0 from to _ before (lie_le q.0 to (c ∷ []) q.2) (all_marks x inner j o.to q.0 all q.1))
  form_marks setting ts (Declares d) j from to is lie = lie_le from to ts lie
  form_marks setting ts (Evaluates e) j from to (inner, c, whole, closes, is) lie =
      let some : 0 < length ts = omega (arith, ap length whole, length-append inner (c ∷ [])) in
      acting_marks (action_of s e) (from_of ts) j from to (first_within from to ts some lie)
  form_marks setting ts Empties j from to is lie = lie_le from to ts lie
  form_marks setting ts (Labels name mark body) j from to (n, k, x, whole, n_is, k_is, name_is, mark_is, is) lie =
      let p = lie_at from to ts (n ∷ k ∷ x) whole lie in
      let after : from ≤ k.to = (let a = p.0 in let b = p.1 in let c = p.2.0 in let d = p.2.1 in omega arith) in
      rw mark_is (after, lie_le k.to to x p.2.2, h (last setting) x body (j + 1) k.to to is p.2.2)
  form_marks setting ts (Chooses test arm nothing) j from to (i, x, y, whole, setting_is, i_is, test_is, is) lie =
      let p = lie_at from to ts (i ∷ x ++ y) whole lie in
      let q = split i.to to x y p.2 in
      let before : from ≤ q.0 = (let a = p.0 in let b = p.1 in let c = lie_le i.to q.0 x q.1 in omega arith) in
      joined from to to _ [] (wider q.0 to from to _ before (omega arith) (h Elsewhere y arm j q.0 to is q.2)) (omega arith)
  form_marks setting ts (Chooses test arm (just other)) j from to (i, x, y, e, z, whole, i_is, test_is, is, e_is, other_is) lie =
      let p = lie_at from to ts (i ∷ x ++ (y ++ e ∷ z)) whole lie in
      let q = split i.to to x (y ++ e ∷ z) p.2 in
      let r = split q.0 to y (e ∷ z) q.2 in
      let before : from ≤ q.0 = (let a = p.0 in let b = p.1 in let c = lie_le i.to q.0 x q.1 in omega arith) in
      let between : r.0 ≤ e.to = (let a = r.2.0 in let b = r.2.1 in omega arith) in
      joined from r.0 to _ _
      (wider q.0 r.0 from r.0 _ before (omega arith) (h BeforeElse y arm j q.0 r.0 is r.1))
      (wider e.to to r.0 to _ between (omega arith) (h (last setting) z other (j + seams (steps_of s arm)) e.to to other_is r.2.2))
  form_marks setting ts (Whiles test body) j from to (w, x, y, whole, w_is, test_is, is) lie =
      let p = lie_at from to ts (w ∷ x ++ y) whole lie in
      let q = split w.to to x y p.2 in
      let before : from ≤ q.0 = (let a = p.0 in let b = p.1 in let c = lie_le w.to q.0 x q.1 in omega arith) in
      wider q.0 to from to _ before (omega arith) (h (last setting) y body j q.0 to is q.2)
  form_marks setting ts (Does body test) j from to (d, x, w, y, c, whole, d_is, is, w_is, test_is, c_is) lie =
      let p = lie_at from to ts (d ∷ x ++ (w ∷ y ++ c ∷ [])) whole lie in
      let q = split d.to to x (w ∷ y ++ c ∷ []) p.2 in
      let before : from ≤ d.to = (let a = p.0 in let b = p.1 in omega arith) in
      wider d.to q.0 from to _ before (lie_le q.0 to (w ∷ y ++ c ∷ []) q.2) (h Elsewhere x body j d.to q.0 is q.1)
  form_marks setting ts (Fors init test step body) j from to (f, o, x, y, z, v, whole, f_is, o_is, init_is, test_is, step_is, is) lie =
      let p = lie_at from to ts (f ∷ o ∷ x ++ (y ++ (z ++ v))) whole lie in
      let q = split o.to to x (y ++ (z ++ v)) p.2.2 in
      let r = split q.0 to y (z ++ v) q.2 in
      let u = split r.0 to z v r.2 in
      let before : from ≤ o.to = (let a = p.0 in let b = p.1 in let c = p.2.0 in let d = p.2.1 in omega arith) in
      let head : o.to ≤ u.0 = (let a = lie_le o.to q.0 x q.1 in let b = lie_le q.0 r.0 y r.1 in let c = lie_le r.0 u.0 z u.1 in omega arith) in
      wider u.0 to from to _ (omega arith) (omega arith) (h (last setting) v body j u.0 to is u.2)
  form_marks setting ts Breaks j from to is lie = lie_le from to ts lie
  form_marks setting ts Continues j from to is lie = lie_le from to ts lie
  form_marks setting ts (Returns value) j from to is lie = lie_le from to ts lie

module _ (s : Scene) (limit : ℕ) where
  statement_marks : (n : ℕ) (setting : Setting) (ts : List Lexeme) (st : Statement) (j from to : ℕ) → IsStatement limit n setting ts st → Lie from to ts
      → AreInOrder from to (marks_in (numbered (steps_of s st) j))
  statement_marks zero setting ts st j from to is lie = absurd is
  statement_marks (suc n) setting ts (Stated form begin finish) j from to (begin_is, finish_is, is) lie =
      rw begin_is (form_marks s (IsExpression limit) (IsStatement limit n) (statement_marks n) setting ts form j from to is lie)

  function_marks : (ts : List Lexeme) (f : Definition) (j from to : ℕ) → IsFunction limit ts f → Lie from to ts → (from ≤ f.brace) × (f.brace ≤ to)
      × AreInOrder f.brace to (marks_in_all (numbered_all (steps_of_all s f.body) j))
  function_marks ts f j from to (x, o, y, c, body, whole, header, named, opens, brace, all, body_is, closes) lie =
      let p = split from to x (o ∷ y ++ c ∷ []) (subst (λ (z : List Lexeme). Lie from to z) whole lie) in
      let q = split o.to to y (c ∷ []) p.2.2 in
      let before : from ≤ o.to = (let a = lie_le from p.0 x p.1 in let b = p.2.0 in let c = p.2.1 in omega arith) in
      rw brace (rw body_is (
        before,
        lie_le o.to to (y ++ c ∷ []) p.2.2,
        wider o.to q.0 o.to to _ (omega arith) (lie_le q.0 to (c ∷ []) q.2)
            (all_marks s (IsExpression limit) (IsStatement limit limit) (statement_marks limit) y body j o.to q.0 all q.1),
      ))

  parts_marks : (parts : List Part) (ts : List Lexeme) (j from to : ℕ) → AreAll (IsPart limit) ts parts → Lie from to ts
      → AreInOrder from to (marks_from (routines_from s j (file_of parts).functions))
  parts_marks [] ts j from to none lie = lie_le from to ts lie
  parts_marks (DeclaresPart d ∷ parts) ts j from to (x, y, whole, one, rest) lie =
      let p = split from to x y (subst (λ (z : List Lexeme). Lie from to z) whole lie) in
      wider p.0 to from to _ (lie_le from p.0 x p.1) (omega arith) (parts_marks parts y j p.0 to rest p.2)
  parts_marks (Holds d ∷ parts) ts j from to (x, y, whole, one, rest) lie =
      let p = split from to x y (subst (λ (z : List Lexeme). Lie from to z) whole lie) in
      wider p.0 to from to _ (lie_le from p.0 x p.1) (omega arith) (parts_marks parts y j p.0 to rest p.2)
  parts_marks (Defines f ∷ parts) ts j from to (x, y, whole, one, rest) lie =
      let p = split from to x y (subst (λ (z : List Lexeme). Lie from to z) whole lie) in
      let q = function_marks x f (j + 1) from p.0 one p.1 in
      let last : p.0 ≤ to = lie_le p.0 to y p.2 in
      (q.0, (let a = q.1 in omega arith), joined f.brace p.0 to _ _ q.2 (parts_marks parts y (j + 1 + seams_all (steps_of_all s f.body)) p.0 to rest p.2))

pub marks_in_order : (names : Names) (source : List ℕ) (file : File) → ReadsAs source file → AreInOrder 0 (length source) (marks_of (plan_of names source file))
unfolding IsProgram
marks_in_order names source file h =
    let derived = h.derived in
    let ts = lexemes_of source h.tokens in
    let lie : Lie 0 (length source) ts = lie_of source 0 (length source) h.tokens (tokens_in_order source h.tokens h.lexed) in
    subst (λ (z : File). AreInOrder 0 (length source) (marks_from (routines_from (scene_of names source file) 0 z.functions))) (sym derived.2)
    (parts_marks (scene_of names source file) nesting_limit derived.0 ts 0 0 (length source) derived.1 lie)

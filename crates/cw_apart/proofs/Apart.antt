-- In a program that is read the statements of a function begin at places that ascend strictly: what derives a statement has its place at its first token.
use Rattle.std.proofs.Common.{◌≡◌, ℕ, zero, suc, ◌+◌, ◌<◌, ◌≤◌, List, [], ◌∷◌, ◌++◌, length, Some, option_map, slice_get, sym, ap, ◌∙◌, subst, arith, length-append}
use Rattle.std.specs.Prelude.{find}
use Rattle.std.proofs.lemmas.Option.{none-some, same_Some}
use Rattle.cw_lex.proofs.Ordered.{tokens_in_order}
use Rattle.cw_grammar.specs.declared.terminals.Lexeme.{Lexeme}
use Rattle.cw_grammar.specs.Lexemes.{from_of, AreAll, statements}
use Rattle.cw_grammar.specs.Expressions.{IsExpression, nesting_limit}
use Rattle.cw_grammar.specs.Declarations.{Expressions}
use Rattle.cw_grammar.specs.Spelling.{lexemes_of}
use Rattle.cw_grammar.specs.Statements.{Setting, InBlock, BeforeElse, Elsewhere, last, IsInit, IsForm, IsStatement}
use Rattle.cw_grammar.specs.Files.{Part, Declares as DeclaresPart, Holds, Defines, IsPart, IsFunction, IsProgram, file_of}
use Rattle.cw_syntax.specs.Trees.{Statement, Stated, Form, Block, Declares, Evaluates, Empties, Labels, Chooses, Whiles, Does, Fors}
use Rattle.cw_syntax.specs.Trees.{Breaks, Continues, Returns, Perhaps, nothing, just, Definition, File}
use Rattle.cw_source.specs.Read.{ReadsAs}
use Rattle.cw_source.proofs.Lying.{Lie, lie_of, lie_le, split, first_within, lie_at, some_terminals, some_declaration}
use Rattle.cw_value.specs.Deeds.{said, said_in, said_init, said_all, begins_at, form_of, form_at}
use Rattle.cw_apart.specs.Starts.{start_of, Ascend}
use Rattle.cw_apart.proofs.Between.{wider, both, found}

-- a rule, where the claim holds of the statements in it
module _ (E : Expressions) (P : Setting → List Lexeme → Statement → Type 0)
    (h : (setting : Setting) (ts : List Lexeme) (st : Statement) (from to : ℕ) → P setting ts st → Lie from to ts → Ascend from to (said st)) where
  pub all_ascend : (ts : List Lexeme) (ss : List Statement) (from to : ℕ) → AreAll (P InBlock) ts ss → Lie from to ts → Ascend from to (said_all (statements ss))
  all_ascend ts [] from to none lie = lie_le from to ts lie
  all_ascend ts (st ∷ ss) from to (x, y, whole, one, rest) lie =
      let p = split from to x y (lie_at from to ts (x ++ y) whole lie) in
      both from p.0 to (said st) (said_all (statements ss)) (h InBlock x st from p.0 one p.1) (all_ascend y ss p.0 to rest p.2)

  -- a statement without others in it
  alone : (from to at : ℕ) → (from ≤ at) × (at < to) → (from ≤ at) × (at + 1 ≤ to)
  alone from to at p = (p.0, (let lt = p.1 in omega (arith, lt)))

  init_ascend : (ts : List Lexeme) (init : Perhaps) (from to : ℕ) → IsInit E ts init → Lie from to ts → Ascend from to (said_init init)
  init_ascend ts nothing from to is lie = lie_le from to ts lie
  init_ascend ts (just (Stated (Evaluates e) begin finish)) from to (begin_is, finish_is, (inner, c, whole, closes, is)) lie =
      let some : 0 < length ts = omega (arith, ap length whole, length-append inner (c ∷ [])) in
      let p = first_within from to ts some lie in
      alone from to begin ((let a = p.0 in omega (arith, a, begin_is)), (let b = p.1 in omega (arith, b, begin_is)))
  init_ascend ts (just (Stated (Declares d) begin finish)) from to (begin_is, finish_is, is) lie =
      let p = first_within from to ts (some_declaration E ts d is) lie in
      alone from to begin ((let a = p.0 in omega (arith, a, begin_is)), (let b = p.1 in omega (arith, b, begin_is)))
  init_ascend ts (just _) from to is lie = absurd is

  -- what stands in a statement begins behind its first token
  leaf : (ts : List Lexeme) (from to : ℕ) → 0 < length ts → Lie from to ts → (from ≤ from_of ts) × (from_of ts + 1 ≤ to)
  leaf ts from to some lie = alone from to (from_of ts) (first_within from to ts some lie)

  form_ascends : (setting : Setting) (ts : List Lexeme) (form : Form) (from to : ℕ) → IsForm E P setting ts form → Lie from to ts → (from ≤ from_of ts) × Ascend (from_of ts + 1) to (said_in form)
  form_ascends setting ts (Block kids) from to (inner, kids_are, (o, x, c, whole, opens, closes, all)) lie =
      let p = lie_at from to ts (o ∷ x ++ c ∷ []) whole lie in
      let q = split o.to to x (c ∷ []) p.2 in
      let at : from_of ts ≡ o.from = ap from_of whole in (
        (let a = p.0 in omega (arith, at, a)),
        rw kids_are (wider o.to q.0 (from_of ts + 1) to (said_all (statements inner)) (let b = p.1 in omega (arith, at, b)) (lie_le q.0 to (c ∷ []) q.2)
            (all_ascend x inner o.to q.0 all q.1)),
      )
  form_ascends setting ts (Declares d) from to is lie = leaf ts from to (some_declaration E ts d is.1) lie
  form_ascends setting ts (Evaluates e) from to (inner, c, whole, closes, is) lie = leaf ts from to (omega (arith, ap length whole, length-append inner (c ∷ []))) lie
  form_ascends setting ts Empties from to is lie = leaf ts from to (some_terminals ts _ _ is) lie
  form_ascends setting ts (Labels name mark body) from to (n, k, x, whole, n_is, k_is, name_is, mark_is, is) lie =
      let p = lie_at from to ts (n ∷ k ∷ x) whole lie in
      let at : from_of ts ≡ n.from = ap from_of whole in (
        (let a = p.0 in omega (arith, at, a)),
        wider k.to to (from_of ts + 1) to (said body) (let a = p.1 in let b = p.2.0 in let c = p.2.1 in omega (arith, at, a, b, c)) (omega arith)
            (h (last setting) x body k.to to is p.2.2),
      )
  form_ascends setting ts (Chooses test arm nothing) from to (i, x, y, whole, setting_is, i_is, test_is, is) lie =
      let p = lie_at from to ts (i ∷ x ++ y) whole lie in
      let q = split i.to to x y p.2 in
      let at : from_of ts ≡ i.from = ap from_of whole in
      let further : q.0 ≤ to = lie_le q.0 to y q.2 in
      let inner = both q.0 to to (said arm) [] (h Elsewhere y arm q.0 to is q.2) (omega arith) in
      ((let a = p.0 in omega (arith, at, a)), wider q.0 to (from_of ts + 1) to (said arm ++ []) (let a = p.1 in let b = lie_le i.to q.0 x q.1 in omega (arith, at, a, b)) (omega arith) inner)
  form_ascends setting ts (Chooses test arm (just other)) from to (i, x, y, e, z, whole, i_is, test_is, is, e_is, other_is) lie =
      let p = lie_at from to ts (i ∷ x ++ (y ++ e ∷ z)) whole lie in
      let q = split i.to to x (y ++ e ∷ z) p.2 in
      let r = split q.0 to y (e ∷ z) q.2 in
      let at : from_of ts ≡ i.from = ap from_of whole in
      let between : r.0 ≤ e.to = (let a = r.2.0 in let b = r.2.1 in omega (arith, a, b)) in
      let second_arm = wider e.to to r.0 to (said other) between (omega arith) (h (last setting) z other e.to to other_is r.2.2) in
      let arms = both q.0 r.0 to (said arm) (said other) (h BeforeElse y arm q.0 r.0 is r.1) second_arm in
      ((let a = p.0 in omega (arith, at, a)), wider q.0 to (from_of ts + 1) to (said arm ++ said other) (let a = p.1 in let b = lie_le i.to q.0 x q.1 in omega (arith, at, a, b)) (omega arith) arms)
  form_ascends setting ts (Whiles test body) from to (w, x, y, whole, w_is, test_is, is) lie =
      let p = lie_at from to ts (w ∷ x ++ y) whole lie in
      let q = split w.to to x y p.2 in
      let at : from_of ts ≡ w.from = ap from_of whole in (
        (let a = p.0 in omega (arith, at, a)),
        wider q.0 to (from_of ts + 1) to (said body) (let a = p.1 in let b = lie_le w.to q.0 x q.1 in omega (arith, at, a, b)) (omega arith)
            (h (last setting) y body q.0 to is q.2),
      )
  form_ascends setting ts (Does body test) from to (d, x, w, y, c, whole, d_is, is, w_is, test_is, c_is) lie =
      let p = lie_at from to ts (d ∷ x ++ (w ∷ y ++ c ∷ [])) whole lie in
      let q = split d.to to x (w ∷ y ++ c ∷ []) p.2 in
      let at : from_of ts ≡ d.from = ap from_of whole in (
        (let a = p.0 in omega (arith, at, a)),
        wider d.to q.0 (from_of ts + 1) to (said body) (let a = p.1 in omega (arith, at, a))
            (lie_le q.0 to (w ∷ y ++ c ∷ []) q.2) (h Elsewhere x body d.to q.0 is q.1),
      )
  form_ascends setting ts (Fors init test step body) from to (f, o, x, y, z, v, whole, f_is, o_is, init_is, test_is, step_is, is) lie =
      let p = lie_at from to ts (f ∷ o ∷ x ++ (y ++ (z ++ v))) whole lie in
      let q = split o.to to x (y ++ (z ++ v)) p.2.2 in
      let r = split q.0 to y (z ++ v) q.2 in
      let u = split r.0 to z v r.2 in
      let at : from_of ts ≡ f.from = ap from_of whole in
      let head : q.0 ≤ u.0 = (let b = lie_le q.0 r.0 y r.1 in let c = lie_le r.0 u.0 z u.1 in omega (arith, b, c)) in
      let inner = wider u.0 to q.0 to (said body) head (omega arith) (h (last setting) v body u.0 to is u.2) in
      let parts = both o.to q.0 to (said_init init) (said body) (init_ascend x init o.to q.0 init_is q.1) inner in (
        (let a = p.0 in omega (arith, at, a)),
        wider o.to to (from_of ts + 1) to (said_init init ++ said body)
            (let a = p.1 in let b = p.2.0 in let c = p.2.1 in omega (arith, at, a, b, c)) (omega arith) parts,
      )
  form_ascends setting ts Breaks from to is lie = leaf ts from to (some_terminals ts _ _ is) lie
  form_ascends setting ts Continues from to is lie = leaf ts from to (some_terminals ts _ _ is) lie
  form_ascends setting ts (Returns value) from to (r, b, whole, r_is, is) lie = leaf ts from to (omega (arith, ap length whole)) lie

module _ (limit : ℕ) where
  statement_ascends : (n : ℕ) (setting : Setting) (ts : List Lexeme) (st : Statement) (from to : ℕ) → IsStatement limit n setting ts st → Lie from to ts → Ascend from to (said st)
  statement_ascends zero setting ts st from to is lie = absurd is
  statement_ascends (suc n) setting ts (Stated form begin finish) from to (begin_is, finish_is, is) lie =
      rw begin_is (form_ascends (IsExpression limit) (IsStatement limit n) (statement_ascends n) setting ts form from to is lie)

  function_ascends : (ts : List Lexeme) (f : Definition) (from to : ℕ) → IsFunction limit ts f → Lie from to ts → Ascend from to (said_all f.body)
  function_ascends ts f from to (x, o, y, c, body, whole, header, named, opens, brace, all, body_is, closes) lie =
      let p = split from to x (o ∷ y ++ c ∷ []) (subst (λ (z : List Lexeme). Lie from to z) whole lie) in
      let q = split o.to to y (c ∷ []) p.2.2 in
      let before : from ≤ o.to = (let a = lie_le from p.0 x p.1 in let b = p.2.0 in let c = p.2.1 in omega (arith, a, b, c)) in
      rw body_is (wider o.to q.0 from to (said_all (statements body)) before (lie_le q.0 to (c ∷ []) q.2)
      (all_ascend (IsExpression limit) (IsStatement limit limit) (statement_ascends limit) y body o.to q.0 all q.1))

  parts_ascend : (parts : List Part) (ts : List Lexeme) (from to n : ℕ) (f : Definition) → AreAll (IsPart limit) ts parts → Lie from to ts → slice_get (file_of parts).functions n ≡ Some f
      → Ascend from to (said_all f.body)
  parts_ascend [] ts from to n f none lie is = absurd (none-some f is)
  parts_ascend (DeclaresPart d ∷ parts) ts from to n f (x, y, whole, one, rest) lie is =
      let p = split from to x y (subst (λ (z : List Lexeme). Lie from to z) whole lie) in
      wider p.0 to from to (said_all f.body) (lie_le from p.0 x p.1) (omega arith) (parts_ascend parts y p.0 to n f rest p.2 is)
  parts_ascend (Holds d ∷ parts) ts from to n f (x, y, whole, one, rest) lie is =
      let p = split from to x y (subst (λ (z : List Lexeme). Lie from to z) whole lie) in
      wider p.0 to from to (said_all f.body) (lie_le from p.0 x p.1) (omega arith) (parts_ascend parts y p.0 to n f rest p.2 is)
  parts_ascend (Defines g ∷ parts) ts from to zero f (x, y, whole, one, rest) lie is =
      let p = split from to x y (subst (λ (z : List Lexeme). Lie from to z) whole lie) in
      subst (λ (d : Definition). Ascend from to (said_all d.body)) (same_Some g f is)
      (wider from p.0 from to (said_all g.body) (omega arith) (lie_le p.0 to y p.2) (function_ascends x g from p.0 one p.1))
  parts_ascend (Defines g ∷ parts) ts from to (suc n) f (x, y, whole, one, rest) lie is =
      let p = split from to x y (subst (λ (z : List Lexeme). Lie from to z) whole lie) in
      wider p.0 to from to (said_all f.body) (lie_le from p.0 x p.1) (omega arith) (parts_ascend parts y p.0 to n f rest p.2 is)

pub statements_ascend : (source : List ℕ) (file : File) (n : ℕ) (f : Definition) → ReadsAs source file → slice_get file.functions n ≡ Some f → Ascend 0 (length source) (said_all f.body)
unfolding IsProgram
statements_ascend source file n f h is =
    let derived = h.derived in
    let ts = lexemes_of source h.tokens in
    let lie : Lie 0 (length source) ts = lie_of source 0 (length source) h.tokens (tokens_in_order source h.tokens h.lexed) in
    parts_ascend nesting_limit derived.0 ts 0 (length source) n f derived.1 lie (ap (λ (z : File). slice_get z.functions n) (sym derived.2) ∙ is)

pub statements_are_found : (source : List ℕ) (file : File) (n : ℕ) (f : Definition) (i : ℕ) (s : Statement) → ReadsAs source file
    → slice_get file.functions n ≡ Some f → slice_get (said_all f.body) i ≡ Some s
    → (find (begins_at (start_of s)) (said_all f.body) ≡ Some s) × (form_at f (start_of s) ≡ Some (form_of s))
statements_are_found source file n f i s h is it =
    let there = found 0 (length source) i (said_all f.body) s (statements_ascend source file n f h is) it in
    (there, ap (option_map form_of) there)

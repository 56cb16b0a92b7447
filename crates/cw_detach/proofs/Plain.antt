-- Without detached functions the form is the source, and the names of the form are all that can forbid it.
use Rattle.std.proofs.Common.{◌≡◌, ℕ, zero, suc, ◌≤◌, true, false, cond, nat_le, nat_lt, List, [], ◌∷◌, length, slice_get, Option, Some, None, refl, sym, ap, ap₂, subst, ◌∙◌, arith}
use Rattle.std.specs.List.{filter_map, list_all}
use Rattle.std.specs.Option.{option_map, option_or}
use Rattle.std.proofs.lemmas.Bool.Decides.{nat_tests}
use Rattle.std.proofs.Math.Nat.{max-le}
use Rattle.cw_rights.specs.Policies.{PlainPolicy}
use Rattle.cw_lex.specs.declared.tokens.Token.{Token}
use Rattle.cw_lex.specs.Tokens.{AreTokens}
use Rattle.cw_lex.proofs.Listing.{one_list}
use Rattle.cw_grammar.specs.declared.terminals.Lexeme.{Lexeme}
use Rattle.cw_grammar.specs.Lexemes.{AreAll, statements}
use Rattle.cw_grammar.specs.Expressions.{IsExpression, nesting_limit}
use Rattle.cw_grammar.specs.Declarations.{Expressions}
use Rattle.cw_grammar.specs.Spelling.{lexemes_of}
use Rattle.cw_grammar.specs.Statements.{Setting, InBlock, BeforeElse, Elsewhere, last, IsForm, IsStatement}
use Rattle.cw_grammar.specs.Files.{Part, Declares as DeclaresPart, Holds, Defines, IsPart, IsProgram, file_of}
use Rattle.cw_syntax.specs.declared.program.Op.TheVariants.{Call as CallOp, Assign}
use Rattle.cw_syntax.specs.Trees.{Tree, Node, none, more, Statement, Stated, Form, Block, Declares, Evaluates, Empties, Labels, Chooses, Whiles, Does, Fors}
use Rattle.cw_syntax.specs.Trees.{Breaks, Continues, Returns, nothing, just, File}
use Rattle.cw_scope.specs.Walks.{Nested, every_statement}
use Rattle.cw_source.specs.Read.{ReadsAs}
use Rattle.cw_core.specs.declared.quantity.Quantity.TheVariants.{SourceBytes, Nesting}
use Rattle.cw_detach.specs.declared.faults.ProcFault.{ProcFault}
use Rattle.cw_detach.specs.declared.faults.ProcFault.TheVariants.{Limit, Result}
use Rattle.cw_detach.specs.Form.{calls_one, place_if, result_of, result_in, span_of, spans, form_from, form_of, nesting, nesting_in, nesting_all}
use Rattle.cw_detach.specs.Faults.{no_function, both, taken, result_taken, long, deep, is_shallow, text_fault, IsFirstFault, ◌or_else◌}

pub calls_none : (source : List ℕ) (t : Tree) → calls_one source [] t ≡ false
calls_none source (Node (CallOp f) parts from to) = refl
calls_none source (Node _ parts from to) = refl

no_span : (source : List ℕ) (s : Statement) → span_of source [] s ≡ None
no_span source (Stated (Evaluates e) from to) = rw (calls_none source e) refl
no_span source (Stated _ from to) = refl

no_place : (source : List ℕ) (t : Tree) → place_if source [] t ≡ None
no_place source (Node op parts from to) = rw (calls_none source (Node op parts from to)) refl

no_assigned : (source : List ℕ) (t : Tree) → result_of source [] t ≡ None
no_assigned source (Node (Assign zero) none from to) = refl
no_assigned source (Node (Assign zero) (more x none) from to) = refl
no_assigned source (Node (Assign zero) (more x (more call none)) from to) = no_place source call
no_assigned source (Node (Assign zero) (more x (more y (more z rest))) from to) = refl
no_assigned source (Node (Assign (suc n)) parts from to) = refl
no_assigned source (Node _ parts from to) = refl

no_result : (source : List ℕ) (s : Statement) → result_in source [] s ≡ None
no_result source (Stated (Evaluates e) from to) = no_assigned source e
no_result source (Stated _ from to) = refl

nothing_given : {X Y : Type 0} (h : X → Option Y) → ((x : X) → h x ≡ None) → (xs : List X) → filter_map h xs ≡ []
nothing_given h all [] = refl
nothing_given h all (x ∷ xs) = rw (all x) (nothing_given h all xs)

no_spans : (source : List ℕ) (file : File) → spans source [] file ≡ []
no_spans source file = nothing_given (λ (p : Nested). span_of source [] p.statement) (λ p. no_span source p.statement) (every_statement file)

pub form_same : (source : List ℕ) (file : File) → form_of source [] file ≡ source
unfolding form_of form_from
form_same source file = ap (form_from source 0) (no_spans source file)

-- ---- a source that is read nests no deeper than it may

module _ (source : List ℕ) where
  -- a rule, where the claim holds of the statements in it
  module _ (E : Expressions) (P : Setting → List Lexeme → Statement → Type 0) (n : ℕ) (h : (setting : Setting) (ts : List Lexeme) (st : Statement) → P setting ts st → nesting source [] st ≤ n) where
    pub all_nest : (ts : List Lexeme) (ss : List Statement) → AreAll (P InBlock) ts ss → nesting_all source [] (statements ss) ≤ n
    all_nest ts [] is = omega arith
    all_nest ts (st ∷ ss) (x, y, whole, first, rest) = max-le (h InBlock x st first) (all_nest y ss rest)

    form_nests : (setting : Setting) (ts : List Lexeme) (form : Form) → IsForm E P setting ts form → nesting_in source [] form ≤ suc n
    form_nests setting ts (Block kids) (inner, kids_are, (o, x, c, whole, opens, closes, all)) = rw kids_are (let p = all_nest x inner all in omega arith)
    form_nests setting ts (Declares d) is = omega arith
    form_nests setting ts (Evaluates e) is = rw (calls_none source e) (omega arith)
    form_nests setting ts Empties is = omega arith
    form_nests setting ts (Labels name mark body) (k, colon, x, whole, k_is, colon_is, name_is, mark_is, is) = let p = h (last setting) x body is in omega arith
    form_nests setting ts (Chooses test arm nothing) (i, x, y, whole, setting_is, i_is, test_is, is) =
        let zero_le : 0 ≤ n = omega arith in
        let p = max-le (h Elsewhere y arm is) zero_le in omega arith
    form_nests setting ts (Chooses test arm (just other)) (i, x, y, e, z, whole, i_is, test_is, is, e_is, other_is) =
        let p = max-le (h BeforeElse y arm is) (h (last setting) z other other_is) in omega arith
    form_nests setting ts (Whiles test body) (w, x, y, whole, w_is, test_is, is) = let p = h (last setting) y body is in omega arith
    form_nests setting ts (Does body test) (d, x, w, y, c, whole, d_is, is, w_is, test_is, c_is) = let p = h Elsewhere x body is in omega arith
    form_nests setting ts (Fors init test step body) (f, o, x, y, z, v, whole, f_is, o_is, init_is, test_is, step_is, is) = let p = h (last setting) v body is in omega arith
    form_nests setting ts Breaks is = omega arith
    form_nests setting ts Continues is = omega arith
    form_nests setting ts (Returns value) is = omega arith

  pub statement_nests : (limit n : ℕ) (setting : Setting) (ts : List Lexeme) (st : Statement) → IsStatement limit n setting ts st → nesting source [] st ≤ n
  statement_nests limit zero setting ts st is = absurd is
  statement_nests limit (suc n) setting ts (Stated form begin finish) (begin_is, finish_is, is) =
      form_nests (IsExpression limit) (IsStatement limit n) n (statement_nests limit n) setting ts form is

  parts_nest : (limit : ℕ) (parts : List Part) (ts : List Lexeme) → AreAll (IsPart limit) ts parts → list_all (λ f. nat_le (nesting_all source [] f.body) limit) (file_of parts).functions ≡ true
  parts_nest limit [] ts is = refl
  parts_nest limit (DeclaresPart d ∷ parts) ts (x, y, whole, first, rest) = parts_nest limit parts y rest
  parts_nest limit (Holds d ∷ parts) ts (x, y, whole, first, rest) = parts_nest limit parts y rest
  parts_nest limit (Defines f ∷ parts) ts (x, y, whole, (header, o, inner, c, body, all_of, is_header, named, opens, brace, all, body_is, closes), rest) =
      let le : nesting_all source [] f.body ≤ limit = rw body_is (all_nest (IsExpression limit) (IsStatement limit limit) limit (statement_nests limit limit) inner body all) in
      let t : nat_le (nesting_all source [] f.body) limit ≡ true = grind (arith, nat_tests) in
      rw t (parts_nest limit parts y rest)

shallow_read : (source : List ℕ) (file : File) → ReadsAs source file → is_shallow source file [] ≡ true
unfolding IsProgram nesting_limit
shallow_read source file reads =
    let derived = reads.derived in
    subst (λ (z : File). is_shallow source z [] ≡ true) (sym derived.2) (parts_nest source 64 derived.0 (lexemes_of source reads.tokens) derived.1)

-- ---- what forbids the form

or_none : {X : Type 0} (o : Option X) → option_or o None ≡ o
or_none None = refl
or_none (Some x) = refl

no_names : (source : List ℕ) (file : File) (split : List (List ℕ)) → no_function source file [] or_else both split [] ≡ None
unfolding no_function both
no_names source file split = refl

no_results : (source : List ℕ) (file : File) → result_taken source file [] ≡ None
unfolding result_taken
no_results source file =
    ap (λ (l : List ℕ). option_map Result (slice_get l 0)) (nothing_given (λ (p : Nested). result_in source [] p.statement) (λ p. no_result source p.statement) (every_statement file))

never_long : (source : List ℕ) → length source ≤ 262144 → long source ≡ None
unfolding long
never_long source short =
    let t : nat_lt 262144 (length source) ≡ false = grind (arith, nat_tests) in
    ap (λ b. cond b (Some (Limit SourceBytes)) None) t

never_deep : (source : List ℕ) (file : File) → ReadsAs source file → deep source file [] ≡ None
unfolding deep
never_deep source file reads = ap (λ b. cond b None (Some (Limit Nesting))) (shallow_read source file reads)

text_plain : (source : List ℕ) (tokens : List Token) (file : File) → ReadsAs source file → length source ≤ 262144 → text_fault source tokens file [] ≡ taken source tokens
text_plain source tokens file reads short =
    rw (no_results source file, form_same source file, never_long source short, never_deep source file reads)
    (or_none (option_or (option_or (taken source tokens) None) None) ∙ or_none (option_or (taken source tokens) None) ∙ or_none (taken source tokens))

-- the names of the form are all that can forbid it
pub taken_alone : (source : List ℕ) (tokens : List Token) (file : File) (policy : PlainPolicy) (fault : Option ProcFault) → ReadsAs source file → length source ≤ 262144 → policy.detached ≡ []
    → AreTokens source tokens → IsFirstFault source file policy fault → fault ≡ taken source tokens
taken_alone source tokens file policy fault reads short no_detached lexed (others, lexes, e) =
    let same : others ≡ tokens = one_list source others tokens lexes lexed in
    e
    ∙ ap₂ (λ (detached : List (List ℕ)) (ts : List Token). (no_function source file detached or_else both policy.split detached) or_else text_fault source ts file detached) no_detached same
    ∙ ap (λ (o : Option ProcFault). o or_else text_fault source tokens file []) (no_names source file policy.split)
    ∙ text_plain source tokens file reads short

-- What is read as a statement is one.
use Rattle.std.proofs.Common.{◌≡◌, ℕ, zero, suc, ◌<◌, Bool, true, false, cond, List, [], ◌∷◌, ◌++◌, length, Option, Ok, refl, sym, ap, ◌∙◌, append_assoc, arith, length-append}
use Rattle.std.specs.Prelude.{IfOk, ◌≢◌}
use Rattle.std.proofs.lemmas.Bool.{false≢true}
use Rattle.std.proofs.lemmas.Result.{IfOk-weaker}
use Rattle.cw_syntax.specs.Trees.{Tree, Statement, Stated, Form, Empties, Breaks, Continues, just, Declaration}
use Rattle.cw_grammar.specs.declared.terminals.Lexeme.{Lexeme}
use Rattle.cw_grammar.specs.declared.terminals.Terminal.{Terminal}
use Rattle.cw_grammar.specs.declared.terminals.Terminal.TheVariants as w
use Rattle.cw_grammar.specs.Lexemes.{Is, terminals, from_of, to_of, IsOptional, AreAll, IsEnded}
use Rattle.cw_grammar.specs.Expressions.{nesting_limit}
use Rattle.cw_grammar.proofs.SameTerminal.{is_plain}
use Rattle.cw_grammar.specs.Declarations.{IsDeclaration}
use Rattle.cw_grammar.specs.Statements.{Setting, InBlock, BeforeElse, Elsewhere, last, IsTest, IsInit, IsForm, IsStatement}
use Rattle.cw_expressions.specs.Cursor.{begins, after, first, expect}
use Rattle.cw_expressions.specs.Next.{next_expression}
use Rattle.cw_expressions.proofs.Steps.{if_bind, if_cond, first_takes, expect_takes, begins_takes, from_of_append, to_of_cons, to_of_append}
use Rattle.cw_expressions.proofs.Whole.{next_sound}
use Rattle.cw_parse.specs.Lists.{Read, Reader, many}
use Rattle.cw_parse.specs.DeclarationReading.{optional_expression, declaration}
use Rattle.cw_parse.proofs.BothWays.{Took, joined}
use Rattle.cw_parse.proofs.Listed.{Shortening, all_more, many_sound}
use Rattle.cw_parse.proofs.DeclarationsSound.{Allowed, optional_sound, declaration_sound}
use Rattle.cw_parse.specs.StatementReading.{condition, ended, declares, declared, evaluated, start, short, returned, end_of, goes_on, block, labelled, chosen, branched, looped, done}
use Rattle.cw_parse.specs.StatementReading.{counted, stated, statement, read_statement}
use Rattle.cw_parse.proofs.DeclarationsSound.{one, two as pair_terminals}

-- ---- what is no statement

pub test_sound : (ts : List Lexeme) → IfOk (condition ts) (Took (IsTest Allowed) ts)
unfolding condition
test_sound ts =
    if_bind (expect w.Open ts) _ _ _ (expect_takes w.Open refl ts) (λ o p.
    if_bind (next_expression o.1) _ _ _ (next_sound o.1) (λ e f.
    if_bind (expect w.Close e.1) _ _ _ (expect_takes w.Close refl e.1) (λ c q. (
      o.0 ∷ f.0 ++ c.0 ∷ [],
      p.0 ∙ ap (λ (z : List Lexeme). o.0 ∷ z) (joined o.1 f.0 e.1 (c.0 ∷ []) c.1 f.1 q.0),
      (o.0, f.0, c.0, refl, p.1, q.1, f.2),
    ))))

-- past a punctuator, which ends there
abbrev pub EndsAt : Terminal → List Lexeme → Option Tree × ℕ → Type 0
EndsAt closes ts x = (0 < length ts) × IsEnded closes (IsOptional Allowed) ts x.0 × (x.1 ≡ to_of ts)

pub ended_sound : (closes : Terminal) → is_plain closes ≡ true → (ts : List Lexeme) → IfOk (ended closes ts) (Took (EndsAt closes) ts)
unfolding ended
ended_sound closes plain ts =
    if_bind (optional_expression closes ts) _ _ _ (optional_sound closes ts) (λ e f.
    if_bind (expect closes e.1) _ _ _ (expect_takes closes plain e.1) (λ c q. (
      f.0 ++ c.0 ∷ [],
      joined ts f.0 e.1 (c.0 ∷ []) c.1 f.1 q.0,
      (omega (arith, length-append f.0 (c.0 ∷ [])), (f.0, c.0, refl, q.1, f.2), sym (to_of_append f.0 (c.0 ∷ []) (omega arith))),
    )))

-- a declaration, as the first part of a `for`, and as a statement of a block
abbrev pub IsDeclared : List Lexeme → Statement → Type 0
IsDeclared ts s = (0 < length ts) × IsInit Allowed ts (just s) × ((n : ℕ) → IsStatement nesting_limit (suc n) InBlock ts s)

pub declaration_some : (ts : List Lexeme) (d : Declaration) → IsDeclaration Allowed ts d → 0 < length ts
declaration_some ts d (a, b, specs, parts, hs, e1, e2, e3, some, (inner, s, closed, semi, hitems), from, to) =
    omega (arith, ap length parts, ap length closed, length-append a b, length-append inner (s ∷ []))

ends_of_declaration : (ts : List Lexeme) (d : Declaration) → IsDeclaration Allowed ts d → (d.from ≡ from_of ts) × (d.to ≡ to_of ts)
ends_of_declaration ts d (a, b, specs, parts, hs, e1, e2, e3, some, ended_items, from, to) = (from, to)

pub declared_sound : (ts : List Lexeme) → IfOk (declared ts) (Took IsDeclared ts)
unfolding declared
declared_sound ts =
    if_bind (declaration ts) _ _ _ (declaration_sound ts) (λ d f.
    let ends = ends_of_declaration f.0 d.0 f.2 in
    (f.0, f.1, (declaration_some f.0 d.0 f.2, (ends.0, ends.1, f.2), λ n. (ends.0, ends.1, (refl, f.2)))))

-- an expression, as the first part of a `for`, and as a statement
abbrev pub IsEvaluated : List Lexeme → Statement → Type 0
IsEvaluated ts s = (0 < length ts) × IsInit Allowed ts (just s) × ((n : ℕ) (setting : Setting) → IsStatement nesting_limit (suc n) setting ts s)

pub evaluated_sound : (ts : List Lexeme) → IfOk (evaluated ts) (Took IsEvaluated ts)
unfolding evaluated
evaluated_sound ts =
    if_bind (first ts) _ _ _ (first_takes ts) (λ t p.
    if_bind (next_expression ts) _ _ _ (next_sound ts) (λ e f.
    if_bind (expect w.Semicolon e.1) _ _ _ (expect_takes w.Semicolon refl e.1) (λ s q.
    let whole : List Lexeme = f.0 ++ s.0 ∷ [] in
    let parts : ts ≡ whole ++ s.1 = joined ts f.0 e.1 (s.0 ∷ []) s.1 f.1 q.0 in
    let some : 0 < length whole = omega (arith, length-append f.0 (s.0 ∷ [])) in
    let from : t.0.from ≡ from_of whole = sym (ap from_of p) ∙ ap from_of parts ∙ from_of_append whole s.1 some in
    let to : s.0.to ≡ to_of whole = sym (to_of_append f.0 (s.0 ∷ []) (omega arith)) in
    let ends : IsEnded w.Semicolon Allowed whole e.0 = (f.0, s.0, refl, q.1, f.2) in
    (whole, parts, (some, (from, to, ends), λ n setting. (from, to, ends))))))

pub start_sound : (ts : List Lexeme) → IfOk (start ts) (Took (IsInit Allowed) ts)
unfolding start
start_sound ts =
    if_cond (begins w.Semicolon ts) _ _ _
    (λ e. let t = begins_takes w.Semicolon refl ts e in (t.0 ∷ [], t.1, one w.Semicolon t.0 t.2))
    (λ e.
    if_cond (declares ts) _ _ _
    (λ g. if_bind (declared ts) _ _ _ (declared_sound ts) (λ d f. (f.0, f.1, f.2.1)))
    (λ g. if_bind (evaluated ts) _ _ _ (evaluated_sound ts) (λ d f. (f.0, f.1, f.2.1))))

-- ---- statements

-- where a statement may stand that was read as one that may be a declaration, or as one that may not
abbrev pub Fits : Bool → Setting → Type 0
Fits true setting = setting ≡ InBlock
Fits false setting = Unit {0}

-- what follows a statement in this place
abbrev pub Follows : Setting → List Lexeme → Type 0
Follows InBlock rest = Unit {0}
Follows BeforeElse rest = begins w.Else rest ≡ true
Follows Elsewhere rest = Unit {0}

abbrev pub Stating : ℕ → Bool → List Lexeme → Statement × List Lexeme → Type 0
Stating n flag ts x = (a : List Lexeme) × (ts ≡ a ++ x.1) × (0 < length a) × ((setting : Setting) → Fits flag setting → Follows setting x.1 → IsStatement nesting_limit n setting a x.0)

follows_last : (setting : Setting) (rest : List Lexeme) → Follows setting rest → Follows (last setting) rest
follows_last InBlock rest h = tt
follows_last BeforeElse rest h = h
follows_last Elsewhere rest h = tt

not_before : (setting : Setting) (rest : List Lexeme) → begins w.Else rest ≡ false → Follows setting rest → setting ≢ BeforeElse
not_before InBlock rest e h same_setting = absurd (cc)
not_before BeforeElse rest e h same_setting = false≢true (sym e ∙ h)
not_before Elsewhere rest e h same_setting = absurd (cc)

statement_to : (n : ℕ) (setting : Setting) (ts : List Lexeme) (s : Statement) → IsStatement nesting_limit n setting ts s → end_of s ≡ to_of ts
statement_to zero setting ts s h = absurd h
statement_to (suc n) setting ts (Stated form from to) h = h.1

pub short_sound : (n : ℕ) (terminal : Terminal) (form : Form) (t : Lexeme) (ts : List Lexeme) → Is terminal t
    → ((setting : Setting) (c : Lexeme) → Is w.Semicolon c → IsForm Allowed (IsStatement nesting_limit n) setting (t ∷ c ∷ []) form) → IfOk (short form t ts) (Stating (suc n) false (t ∷ ts))
unfolding short
short_sound n terminal form t ts is h =
    if_bind (expect w.Semicolon ts) _ _ _ (expect_takes w.Semicolon refl ts) (λ s q.
    (t ∷ s.0 ∷ [], ap (λ (z : List Lexeme). t ∷ z) q.0, omega arith, λ setting fits follows. (refl, refl, h setting s.0 q.1)))

returned_sound : (n : ℕ) (t : Lexeme) (ts : List Lexeme) → Is w.Return t → IfOk (returned t ts) (Stating (suc n) false (t ∷ ts))
unfolding returned
returned_sound n t ts is =
    if_bind (ended w.Semicolon ts) _ _ _ (ended_sound w.Semicolon refl ts) (λ e f.
    (t ∷ f.0, ap (λ (z : List Lexeme). t ∷ z) f.1, omega arith, λ setting fits follows. (refl, f.2.2 ∙ sym (to_of_cons t f.0 f.2.0), (t, f.0, refl, is, f.2.1))))

module _ (n : ℕ) (read : Bool → Reader Statement) (h : (flag : Bool) (ts : List Lexeme) → IfOk (read flag ts) (Stating n flag ts)) where
  abbrev P : Setting → List Lexeme → Statement → Type 0
  P setting ts s = IsStatement nesting_limit n setting ts s

  inner_sound : (ts : List Lexeme) → goes_on ts ≡ true → IfOk (read true ts) (Took (P InBlock) ts)
  inner_sound ts go = IfOk-weaker (read true ts) _ _ (λ x f. (f.0, f.1, f.3 InBlock refl tt)) (h true ts)

  pub inner_shortens : Shortening (read true) goes_on
  inner_shortens ts go = IfOk-weaker (read true ts) _ _ (λ x f. let some = f.2 in omega (arith, some, ap length f.1, length-append f.0 x.1)) (h true ts)

  pub statements_sound : (ts : List Lexeme) → IfOk (many (read true) goes_on ([], ts)) (Took (AreAll (P InBlock)) ts)
  statements_sound ts = many_sound (read true) goes_on (P InBlock) (AreAll (P InBlock)) inner_sound (λ a b xs x q p. all_more (P InBlock) xs a b x q p) ts ([], ts) ([], refl, refl)

  block_sound : (t : Lexeme) (ts : List Lexeme) → Is w.OpenBrace t → IfOk (block read t ts) (Stating (suc n) false (t ∷ ts))
  unfolding block
  block_sound t ts is =
      if_bind (many (read true) goes_on ([], ts)) _ _ _ (statements_sound ts) (λ ss f.
      if_bind (expect w.CloseBrace ss.1) _ _ _ (expect_takes w.CloseBrace refl ss.1) (λ c q. (
        t ∷ f.0 ++ c.0 ∷ [],
        ap (λ (z : List Lexeme). t ∷ z) (joined ts f.0 ss.1 (c.0 ∷ []) c.1 f.1 q.0),
        omega arith,
        λ setting fits follows. (refl, sym (to_of_append (t ∷ f.0) (c.0 ∷ []) (omega arith)), (ss.0, refl, (t, f.0, c.0, refl, is, q.1, f.2))),
      )))

  labelled_sound : (t : Lexeme) (ts : List Lexeme) → Is w.Name t → IfOk (labelled read t ts) (Stating (suc n) false (t ∷ ts))
  unfolding labelled
  labelled_sound t ts is =
      if_bind (expect w.Colon ts) _ _ _ (expect_takes w.Colon refl ts) (λ k q.
      if_bind (read false k.1) _ _ _ (h false k.1) (λ s f.
      let some : 0 < length f.0 = f.2 in
      let to : end_of s.0 ≡ to_of (t ∷ k.0 ∷ f.0) = statement_to n Elsewhere f.0 s.0 (f.3 Elsewhere tt tt) ∙ sym (to_of_append (t ∷ k.0 ∷ []) f.0 some) in (
        t ∷ k.0 ∷ f.0,
        ap (λ (z : List Lexeme). t ∷ z) (q.0 ∙ ap (λ (z : List Lexeme). k.0 ∷ z) f.1),
        omega arith,
        λ setting fits follows. (refl, to, (t, k.0, f.0, refl, is, q.1, refl, refl, f.3 (last setting) tt (follows_last setting s.1 follows))),
      )))

  -- the end of a whole is the end of the statement that ends it
  whole_to : (a : List Lexeme) (s : Statement) (b rest : List Lexeme) → 0 < length b → ((setting : Setting) → Fits false setting → Follows setting rest → P setting b s) → end_of s ≡ to_of (a ++ b)
  whole_to a s b rest some f = statement_to n Elsewhere b s (f Elsewhere tt tt) ∙ sym (to_of_append a b some)

  chosen_sound : (t : Lexeme) (e : Tree) (s : Statement) (a b ts : List Lexeme) → Is w.If t → IsTest Allowed a e → 0 < length b
      → ((setting : Setting) → Fits false setting → Follows setting ts → P setting b s) → IfOk (chosen read t e s ts) (Stating (suc n) false (t ∷ (a ++ (b ++ ts))))
  unfolding chosen
  chosen_sound t e s a b ts is ha some f =
      if_cond (begins w.Else ts) _ _ _
      (λ go.
      let k = begins_takes w.Else refl ts go in
      if_bind (read false (after ts)) _ _ _ (h false (after ts)) (λ o g.
      let some2 : 0 < length g.0 = g.2 in
      let c : List Lexeme = k.0 ∷ g.0 in
      let behind : b ++ ts ≡ (b ++ c) ++ o.1 = joined (b ++ ts) b ts c o.1 refl (k.1 ∙ ap (λ (z : List Lexeme). k.0 ∷ z) g.1) in
      let parts : a ++ (b ++ ts) ≡ (a ++ (b ++ c)) ++ o.1 = joined (a ++ (b ++ ts)) a (b ++ ts) (b ++ c) o.1 refl behind in
      let to : end_of o.0 ≡ to_of (t ∷ (a ++ (b ++ c))) = whole_to (k.0 ∷ []) o.0 g.0 o.1 some2 g.3 ∙ sym (to_of_append b c (omega arith))
      ∙ sym (to_of_append (t ∷ a) (b ++ c) (omega (arith, length-append b c))) in (
        t ∷ (a ++ (b ++ c)),
        ap (λ (z : List Lexeme). t ∷ z) parts,
        omega arith,
        λ setting fits follows. (refl, to, (t, a, b, k.0, g.0, refl, is, ha, f BeforeElse tt go, k.2, g.3 (last setting) tt (follows_last setting o.1 follows))),
      )))
      (λ stay. (
        t ∷ (a ++ b),
        ap (λ (z : List Lexeme). t ∷ z) (sym (append_assoc a b ts)),
        omega arith,
        λ setting fits follows. (refl, whole_to (t ∷ a) s b ts some f, (t, a, b, refl, not_before setting ts stay follows, is, ha, f Elsewhere tt tt)),
      ))

  stating_of : (x y : List Lexeme) (r : Read Statement) → x ≡ y → IfOk r (Stating (suc n) false y) → IfOk r (Stating (suc n) false x)
  stating_of x y r e g = rw e g

  branched_sound : (t : Lexeme) (ts : List Lexeme) → Is w.If t → IfOk (branched read t ts) (Stating (suc n) false (t ∷ ts))
  unfolding branched
  branched_sound t ts is =
      if_bind (condition ts) _ _ _ (test_sound ts) (λ e p.
      if_bind (read false e.1) _ _ _ (h false e.1) (λ s f.
      stating_of (t ∷ ts) (t ∷ (p.0 ++ (f.0 ++ s.1))) (chosen read t e.0 s.0 s.1) (ap (λ (z : List Lexeme). t ∷ z) (p.1 ∙ ap (λ (z : List Lexeme). p.0 ++ z) f.1))
      (chosen_sound t e.0 s.0 p.0 f.0 s.1 is p.2 f.2 f.3)))

  looped_sound : (t : Lexeme) (ts : List Lexeme) → Is w.While t → IfOk (looped read t ts) (Stating (suc n) false (t ∷ ts))
  unfolding looped
  looped_sound t ts is =
      if_bind (condition ts) _ _ _ (test_sound ts) (λ e p.
      if_bind (read false e.1) _ _ _ (h false e.1) (λ s f. (
        t ∷ (p.0 ++ f.0),
        ap (λ (z : List Lexeme). t ∷ z) (joined ts p.0 e.1 f.0 s.1 p.1 f.1),
        omega arith,
        λ setting fits follows. (refl, whole_to (t ∷ p.0) s.0 f.0 s.1 f.2 f.3, (t, p.0, f.0, refl, is, p.2, f.3 (last setting) tt (follows_last setting s.1 follows))),
      )))

  done_sound : (t : Lexeme) (ts : List Lexeme) → Is w.Do t → IfOk (done read t ts) (Stating (suc n) false (t ∷ ts))
  unfolding done
  done_sound t ts is =
      if_bind (read false ts) _ _ _ (h false ts) (λ s f.
      if_bind (expect w.While s.1) _ _ _ (expect_takes w.While refl s.1) (λ k q.
      if_bind (condition k.1) _ _ _ (test_sound k.1) (λ e p.
      if_bind (expect w.Semicolon e.1) _ _ _ (expect_takes w.Semicolon refl e.1) (λ c r.
      let tail : List Lexeme = k.0 ∷ (p.0 ++ c.0 ∷ []) in
      let behind : s.1 ≡ tail ++ c.1 = q.0 ∙ ap (λ (z : List Lexeme). k.0 ∷ z) (joined k.1 p.0 e.1 (c.0 ∷ []) c.1 p.1 r.0) in
      let to : c.0.to ≡ to_of (t ∷ (f.0 ++ tail)) = sym (to_of_append (k.0 ∷ p.0) (c.0 ∷ []) (omega arith)) ∙ sym (to_of_append (t ∷ f.0) tail (omega arith)) in (
        t ∷ (f.0 ++ tail),
        ap (λ (z : List Lexeme). t ∷ z) (joined ts f.0 s.1 tail c.1 f.1 behind),
        omega arith,
        λ setting fits follows. (refl, to, (t, f.0, k.0, p.0, c.0, refl, is, f.3 Elsewhere tt tt, q.1, p.2, r.1)),
      )))))

  counted_sound : (t : Lexeme) (ts : List Lexeme) → Is w.For t → IfOk (counted read t ts) (Stating (suc n) false (t ∷ ts))
  unfolding counted
  counted_sound t ts is =
      if_bind (expect w.Open ts) _ _ _ (expect_takes w.Open refl ts) (λ o q.
      if_bind (start o.1) _ _ _ (start_sound o.1) (λ i a.
      if_bind (ended w.Semicolon i.1) _ _ _ (ended_sound w.Semicolon refl i.1) (λ e b.
      if_bind (ended w.Close e.1) _ _ _ (ended_sound w.Close refl e.1) (λ p c.
      if_bind (read false p.1) _ _ _ (h false p.1) (λ s d.
      let inner : List Lexeme = b.0 ++ (c.0 ++ d.0) in
      let some : 0 < length d.0 = d.2 in
      let behind : o.1 ≡ (a.0 ++ inner) ++ s.1 = joined o.1 a.0 i.1 inner s.1 a.1 (joined i.1 b.0 e.1 (c.0 ++ d.0) s.1 b.1 (joined e.1 c.0 p.1 d.0 s.1 c.1 d.1)) in
      let to : end_of s.0 ≡ to_of (t ∷ o.0 ∷ (a.0 ++ inner)) =
      whole_to c.0 s.0 d.0 s.1 some d.3 ∙ sym (to_of_append b.0 (c.0 ++ d.0) (omega (arith, some, length-append c.0 d.0)))
      ∙ sym (to_of_append (t ∷ o.0 ∷ a.0) inner (omega (arith, some, length-append c.0 d.0, length-append b.0 (c.0 ++ d.0)))) in (
        t ∷ o.0 ∷ (a.0 ++ inner),
        ap (λ (z : List Lexeme). t ∷ z) (q.0 ∙ ap (λ (z : List Lexeme). o.0 ∷ z) behind),
        omega arith,
        λ setting fits follows. (refl, to, (t, o.0, a.0, b.0, c.0, d.0, refl, is, q.1, a.2, b.2.1, c.2.1, d.3 (last setting) tt (follows_last setting s.1 follows))),
      ))))))

  evaluated_stating : (ts : List Lexeme) → IfOk (evaluated ts) (Stating (suc n) false ts)
  evaluated_stating ts = IfOk-weaker (evaluated ts) _ _ (λ x f. (f.0, f.1, f.2.0, λ setting fits follows. f.2.2 n setting)) (evaluated_sound ts)

  stated_by : (t : Lexeme) (ts : List Lexeme) (terminal : Terminal) → Is terminal t
      → IfOk (elim terminal as (λ z. Read Statement) [
        | w.OpenBrace ↦ block read t ts
        | w.Semicolon ↦ Ok
            (Stated Empties t.from t.to, ts)
        | w.If ↦ branched read t ts
        | w.While ↦ looped read t ts
        | w.Do ↦ done read t ts
        | w.For ↦ counted read t ts
        | w.Break ↦ short Breaks t ts
        | w.Continue ↦ short Continues t ts
        | w.Return ↦ returned t ts
        | w.Name ↦ cond (begins w.Colon ts) (labelled read t ts) (evaluated (t ∷ ts))
        | _ ↦ evaluated (t ∷ ts)
      ])
      (Stating (suc n) false (t ∷ ts))
  stated_by t ts w.OpenBrace is = block_sound t ts is
  stated_by t ts w.Semicolon is = (t ∷ [], refl, omega arith, λ setting fits follows. (refl, refl, one w.Semicolon t is))
  stated_by t ts w.If is = branched_sound t ts is
  stated_by t ts w.While is = looped_sound t ts is
  stated_by t ts w.Do is = done_sound t ts is
  stated_by t ts w.For is = counted_sound t ts is
  stated_by t ts w.Break is = short_sound n w.Break Breaks t ts is (λ setting c semi. pair_terminals w.Break w.Semicolon t c is semi)
  stated_by t ts w.Continue is = short_sound n w.Continue Continues t ts is (λ setting c semi. pair_terminals w.Continue w.Semicolon t c is semi)
  stated_by t ts w.Return is = returned_sound n t ts is
  stated_by t ts w.Name is = if_cond (begins w.Colon ts) _ _ _ (λ e. labelled_sound t ts is) (λ e. evaluated_stating (t ∷ ts))
  stated_by t ts _ is = evaluated_stating (t ∷ ts)

  stated_sound : (ts : List Lexeme) → IfOk (stated read ts) (Stating (suc n) false ts)
  unfolding stated
  stated_sound [] = tt
  stated_sound (t ∷ ts) = stated_by t ts t.terminal refl

  statement_sound : (flag : Bool) (ts : List Lexeme) → IfOk (statement read flag ts) (Stating (suc n) flag ts)
  unfolding statement
  statement_sound false ts = stated_sound ts
  statement_sound true ts =
      if_cond (declares ts) _ _ _
      (λ e. IfOk-weaker (declared ts) _ _ (λ x f. (f.0, f.1, f.2.0, λ setting fits follows. in_block setting f.0 x.0 fits (f.2.2 n))) (declared_sound ts))
      (λ e. IfOk-weaker (stated read ts) _ _ (λ x f. (f.0, f.1, f.2, λ setting fits follows. f.3 setting tt follows)) (stated_sound ts)) where
        in_block : (setting : Setting) (a : List Lexeme) (s : Statement) → setting ≡ InBlock → IsStatement nesting_limit (suc n) InBlock a s → IsStatement nesting_limit (suc n) setting a s
        in_block setting a s e g = rw e g

pub read_sound : (n : ℕ) (flag : Bool) (ts : List Lexeme) → IfOk (read_statement n flag ts) (Stating n flag ts)
unfolding read_statement
read_sound zero flag ts = tt
read_sound (suc n) flag ts = statement_sound n (read_statement n) (read_sound n) flag ts

pub all_sound : (n : ℕ) (ts : List Lexeme) → IfOk (many (read_statement n true) goes_on ([], ts)) (Took (AreAll (IsStatement nesting_limit n InBlock)) ts)
all_sound n ts = statements_sound n (read_statement n) (read_sound n) ts

pub read_shortens : (n : ℕ) → Shortening (read_statement n true) goes_on
read_shortens n = inner_shortens n (read_statement n) (read_sound n)

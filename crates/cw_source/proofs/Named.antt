-- In a program that is read an item is named by its kind and its place: what derives a statement has the places of its items between its tokens.
use Rattle.std.proofs.Common.{◌≡◌, ◌≢◌, ◌⊎◌, ℕ, zero, suc, ◌+◌, ◌<◌, ◌≤◌, List, [], ◌∷◌, ◌++◌, length, Some, is_some, slice_get, refl, sym, ap, subst, ◌∙◌, inl, inr, arith, length-append}
use Rattle.std.proofs.lemmas.Option.{same_Some}
use Rattle.cw_lex.proofs.Ordered.{tokens_in_order}
use Rattle.cw_grammar.specs.declared.terminals.Lexeme.{Lexeme}
use Rattle.cw_grammar.specs.Lexemes.{from_of, AreAll, statements}
use Rattle.cw_grammar.specs.Expressions.{IsExpression, nesting_limit}
use Rattle.cw_grammar.specs.Declarations.{Expressions}
use Rattle.cw_grammar.specs.Spelling.{lexemes_of}
use Rattle.cw_grammar.specs.Statements.{Setting, InBlock, BeforeElse, Elsewhere, last, IsInit, IsForm, IsStatement}
use Rattle.cw_grammar.specs.Files.{Part, Declares as DeclaresPart, Holds, Defines, IsPart, IsFunction, IsProgram, file_of}
use Rattle.cw_syntax.specs.Names.{Names}
use Rattle.cw_syntax.specs.Trees.{Statement, Stated, Form, Block, Declares, Evaluates, Empties, Labels, Chooses, Whiles, Does, Fors, Breaks, Continues, Returns, Perhaps, nothing}
use Rattle.cw_syntax.specs.Trees.{just, Definition, File}
use Rattle.cw_syntax.specs.Plans.{Scene, Plain, Break, Continue, Return, Open, Close, Call, Action, Computes, Opens, Closes, Invokes, action_of, acting, place_if}
use Rattle.cw_syntax.specs.Plans.{steps_of, steps_of_form, steps_of_all, seams, seams_all, numbered, numbered_all, Routine, routines_from, scene_of, Plan, plan_of}
use Rattle.cw_syntax.specs.Frames.{Item, Entry, Todo, Test, After, LoopEnd, End}
use Rattle.cw_source.specs.Items.{AtEntry, AtTest, AtStep, AtEnd, item_kind, item_place, IsPassed}
use Rattle.cw_source.specs.Read.{ReadsAs}
use Rattle.cw_source.proofs.Held.{HasInit, Has, HasAll, HasIn, passed_in}
use Rattle.cw_source.proofs.Lying.{Lie, lie_of, lie_le, split, first_within, lie_at, some_terminals, some_declaration}

-- neither an entry nor an end
abbrev IsInner : Item → Type 0
IsInner (Todo s) = Unit {0}
IsInner (Test at decided stepped s) = Unit {0}
IsInner (After at) = Unit {0}
IsInner _ = ⊥

abbrev Inside : ℕ → ℕ → Item → Type 0
Inside from to x = IsInner x × (from ≤ item_place x) × (item_place x < to)

-- these items lie between two places, and their kinds and places name them
abbrev Lies : ℕ → ℕ → (Item → Type 0) → Type 0
Lies from to H = ((x : Item) → H x → Inside from to x) × ((x y : Item) → H x → H y → item_kind x ≡ item_kind y → item_place x ≡ item_place y → x ≡ y)

lies_none : (from to : ℕ) → Lies from to (λ x. ⊥)
lies_none from to = ((λ x q. absurd q), λ x y q r e f. absurd q)

lies_one : (from to : ℕ) (i : Item) → Inside from to i → Lies from to (λ x. x ≡ i)
lies_one from to i n = ((λ x q. subst (λ (z : Item). Inside from to z) (sym q) n), λ x y q r e f. q ∙ sym r)

module _ (from to : ℕ) (i k : Item) (n : Inside from to i) (m : Inside from to k) (differ : item_kind i ≢ item_kind k) where
  two_inside : (x : Item) → (x ≡ i) ⊎ (x ≡ k) → Inside from to x
  two_inside x (inl q) = subst (λ (z : Item). Inside from to z) (sym q) n
  two_inside x (inr q) = subst (λ (z : Item). Inside from to z) (sym q) m

  two_single : (x y : Item) → (x ≡ i) ⊎ (x ≡ k) → (y ≡ i) ⊎ (y ≡ k) → item_kind x ≡ item_kind y → item_place x ≡ item_place y → x ≡ y
  two_single x y (inl q) (inl r) e f = q ∙ sym r
  two_single x y (inr q) (inr r) e f = q ∙ sym r
  two_single x y (inl q) (inr r) e f = absurd (differ (ap item_kind (sym q) ∙ e ∙ ap item_kind r))
  two_single x y (inr q) (inl r) e f = absurd (differ (ap item_kind (sym r) ∙ sym e ∙ ap item_kind q))

  lies_two : Lies from to (λ x. (x ≡ i) ⊎ (x ≡ k))
  lies_two = (two_inside, two_single)

module _ (a b c : ℕ) (H K : Item → Type 0) (up : a ≤ b) (further : b ≤ c) (h : Lies a b H) (k : Lies b c K) where
  both_inside : (x : Item) → H x ⊎ K x → Inside a c x
  both_inside x (inl q) = let p = h.0 x q in (p.0, p.1, (let r = p.2 in omega (arith, r, further)))
  both_inside x (inr q) = let p = k.0 x q in (p.0, (let r = p.1 in omega (arith, r, up)), p.2)

  both_single : (x y : Item) → H x ⊎ K x → H y ⊎ K y → item_kind x ≡ item_kind y → item_place x ≡ item_place y → x ≡ y
  both_single x y (inl q) (inl r) e f = h.1 x y q r e f
  both_single x y (inr q) (inr r) e f = k.1 x y q r e f
  both_single x y (inl q) (inr r) e f = absurd (let u = (h.0 x q).2 in let v = (k.0 y r).1 in omega (arith, u, v, f))
  both_single x y (inr q) (inl r) e f = absurd (let u = (h.0 y r).2 in let v = (k.0 x q).1 in omega (arith, u, v, f))

  lies_both : Lies a c (λ x. H x ⊎ K x)
  lies_both = (both_inside, both_single)

lies_wider : (a b c d : ℕ) (H : Item → Type 0) → c ≤ a → b ≤ d → Lies a b H → Lies c d H
lies_wider a b c d H up down h = ((λ x q. let p = h.0 x q in (p.0, (let r = p.1 in omega (arith, r, up)), (let r = p.2 in omega (arith, r, down)))), h.1)

-- an item before others
lies_led : (from at b to : ℕ) (i : Item) (H : Item → Type 0) → IsInner i → item_place i ≡ at → from ≤ at → at < b → b ≤ to → Lies b to H → Lies from to (λ x. (x ≡ i) ⊎ H x)
lies_led from at b to i H inner is up lt further h =
    lies_both from b to (λ x. x ≡ i) H (omega (arith, up, lt)) further
    (lies_one from b i (inner, (omega (arith, is, up)), (omega (arith, is, lt)))) h

acting_named : (action : Action) (at j from to : ℕ) → (from ≤ at) × (at < to) → Lies from to (Has (numbered (acting action at) j))
acting_named Computes at j from to (p, q) = lies_one from to (Todo (Plain at)) (tt, p, q)
acting_named (Opens d) at j from to (p, q) = lies_one from to (Todo (Open at j d)) (tt, p, q)
acting_named (Closes d) at j from to (p, q) = lies_one from to (Todo (Close at j d)) (tt, p, q)
acting_named (Invokes callee) at j from to (p, q) = lies_one from to (Todo (Call at j callee)) (tt, p, q)

test_or_step : AtTest ≢ AtStep
test_or_step e = absurd (cc)

-- a rule, where the claim holds of the statements in it
module _ (s : Scene) (E : Expressions) (P : Setting → List Lexeme → Statement → Type 0)
    (h : (setting : Setting) (ts : List Lexeme) (st : Statement) (j from to : ℕ) → P setting ts st → Lie from to ts → Lies from to (Has (numbered (steps_of s st) j))) where
  all_named : (ts : List Lexeme) (ss : List Statement) (j from to : ℕ) → AreAll (P InBlock) ts ss → Lie from to ts → Lies from to (HasAll (numbered_all (steps_of_all s (statements ss)) j))
  all_named ts [] j from to none lie = lies_none from to
  all_named ts (st ∷ ss) j from to (x, y, whole, one, rest) lie =
      let p = split from to x y (lie_at from to ts (x ++ y) whole lie) in
      lies_both from p.0 to _ _ (lie_le from p.0 x p.1) (lie_le p.0 to y p.2) (h InBlock x st j from p.0 one p.1) (all_named y ss (j + seams (steps_of s st)) p.0 to rest p.2)

  init_named : (ts : List Lexeme) (init : Perhaps) (from to : ℕ) → IsInit E ts init → Lie from to ts → Lies from to (HasInit (place_if init))
  init_named ts nothing from to is lie = lies_none from to
  init_named ts (just (Stated (Evaluates e) begin finish)) from to (begin_is, finish_is, (inner, c, whole, closes, is)) lie =
      let some : 0 < length ts = omega (arith, ap length whole, length-append inner (c ∷ [])) in
      let p = first_within from to ts some lie in
      lies_one from to (Todo (Plain begin)) (tt, (let a = p.0 in omega (arith, a, begin_is)), (let b = p.1 in omega (arith, b, begin_is)))
  init_named ts (just (Stated (Declares d) begin finish)) from to (begin_is, finish_is, is) lie =
      let p = first_within from to ts (some_declaration E ts d is) lie in
      lies_one from to (Todo (Plain begin)) (tt, (let a = p.0 in omega (arith, a, begin_is)), (let b = p.1 in omega (arith, b, begin_is)))
  init_named ts (just _) from to is lie = absurd is

  plain_named : (ts : List Lexeme) (i : Item) (from to : ℕ) → IsInner i → item_place i ≡ from_of ts → 0 < length ts → Lie from to ts → Lies from to (λ x. x ≡ i)
  plain_named ts i from to inner at some lie =
      let p = first_within from to ts some lie in
      lies_one from to i (inner, (let a = p.0 in omega (arith, a, at)), (let b = p.1 in omega (arith, b, at)))

  form_named : (setting : Setting) (ts : List Lexeme) (form : Form) (j from to : ℕ) → IsForm E P setting ts form → Lie from to ts → Lies from to (Has (numbered (steps_of_form s (from_of ts) form) j))
  form_named setting ts (Block kids) j from to (inner, kids_are, (o, x, c, whole, opens, closes, all)) lie =
      let p = lie_at from to ts (o ∷ x ++ c ∷ []) whole lie in
      let q = split o.to to x (c ∷ []) p.2 in
      let before : from ≤ o.to = (let a = p.0 in let b = p.1 in omega arith) in
      rw kids_are (lies_wider o.to q.0 from to _ before (lie_le q.0 to (c ∷ []) q.2) (all_named x inner j o.to q.0 all q.1))
  form_named setting ts (Declares d) j from to is lie = plain_named ts (Todo (Plain (from_of ts))) from to tt refl (some_declaration E ts d is.1) lie
  form_named setting ts (Evaluates e) j from to (inner, c, whole, closes, is) lie =
      let some : 0 < length ts = omega (arith, ap length whole, length-append inner (c ∷ [])) in
      acting_named (action_of s e) (from_of ts) j from to (first_within from to ts some lie)
  form_named setting ts Empties j from to is lie = plain_named ts (Todo (Plain (from_of ts))) from to tt refl (some_terminals ts _ _ is) lie
  form_named setting ts (Labels name mark body) j from to (n, k, x, whole, n_is, k_is, name_is, mark_is, is) lie =
      let p = lie_at from to ts (n ∷ k ∷ x) whole lie in
      let at : from_of ts ≡ n.from = ap from_of whole in
      let up : from ≤ from_of ts = (let a = p.0 in omega (arith, at, a)) in
      let lt : from_of ts < k.to = (let a = p.1 in let b = p.2.0 in let c = p.2.1 in omega (arith, at, a, b, c)) in
      lies_led from (from_of ts) k.to to _ _ tt refl up lt (lie_le k.to to x p.2.2) (h (last setting) x body (j + 1) k.to to is p.2.2)
  form_named setting ts (Chooses test arm nothing) j from to (i, x, y, whole, setting_is, i_is, test_is, is) lie =
      let p = lie_at from to ts (i ∷ x ++ y) whole lie in
      let q = split i.to to x y p.2 in
      let at : from_of ts ≡ i.from = ap from_of whole in
      let up : from ≤ from_of ts = (let a = p.0 in omega (arith, at, a)) in
      let lt : from_of ts < q.0 = (let a = p.1 in let b = lie_le i.to q.0 x q.1 in omega (arith, at, a, b)) in
      let further : q.0 ≤ to = lie_le q.0 to y q.2 in
      lies_led from (from_of ts) q.0 to _ _ tt refl up lt further (lies_both q.0 to to _ _ further (omega arith) (h Elsewhere y arm j q.0 to is q.2) (lies_none to to))
  form_named setting ts (Chooses test arm (just other)) j from to (i, x, y, e, z, whole, i_is, test_is, is, e_is, other_is) lie =
      let p = lie_at from to ts (i ∷ x ++ (y ++ e ∷ z)) whole lie in
      let q = split i.to to x (y ++ e ∷ z) p.2 in
      let r = split q.0 to y (e ∷ z) q.2 in
      let at : from_of ts ≡ i.from = ap from_of whole in
      let up : from ≤ from_of ts = (let a = p.0 in omega (arith, at, a)) in
      let lt : from_of ts < q.0 = (let a = p.1 in let b = lie_le i.to q.0 x q.1 in omega (arith, at, a, b)) in
      let between : r.0 ≤ e.to = (let a = r.2.0 in let b = r.2.1 in omega arith) in
      let first_arm = h BeforeElse y arm j q.0 r.0 is r.1 in
      let second_arm = h (last setting) z other (j + seams (steps_of s arm)) e.to to other_is r.2.2 in
      let after = lie_le e.to to z r.2.2 in
      let arms = lies_both q.0 r.0 to _ _ (lie_le q.0 r.0 y r.1) (omega (arith, between, after)) first_arm (lies_wider e.to to r.0 to _ between (omega arith) second_arm) in
      lies_led from (from_of ts) q.0 to _ _ tt refl up lt (lie_le q.0 to (y ++ e ∷ z) q.2) arms
  form_named setting ts (Whiles test body) j from to (w, x, y, whole, w_is, test_is, is) lie =
      let p = lie_at from to ts (w ∷ x ++ y) whole lie in
      let q = split w.to to x y p.2 in
      let at : from_of ts ≡ w.from = ap from_of whole in
      let up : from ≤ from_of ts = (let a = p.0 in omega (arith, at, a)) in
      let lt : from_of ts < q.0 = (let a = p.1 in let b = lie_le w.to q.0 x q.1 in omega (arith, at, a, b)) in
      lies_led from (from_of ts) q.0 to _ _ tt refl up lt (lie_le q.0 to y q.2) (h (last setting) y body j q.0 to is q.2)
  form_named setting ts (Does body test) j from to (d, x, w, y, c, whole, d_is, is, w_is, test_is, c_is) lie =
      let p = lie_at from to ts (d ∷ x ++ (w ∷ y ++ c ∷ [])) whole lie in
      let q = split d.to to x (w ∷ y ++ c ∷ []) p.2 in
      let at : from_of ts ≡ d.from = ap from_of whole in
      let up : from ≤ from_of ts = (let a = p.0 in omega (arith, at, a)) in
      let lt : from_of ts < d.to = (let a = p.1 in omega (arith, at, a)) in
      let inner = lies_wider d.to q.0 d.to to _ (omega arith) (lie_le q.0 to (w ∷ y ++ c ∷ []) q.2) (h Elsewhere x body j d.to q.0 is q.1) in
      lies_led from (from_of ts) d.to to _ _ tt refl up lt (lie_le d.to to (x ++ (w ∷ y ++ c ∷ [])) p.2) inner
  form_named setting ts (Fors init test step body) j from to (f, o, x, y, z, v, whole, f_is, o_is, init_is, test_is, step_is, is) lie =
      let p = lie_at from to ts (f ∷ o ∷ x ++ (y ++ (z ++ v))) whole lie in
      let q = split o.to to x (y ++ (z ++ v)) p.2.2 in
      let r = split q.0 to y (z ++ v) q.2 in
      let u = split r.0 to z v r.2 in
      let at : from_of ts ≡ f.from = ap from_of whole in
      let up : from ≤ from_of ts = (let a = p.0 in omega (arith, at, a)) in
      let lt : from_of ts < o.to = (let a = p.1 in let b = p.2.0 in let c = p.2.1 in omega (arith, at, a, b, c)) in
      let head : q.0 ≤ u.0 = (let b = lie_le q.0 r.0 y r.1 in let c = lie_le r.0 u.0 z u.1 in omega arith) in
      let inner = lies_wider u.0 to q.0 to _ head (omega arith) (h (last setting) v body j u.0 to is u.2) in
      let parts = lies_both o.to q.0 to _ _ (lie_le o.to q.0 x q.1) (lie_le q.0 to (y ++ (z ++ v)) q.2) (init_named x init o.to q.0 init_is q.1) inner in
      let turns = lies_two from o.to (Test (from_of ts) (is_some test) (is_some step) (numbered (steps_of s body) j)) (After (from_of ts)) (tt, up, lt) (tt, up, lt) test_or_step in
      lies_both from o.to to _ _ (omega (arith, up, lt)) (lie_le o.to to (x ++ (y ++ (z ++ v))) p.2.2) turns parts
  form_named setting ts Breaks j from to is lie = plain_named ts (Todo (Break (from_of ts))) from to tt refl (some_terminals ts _ _ is) lie
  form_named setting ts Continues j from to is lie = plain_named ts (Todo (Continue (from_of ts))) from to tt refl (some_terminals ts _ _ is) lie
  form_named setting ts (Returns value) j from to (r, b, whole, r_is, is) lie =
      let some : 0 < length ts = omega (arith, ap length whole) in
      plain_named ts (Todo (Return (from_of ts))) from to tt refl some lie

-- the items of the bodies
abbrev HasBodies : List Routine → Item → Type 0
HasBodies [] x = ⊥
HasBodies (r ∷ rs) x = HasAll r.body x ⊎ HasBodies rs x

module _ (s : Scene) (limit : ℕ) where
  statement_named : (n : ℕ) (setting : Setting) (ts : List Lexeme) (st : Statement) (j from to : ℕ) → IsStatement limit n setting ts st → Lie from to ts
      → Lies from to (Has (numbered (steps_of s st) j))
  statement_named zero setting ts st j from to is lie = absurd is
  statement_named (suc n) setting ts (Stated form begin finish) j from to (begin_is, finish_is, is) lie =
      rw begin_is (form_named s (IsExpression limit) (IsStatement limit n) (statement_named n) setting ts form j from to is lie)

  function_named : (ts : List Lexeme) (f : Definition) (j from to : ℕ) → IsFunction limit ts f → Lie from to ts → Lies from to (HasAll (numbered_all (steps_of_all s f.body) j))
  function_named ts f j from to (x, o, y, c, body, whole, header, named, opens, brace, all, body_is, closes) lie =
      let p = split from to x (o ∷ y ++ c ∷ []) (subst (λ (z : List Lexeme). Lie from to z) whole lie) in
      let q = split o.to to y (c ∷ []) p.2.2 in
      let before : from ≤ o.to = (let a = lie_le from p.0 x p.1 in let b = p.2.0 in let c = p.2.1 in omega arith) in
      rw body_is (lies_wider o.to q.0 from to _ before (lie_le q.0 to (c ∷ []) q.2) (all_named s (IsExpression limit) (IsStatement limit limit) (statement_named limit) y body j o.to q.0 all q.1))

  parts_named : (parts : List Part) (ts : List Lexeme) (j from to : ℕ) → AreAll (IsPart limit) ts parts → Lie from to ts → Lies from to (HasBodies (routines_from s j (file_of parts).functions))
  parts_named [] ts j from to none lie = lies_none from to
  parts_named (DeclaresPart d ∷ parts) ts j from to (x, y, whole, one, rest) lie =
      let p = split from to x y (subst (λ (z : List Lexeme). Lie from to z) whole lie) in
      lies_wider p.0 to from to _ (lie_le from p.0 x p.1) (omega arith) (parts_named parts y j p.0 to rest p.2)
  parts_named (Holds d ∷ parts) ts j from to (x, y, whole, one, rest) lie =
      let p = split from to x y (subst (λ (z : List Lexeme). Lie from to z) whole lie) in
      lies_wider p.0 to from to _ (lie_le from p.0 x p.1) (omega arith) (parts_named parts y j p.0 to rest p.2)
  parts_named (Defines f ∷ parts) ts j from to (x, y, whole, one, rest) lie =
      let p = split from to x y (subst (λ (z : List Lexeme). Lie from to z) whole lie) in
      lies_both from p.0 to _ _ (lie_le from p.0 x p.1) (lie_le p.0 to y p.2) (function_named x f (j + 1) from p.0 one p.1)
      (parts_named parts y (j + 1 + seams_all (steps_of_all s f.body)) p.0 to rest p.2)

bodies_lie : (names : Names) (source : List ℕ) (file : File) → ReadsAs source file → Lies 0 (length source) (HasBodies (plan_of names source file).routines)
unfolding IsProgram
bodies_lie names source file h =
    let derived = h.derived in
    let ts = lexemes_of source h.tokens in
    let lie : Lie 0 (length source) ts = lie_of source 0 (length source) h.tokens (tokens_in_order source h.tokens h.lexed) in
    subst (λ (z : File). Lies 0 (length source) (HasBodies (routines_from (scene_of names source file) 0 z.functions))) (sym derived.2)
    (parts_named (scene_of names source file) nesting_limit derived.0 ts 0 0 (length source) derived.1 lie)

in_bodies : (rs : List Routine) (f : ℕ) (r : Routine) (x : Item) → slice_get rs f ≡ Some r → HasAll r.body x → HasBodies rs x
in_bodies [] f r x is q = absurd (cc)
in_bodies (t ∷ rs) zero r x is q = let same : r ≡ t = cc in inl (subst (λ (z : Routine). HasAll z.body x) same q)
in_bodies (t ∷ rs) (suc f) r x is q = inr (in_bodies rs f r x is q)

no_entry : (x : Item) → IsInner x → item_kind x ≢ AtEntry
no_entry (Entry f j) n e = absurd n
no_entry (Todo s) n e = absurd (cc)
no_entry (Test at d u s) n e = absurd (cc)
no_entry (After at) n e = absurd (cc)
no_entry LoopEnd n e = absurd n
no_entry (End f) n e = absurd n

no_end : (x : Item) → IsInner x → item_kind x ≢ AtEnd
no_end (Entry f j) n e = absurd n
no_end (Todo s) n e = absurd (cc)
no_end (Test at d u s) n e = absurd (cc)
no_end (After at) n e = absurd (cc)
no_end LoopEnd n e = absurd n
no_end (End f) n e = absurd n

module _ (plan : Plan) (most : ℕ) (lies : Lies 0 most (HasBodies plan.routines)) where
  inner : (f : ℕ) (r : Routine) (x : Item) → slice_get plan.routines f ≡ Some r → HasAll r.body x → IsInner x
  inner f r x is q = (lies.0 x (in_bodies plan.routines f r x is q)).0

  same_entry : (f g : ℕ) (r t : Routine) → f ≡ g → slice_get plan.routines f ≡ Some r → slice_get plan.routines g ≡ Some t → Entry f r.seam ≡ Entry g t.seam
  same_entry f g r t e is it =
      let same : r ≡ t = same_Some r t (sym is ∙ ap (slice_get plan.routines) e ∙ it) in
      rw (e, same) refl

  named : (x y : Item) → HasIn plan x → HasIn plan y → item_kind x ≡ item_kind y → item_place x ≡ item_place y → x ≡ y
  named x y (f, r, is, inl q) (g, t, it, inl u) k p = q ∙ same_entry f g r t (ap item_place (sym q) ∙ p ∙ ap item_place u) is it ∙ sym u
  named x y (f, r, is, inl q) (g, t, it, inr (inl u)) k p = absurd (no_entry y (inner g t y it u) (sym k ∙ ap item_kind q))
  named x y (f, r, is, inl q) (g, t, it, inr (inr u)) k p = let clash : AtEntry ≡ AtEnd = ap item_kind (sym q) ∙ k ∙ ap item_kind u in absurd (cc)
  named x y (f, r, is, inr (inl q)) (g, t, it, inl u) k p = absurd (no_entry x (inner f r x is q) (k ∙ ap item_kind u))
  named x y (f, r, is, inr (inl q)) (g, t, it, inr (inl u)) k p = lies.1 x y (in_bodies plan.routines f r x is q) (in_bodies plan.routines g t y it u) k p
  named x y (f, r, is, inr (inl q)) (g, t, it, inr (inr u)) k p = absurd (no_end x (inner f r x is q) (k ∙ ap item_kind u))
  named x y (f, r, is, inr (inr q)) (g, t, it, inl u) k p = let clash : AtEnd ≡ AtEntry = ap item_kind (sym q) ∙ k ∙ ap item_kind u in absurd (cc)
  named x y (f, r, is, inr (inr q)) (g, t, it, inr (inl u)) k p = absurd (no_end y (inner g t y it u) (sym k ∙ ap item_kind q))
  named x y (f, r, is, inr (inr q)) (g, t, it, inr (inr u)) k p = let same : f ≡ g = ap item_place (sym q) ∙ p ∙ ap item_place u in q ∙ ap (λ (n : ℕ). End n) same ∙ sym u

pub items_named : (names : Names) (source : List ℕ) (file : File) → ReadsAs source file → (x y : Item) → IsPassed (plan_of names source file) x → IsPassed (plan_of names source file) y
    → item_kind x ≡ item_kind y → item_place x ≡ item_place y → x ≡ y
items_named names source file h x y p q = named (plan_of names source file) (length source) (bodies_lie names source file h) x y (passed_in (plan_of names source file) x p)
    (passed_in (plan_of names source file) y q)

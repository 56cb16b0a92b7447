-- Expressions and statements by what their fields hold.
use Rattle.std.proofs.Common.{◌≡◌, ℕ, List, [], ◌∷◌, ◌++◌, take, length, Vec, Box, Global, refl, ap, ◌∙◌, append_assoc}
use Rattle.std.specs.Prelude.{option_map}
use denote.Hole.Carrier
use Rattle.cw_syntax.specs.declared.program.Expr.{Expr, out-Expr}
use Rattle.cw_syntax.specs.declared.program.Stmt.{Stmt}
use Rattle.cw_syntax.specs.declared.program.What.{What}
use Rattle.cw_syntax.specs.declared.program.Head.{Head, Head', out-Head, Head-init-None', Head-init-Some'}
use Rattle.cw_syntax.specs.declared.program.What.TheVariants.{Block, For}
use Rattle.cw_syntax.specs.Trees.{Statement, just, form_of, for_of, tree_of, trees_of, statement_of, statements_of, perhaps_of}
use Rattle.cw_syntax.specs.Plans.{Scene}
use Rattle.cw_syntax.proofs.Shapes.{node_is, block_form}
use Rattle.cw_callgraph.specs.declared.scopes.Known.{Known}
use Rattle.cw_callgraph.specs.declared.expressions.Role.{Role}
use Rattle.cw_callgraph.specs.Scoping.{meaning_of, meaning_at}
use Rattle.cw_callgraph.specs.Forbidding.{is_element, element_at, places, places_in, place_if, forbids_itself, first_role, formed, stated, stated_all, known_in, known_by_init, init, init_in, known_by_init_in, given}
use Rattle.cw_callgraph.specs.declared.statements.Setting.{Setting}
use Rattle.cw_callgraph.specs.Walking.{scene_at, file_at, head_list}

module _ (source : List ℕ) (file inner : List Known) where
  pub meaning_is : (e : Expr) → meaning_of source file inner (tree_of e) ≡ meaning_at source file inner (out-Expr e).op (out-Expr e).from (out-Expr e).to
  meaning_is e = ap (meaning_of source file inner) (node_is e)

  pub element_is : (e : Expr) → is_element source file inner (tree_of e) ≡ element_at source file inner (out-Expr e).op (trees_of (out-Expr e).parts.items)
  element_is e = ap (is_element source file inner) (node_is e)

  pub places_are : (role : Role) (e : Expr)
      → places source file inner role (tree_of e) ≡ place_if (forbids_itself source file inner role (out-Expr e).op (trees_of (out-Expr e).parts.items) (out-Expr e).from (out-Expr e).to) (out-Expr e).from ++ places_in source file inner (first_role role (out-Expr e).op) (trees_of (out-Expr e).parts.items)
  places_are role e = ap (places source file inner role) (node_is e)

module _ (s : Scene) (file : List Known) where
  pub block_places : (inner : List Known) (at : ℕ) (w : What) (v : Vec Stmt Global) → w ≡ Block v
      → formed s file inner at (form_of w) ≡ stated_all s file inner (statements_of v.items)
  block_places inner at w v e = ap (formed s file inner at) (block_form w v e)

  -- a `for` with this head and this body
  abbrev pub for_places : List Known → Head → Stmt → List ℕ
  for_places inner h body =
      let o = out-Head h in
      let known = inner ++ known_by_init s file (perhaps_of o.init) in
      init s file inner (perhaps_of o.init) ++ given s.source file known (option_map tree_of o.test) ++ given s.source file known (option_map tree_of o.step) ++ stated s file known (statement_of body)

  head_places : (inner : List Known) (at : ℕ) (h : Head) (body : Stmt) → formed s file inner at (for_of h (statement_of body)) ≡ for_places inner h body
  unfolding out-Head Carrier.out
  head_places inner at (Head' Head-init-None' test step) body = refl
  head_places inner at (Head' (Head-init-Some' what from to) test step) body = refl

  pub for_is : (inner : List Known) (at : ℕ) (w : What) (h : Box Head Global) (b : Box Stmt Global) → w ≡ For h b
      → formed s file inner at (form_of w) ≡ for_places inner h.value b.value
  for_is inner at w h b e = ap (λ w. formed s file inner at (form_of w)) e ∙ head_places inner at h.value b.value

  head_known : (h : Head) (body : Statement) → known_in s file (for_of h body) ≡ []
  head_known (Head' init test step) body = refl

  pub for_known : (w : What) (h : Box Head Global) (b : Box Stmt Global) → w ≡ For h b → known_in s file (form_of w) ≡ []
  for_known w h b e = ap (λ w. known_in s file (form_of w)) e ∙ head_known h.value (statement_of b.value)

  for_start : (inner : List Known) (h : Head) (body : Statement) → init_in s file inner (for_of h body) ≡ []
  for_start inner (Head' init test step) body = refl

  pub no_start : (inner : List Known) (t : Stmt) (h : Box Head Global) (b : Box Stmt Global) → t.what ≡ For h b → init s file inner (just (statement_of t)) ≡ []
  no_start inner t h b e = ap (λ w. init_in s file inner (form_of w)) e ∙ for_start inner h.value (statement_of b.value)

  for_start_known : (h : Head) (body : Statement) → known_by_init_in s file (for_of h body) ≡ []
  for_start_known (Head' init test step) body = refl

  pub no_start_known : (t : Stmt) (h : Box Head Global) (b : Box Stmt Global) → t.what ≡ For h b → known_by_init s file (just (statement_of t)) ≡ []
  no_start_known t h b e = ap (λ w. known_by_init_in s file (form_of w)) e ∙ for_start_known h.value (statement_of b.value)

-- the places of a `for`, where those of its head were appended first and those of its body behind them
pub for_done : (t : Setting) (inner inner' : List Known) (h : Head) (body : Stmt) (out out' out'' : List ℕ)
    → out' ≡ out ++ head_list t inner h
    → inner' ≡ inner ++ known_by_init (scene_at t) (file_at t) (perhaps_of (out-Head h).init)
    → out'' ≡ out' ++ stated (scene_at t) (file_at t) inner' (statement_of body)
    → out'' ≡ out ++ for_places (scene_at t) (file_at t) inner h body
for_done t inner inner' h body out out' out'' head known rest =
    let s = scene_at t in
    let file = file_at t in
    let o = out-Head h in
    let under = inner ++ known_by_init s file (perhaps_of o.init) in
    let a = init s file inner (perhaps_of o.init) in
    let b = given s.source file under (option_map tree_of o.test) in
    let d = given s.source file under (option_map tree_of o.step) in
    let x = stated s file under (statement_of body) in
    rest
    ∙ ap (λ l. out' ++ stated s file l (statement_of body)) known
    ∙ ap (λ l. l ++ x) head
    ∙ append_assoc out (a ++ b ++ d) x

take_front : (xs ys : List Known) → take (length xs) (xs ++ ys) ≡ xs
take_front [] ys = refl
take_front (x ∷ xs) ys = ap (λ l. x ∷ l) (take_front xs ys)

-- what is known again behind a body, where what its head and it declared is taken off
pub cut : (inner body left left' : List Known) (depth : ℕ) (all all' : List Known) → depth ≡ length inner → all ≡ inner ++ left → all' ≡ all ++ left'
    → body ≡ take depth all' → body ≡ inner
cut inner body left left' depth all all' at known known' is =
    is
    ∙ ap (take depth) (known' ∙ ap (λ l. l ++ left') known ∙ append_assoc inner left left')
    ∙ ap (λ n. take n (inner ++ (left ++ left'))) at
    ∙ take_front inner (left ++ left')

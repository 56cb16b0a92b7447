-- Counting points up to a cap.
use Rattle.std.proofs.Common.{◌≡◌, ◌+◌, ◌<◌, ◌≤◌, ℕ, List, [], ◌∷◌, map, Option, None, Some, Vec, Box, Global, length, drop, get_or, refl, sym, ap, ap₂, ◌∙◌, arith, drop-cons, add-one}
use Rattle.std.specs.Prelude.{is_some}
use Rattle.std.proofs.lemmas.List.{length-map}
use Rattle.cw_syntax.specs.declared.program.Function.{Function}
use Rattle.cw_syntax.specs.declared.program.Head.{Head, out-Head}
use Rattle.cw_syntax.specs.declared.program.Stmt.{Stmt}
use Rattle.cw_syntax.specs.declared.program.What.TheVariants.{Block, For}
use Rattle.cw_syntax.specs.Plans.{Scene, routines_from}
use Rattle.cw_syntax.specs.Trees.{Definition, cons, definition_of, form_of, statement_of, statements_of}
use Rattle.cw_points.specs.Points.{one_if, one_if_some, count_from}
use Rattle.cw_points.specs.Sizes.{size, size_of, size_all, size_from, capped}
use Rattle.cw_points.proofs.Lengths.{size_from_is}
use Rattle.cw_syntax.proofs.Shapes.{block_form}
use Rattle.cw_points.proofs.Shapes.{for_form, IsFor}

pub one_place : (o : Option ℕ) → one_if_some o ≡ one_if (is_some o)
one_place None = refl
one_place (Some at) = refl

pub size_block : (s : Stmt) (v : Vec Stmt Global) → s.what ≡ Block v → size (statement_of s) ≡ size_all (statements_of v.items)
size_block s v e = ap size_of (block_form s.what v e)

-- the points of a head
abbrev pub head_size : Head → ℕ
head_size h = one_if (is_some (out-Head h).init) + 1 + one_if (is_some (out-Head h).step)

pub size_for : (s : Stmt) (h : Box Head Global) (b : Box Stmt Global) → s.what ≡ For h b → size (statement_of s) ≡ size (statement_of b.value) + head_size h.value
size_for s h b e =
    let k : IsFor h.value (statement_of b.value) (form_of s.what) = for_form s.what h b e in
    let f = ap size_of k.form_is in
    let p = one_place _ ∙ sym (ap one_if k.head_is.begun) in
    let q = sym (ap one_if k.head_is.stepped) in
    omega (arith, f, p, q)

-- one more of a list
pub one_more : (ss : List Stmt) (s : Stmt) (i : ℕ) → i < length ss → s ≡ get_or ss i s → statements_of (drop i ss) ≡ cons (statement_of s) (statements_of (drop (i + 1) ss))
one_more ss s i lt is = ap statements_of (drop-cons ss i s lt ∙ ap₂ (λ y z. y ∷ drop z ss) (sym is) (sym (add-one i)))

-- a whole program
pub few_points : (c : Scene) (fs : List Definition) (n : ℕ) → n ≡ capped (size_from fs) → n ≤ 8192 → count_from (routines_from c 0 fs) ≤ 8192
few_points c fs n e h = omega (arith, e, h, size_from_is c fs 0)

pub few_sizes : (fs : List Definition) (n : ℕ) → n ≡ capped (size_from fs) → n ≤ 8192 → size_from fs ≤ 8192
few_sizes fs n e h = omega (arith, e, h)

pub many_points : (c : Scene) (fs : List Definition) (n : ℕ) → n ≡ capped (size_from fs) → 8192 < n → 8192 < count_from (routines_from c 0 fs)
many_points c fs n e h = omega (arith, e, h, size_from_is c fs 0)

functions_counted : (fs : List Definition) → length fs ≤ size_from fs
functions_counted [] = omega arith
functions_counted (f ∷ fs) = omega (arith, functions_counted fs)

pub few_functions : (fs : List Function) (n : ℕ) → n ≡ capped (size_from (map definition_of fs)) → n ≤ 8192 → length fs ≤ 65535
few_functions fs n e h = omega (arith, e, h, functions_counted (map definition_of fs), length-map fs definition_of)

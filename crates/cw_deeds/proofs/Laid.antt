-- The rows of a program's points.
use Rattle.std.proofs.Common.{◌≡◌, ℕ, ◌+◌, List, [], ◌∷◌, ◌++◌, Bool, true, false, Option, Some, None, map, refl, sym, ap, ap₂, ◌∙◌}
use Rattle.std.specs.List.{flat_map}
use Rattle.std.proofs.lemmas.List.{map-append}
use Rattle.cw_syntax.specs.declared.program.Function.{Function}
use Rattle.cw_syntax.specs.Trees.{definition_of, statements_of}
use Rattle.cw_syntax.specs.Plans.{Stm, Plain, Break, Continue, Return, Open, Close, Call, Group, Label, If, While, Do, For, Stms, end, then, Scene, numbered, numbered_all, seams, seams_all, steps_of_all, routines_from}
use Rattle.cw_syntax.specs.Frames.{Item, Test, End}
use Rattle.cw_points.specs.Points.{points_in, points_in_all, points_from}
use Rattle.cw_deeds.specs.declared.items.Row.{Row}
use Rattle.cw_deeds.specs.declared.items.Row.TheVariants as row
use Rattle.cw_deeds.specs.Rows.{row_of, test_row, head_rows, function_rows}

abbrev rows : List Item → List Row
rows items = map row_of items

pub both : (xs ys : List Item) → rows (xs ++ ys) ≡ rows xs ++ rows ys
both xs ys = map-append row_of xs ys

-- a `for`: its head, then its body
pub for_rows : (at : ℕ) (init : Option ℕ) (decided stepped : Bool) (s t : Stm) → rows (points_in s) ≡ rows (points_in t) →
    rows (points_in (For at init decided stepped s)) ≡ head_rows init decided stepped at ++ rows (points_in t)
for_rows at None decided true s t same = ap (λ l. test_row decided at ∷ (row.Steps at ∷ l)) same
for_rows at None decided false s t same = ap (λ l. test_row decided at ∷ l) same
for_rows at (Some place) decided true s t same = ap (λ l. row.Plain place ∷ (test_row decided at ∷ (row.Steps at ∷ l))) same
for_rows at (Some place) decided false s t same = ap (λ l. row.Plain place ∷ (test_row decided at ∷ l)) same

-- numbers of seams tell nothing
mutual
  pub unnumbered : (s : Stm) (j : ℕ) → rows (points_in (numbered s j)) ≡ rows (points_in s)
  unnumbered (Plain at) j = refl
  unnumbered (Break at) j = refl
  unnumbered (Continue at) j = refl
  unnumbered (Return at) j = refl
  unnumbered (Open at i d) j = refl
  unnumbered (Close at i d) j = refl
  unnumbered (Call at i callee) j = refl
  unnumbered (Group ss) j = unnumbered_all ss j
  unnumbered (Label at mark i l s) j = ap (λ l. row.Rests ∷ l) (unnumbered s (j + 1))
  unnumbered (If at s t) j =
      ap (λ l. row.Decides at ∷ l)
      (both (points_in (numbered s j)) (points_in (numbered t (j + seams s))) ∙ ap₂ (λ a b. a ++ b) (unnumbered s j) (unnumbered t (j + seams s)) ∙ sym (both (points_in s) (points_in t)))
  unnumbered (While at s) j = ap (λ l. row.Decides at ∷ l) (unnumbered s j)
  unnumbered (Do at s) j =
      both (points_in (numbered s j)) (Test at true false (numbered s j) ∷ [])
      ∙ ap (λ l. l ++ row.Decides at ∷ []) (unnumbered s j)
      ∙ sym (both (points_in s) (Test at true false s ∷ []))
  unnumbered (For at init decided stepped s) j = for_rows at init decided stepped (numbered s j) s (unnumbered s j) ∙ sym (for_rows at init decided stepped s s refl)

  pub unnumbered_all : (ss : Stms) (j : ℕ) → rows (points_in_all (numbered_all ss j)) ≡ rows (points_in_all ss)
  unnumbered_all end j = refl
  unnumbered_all (then s ss) j =
      both (points_in (numbered s j)) (points_in_all (numbered_all ss (j + seams s)))
      ∙ ap₂ (λ a b. a ++ b) (unnumbered s j) (unnumbered_all ss (j + seams s))
      ∙ sym (both (points_in s) (points_in_all ss))

pub program_rows : (s : Scene) (f j : ℕ) (fs : List Function) → rows (points_from f (routines_from s j (map definition_of fs))) ≡ flat_map (function_rows s) fs
program_rows s f j [] = refl
program_rows s f j (g ∷ gs) =
    let body = steps_of_all s (statements_of g.body.items) in
    let own = points_in_all (numbered_all body (j + 1)) in
    let later = points_from (f + 1) (routines_from s (j + 1 + seams_all body) (map definition_of gs)) in
    ap (λ l. row.Rests ∷ l)
    (both (own ++ End f ∷ []) later
    ∙ ap₂ (λ a b. a ++ b) (both own (End f ∷ []) ∙ ap (λ l. l ++ row.Ends ∷ []) (unnumbered_all body (j + 1))) (program_rows s (f + 1) (j + 1 + seams_all body) gs))

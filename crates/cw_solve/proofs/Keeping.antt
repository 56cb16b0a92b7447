-- What a solved game keeps, as its calls tell it.
use Rattle.std.proofs.Common.{◌≡◌, ℕ, suc, ◌+◌, ◌-◌, ◌<◌, ◌≤◌, List, [], ◌∷◌, Option, Some, length, refl, sym, ◌∙◌, subst, arith}
use Rattle.std.specs.Prelude.{slice_get, slice_index, Contains}
use Rattle.std.proofs.Math.Nat.{mul-le-mul}
use Rattle.std.proofs.lemmas.List.Sums.{sum_by-cons}
use Rattle.std.proofs.lemmas.Option.{same_Some, slice_get_within}
use Rattle.cw_game.specs.Games.{Game}
use Rattle.cw_product.specs.Product.{Held as HeldGame, game_of}
use Rattle.cw_solve.specs.declared.contexts.Context.{Context}
use Rattle.cw_solve.specs.declared.table.Blocks.{Blocks}
use Rattle.cw_solve.specs.declared.table.Table.{Table}
use Rattle.cw_solve.specs.Tabled.{Tabled}
use Rattle.cw_product.specs.Routed.{IsThere, AreRouted, IsOf}
use Rattle.cw_solve.specs.Contexts.{context, size, cells_of, HeightIs, IsNeeded, AreTheNeeded}
use Rattle.cw_solve.specs.Rounds.{slot, height_by, IsCell}
use Rattle.cw_solve.specs.Tables.{AreBlocks, AreTabled, IsTabled, HasCell}
use Rattle.cw_solve.specs.Solved.{Held, IsKept, IsNumbered, IsHeightIn}
use Rattle.cw_solve.proofs.Still.{number_of}
use Rattle.cw_solve.proofs.Tabling.{there}

abbrev pub held : HeldGame → Table → Held
held h t = record { game = h; contexts = t.blocks.contexts.items }

module _ (g : Game) (functions : ℕ) (routed : AreRouted g functions) where
  size_positive : (f : ℕ) → IsThere g functions f → 0 < size g f
  size_positive f th =
      let rows : 1 ≤ g.exit f + 1 - g.entry f = omega (arith, th.begins) in
      let one : 1 ≤ g.states.count = routed.some in
      let le = mul-le-mul rows one in
      omega (arith, le)

  few_contexts : (contexts : List Context) → ((c : Context) → Contains contexts c → 0 < size g c.function) → length contexts ≤ cells_of g contexts
  few_contexts [] h = omega arith
  few_contexts (c ∷ cs) h =
      let first = h c (0, omega arith, refl) in
      let rest = few_contexts cs (λ d is. h d (suc is.0, omega (arith, is.1), is.2)) in
      omega (arith, first, rest, sum_by-cons (λ (x : Context). size g x.function) c cs)

  -- contexts that may be tabled are few
  pub few_tabled : (contexts : List Context) → AreTabled g contexts → length contexts ≤ 4194304
  few_tabled contexts tabled =
      let le = few_contexts contexts (λ c is. size_positive c.function (there g functions routed c (tabled.needed.needed c is))) in
      omega (arith, le, tabled.few)

  pub few : (b : Blocks) → AreBlocks g b → length b.contexts.items ≤ 4194304
  few b blocks = few_tabled b.contexts.items (record { first = blocks.first; needed = blocks.needed; few = blocks.few })

pub kept_needed : (h : HeldGame) (t : Table) → IsKept h t → AreTheNeeded (game_of h) t.blocks.contexts.items
kept_needed h t kept = record { first = kept.table.blocks.first; some = kept.table.blocks.needed; all = kept.done.all }

pub kept_few : (h : HeldGame) (t : Table) → IsKept h t → length t.blocks.contexts.items ≤ 4194304
kept_few h t kept = few (game_of h) (length h.graph.parts.items) kept.routed t.blocks kept.table.blocks

-- the height that stands at a cell
pub kept_height : (h : HeldGame) (t : Table) → IsKept h t → (number p q k : ℕ) (d : Context) → slice_get t.blocks.contexts.items number ≡ Some d
    → IsCell (game_of h) t.blocks.contexts.items number d p q → k ≡ slice_index t.heights.items (slot (game_of h) t.blocks.contexts.items number d.function p q)
    → IsHeightIn (held h t) number p q (height_by k)
kept_height h t kept number p q k d at is e c found =
    let same : d ≡ c = same_Some d c (sym at ∙ found) in
    let right = kept.done.heights number d p q is in
    subst (λ (x : Context). HeightIs (game_of h) p q x.promise (height_by k)) same (subst (λ (x : ℕ). HeightIs (game_of h) p q d.promise (height_by x)) (sym e) right)

-- each needed pair has its height, or none
abbrev pub IsKnownIn : HeldGame → Type 0
IsKnownIn h = (f p q e : ℕ) → IsNeeded (game_of h) (context f e) → IsOf (game_of h) f p → q < (game_of h).states.count → (o : Option ℕ) × HeightIs (game_of h) p q e o

pub kept_known : (h : HeldGame) (t : Table) → IsKept h t → IsKnownIn h
kept_known h t kept f p q e need of lt =
    let i = number_of t.blocks.contexts.items (context f e) (kept.done.all (context f e) need) in (
      height_by (slice_index t.heights.items (slot (game_of h) t.blocks.contexts.items i.0 f p q)),
      kept.done.heights i.0 (context f e) p q (record { at = i.1; of = of; state = lt }),
    )

-- the cell of a pair, as the call names it
pub numbered_cell : (h : HeldGame) (t : Table) (v : Held) → held h t ≡ v → (number p q : ℕ) → IsNumbered v number p q → (d : Context) → slice_get v.contexts number ≡ Some d
    → (slice_get t.blocks.contexts.items number ≡ Some d) × IsCell (game_of h) t.blocks.contexts.items number d p q
numbered_cell h t v e number p q =
    subst (λ (v : Held). IsNumbered v number p q → (d : Context) → slice_get v.contexts number ≡ Some d → (slice_get t.blocks.contexts.items number ≡ Some d)
    × IsCell (game_of h) t.blocks.contexts.items number d p q) e
    (λ n d at.
    let same : n.0 ≡ d = same_Some n.0 d (sym n.1 ∙ at) in
    (at, record { at = at; of = subst (λ (x : Context). IsOf (game_of h) x.function p) same n.2; state = n.3 }))

-- the number of a context is below how many there are
pub number_within : (h : HeldGame) (t : Table) (v : Held) → held h t ≡ v → (number p q : ℕ) → IsNumbered v number p q → number < length t.blocks.contexts.items
number_within h t v e number p q = subst (λ (v : Held). IsNumbered v number p q → number < length t.blocks.contexts.items) e (λ n. slice_get_within t.blocks.contexts.items number n.0 n.1)

-- the cell of a pair in a context that is read by its number
pub read_cell : (h : HeldGame) (t : Table) (v : Held) → held h t ≡ v → (number p q : ℕ) → IsNumbered v number p q → (at : Tabled) → at.number ≡ number → IsTabled t.blocks at
    → HasCell (game_of h) t.blocks at p q
read_cell h t v e number p q n at same there =
    let here = subst (λ (i : ℕ). slice_get t.blocks.contexts.items i ≡ Some at.context) same there in
    let cell = (numbered_cell h t v e number p q n at.context (subst (λ (v : Held). slice_get v.contexts number ≡ Some at.context) e here)).1 in
    subst (λ (i : ℕ). IsCell (game_of h) t.blocks.contexts.items i at.context p q) (sym same) cell

pub seen_height : (h : HeldGame) (t : Table) (v : Held) → held h t ≡ v → IsKept h t → (number p q k : ℕ) (at : Tabled) → IsNumbered v number p q → at.number ≡ number → IsTabled t.blocks at
    → k ≡ slice_index t.heights.items (slot (game_of h) t.blocks.contexts.items at.number at.context.function p q) → (o : Option ℕ) → o ≡ height_by k → IsHeightIn v number p q o
seen_height h t v view kept number p q k at n same there e o written =
    let here = subst (λ (i : ℕ). slice_get t.blocks.contexts.items i ≡ Some at.context) same there in
    let seen = subst (λ (v : Held). slice_get v.contexts number ≡ Some at.context) view here in
    let cell = numbered_cell h t v view number p q n at.context seen in
    let read = subst (λ (i : ℕ). k ≡ slice_index t.heights.items (slot (game_of h) t.blocks.contexts.items i at.context.function p q)) same e in
    subst (λ (v : Held). IsHeightIn v number p q o) view
    (subst (λ (x : Option ℕ). IsHeightIn (held h t) number p q x) (sym written) (kept_height h t kept number p q k at.context cell.0 cell.1 read))

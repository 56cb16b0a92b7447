-- A table of contexts in which nothing is written, and the number of all states.
use Rattle.std.proofs.Common.{◌≡◌, ℕ, zero, suc, ◌+◌, ◌-◌, ◌<◌, ◌≤◌, List, [], ◌∷◌, ◌++◌, Bool, true, cond, Some, length, get_or, replicate, take, refl, sym, ap, ◌∙◌, subst, arith, inl, inr}
use Rattle.std.specs.Prelude.{nat_lt, nat_eq, slice_get, slice_index, count_by}
use Rattle.std.specs.Int.{bit_at}
use Rattle.std.proofs.lemmas.Bool.{cases_lt, lt-ltb, le-ltb, eq-eqb, ne_eqb}
use Rattle.std.proofs.lemmas.Nat.Bits.{bit_at_ones, bit_at_ones_above}
use Rattle.std.proofs.lemmas.List.{get_or-replicate, get_or_past, length-replicate, get_or_append_left, get_or-append_right}
use Rattle.std.proofs.Math.Nat.{mul-le-mul_right}
use Rattle.std.proofs.lemmas.List.Sums.{sum_by-cons, sum_by_push, sum_by-take-le}
use Rattle.std.proofs.lemmas.Option.{slice_get_read, none-some}
use Rattle.cw_core.specs.StateSet.{has as has_member}
use Rattle.cw_core.proofs.Sets.{same_from_members}
use Rattle.cw_game.specs.Games.{Game}
use Rattle.cw_game.specs.Pairs.{all_states}
use Rattle.cw_solve.specs.declared.contexts.Context.{Context}
use Rattle.cw_solve.specs.declared.table.Blocks.{Blocks}
use Rattle.cw_solve.specs.declared.table.Table.{Table}
use Rattle.cw_solve.specs.Contexts.{context, size, cells_of, IsNeeded, of_main, AreNeeded, AreTooMany}
use Rattle.cw_product.specs.Routed.{IsThere, AreRouted}
use Rattle.cw_solve.specs.Tables.{is_none, AreBlocks, IsTable, IsAtRound, AreTabled, IsMissing}
use Rattle.cw_solve.proofs.Counts.{needed_more}
use Rattle.cw_solve.proofs.Looking.{nothing_written, nothing_asked}
use Rattle.cw_solve.proofs.Slots.{base_more}
use Rattle.cw_solve.proofs.Tabling.{there}

-- a set that has the numbers below n alone is the number of all states
pub all_is : (g : Game) (set : ℕ) → ((i : ℕ) → has_member set i ≡ nat_lt i g.states.count) → set ≡ all_states g
unfolding has_member
all_is g set h = same_from_members set (all_states g) (λ i. h i ∙ sym (members i))
  where
    members : (i : ℕ) → has_member (all_states g) i ≡ nat_lt i g.states.count
    members i = elim (cases_lt i g.states.count) [
      | inl lt ↦ eq-eqb (bit_at (all_states g) i) 1 (bit_at_ones g.states.count i lt) ∙ sym (lt-ltb i g.states.count lt)
      | inr le ↦ ap (λ (b : ℕ). nat_eq b 1) (bit_at_ones_above g.states.count i le) ∙ ne_eqb 0 1 (λ e. absurd (omega (arith, e))) ∙ sym (le-ltb i g.states.count le)
    ]

-- no height is written
pub none_written : (n : ℕ) → count_by is_none (replicate {A = ℕ} n 0) ≡ n
none_written zero = refl
none_written (suc n) =
    let one : is_none 0 ≡ true = eq-eqb 0 0 refl in
    let more = sum_by-cons (λ (x : ℕ). cond (is_none x) 1 0) 0 (replicate n 0) in
    let first : cond (is_none 0) 1 0 ≡ 1 = ap {B = ℕ} (λ (b : Bool). cond b 1 0) one in
    omega (arith, more, first, none_written n)

pub nothing_there : (n k : ℕ) → ◌≡◌ {A = ℕ} (get_or {A = ℕ} (replicate n 0) k 0) 0
nothing_there n k = elim (cases_lt k n) [
  | inl lt ↦ get_or-replicate n k 0 0 lt
  | inr le ↦ get_or_past (replicate n 0) k 0 (let e = length-replicate {A = ℕ} n 0 in omega (arith, e, le))
]

first_stays : (xs ys : List Context) (c : Context) → slice_get xs 0 ≡ Some c → slice_get (xs ++ ys) 0 ≡ Some c
first_stays [] ys c e = absurd (none-some c e)
first_stays (x ∷ xs) ys c e = e

module _ (g : Game) (functions : ℕ) (routed : AreRouted g functions) where
  -- a table in which nothing is written
  pub is_table : (t : Table) → AreTabled g t.blocks.contexts.items → length t.blocks.bases.items ≡ length t.blocks.contexts.items
      → ((i : ℕ) → i < length t.blocks.contexts.items → slice_index t.blocks.bases.items i ≡ cells_of g (take i t.blocks.contexts.items))
      → t.heights.items ≡ replicate (cells_of g t.blocks.contexts.items) 0 → t.written ≡ 0 → IsTable g t
  is_table t are bases begins none zero_written =
      let n = cells_of g t.blocks.contexts.items in
      let cells : length t.heights.items ≡ n = ap length none ∙ length-replicate {A = ℕ} n 0 in
      let all : count_by is_none t.heights.items ≡ n = ap (count_by is_none) none ∙ none_written n in
      record {
        blocks = record { first = are.first; needed = are.needed; begins = begins; bases = bases; few = are.few };
        cells = cells;
        counted = omega (arith, cells, all, zero_written);
      }

  pub is_at_start : (t : Table) → t.heights.items ≡ replicate (cells_of g t.blocks.contexts.items) 0 → IsAtRound g t 0
  is_at_start t none =
      let contexts = t.blocks.contexts.items in
      record {
        written = nothing_written g contexts t.heights.items (λ k. ap (λ (hs : List ℕ). get_or hs k 0) none ∙ nothing_there (cells_of g contexts) k);
        asked = nothing_asked g contexts;
        low = omega arith;
      }

  -- the context number i, and the cells up to behind it
  pub there_in : (contexts : List Context) → AreTabled g contexts → (i : ℕ) (c : Context) → i < length contexts → c ≡ get_or contexts i c → IsThere g functions c.function
  there_in contexts are i c lt e = there g functions routed c (are.needed.needed c (i, lt, sym e))

  pub cells_more : (contexts : List Context) (i : ℕ) (c : Context) → i < length contexts → c ≡ get_or contexts i c
      → cells_of g (take (i + 1) contexts) ≡ cells_of g (take i contexts) + size g c.function
  cells_more contexts i c lt e = base_more g contexts i c (slice_get_read contexts (length contexts) i c refl lt e)

  pub cells_few : (contexts : List Context) → AreTabled g contexts → (i : ℕ) → cells_of g (take i contexts) ≤ 4194304
  cells_few contexts are i = let le = sum_by-take-le (λ (c : Context). size g c.function) contexts i in omega (arith, le, are.few)

  cells_of_longer : (contexts longer : List Context) (c : Context) → longer ≡ contexts ++ c ∷ [] → cells_of g longer ≡ cells_of g contexts + size g c.function
  cells_of_longer contexts longer c e =
      ap (λ (xs : List Context). cells_of g xs) e
      ∙ sum_by_push (λ (x : Context). size g x.function) contexts c

  module _ (b : Blocks) (blocks : AreBlocks g b) (c : Context) (missing : IsMissing g b c) (longer : List Context) (is : longer ≡ b.contexts.items ++ c ∷ []) where
    needed_longer : AreNeeded g longer
    needed_longer = subst (λ (xs : List Context). AreNeeded g xs) (sym is) (needed_more g b.contexts.items c blocks.needed missing.needed missing.new)

    -- one context more, where there is room
    pub longer_tabled : cells_of g b.contexts.items + size g c.function ≤ 4194304 → 0 < size g c.function → AreTabled g longer × (cells_of g b.contexts.items < cells_of g longer)
    longer_tabled room some =
        let cells = cells_of_longer b.contexts.items longer c is in (
          record {
            first = ap (λ (xs : List Context). slice_get xs 0) is ∙ first_stays b.contexts.items (c ∷ []) (context g.main (all_states g)) blocks.first;
            needed = needed_longer;
            few = omega (arith, cells, room);
          },
          omega (arith, cells, some),
        )

    -- and where there is none
    pub longer_too_many : 4194304 < cells_of g b.contexts.items + size g c.function → AreTooMany g longer
    longer_too_many room =
        let cells = cells_of_longer b.contexts.items longer c is in
        record { some = needed_longer; many = omega (arith, cells, room) }

  -- `main` with all states alone
  pub start_tabled : (contexts : List Context) → contexts ≡ context g.main (all_states g) ∷ [] → AreTabled g contexts
  start_tabled contexts e =
      let main = context g.main (all_states g) in
      let few : size g g.main ≤ 1048576 = main_few in
      let cells = ap (λ (xs : List Context). cells_of g xs) e ∙ sum_by-cons (λ (x : Context). size g x.function) main [] in
      record {
        first = ap (λ (xs : List Context). slice_get xs 0) e;
        needed = subst (λ (xs : List Context). AreNeeded g xs) (sym e) (record { needed = λ c is. only_main c is.0 is.1 is.2; distinct = λ i j d lt within. absurd (omega (arith, lt, within)) });
        few = omega (arith, cells, few);
      }
    where
      main_few : size g g.main ≤ 1048576
      main_few =
          let rows : g.exit g.main + 1 - g.entry g.main ≤ length g.spots = omega (arith, routed.main.ends) in
          let le = mul-le-mul_right g.states.count rows in
          omega (arith, le, routed.pairs)

      only_main : (c : Context) (k : ℕ) → k < length (context g.main (all_states g) ∷ []) → get_or (context g.main (all_states g) ∷ []) k c ≡ c → IsNeeded g c
      only_main c zero lt z = subst (λ (y : Context). IsNeeded g y) z of_main
      only_main c (suc k) lt z = absurd (omega (arith, lt))

-- one more at the end
pub values_more : (F : ℕ → ℕ) (xs : List ℕ) (n v : ℕ) → length xs ≡ n → ((i : ℕ) → i < n → slice_index xs i ≡ F i) → v ≡ F n → (i : ℕ) → i < n + 1 → slice_index (xs ++ v ∷ []) i ≡ F i
values_more F xs n v e old new i lt =
    elim (cases_lt i n) [
      | inl less ↦ get_or_append_left xs (v ∷ []) 0 i (omega (arith, less, e)) ∙ old i less
      | inr le ↦
          let same : i ≡ n = omega (arith, lt, le) in
          let none : i - n ≡ 0 = omega (arith, same) in
          get_or-append_right xs (v ∷ []) n i 0 e le ∙ ap (λ (k : ℕ). get_or (v ∷ []) k 0) none ∙ new ∙ ap F (sym same)
    ]

-- The cell at an index.
use Rattle.std.proofs.Common.{◌≡◌, ℕ, zero, suc, ◌+◌, ◌-◌, ◌*◌, ◌/◌, ◌<◌, ◌≤◌, List, true, false, length, get_or, nat_le, sym, ap, ◌∙◌, subst, arith, inl, inr}
use Rattle.std.specs.List.Sorted.{IsNonDecreasing, IsPartitionPoint}
use Rattle.std.proofs.lemmas.Bool.{cases_lt, leb-true, leb-false}
use Rattle.std.proofs.lemmas.Nat.{div-add-mod', div_below, mod_below}
use Rattle.std.proofs.lemmas.List.{get_or_default, take_all}
use Rattle.std.specs.Prelude.{Some, slice_get}
use Rattle.std.proofs.lemmas.Option.{slice_get_within, get_or_from_slice_get, slice_get-get_or}
use Rattle.cw_game.specs.Games.{Game}
use Rattle.cw_solve.specs.declared.contexts.Context.{Context}
use Rattle.cw_solve.specs.declared.table.Blocks.{Blocks}
use Rattle.cw_solve.specs.Tabled.{Tabled}
use Rattle.cw_product.specs.Routed.{AreRouted, IsThere}
use Rattle.cw_solve.specs.Contexts.{cells_of}
use Rattle.cw_solve.specs.Rounds.{base, positions}
use Rattle.cw_solve.specs.Tables.{AreBlocks, IsTabled}
use Rattle.cw_solve.proofs.Slots.{base_more, base_rises}
use Rattle.cw_solve.proofs.Tabling.{there_at, base_at}
use Rattle.cw_linked.specs.declared.work.Work.{Work}
use Rattle.cw_linked.specs.Queues.{IsOwner, IsCellAt}
use Rattle.cw_linked.specs.Works.{known_of, IsKnown}

-- where the cells of some first contexts have an index among theirs, one of these has
owner_upto : (g : Game) (contexts : List Context) (k n : ℕ) → n ≤ length contexts → k < base g contexts n → (i : ℕ) × IsOwner g contexts i k
owner_upto g contexts k zero le lt = absurd (omega (arith, lt))
owner_upto g contexts k (suc n) le lt =
    elim (cases_lt k (base g contexts n)) [
      | inl before ↦ owner_upto g contexts k n (omega (arith, le)) before
      | inr after ↦
          let next : n + 1 ≡ suc n = omega arith in
          (n, (omega (arith, le), after, rw next lt))
    ]

module _ (g : Game) (b : Blocks) (blocks : AreBlocks g b) where
  abbrev Contexts : List Context
  Contexts = b.contexts.items

  -- where all cells end
  all_base : base g Contexts (length Contexts) ≡ cells_of g Contexts
  all_base = ap (λ (cs : List Context). cells_of g cs) (take_all (length Contexts) Contexts (omega arith))

  -- each index is one of a context
  pub owned : (k : ℕ) → k < cells_of g Contexts → (i : ℕ) × IsOwner g Contexts i k
  owned k lt = owner_upto g Contexts k (length Contexts) (omega arith) (omega (arith, lt, all_base))

  pub base_is : (i d : ℕ) → i < length Contexts → get_or b.bases.items i d ≡ base g Contexts i
  base_is i d lt = get_or_default b.bases.items i d 0 (omega (arith, lt, blocks.bases)) ∙ blocks.begins i lt

  -- where contexts begin rises
  pub bases_rise : IsNonDecreasing b.bases.items
  bases_rise i j d le lt =
      let e : j ≡ i + (j - i) = omega (arith, le) in
      let rises : base g Contexts i ≤ base g Contexts j = rw e (base_rises g Contexts i (j - i)) in
      omega (arith, rises, base_is i d (omega (arith, le, lt, blocks.bases)), base_is j d (omega (arith, lt, blocks.bases)))

  -- where the context begins at or before the index, and the next one, if there is one, behind it
  pub owns : (k i start : ℕ) → k < cells_of g Contexts → slice_get b.bases.items i ≡ Some start → start ≤ k
      → ((next : ℕ) → slice_get b.bases.items (i + 1) ≡ Some next → k < next) → IsOwner g Contexts i k
  owns k i start within at le ahead =
      let lt : i < length Contexts = omega (arith, slice_get_within b.bases.items i start at, blocks.bases) in (
        lt,
        omega (arith, le, base_is i start lt, get_or_from_slice_get b.bases.items i start start at),
        elim (cases_lt (i + 1) (length Contexts)) [
          | inl more ↦
              let next = slice_get-get_or b.bases.items (i + 1) 0 (omega (arith, more, blocks.bases)) in
              omega (arith, ahead (get_or b.bases.items (i + 1) 0) next, base_is (i + 1) 0 more)
          | inr last ↦
              let e : i + 1 ≡ length Contexts = omega (arith, lt, last) in
              rw e (omega (arith, within, all_base))
        ],
      )

  module _ (k n : ℕ) (within : k < cells_of g Contexts) (bases : List ℕ) (are : bases ≡ b.bases.items) (bound : n ≤ length bases)
      (point : IsPartitionPoint (λ start. nat_le start k ≡ true) (λ start. nat_le start k ≡ false) bases n) where
    many : length bases ≡ length Contexts
    many = ap (λ (bs : List ℕ). length bs) are ∙ blocks.bases

    begins : (i : ℕ) → i < length Contexts → get_or bases i 0 ≡ base g Contexts i
    begins i lt = ap (λ (bs : List ℕ). get_or bs i 0) are ∙ base_is i 0 lt

    begun : (i : ℕ) → i < n → base g Contexts i ≤ k
    begun i lt =
        let le = leb-true (get_or bases i 0) k (point.0 i 0 (omega arith) lt) in
        omega (arith, le, begins i (omega (arith, lt, bound, many)))

    ahead : (i : ℕ) → n ≤ i → i < length Contexts → k < base g Contexts i
    ahead i le lt =
        let past = leb-false (get_or bases i 0) k (point.1 i 0 le (omega (arith, lt, many))) in
        omega (arith, past, begins i lt)

    nothing_below : k < base g Contexts 0 → ⊥
    nothing_below lt = omega (arith, lt)

    -- some context begins at or before the index
    pub some_begun : 0 < n
    some_begun = elim (cases_lt 0 n) [
      | inl lt ↦ lt
      | inr none ↦ absurd (nothing_below (ahead 0 none (slice_get_within Contexts 0 _ blocks.first)))
    ]

    -- and the last one has it
    pub last_begun : IsOwner g Contexts (n - 1) k
    last_begun =
        let back : n - 1 + 1 ≡ n = omega (arith, some_begun) in (
          omega (arith, some_begun, bound, many),
          begun (n - 1) (omega (arith, some_begun)),
          rw back past,
        )
      where
        past : k < base g Contexts n
        past = elim (cases_lt n (length Contexts)) [
          | inl lt ↦ ahead n (omega arith) lt
          | inr ge ↦
              let e : n ≡ length Contexts = omega (arith, ge, bound, many) in
              rw e (omega (arith, within, all_base))
        ]

module _ (g : Game) (functions : ℕ) (routed : AreRouted g functions) (w : Work) (known : IsKnown g (known_of w)) (k i : ℕ) (at : Tabled)
    (owner : IsOwner g w.blocks.contexts.items i k) (number : at.number ≡ i)
    (there : IsTabled w.blocks at) where
  own : IsOwner g w.blocks.contexts.items at.number k
  own = subst (λ (y : ℕ). IsOwner g w.blocks.contexts.items y k) (sym number) owner

  pub function_there : IsThere g functions at.context.function
  function_there = there_at g functions routed w.blocks known.blocks at.number at.context there

  start_is : (b : ℕ) → b ≡ get_or w.blocks.bases.items at.number b → b ≡ base g w.blocks.contexts.items at.number
  start_is b is = base_at g functions routed w.blocks known.blocks at.number at.context there b is

  pub begins_below : (b : ℕ) → b ≡ get_or w.blocks.bases.items at.number b → b ≤ k
  begins_below b is = let e = start_is b is in omega (arith, e, own.1)

  -- an index among those of the context
  row : (b s : ℕ) → b ≡ get_or w.blocks.bases.items at.number b → s ≡ positions g at.context.function → k - b < g.states.count * s
  row b s base_is run =
      let start = start_is b base_is in
      let more = base_more g w.blocks.contexts.items at.number at.context there in
      let swapped : positions g at.context.function * g.states.count ≡ g.states.count * positions g at.context.function = omega arith in
      subst (λ (y : ℕ). k - b < g.states.count * y) (sym run) (omega (arith, start, more, swapped, own.1, own.2))

  pub some_run : (s : ℕ) → s ≡ positions g at.context.function → 0 < s
  some_run s run = omega (arith, run, function_there.begins)

  pub state_below : (b s : ℕ) → b ≡ get_or w.blocks.bases.items at.number b → s ≡ positions g at.context.function → (k - b) / s < g.states.count
  state_below b s base_is run = div_below (k - b) s g.states.count (some_run s run) (row b s base_is run)

  pub few_run : (s : ℕ) → s ≡ positions g at.context.function → s ≤ 1048576
  few_run s run = omega (arith, run, function_there.begins, function_there.ends, routed.short)

  module _ (b s e q : ℕ) (base_is : b ≡ get_or w.blocks.bases.items at.number b) (run : s ≡ positions g at.context.function) (entry : e ≡ g.entry at.context.function)
      (quotient : q ≡ (k - b) / s) where
    times : q * s ≡ (k - b) / s * s
    times = ap (λ (y : ℕ). y * s) quotient

    -- what is left of the row
    left : (q * s ≤ k - b) × (k - b - q * s < s)
    left =
        let across = mod_below (k - b) s (some_run s run) in
        let whole = div-add-mod' (k - b) s in
        (omega (arith, whole, times), omega (arith, across, whole, times))

    pub cell_is : IsCellAt g w k (record { at = at; pos = record { 0 = e + (k - b - q * s) }; state = record { 0 = q } })
    cell_is =
        let start = start_is b base_is in
        let below = state_below b s base_is run in
        let runs : q * positions g at.context.function ≡ q * s = ap (λ (y : ℕ). q * y) (sym run) in
        let back : e + (k - b - q * s) - g.entry at.context.function ≡ k - b - q * s = omega (arith, entry) in
        record {
          is = record {
            at = there;
            of = (omega (arith, entry), omega (arith, entry, left.1, run, function_there.begins));
            state = omega (arith, below, quotient);
          };
          index = omega (arith, start, runs, back, left.0, own.1);
        }

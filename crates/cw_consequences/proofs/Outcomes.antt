-- A game comes to one outcome: too many cells, too many rows, its lazy table, or its strategy by least heights.
use Rattle.std.proofs.Common.{◌≡◌, inl, inr, ℕ, ◌<◌, ◌≤◌, List, [], ◌∷◌, Bool, true, false, map, refl, sym, ap, ap₂, ◌∙◌, subst, arith, eq-eqb}
use Rattle.std.specs.Int.{bit_at}
use Rattle.std.proofs.lemmas.Bool.{cases_lt}
use Rattle.std.proofs.lemmas.Nat.Bits.{bit_at_ones}
use Rattle.cw_core.specs.declared.quantity.Quantity.TheVariants.{Cells, Rows}
use Rattle.cw_rights.specs.declared.capabilities.Primitive.{Primitive}
use Rattle.cw_rights.specs.Policies.{PlainPolicy}
use Rattle.cw_syntax.specs.Marks.{marks_of}
use Rattle.cw_syntax.specs.Trees.{File}
use Rattle.cw_certs.specs.Strategies.{Row, Strategy}
use Rattle.cw_certs.specs.Tables.{Table}
use Rattle.cw_fixpoint.specs.Closures.{Exactly, Reached}
use Rattle.cw_model.specs.Boards.{Problem, problem_of, start_board, Forced}
use Rattle.cw_game.specs.Games.{Game, refuses_in, Holds, IsLost}
use Rattle.cw_game.specs.Pairs.{all_states, has}
use Rattle.cw_game.specs.Reached.{Reached as ReachedState}
use Rattle.cw_game.specs.Standing.{IsGameOf}
use Rattle.cw_game.proofs.Link.{start_stands}
use Rattle.cw_game.proofs.Necessity.{all_owed}
use Rattle.cw_game.proofs.Standing.{IsStanding, lost_board, standing_on, state_below}
use Rattle.cw_solve.specs.Contexts.{cells_of, IsHeight}
use Rattle.cw_solve.proofs.Counts.{too_many}
use Rattle.cw_lazy_table.specs.Laws.{CanBegin}
use Rattle.cw_lazy_table.specs.Lazy.{IsLazyTable, table_rows}
use Rattle.cw_lazy_table.proofs.Sameness.{lazy_is_one, one}
use Rattle.cw_least_strategy.specs.declared.key.Key.{Key}
use Rattle.cw_least_strategy.specs.Strategies.{IsLeastStrategy, key_cmp, named, row_at, rows_of, start_key}
use Rattle.cw_least_strategy.proofs.Keys.{key_total}
use Rattle.cw_audit_laws.specs.Refusing.{ruled_by}
use Rattle.cw_consequences.proofs.Alike.{height_same, holds_same, needed_same}
use Rattle.cw_consequences.proofs.Least.{strategy_same}
use Rattle.cw_strategy_text.specs.StrategyText.{strategy_text}
use Rattle.cw_emit.specs.Woven.{Stands}
use Rattle.cw_commands.specs.declared.outcome.Reply.TheVariants.{Yes, No}
use Rattle.cw_commands.specs.Outcomes.{Due, Told, Refused}
use Rattle.cw_stages.specs.Refusals.{over}
use Rattle.cw_stages.specs.Verdicts.{AfterGame, HasFewCells, HasManyCells, HasManyRows, IsVerdict, StartHolds}

pub data Outcome : Type 0 where
  ManyCells : Outcome
  ManyRows : Outcome
  Woven : (table : Table) → Outcome
  Refuted : (strategy : Strategy) → Outcome

-- the game comes to it
abbrev pub Ends : Game → Outcome → Type 0
Ends g ManyCells = HasManyCells g
Ends g ManyRows = HasFewCells g × HasManyRows g
Ends g (Woven t) = HasFewCells g × StartHolds g × IsLazyTable g t × (table_rows t ≤ 65536)
Ends g (Refuted s) = HasFewCells g × IsLeastStrategy g s × (rows_of s ≤ 65536)

-- and what is told of it, for a source and its program under a policy
abbrev pub Says : List ℕ → File → PlainPolicy → Outcome → Due → Type 0
Says source file p ManyCells due = due ≡ over Cells
Says source file p ManyRows due = due ≡ over Rows
Says source file p (Woven t) due = (text : List ℕ) × (due ≡ Told Yes text) × Stands text source (marks_of (problem_of p source file).plan) t p
Says source file p (Refuted s) due = (text : List ℕ) × (due ≡ Told No text) × (text ≡ strategy_text p.format s)

-- ---- what is due says an outcome

-- where the start is lost it is forced
start_forced : (p : Problem) (g : Game) → IsGameOf p g → IsLost g (g.entry g.main) g.states.start (has (all_states g)) → (n : ℕ) × Forced p n (start_board p)
start_forced p g of lost =
    let Means = ReachedState g.policy g.spots g.states in
    lost_board Means g p of.policy of.states of.laid of.routines (start_board p) (g.entry g.main) g.states.start (has (all_states g)) []
    (start_stands Means g p of.policy of.states of.laid of.routines)
    (all_owed g (IsStanding Means g) (standing_on Means g p of.policy of.states of.laid of.routines) (state_below Means g p of.policy of.states of.laid of.routines) (has (all_states g))
    (λ x lt. eq-eqb (bit_at (all_states g) x) 1 (bit_at_ones g.states.count x lt)) []) lost

pub start_holds : (p : Problem) (g : Game) → IsGameOf p g → ((n : ℕ) → Forced p n (start_board p) → ⊥) → StartHolds g
start_holds p g of never n = by (Holds g n (g.entry g.main) g.states.start (has (all_states g))) refl
  where
    by : (b : Bool) → Holds g n (g.entry g.main) g.states.start (has (all_states g)) ≡ b → b ≡ true
    by true e = refl
    by false e = let f = start_forced p g of (n, e) in absurd (never f.0 f.1)

pub ends : (source : List ℕ) (file : File) (p : PlainPolicy) (g : Game) (due : Due) → IsGameOf (problem_of p source file) g → AfterGame (IsVerdict p source file) g due
    → (o : Outcome) × Ends g o × Says source file p o due
ends source file p g due of (inl (many, e)) = (ManyCells, many, e)
ends source file p g due of (inr (few, inl (many, e))) = (ManyRows, (few, many), e)
ends source file p g due of (inr (few, inr verdict)) = by due verdict
  where
    by : (due : Due) → IsVerdict p source file g due → (o : Outcome) × Ends g o × Says source file p o due
    by (Told Yes text) w = (Woven w.table, (few, start_holds (problem_of p source file) g of w.never, w.is_lazy, w.few), (text, refl, w.stands))
    by (Told No text) w = (Refuted w.strategy, (few, w.is_least, w.few), (text, refl, w.spelled))
    by (Refused cause line) w = absurd w

-- ---- a game comes to one outcome

module _ (g : Game) where
  pub cells_clash : HasManyCells g → HasFewCells g → ⊥
  cells_clash (some, many) (all, are, few) = let lt : 4194304 < cells_of g all = too_many g some all many are in let le : cells_of g all ≤ 4194304 = few in omega (arith, lt, le)

  height_clash : (n : ℕ) → StartHolds g → IsHeight g (g.entry g.main) g.states.start (all_states g) n → ⊥
  height_clash n holds is = let e : true ≡ false = sym (holds n) ∙ is.lost in cc

  one_height : (m n : ℕ) → IsHeight g (g.entry g.main) g.states.start (all_states g) m → IsHeight g (g.entry g.main) g.states.start (all_states g) n → m ≡ n
  one_height m n x y = elim (cases_lt m n) [
    | inl lt ↦ let w : true ≡ false = sym (y.least m lt) ∙ x.lost in cc
    | inr le ↦ elim (cases_lt n m) [
      | inl lt ↦ let w : true ≡ false = sym (x.least n lt) ∙ y.lost in cc
      | inr ge ↦ omega (arith, le, ge)
    ]
  ]

  -- it has one strategy by least heights
  least_is_one : (s t : Strategy) → IsLeastStrategy g s → IsLeastStrategy g t → s ≡ t
  least_is_one s t a b =
      let e : a.height ≡ b.height = one_height a.height b.height a.is_height b.is_height in
      let keys : a.keys ≡ b.keys =
      one key_cmp key_total (Reached (named g) (start_key g b.height ∷ [])) a.keys b.keys
      (subst (λ n. Exactly key_cmp (Reached (named g) (start_key g n ∷ [])) a.keys) e a.exactly) b.exactly in
      let rows : s.rows ≡ t.rows = a.rows ∙ ap (λ (ks : List Key). map (row_at g ks) ks) keys ∙ sym b.rows in
      ap₂ (λ (n : ℕ) (rs : List Row). record { states = n; rows = rs }) (a.states ∙ sym b.states) rows

  rows_woven : (t : Table) → HasManyRows g → StartHolds g → IsLazyTable g t → table_rows t ≤ 65536 → ⊥
  rows_woven t (inl (holds, (u, is, many))) starts lazy few =
      let lt : 65536 < table_rows t = subst (λ (x : Table). 65536 < table_rows x) (lazy_is_one g u t is lazy) many in omega (arith, lt, few)
  rows_woven t (inr ((n, is), all)) starts lazy few = height_clash n starts is

  rows_refuted : (s : Strategy) → HasManyRows g → IsLeastStrategy g s → rows_of s ≤ 65536 → ⊥
  rows_refuted s (inl (holds, all)) least few = height_clash least.height holds least.is_height
  rows_refuted s (inr (lost, (u, is, many))) least few =
      let lt : 65536 < rows_of s = subst (λ (x : Strategy). 65536 < rows_of x) (least_is_one u s is least) many in omega (arith, lt, few)

  pub one_outcome : (o r : Outcome) → Ends g o → Ends g r → o ≡ r
  one_outcome ManyCells ManyCells a b = refl
  one_outcome ManyCells ManyRows a b = absurd (cells_clash a b.0)
  one_outcome ManyCells (Woven t) a b = absurd (cells_clash a b.0)
  one_outcome ManyCells (Refuted s) a b = absurd (cells_clash a b.0)
  one_outcome ManyRows ManyCells a b = absurd (cells_clash b a.0)
  one_outcome ManyRows ManyRows a b = refl
  one_outcome ManyRows (Woven t) (cells, many) (few, holds, lazy, short) = absurd (rows_woven t many holds lazy short)
  one_outcome ManyRows (Refuted s) (cells, many) (few, least, short) = absurd (rows_refuted s many least short)
  one_outcome (Woven t) ManyCells a b = absurd (cells_clash b a.0)
  one_outcome (Woven t) ManyRows (few, holds, lazy, short) (cells, many) = absurd (rows_woven t many holds lazy short)
  one_outcome (Woven t) (Woven u) (few, holds, lazy, short) (others, starts, other, less) = ap (λ (x : Table). Woven x) (lazy_is_one g t u lazy other)
  one_outcome (Woven t) (Refuted s) (few, holds, lazy, short) (others, least, less) = absurd (height_clash least.height holds least.is_height)
  one_outcome (Refuted s) ManyCells a b = absurd (cells_clash b a.0)
  one_outcome (Refuted s) ManyRows (few, least, short) (cells, many) = absurd (rows_refuted s many least short)
  one_outcome (Refuted s) (Woven t) (few, least, short) (others, holds, lazy, less) = absurd (height_clash least.height holds least.is_height)
  one_outcome (Refuted s) (Refuted u) (few, least, short) (others, other, less) = ap (λ (x : Strategy). Refuted x) (least_is_one s u least other)

-- ---- under another policy

-- A game is played alike under another policy: a refusal is a move of both or of neither, and where the lazy table can begin it is the same.
pub record IsLike (g : Game) (y : PlainPolicy) : Type 0 where
  pub forth : (q : ℕ) (a : Primitive) → refuses_in (ruled_by g g.policy) q a ≡ refuses_in (ruled_by g y) q a
  pub back : (q : ℕ) (a : Primitive) → refuses_in (ruled_by g y) q a ≡ refuses_in (ruled_by g g.policy) q a
  pub tables : (functions : ℕ) → CanBegin g functions → (t : Table)
      → (IsLazyTable g t → IsLazyTable (ruled_by g y) t) × (IsLazyTable (ruled_by g y) t → IsLazyTable g t)

module _ (g : Game) (y : PlainPolicy) (like : IsLike g y) (functions : ℕ) (begins : StartHolds g → CanBegin g functions) where
  many_moved : HasManyCells g → HasManyCells (ruled_by g y)
  many_moved (contexts, are) = (
    contexts,
    record {
      some = record { needed = λ c n. needed_same g g.policy y like.forth c (are.some.needed c n); distinct = are.some.distinct };
      many = are.many;
    },
  )

  few_moved : HasFewCells g → HasFewCells (ruled_by g y)
  few_moved (contexts, are, le) = (
    contexts,
    record {
      first = are.first;
      some = record { needed = λ c n. needed_same g g.policy y like.forth c (are.some.needed c n); distinct = are.some.distinct };
      all = λ c n. are.all c (needed_same g y g.policy like.back c n);
    },
    le,
  )

  holds_moved : StartHolds g → StartHolds (ruled_by g y)
  holds_moved holds n = sym (holds_same g g.policy y like.forth n (g.entry g.main) g.states.start (has (all_states g))) ∙ holds n

  rows_moved : HasManyRows g → HasManyRows (ruled_by g y)
  rows_moved (inl (holds, (t, lazy, many))) = inl (holds_moved holds, (t, (like.tables functions (begins holds) t).0 lazy, many))
  rows_moved (inr ((n, is), (s, least, many))) = inr (
    (n, height_same g g.policy y like.forth (g.entry g.main) g.states.start (all_states g) n is),
    (s, strategy_same g g.policy y like.forth like.back s least, many),
  )

  pub moved : (o : Outcome) → Ends g o → Ends (ruled_by g y) o
  moved ManyCells a = many_moved a
  moved ManyRows (few, many) = (few_moved few, rows_moved many)
  moved (Woven t) (few, holds, lazy, short) = (few_moved few, holds_moved holds, (like.tables functions (begins holds) t).0 lazy, short)
  moved (Refuted s) (few, least, short) = (few_moved few, strategy_same g g.policy y like.forth like.back s least, short)

-- A table that meets the conditions has a text.
use Rattle.std.proofs.Common.{◌≡◌, ℕ, suc, ◌+◌, ◌<◌, ◌≤◌, ◌^◌, List, [], ◌∷◌, ◌++◌, length, map, Bool, true, Option, Some, None, nat_eq, refl, ap, arith, length-append}
use Rattle.std.specs.List.{AllByRecursion, list_all}
use Rattle.std.proofs.lemmas.List.{length-map}
use Rattle.std.proofs.lemmas.Bool.{ltb-true, eqb-true}
use Rattle.cw_core.specs.declared.ids.StateId.{StateId}
use Rattle.cw_core.specs.declared.ids.PosId.{PosId}
use Rattle.cw_core.specs.declared.ids.MemId.{MemId}
use Rattle.cw_rights.specs.Policies.{policy_of}
use Rattle.cw_certs.specs.declared.rows.TryRow.{TryRow}
use Rattle.cw_certs.specs.declared.rows.AtRow.{AtRow}
use Rattle.cw_certs.specs.declared.rows.OpenRow.{OpenRow}
use Rattle.cw_certs.specs.declared.rows.IntoRow.{IntoRow}
use Rattle.cw_certs.specs.declared.rows.BackRow.{BackRow}
use Rattle.cw_certs.specs.Tables.{Table}
use Rattle.cw_game.specs.Games.{Game}
use Rattle.cw_game.specs.Conditions.{fault_at, ranges, is_header, is_state, is_set, is_position, is_memory, is_memory_if, is_seam, is_stage, IsGoodTable}
use Rattle.cw_game.specs.Conditions.{is_mem_row, is_live_row, is_try_row, is_at_row, is_open_row, is_into_row, is_back_row, InMems}
use Rattle.std.proofs.lemmas.Bool.{and_parts}
use Rattle.cw_lemmas.proofs.Lists.{all_append}
use Rattle.cw_game.proofs.Goods.{InRange, taken, none_first, in_ranges}
use Rattle.cw_lazy_table.specs.Lazy.{table_rows}
use Rattle.cw_product.specs.Product.{Held, game_of}
use Rattle.cw_table_text.specs.declared.row.Row.TheVariants as row
use Rattle.cw_table_text.specs.Rows.{memories, from_closed, from_tries, rows_of}
use Rattle.cw_table_text.specs.Grammar.{IsMem, IsAnswer, Fits, FitsLive, FitsTry, FitsAfter, FitsOpened, FitsInto, FitsBack}
use Rattle.cw_answer_texts.specs.Spelled.{IsGameMade, TablesHaveTexts}
use Rattle.cw_answer_texts.proofs.Bounds.{seam_small, stage_small, few_states, state_small, position_small, set_within}

-- ---- lists of rows

all_mapped : {A B : Type 0} (P : B → Type 0) (f : A → B) (test : A → Bool) → ((x : A) → test x ≡ true → P (f x)) → (xs : List A) → list_all test xs ≡ true → AllByRecursion P (map f xs)
all_mapped P f test each [] h = tt
all_mapped P f test each (x ∷ xs) h = let k = and_parts (test x) (list_all test xs) h in (each x k.0, all_mapped P f test each xs k.1)

pub length_memories : (n : ℕ) (ms : List (StateId × ℕ)) → length (memories n ms) ≡ length ms
length_memories n [] = refl
length_memories n (m ∷ ms) = ap suc (length_memories (n + 1) ms)

-- all rows are as many as those of the lists
rows_are_all : (t : Table) → length (rows_of t) ≡ table_rows t
unfolding rows_of
rows_are_all t =
    let a = length-append (memories 0 t.mems) (map row.Live t.live ++ from_tries t) in
    let b = length-append (map row.Live t.live) (from_tries t) in
    let c = length-append (map row.Try t.tries) (map row.At t.ats ++ (map row.Opened t.opened ++ from_closed t)) in
    let d = length-append (map row.At t.ats) (map row.Opened t.opened ++ from_closed t) in
    let e = length-append (map row.Opened t.opened) (from_closed t) in
    let f = length-append (map row.Closed t.closed) (map row.Into t.into ++ map row.Back t.back) in
    let k = length-append (map row.Into t.into) (map row.Back t.back) in
    omega (
      arith,
      a,
      b,
      c,
      d,
      e,
      f,
      k,
      length_memories 0 t.mems,
      length-map t.live row.Live,
      length-map t.tries row.Try,
      length-map t.ats row.At,
      length-map t.opened row.Opened,
      length-map t.closed row.Closed,
      length-map t.into row.Into,
      length-map t.back row.Back,
    )

-- ---- what the first condition asks of each list

header_and_ranges : (g : Game) (t : Table) → IsGoodTable g t → (is_header g t ≡ true) × InRange g t
header_and_ranges g t good =
    let first = taken (is_header g t) _ (fault_at InMems 0 1) good in
    (first.0, in_ranges g t (none_first (ranges g t) _ first.1).0)

module _ (h : Held) (t : Table) (is : IsGameMade h) (few : length t.mems ≤ 65536) where
  abbrev g : Game
  g = game_of h

  abbrev format : ℕ
  format = (policy_of h.states.policy).format

  -- where there is a memory there is a state
  some_states : (ms : List (StateId × ℕ)) → list_all (is_mem_row g) ms ≡ true → 0 < length ms → 0 < g.states.count
  some_states [] e lt = absurd (omega (arith, lt))
  some_states (m ∷ ms) e lt =
      let k = and_parts (is_mem_row g m) (list_all (is_mem_row g) ms) e in
      let q = ltb-true m.0.0 g.states.count (and_parts (is_state g m.0.0) (is_set g m.1) k.0).0 in
      omega (arith, q)

  mem_fits : (m : MemId) → is_memory t m ≡ true → IsMem m
  mem_fits m e = let lt = ltb-true m.0 (length t.mems) e in omega (arith, lt, few)

  answer_fits : (m : Option MemId) → is_memory_if t m ≡ true → IsAnswer m
  answer_fits None e = tt
  answer_fits (Some m) e = mem_fits m e

  seam_fits : (j : ℕ) → is_seam g (record { 0 = j }) ≡ true → j < 2 ^ 32
  seam_fits j e = let lt = seam_small h is j e in omega (arith, lt)

  mems_fit : (n : ℕ) (ms : List (StateId × ℕ)) → n + length ms ≤ 65536 → list_all (is_mem_row g) ms ≡ true → AllByRecursion (Fits format) (memories n ms)
  mems_fit n [] le e = tt
  mems_fit n (m ∷ ms) le e =
      let k = and_parts (is_mem_row g m) (list_all (is_mem_row g) ms) e in
      let z = and_parts (is_state g m.0.0) (is_set g m.1) k.0 in
      let q = state_small h is m.0.0 z.0 in
      ((omega (arith, le), omega (arith, q), set_within h is m.1 z.1), mems_fit (n + 1) ms (omega (arith, le)) k.1)

  live_fits : 0 < g.states.count → (r : PosId × MemId) → is_live_row g t r ≡ true → FitsLive r
  live_fits some r e =
      let k = and_parts (is_position g r.0.0) (is_memory t r.1) e in
      let p = position_small h is r.0.0 some k.0 in
      (omega (arith, p), mem_fits r.1 k.1)

  try_fits : (r : TryRow) → is_try_row g t r ≡ true → FitsTry r
  try_fits r e =
      let a = and_parts (is_stage g r.seam r.stage) _ e in
      let b = and_parts (is_memory t r.mem) _ a.1 in
      let c = and_parts (is_memory_if t r.granted) (is_memory_if t r.refused) b.1 in
      let s = stage_small h is r.seam.0 r.stage a.0 in
      let j = s.0 in
      let i = s.1 in
      (omega (arith, j), omega (arith, i), mem_fits r.mem b.0, answer_fits r.granted c.0, answer_fits r.refused c.1)

  at_fits : (r : AtRow) → is_at_row g t r ≡ true → FitsAfter r
  at_fits r e =
      let a = and_parts (is_seam g r.seam) _ e in
      let b = and_parts (is_memory t r.mem) (is_memory t r.after) a.1 in
      (seam_fits r.seam.0 a.0, mem_fits r.mem b.0, mem_fits r.after b.1)

  open_fits : (r : OpenRow) → is_open_row g t r ≡ true → FitsOpened r
  open_fits r e =
      let a = and_parts (is_seam g r.seam) _ e in
      let b = and_parts (is_memory t r.mem) _ a.1 in
      let c = and_parts (is_memory t r.opened) (is_memory t r.failed) b.1 in
      (seam_fits r.seam.0 a.0, mem_fits r.mem b.0, mem_fits r.opened c.0, mem_fits r.failed c.1)

  into_fits : (r : IntoRow) → is_into_row g t r ≡ true → FitsInto r
  into_fits r e =
      let a = and_parts (is_seam g r.seam) _ e in
      let b = and_parts (is_memory t r.mem) (is_memory t r.callee) a.1 in
      (seam_fits r.seam.0 a.0, mem_fits r.mem b.0, mem_fits r.callee b.1)

  back_fits : (r : BackRow) → is_back_row g t r ≡ true → FitsBack r
  back_fits r e =
      let a = and_parts (is_seam g r.seam) _ e in
      let b = and_parts (is_memory t r.mem) _ a.1 in
      let c = and_parts (is_state g r.exit.0) (is_memory t r.after) b.1 in
      let q = state_small h is r.exit.0 c.0 in
      (seam_fits r.seam.0 a.0, mem_fits r.mem b.0, omega (arith, q), mem_fits r.after c.1)

  rows_fit : 0 < g.states.count → InRange g t → AllByRecursion (Fits format) (rows_of t)
  unfolding rows_of
  rows_fit some r =
      all_append (Fits format) (memories 0 t.mems) (map row.Live t.live ++ from_tries t) (mems_fit 0 t.mems (omega (arith, few)) r.mems)
      (all_append (Fits format) (map row.Live t.live) (from_tries t) (all_mapped (Fits format) row.Live (is_live_row g t) (live_fits some) t.live r.live)
      (all_append (Fits format) (map row.Try t.tries) (map row.At t.ats ++ (map row.Opened t.opened ++ from_closed t)) (all_mapped (Fits format) row.Try (is_try_row g t) try_fits t.tries r.tries)
      (all_append (Fits format) (map row.At t.ats) (map row.Opened t.opened ++ from_closed t) (all_mapped (Fits format) row.At (is_at_row g t) at_fits t.ats r.ats)
      (all_append (Fits format) (map row.Opened t.opened) (from_closed t) (all_mapped (Fits format) row.Opened (is_open_row g t) open_fits t.opened r.opened)
      (all_append (Fits format) (map row.Closed t.closed) (map row.Into t.into ++ map row.Back t.back) (all_mapped (Fits format) row.Closed (is_at_row g t) at_fits t.closed r.closed)
      (all_append (Fits format) (map row.Into t.into) (map row.Back t.back) (all_mapped (Fits format) row.Into (is_into_row g t) into_fits t.into r.into)
      (all_mapped (Fits format) row.Back (is_back_row g t) back_fits t.back r.back)))))))

pub tables_have_texts : TablesHaveTexts
tables_have_texts h t is good ascends rows =
    let g = game_of h in
    let r = header_and_ranges g t good in
    let head = and_parts (nat_eq t.states g.states.count) (is_memory t t.start) r.0 in
    let mems : length t.mems ≤ 65536 = omega (arith, rows) in
    let start = ltb-true t.start.0 (length t.mems) head.1 in
    let some : 0 < length t.mems = omega (arith, start) in
    let states = eqb-true t.states g.states.count head.0 in
    let few = few_states h is in
    record {
      ordered = record {
        states = omega (arith, states, few);
        start = mem_fits h t is mems t.start head.1;
        rows = rows_fit h t is mems (some_states h t is mems t.mems r.1.mems some) r.1;
        ascend = ascends;
      };
      few = omega (arith, rows, rows_are_all t);
    }

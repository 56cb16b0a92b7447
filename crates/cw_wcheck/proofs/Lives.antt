-- The conditions of the live rows, from a row on.
use Rattle.std.proofs.Common.{◌≡◌, ℕ, zero, suc, ◌+◌, ◌<◌, List, [], ◌∷◌, map, length, drop, get_or, true, false, cond, Option, Some, None, option_map, refl, sym, ap, ap₂, ◌∙◌, subst, arith, add-one}
use Rattle.std.specs.Option.{option_or}
use Rattle.std.specs.Prelude.{slice_get}
use Rattle.std.specs.List.{All, enumerate_from, list_all}
use Rattle.std.proofs.Math.Seq.{drop-cons}
use Rattle.std.proofs.lemmas.Bool.{ltb-true}
use Rattle.cw_core.specs.declared.ids.PosId.{PosId}
use Rattle.cw_core.specs.declared.ids.MemId.{MemId}
use Rattle.cw_certs.specs.Tables.{Table}
use Rattle.cw_game.specs.Games.{Game}
use Rattle.cw_game.specs.Conditions.{first_failing, InMems, InLive, TableFault, fault_at, is_header, ranges, is_live_row, begins, live_by, live_rows, table_fault}
use Rattle.cw_game.proofs.Failing.{first_append, first_mapped}
use Rattle.cw_wcheck.specs.declared.fault.BadRow.{BadRow}
use Rattle.cw_wcheck.specs.Checking.{numbered}
use Rattle.cw_lemmas.proofs.Truths.{and_first as first_part, and_second as second_part}

module _ (g : Game) (t : Table) where
  -- the first condition that fails of a row, and of the rows from one on
  abbrev pub fails_at : PosId × MemId → Option ℕ
  fails_at r = first_failing (live_by g t r.0.0 r.1.0 (slice_get t.mems r.1.0))

  abbrev pub fails_from : ℕ → Option TableFault
  fails_from i = first_failing (live_rows g t (enumerate_from i (drop i t.live)))

  step : (i : ℕ) (d : PosId × MemId) → i < length t.live → fails_from i ≡ option_or (option_map (fault_at InLive i) (fails_at (get_or t.live i d))) (fails_from (i + 1))
  step i d l =
      let r = get_or t.live i d in
      ap (λ rows. first_failing (live_rows g t (enumerate_from i rows))) (drop-cons t.live i d l)
      ∙ first_append (map (λ c. (fault_at InLive i c.0, c.1)) (live_by g t r.0.0 r.1.0 (slice_get t.mems r.1.0))) (live_rows g t (enumerate_from (i + 1) (drop (suc i) t.live)))
      ∙ ap₂ option_or (first_mapped (fault_at InLive i) (live_by g t r.0.0 r.1.0 (slice_get t.mems r.1.0)))
      (ap (λ k. first_failing (live_rows g t (enumerate_from (i + 1) (drop k t.live)))) (sym (add-one i)))

  pub found : (rows : List (PosId × MemId)) (i : ℕ) (d : PosId × MemId) (o : Option ℕ) (condition : ℕ)
      → rows ≡ t.live → i < length rows → o ≡ fails_at (get_or rows i d) → o ≡ Some condition → fails_from i ≡ Some (fault_at InLive i condition)
  found rows i d o condition same l e f =
      step i d (subst (λ xs. i < length xs) same l)
      ∙ ap (λ x. option_or (option_map (fault_at InLive i) x) (fails_from (i + 1))) (ap (λ xs. fails_at (get_or xs i d)) (sym same) ∙ sym e ∙ f)

  pub passed : (rows : List (PosId × MemId)) (i : ℕ) (d : PosId × MemId) (o : Option ℕ)
      → rows ≡ t.live → i < length rows → o ≡ fails_at (get_or rows i d) → o ≡ None → fails_from i ≡ fails_from (i + 1)
  passed rows i d o same l e f =
      step i d (subst (λ xs. i < length xs) same l)
      ∙ ap (λ x. option_or (option_map (fault_at InLive i) x) (fails_from (i + 1))) (ap (λ xs. fails_at (get_or xs i d)) (sym same) ∙ sym e ∙ f)

  pub all_positions : list_all (is_live_row g t) t.live ≡ true → All (λ r. r.0.0 < length g.spots) t.live
  all_positions h = among t.live h
    where
      among : (rows : List (PosId × MemId)) → list_all (is_live_row g t) rows ≡ true → All (λ r. r.0.0 < length g.spots) rows
      among [] e k d l = absurd (omega arith)
      among (r ∷ rows) e zero d l = ltb-true _ _ (first_part _ _ (first_part _ _ e))
      among (r ∷ rows) e (suc k) d l = among rows (second_part _ _ e) k d (omega arith)

  -- The first condition of the table that fails, part by part.
  abbrev then_begins : Option TableFault
  then_begins = cond (begins g t) (fails_from 0) (Some (fault_at InLive 0 2))

  fault_is : table_fault g t ≡ cond (is_header g t) (option_or (first_failing (ranges g t)) then_begins) (Some (fault_at InMems 0 1))
  fault_is = ap (λ o. cond (is_header g t) o (Some (fault_at InMems 0 1))) (first_append (ranges g t) ((fault_at InLive 0 2, begins g t) ∷ live_rows g t (enumerate_from 0 t.live)))

  past_header : is_header g t ≡ true → table_fault g t ≡ option_or (first_failing (ranges g t)) then_begins
  past_header h = fault_is ∙ ap (λ b. cond b (option_or (first_failing (ranges g t)) then_begins) (Some (fault_at InMems 0 1))) h

  in_ranges : (o : Option TableFault) (row : BadRow) → option_map numbered o ≡ Some row → option_map numbered (option_or o then_begins) ≡ Some row
  in_ranges None row e = cc
  in_ranges (Some f) row e = e

  none_numbered : (o : Option TableFault) → option_map numbered o ≡ None → o ≡ None
  none_numbered None e = refl
  none_numbered (Some f) e = cc

  pub fault_in_ranges : (answer : Option BadRow) (row : BadRow) → is_header g t ≡ true → answer ≡ option_map numbered (first_failing (ranges g t)) → answer ≡ Some row → Some row ≡ option_map numbered (table_fault g t)
  fault_in_ranges answer row h e f = sym (ap (option_map numbered) (past_header h) ∙ in_ranges (first_failing (ranges g t)) row (sym e ∙ f))

  pub all_ranges : (answer : Option BadRow) → answer ≡ option_map numbered (first_failing (ranges g t)) → answer ≡ None → first_failing (ranges g t) ≡ None
  all_ranges answer e f = none_numbered (first_failing (ranges g t)) (sym e ∙ f)

  past_ranges : is_header g t ≡ true → first_failing (ranges g t) ≡ None → table_fault g t ≡ then_begins
  past_ranges h r = past_header h ∙ ap (λ o. option_or o then_begins) r

  pub fault_at_start : is_header g t ≡ true → first_failing (ranges g t) ≡ None → begins g t ≡ false → option_map numbered (table_fault g t) ≡ Some (record { table = 2; number = 0; condition = 2 })
  fault_at_start h r b = ap (option_map numbered) (past_ranges h r ∙ ap (λ x. cond x (fails_from 0) (Some (fault_at InLive 0 2))) b)

  pub fault_in_rows : is_header g t ≡ true → first_failing (ranges g t) ≡ None → begins g t ≡ true → table_fault g t ≡ fails_from 0
  fault_in_rows h r b = past_ranges h r ∙ ap (λ x. cond x (fails_from 0) (Some (fault_at InLive 0 2))) b

  pub none_fails : (answer : Option BadRow) → answer ≡ option_map numbered (table_fault g t) → answer ≡ None → table_fault g t ≡ None
  none_fails answer e f = none_numbered (table_fault g t) (sym e ∙ f)

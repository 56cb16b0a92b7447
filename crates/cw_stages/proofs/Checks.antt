-- What is told of a table, and of a woven text.
use Rattle.std.proofs.Common.{◌≡◌, ℕ, ◌+◌, List, [], ◌∷◌, ◌++◌, length, map, Option, Some, None, refl, sym, ap, ◌∙◌, arith, length-append}
use Rattle.std.specs.Prelude.{codes, option_map}
use Rattle.std.specs.Fmt.{decimal}
use Rattle.std.proofs.lemmas.List.{length-map}
use Rattle.std.proofs.lemmas.Option.{none-some, same_Some}
use Rattle.cw_rights.specs.Policies.{PlainPolicy}
use Rattle.cw_certs.specs.Tables.{Table}
use Rattle.cw_game.specs.Games.{Game}
use Rattle.cw_game.specs.Conditions.{Part, InMems, InLive, InTries, InAts, InOpened, InClosed, InInto, InBack, TableFault, table_fault}
use Rattle.cw_table_text.specs.declared.row.Row.TheVariants.{Live, Try, At, Opened, Closed, Into, Back}
use Rattle.cw_table_text.specs.Rows.{from_closed, from_tries, memories, rows_of}
use Rattle.cw_table_text.specs.Grammar.{Spells}
use Rattle.cw_wcheck.specs.declared.fault.BadRow.{BadRow}
use Rattle.cw_wcheck.specs.Checking.{table_of, HasFewRows, numbered as told_of}
use Rattle.cw_woven.specs.declared.fault.WovenFault.{WovenFault}
use Rattle.cw_woven.specs.declared.fault.WovenFault.TheVariants as fault
use Rattle.cw_woven.specs.Held.{IsUnopened}
use Rattle.cw_woven.specs.Reading.{IsFaultOver}
use Rattle.cw_commands.specs.declared.outcome.Cause.{Cause}
use Rattle.cw_commands.specs.declared.outcome.Cause.TheVariants.{Source, Policy, Limit, Grammar}
use Rattle.cw_commands.specs.declared.outcome.Reply.TheVariants.{No}
use Rattle.cw_commands.specs.Outcomes.{Due, Refused, Told}
use Rattle.cw_answer_texts.proofs.Tabled.{length_memories as memories_many}
use Rattle.cw_stages.specs.Held.{list_name, told_row, woven_cause, woven_front}
use Rattle.cw_stages.specs.Tables.{of_woven, part_name, told}

name_is : (part : Part) → list_name (table_of part) ≡ part_name part
name_is InMems = refl
name_is InLive = refl
name_is InTries = refl
name_is InAts = refl
name_is InOpened = refl
name_is InClosed = refl
name_is InInto = refl
name_is InBack = refl

pub told_is : (f : TableFault) → told_row (told_of f) ≡ told f
told_is f = ap (λ (name : List ℕ). name ++ (codes " " ++ decimal f.row) ++ (codes " condition " ++ decimal f.condition) ++ (10 ∷ [])) (name_is f.part)

-- a row that is told is the first that fails
pub failing : (g : Game) (t : Table) (due : Due) (bad : BadRow) → (due ≡ Told No (told_row bad)) → (o : Option TableFault) → table_fault g t ≡ o → option_map told_of o ≡ Some bad
    → (f : TableFault) × (table_fault g t ≡ Some f) × (due ≡ Told No (told f))
failing g t due bad d None e h = absurd (none-some bad h)
failing g t due bad d (Some f) e h = (f, e, d ∙ ap (Told No) (ap told_row (sym (same_Some (told_of f) bad h)) ∙ told_is f))

closed_many : (t : Table) → length (from_closed t) ≡ length t.closed + (length t.into + length t.back)
closed_many t =
    omega (
      arith,
      length-append (map Closed t.closed) (map Into t.into ++ map Back t.back),
      length-append (map Into t.into) (map Back t.back),
      length-map t.closed Closed,
      length-map t.into Into,
      length-map t.back Back,
    )

tries_many : (t : Table) → length (from_tries t) ≡ length t.tries + (length t.ats + (length t.opened + (length t.closed + (length t.into + length t.back))))
tries_many t =
    omega (
      arith,
      length-append (map Try t.tries) (map At t.ats ++ (map Opened t.opened ++ from_closed t)),
      length-append (map At t.ats) (map Opened t.opened ++ from_closed t),
      length-append (map Opened t.opened) (from_closed t),
      length-map t.tries Try,
      length-map t.ats At,
      length-map t.opened Opened,
      closed_many t,
    )

rows_many : (t : Table) → length (rows_of t) ≡ length t.mems + (length t.live + length (from_tries t))
unfolding rows_of
rows_many t = omega (arith, length-append (memories 0 t.mems) (map Live t.live ++ from_tries t), length-append (map Live t.live) (from_tries t), memories_many 0 t.mems, length-map t.live Live)

pub few_rows : (policy : PlainPolicy) (lines : List ℕ) (t : Table) → Spells policy lines t → HasFewRows t
few_rows policy lines t h =
    let few = h.table.few in
    let rows = rows_many t in
    let tries = tries_many t in
    record {
      mems = omega (arith, few, rows);
      live = omega (arith, few, rows);
      tries = omega (arith, few, rows, tries);
      ats = omega (arith, few, rows, tries);
      opened = omega (arith, few, rows, tries);
      closed = omega (arith, few, rows, tries);
      into = omega (arith, few, rows, tries);
      back = omega (arith, few, rows, tries);
    }

pub unopened : (policy : PlainPolicy) (text : List ℕ) (f : WovenFault) → IsUnopened policy text f → IsFaultOver policy text [] f
unopened policy text (fault.Mark at) h = h
unopened policy text (fault.Table why) h = h
unopened policy text fault.NoMemory h = tt
unopened policy text (fault.Source why) h = absurd h
unopened policy text (fault.Misplaced n) h = absurd h

-- the refusal of a woven text by that of its source
pub woven_is : (cause : Cause) (line : List ℕ) → Refused (woven_cause cause) (woven_front cause ++ line) ≡ of_woven (Refused cause line)
woven_is Source line = refl
woven_is Policy line = refl
woven_is Limit line = refl
woven_is Grammar line = refl

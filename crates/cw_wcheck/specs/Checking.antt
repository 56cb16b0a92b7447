-- What the checker of tables answers.
use Rattle.std.specs.Prelude.{ℕ, ◌^◌, ◌<◌, length}
use Rattle.cw_certs.specs.Tables.{Table}
use Rattle.cw_game.specs.Conditions.{Part, InMems, InLive, InTries, InAts, InOpened, InClosed, InInto, InBack, TableFault}
use Rattle.cw_wcheck.specs.declared.fault.BadRow.{BadRow}

-- the number of a list
abbrev pub table_of : Part → ℕ
table_of InMems = 1
table_of InLive = 2
table_of InTries = 3
table_of InAts = 4
table_of InOpened = 5
table_of InClosed = 6
table_of InInto = 7
table_of InBack = 8

-- how a condition that fails is told
abbrev pub numbered : TableFault → BadRow
numbered f = record { table = table_of f.part; number = f.row; condition = f.condition }

-- the numbers of all rows fit 32 bits
pub record HasFewRows (t : Table) : Type 0 where
  pub mems : length t.mems < 2 ^ 32
  pub live : length t.live < 2 ^ 32
  pub tries : length t.tries < 2 ^ 32
  pub ats : length t.ats < 2 ^ 32
  pub opened : length t.opened < 2 ^ 32
  pub closed : length t.closed < 2 ^ 32
  pub into : length t.into < 2 ^ 32
  pub back : length t.back < 2 ^ 32

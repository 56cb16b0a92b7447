-- The plain run beside a woven one.
use Rattle.std.specs.Prelude.{ℕ, List}
use Rattle.cw_rights.specs.Policies.{PlainPolicy}
use Rattle.cw_syntax.specs.Trees.{File}
use Rattle.cw_value.specs.Shown.{Answers, Values}
use Rattle.cw_value.specs.Runs.{IsPlainRun}
use Rattle.cw_agree.specs.Agreements.{Agrees}

-- over the same answers there is a plain run with which this woven run agrees
abbrev pub AgreesWithPlain : PlainPolicy → List ℕ → File → Answers → Values → Type 0
AgreesWithPlain policy bytes file handed_in w = (v : Values) × IsPlainRun policy bytes file handed_in v × Agrees policy v w

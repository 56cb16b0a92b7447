-- The same policy in another format, and answers of `weave` that say the same under two policies.
use Rattle.std.specs.Prelude.{◌≡◌, ℕ, List}
use Rattle.cw_rights.specs.Policies.{PlainPolicy}
use Rattle.cw_syntax.specs.Trees.{File}
use Rattle.cw_syntax.specs.Marks.{marks_of}
use Rattle.cw_certs.specs.Tables.{Table}
use Rattle.cw_certs.specs.Strategies.{Strategy}
use Rattle.cw_model.specs.Boards.{problem_of}
use Rattle.cw_consequences.specs.Unrefused.{varied}
use Rattle.cw_strategy_text.specs.StrategyText.{strategy_text}
use Rattle.cw_emit.specs.Woven.{Stands}
use Rattle.cw_source.specs.Read.{ReadsAs}
use Rattle.cw_commands.specs.declared.outcome.Cause.{Cause}
use Rattle.cw_commands.specs.declared.outcome.Reply.TheVariants.{Yes, No}
use Rattle.cw_commands.specs.Outcomes.{Due, Told, Refused}

-- the same policy in another format
abbrev pub in_format : ℕ → PlainPolicy → PlainPolicy
in_format format policy = varied policy policy.refuse_limit policy.refuse_enter policy.refuse_split policy.stop format

-- Answers for one source under two policies, which say the same and have one status: the same refusal with the same line; woven texts of the source
-- with one table; the texts of one strategy. A table and a strategy are spelled in the format of their policy.
pub data AreAlike (source : List ℕ) (x y : PlainPolicy) : Due → Due → Type 0 where
  refused : (cause : Cause) (line : List ℕ) → AreAlike source x y (Refused cause line) (Refused cause line)
  woven : (file : File) (table : Table) (text other : List ℕ) → ReadsAs source file
      → Stands text source (marks_of (problem_of x source file).plan) table x
      → Stands other source (marks_of (problem_of y source file).plan) table y
      → AreAlike source x y (Told Yes text) (Told Yes other)
  refuted : (strategy : Strategy) (text other : List ℕ) → text ≡ strategy_text x.format strategy → other ≡ strategy_text y.format strategy
      → AreAlike source x y (Told No text) (Told No other)

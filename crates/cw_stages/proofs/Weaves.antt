-- What is woven and what is refuted, from what the crates below give.
use Rattle.std.proofs.Common.{◌≡◌, ℕ, ◌≤◌, List, [], arith, length, map, refl, sym, subst}
use Rattle.std.specs.Prelude.{codes}
use Rattle.cw_rights.specs.Policies.{PlainPolicy}
use Rattle.cw_rights.specs.Valid.{IsValid}
use Rattle.cw_syntax.specs.declared.marks.SeamMark.{SeamMark as MarkData}
use Rattle.cw_syntax.specs.Marks.{mark_of, marks_of}
use Rattle.cw_syntax.specs.Plans.{plan_of}
use Rattle.cw_syntax.specs.Trees.{File}
use Rattle.cw_resolve.specs.Scenes.{names_of}
use Rattle.cw_certs.specs.Ascending.{Ascends}
use Rattle.cw_certs.specs.Strategies.{Strategy}
use Rattle.cw_certs.specs.Tables.{Table}
use Rattle.cw_model.specs.Boards.{Problem, problem_of, start_board}
use Rattle.cw_model.specs.Runs.{Sound}
use Rattle.cw_game.specs.Games.{Game}
use Rattle.cw_game.specs.Conditions.{IsGoodTable, IsGoodStrategy}
use Rattle.cw_game.specs.Necessity.{TriesOnlyLost}
use Rattle.cw_game.specs.Reached.{Reached}
use Rattle.cw_game.specs.Standing.{IsGameOf}
use Rattle.cw_game.proofs.Goods.{good_closed}
use Rattle.cw_echeck.proofs.Laws.{all_beat}
use Rattle.cw_emit.specs.Cut.{cut}
use Rattle.cw_syntax.specs.PlainMarks.{HasNone}
use Rattle.cw_emit.specs.Woven.{woven_text, Stands}
use Rattle.cw_emit.proofs.Cutting.{cut_of_woven}
use Rattle.cw_emit.proofs.Names.{valid_names}
use Rattle.cw_syntax.specs.PlainMarks.{ArePlainMarks}
use Rattle.cw_lazy_table.specs.Lazy.{IsLazyTable, table_rows}
use Rattle.cw_least_strategy.specs.Backs.{BacksAscend}
use Rattle.cw_least_strategy.specs.Strategies.{IsLeastStrategy, rows_of}
use Rattle.cw_source_laws.proofs.Marked.{plain_marks}
use Rattle.cw_source.proofs.Marking.{marks_in_order}
use Rattle.cw_source.proofs.Unmarked.{no_marker}
use Rattle.cw_source.specs.Read.{ReadsAs}
use Rattle.cw_strategy_text.specs.StrategyText.{strategy_text}
use Rattle.cw_model.proofs.Beaten.{beaten_is_forced}
use Rattle.cw_wcheck.proofs.Lazies.{lazy}
use Rattle.cw_wcheck.specs.Checking.{HasFewRows}
use Rattle.cw_model.proofs.Running.{never_forced}
use Rattle.cw_wcheck.proofs.Sounds.{sound}
use Rattle.cw_stages.specs.Verdicts.{IsRefuted, IsWoven}

-- a table as it is written
pub record IsWritten (whole : PlainPolicy) (source : List ℕ) (marks : List MarkData) (table : Table) (bytes : List ℕ) : Type 0 where
  pub stands : Stands bytes source (map mark_of marks) table whole
  pub cuts : HasNone (codes "cw{*") source → ArePlainMarks source (map mark_of marks) → cut bytes ≡ source

-- what is made of a game whose start holds
pub record IsMadeTable (g : Game) (table : Table) : Type 0 where
  pub is_lazy : IsLazyTable g table
  pub ascends : Ascends table
  pub few : table_rows table ≤ 65536
  pub good : IsGoodTable g table
  pub lost : TriesOnlyLost g table

-- a table that meets the conditions is sound
pub is_sound : (p : Problem) (g : Game) (t : Table) → IsGameOf p g → IsGoodTable g t → length p.policy.limits ≤ 12 → Sound p t
is_sound p g t of good short = sound (Reached g.policy g.spots g.states) p g t of.policy of.states of.laid (good_closed g t good) short

pub is_woven : (whole : PlainPolicy) (source : List ℕ) (file : File) (g : Game) (marks : List MarkData) (table : Table) (bytes : List ℕ)
    → ReadsAs source file → IsGameOf (problem_of whole source file) g → map mark_of marks ≡ marks_of (plan_of (names_of whole) source file)
    → IsWritten whole source marks table bytes → IsMadeTable g table → Sound (problem_of whole source file) table → (woven : IsWoven whole source file g bytes) × (woven.table ≡ table)
is_woven whole source file g marks table bytes reads of same written made holds =
    let p = problem_of whole source file in (
      record {
        table = table;
        stands = subst (λ ms. Stands bytes source ms table whole) same written.stands;
        inserted = written.cuts (no_marker source file reads) (subst (ArePlainMarks source) (sym same) (plain_marks (names_of whole) source file reads));
        is_lazy = made.is_lazy;
        ascends = made.ascends;
        few = made.few;
        good = made.good;
        sound = holds;
        lazy = lazy (Reached g.policy g.spots g.states) p g table of.policy of.states of.laid of.routines (good_closed g table made.good) made.lost;
        never = never_forced p table holds;
      },
      refl,
    )

-- the text of a table that isn't put
pub woven_unput : (whole : PlainPolicy) (source : List ℕ) (file : File) (g : Game) (table : Table) → IsValid whole → ReadsAs source file → IsGameOf (problem_of whole source file) g
    → IsMadeTable g table → Sound (problem_of whole source file) table
    → (text : List ℕ) × (woven : IsWoven whole source file g text) × (woven.table ≡ table)
woven_unput whole source file g table valid reads of made holds =
    let p = problem_of whole source file in
    let names = names_of whole in
    let marks = marks_of (plan_of names source file) in (
      woven_text source marks table whole,
      record {
        table = table;
        stands = refl;
        inserted = cut_of_woven whole table source marks (no_marker source file reads) (valid_names whole valid) (plain_marks names source file reads) (marks_in_order names source file reads);
        is_lazy = made.is_lazy;
        ascends = made.ascends;
        few = made.few;
        good = made.good;
        sound = holds;
        lazy = lazy (Reached g.policy g.spots g.states) p g table of.policy of.states of.laid of.routines (good_closed g table made.good) made.lost;
        never = never_forced p table holds;
      },
      refl,
    )

-- the rows of a table that has few fit 32 bits
pub few_rows : (t : Table) → table_rows t ≤ 65536 → HasFewRows t
few_rows t few = record {
  mems = omega (arith, few);
  live = omega (arith, few);
  tries = omega (arith, few);
  ats = omega (arith, few);
  opened = omega (arith, few);
  closed = omega (arith, few);
  into = omega (arith, few);
  back = omega (arith, few);
}

-- what is made of a game whose start is lost
pub record IsMadeStrategy (g : Game) (s : Strategy) : Type 0 where
  pub is_least : IsLeastStrategy g s
  pub ascend : BacksAscend s
  pub few : rows_of s ≤ 65536
  pub good : IsGoodStrategy g s

pub is_refuted : (whole : PlainPolicy) (source : List ℕ) (file : File) (g : Game) (s : Strategy) (bytes : List ℕ)
    → IsGameOf (problem_of whole source file) g → bytes ≡ strategy_text whole.format s → IsMadeStrategy g s → (refuted : IsRefuted whole source file g bytes) × (refuted.strategy ≡ s)
is_refuted whole source file g s bytes of spelled made =
    let p = problem_of whole source file in
    let wins = all_beat g s made.good p of in
    let beats = wins.2 in (
      record {
        strategy = s;
        spelled = spelled;
        is_least = made.is_least;
        ascend = made.ascend;
        few = made.few;
        good = made.good;
        wins = wins;
        forced = beaten_is_forced p s beats.0 wins.0 (start_board p) [] beats.1;
      },
      refl,
    )

use Rattle.std.proofs.Common.{ap, sym, ◌∙◌, inl, inr}
use Rattle.cw_rights.specs.Policies.{policy_of}
use Rattle.cw_syntax.specs.Trees.{file_of}
use Rattle.cw_model.specs.Boards.{problem_of}
use Rattle.cw_product.specs.Product.{game_of}
use Rattle.cw_lazy_table.specs.Lazy.{table_rows}
use Rattle.cw_stages.proofs.Counted.{AreKept, are_numbers}
use Rattle.cw_stages.proofs.Weaves.{IsMadeTable, few_rows, is_sound, woven_unput}
use Rattle.cw_stages.proofs.counting.of_table.Goals as goal

pub confirm_table-requires : goal.confirm_table-requires
confirm_table-requires c = record { few = few_rows c.in-Ok.table c.in-Ok.ensures.few; good = c.in-Ok.ensures.good }

pub returns-in-Ok : goal.returns-in-Ok
returns-in-Ok c =
    let source = c.args.checked.now.source.now in
    let file = file_of c.args.checked.now.program in
    let game = c.args.game.now in
    let whole = policy_of game.states.policy in
    let table = c.in-Ok.table in
    let made : IsMadeTable (game_of game) table = record {
      is_lazy = c.in-Ok.ensures.lazy;
      ascends = c.in-Ok.ensures.ascends;
      few = c.in-Ok.ensures.few;
      good = c.in-Ok.ensures.good;
      lost = c.in-Ok.ensures.lost;
    } in
    let sound = is_sound (problem_of whole source file) (game_of game) table c.requires.is_game made.good c.requires.made.valid.few_limits in
    let kept : AreKept game c.args.solved.now c.make.result (table_rows table) = record {
      same = c.requires.solved;
      needed = c.fact_contexts_are_needed.ensures;
      points = c.make.ensures.points;
      positions = c.make.ensures.positions;
      states = c.make.ensures.states;
      contexts = c.make.ensures.contexts;
      cells = c.make.ensures.cells;
      are_rows = c.make.ensures.rows ∙ c.table_rows.ensures;
    } in
    let written = woven_unput whole source file (game_of game) table c.requires.made.valid c.requires.reads c.requires.is_game made sound in
    record {
      due = (
        written.0,
        inr (
          written.1,
          kept.are_rows ∙ ap table_rows (sym written.2),
          are_numbers game c.args.solved.now c.make.result (table_rows table) whole source file c.requires.graph kept,
        ),
      );
    }

pub returns-in-Err-TooManyRows : goal.returns-in-Err-TooManyRows
returns-in-Err-TooManyRows c =
    record { due = λ due e. inl (inl (c.requires.kept, c.in-Err-TooManyRows.ensures.there c.in-Err-TooManyRows.field-0-is), e) }

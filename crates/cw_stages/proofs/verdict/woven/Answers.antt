use Rattle.std.proofs.Common.{ℕ, List, ◌++◌, length, map, sym, ap, subst, ◌∙◌, inl, inr}
use Rattle.cw_rights.specs.declared.policy.Policy.{Policy}
use Rattle.cw_rights.specs.Policies.{policy_of}
use Rattle.cw_syntax.specs.Marks.{mark_of, AreInOrder}
use Rattle.cw_syntax.specs.Trees.{file_of}
use Rattle.cw_resolve.specs.Scenes.{names_of}
use Rattle.cw_model.specs.Boards.{problem_of}
use Rattle.cw_points.specs.Graphs.{IsGraph}
use Rattle.cw_product.specs.Product.{game_of}
use Rattle.cw_emit.specs.Cut.{cut}
use Rattle.cw_emit.specs.Woven.{woven_text, Stands}
use Rattle.cw_lazy_table.specs.Lazy.{table_rows}
use Rattle.cw_source.proofs.Marking.{marks_in_order}
use Rattle.cw_stages.proofs.Counted.{AreKept, are_numbers}
use Rattle.cw_stages.proofs.Weaves.{IsMadeTable, IsWritten, is_sound, is_woven}
use Rattle.cw_stages.proofs.verdict.woven.Goals as goal

pub put_woven-requires-clause-order : goal.put_woven-requires-clause-order
put_woven-requires-clause-order g c =
    let source = c.args.checked.now.source.now in
    let file = file_of c.args.checked.now.program in
    let names = names_of (policy_of c.args.game.now.states.policy) in
    let graph = subst (IsGraph names source file) (sym c.graph.ensures) c.requires.graph in
    let same = ap (map mark_of) c.deref.ensures.value ∙ c.in_ok-marks-in-Ok.ensures.marks names source file graph in
    subst (AreInOrder 0 (length source)) (sym same) (marks_in_order names source file c.requires.reads)

pub returns-in_ok-marks-in-Ok-clause-due : goal.returns-in_ok-marks-in-Ok-clause-due
returns-in_ok-marks-in-Ok-clause-due g c =
    let source = c.args.checked.now.source.now in
    let file = file_of c.args.checked.now.program in
    let game = c.args.game.now in
    let whole = policy_of game.states.policy in
    let graph = subst (IsGraph (names_of whole) source file) (sym c.graph.ensures) c.requires.graph in
    let marks = c.deref.result.now in
    let same = ap (map mark_of) c.deref.ensures.value ∙ c.in_ok-marks-in-Ok.ensures.marks (names_of whole) source file graph in
    let table = c.in-Ok.table in
    let bytes = c.put_woven.new.writer.text in
    let text = c.put_woven.ensures.text ∙ ap (λ (t : List ℕ). t ++ woven_text source (map mark_of marks) table (policy_of c.policy.result.now)) c.begin-writer.ensures.text in
    let stands = subst (λ (p : Policy). Stands bytes source (map mark_of marks) table (policy_of p)) c.policy.ensures text in
    let written : IsWritten whole source marks table bytes = record { stands = stands; cuts = λ none plain. ap cut text ∙ c.put_woven.ensures.cut none plain } in
    let made : IsMadeTable (game_of game) table = record {
      is_lazy = c.in-Ok.ensures.lazy;
      ascends = c.in-Ok.ensures.ascends;
      few = c.in-Ok.ensures.few;
      good = c.in-Ok.ensures.good;
      lost = c.in-Ok.ensures.lost;
    } in
    let sound = is_sound (problem_of whole source file) (game_of game) table c.requires.is_game made.good c.requires.made.valid.few_limits in
    let kept : AreKept game c.args.solved.now c.make.result (table_rows table) = record {
      same = c.requires.solved;
      needed = c.fact_contexts_are_needed.ensures;
      points = c.make.ensures.points;
      positions = c.make.ensures.positions;
      states = c.make.ensures.states;
      contexts = c.make.ensures.contexts;
      cells = c.make.ensures.cells;
      are_rows = c.make.ensures.rows ∙ c.table_rows.ensures;
    } in
    let woven = is_woven whole source file (game_of game) marks table bytes c.requires.reads c.requires.is_game same written made sound in
    inr (
      woven.0,
      kept.are_rows ∙ ap table_rows (sym woven.1),
      are_numbers game c.args.solved.now c.make.result (table_rows table) whole source file c.requires.graph kept,
    )

pub returns-in-Err-TooManyRows-clause-due : goal.returns-in-Err-TooManyRows-clause-due
returns-in-Err-TooManyRows-clause-due g c =
    λ due e. inl (inl (c.requires.kept, c.in-Err-TooManyRows.ensures.there c.in-Err-TooManyRows.field-0-is), e)

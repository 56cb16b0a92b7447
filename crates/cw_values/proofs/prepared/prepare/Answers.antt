use Rattle.std.proofs.Common.{map, ap, ap₂, ◌∙◌}
use Rattle.cw_syntax.specs.Trees.{definition_of, file_of}
use Rattle.cw_value.specs.Deeds.{said_all}
use Rattle.cw_value.specs.Expressions.{Named}
use Rattle.cw_value.specs.Machines.{own_names}
use Rattle.cw_slots.specs.Standing.{seen}
use Rattle.cw_machine.specs.Knowing.{said_in}
use Rattle.cw_values.proofs.prepared.prepare.Goals as goal

pub returns : goal.returns
returns c =
    let bytes = c.args.checked.now.source.now in
    let file = file_of c.args.checked.now.program in
    let shared = c.in_ok-shared.ensures.names in
    let own = c.in_ok-own.ensures.names ∙ ap (λ fs. map (own_names bytes) (map definition_of fs)) c.deref.ensures.value in
    let said = c.in_ok-said.ensures.said ∙ ap (λ fs. map (λ f. said_all f.body) (map definition_of fs)) c.deref-2.ensures.value in
    record {
      rows = c.in_ok-tasks.ensures.rows ∙ c.deref-4.ensures.value ∙ c.in_ok-rows.ensures.rows;
      tasks = c.in_ok-tasks.ensures.tasks file.functions (ap (map said_in) c.deref-3.ensures.value ∙ said);
      shared = shared;
      none = c.none-none.ensures.none;
      own = own;
      said = said;
      standing = c.in_ok-standing.ensures.standing file (c.deref-5.ensures.value ∙ own) shared;
      nowhere = c.none-nowhere.ensures.is ∙ ap₂ (λ (o : Named) (s : Named). seen bytes o s) c.none-none.ensures.none shared;
    }

use Rattle.std.proofs.Common.{◌++◌, sym, ap, ◌∙◌}
use Rattle.std.specs.List.{flat_map}
use Rattle.cw_syntax.specs.Plans.{Scene}
use Rattle.cw_rights.specs.Policies.{policy_of}
use Rattle.cw_resolve.specs.Scenes.{scene_in}
use Rattle.cw_deeds.specs.Rows.{function_rows}
use Rattle.cw_deeds.proofs.Laid.{program_rows}
use Rattle.cw_deeds.proofs.items.rows.Goals as goal

pub returns : goal.returns
returns c =
    let s = scene_in c.args.checked.now (policy_of c.args.policy.now) in
    let fs = c.args.checked.now.program.functions.items in
    record {
      rows = rw (c.in_ok-put_functions.ensures, c.new-rows.ensures.items, c.deref.ensures.value) (
          ap (λ (t : Scene). flat_map (function_rows t) fs) c.in_ok-scene.ensures.scene ∙ sym (program_rows s 0 0 fs)
          );
    }

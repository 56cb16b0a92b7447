use Rattle.cw_value.specs.Shown.{values_of}
use Rattle.cw_valuing.proofs.valuing.shown.Goals as goal

pub returns-in-Ok-clause-due : goal.returns-in-Ok-clause-due
returns-in-Ok-clause-due g c = record {
  values = values_of c.in-Ok.values;
  run = c.in-Ok.ensures.run;
  agrees = c.in-Ok.ensures.agrees;
  due_is = c.told.ensures.due;
}

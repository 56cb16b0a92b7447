use Rattle.std.proofs.Common.{◌≡◌, ◌++◌, drop}
use Rattle.cw_detach.specs.Form.{form_from}
use Rattle.cw_detach.proofs.form.form_of.Given as goal

abbrev pub invariant-loop-span : goal.invariant-loop-span
invariant-loop-span l = l.form.items ++ form_from l.source l.at (drop l.span-index l.spans) ≡ form_from l.source 0 l.spans

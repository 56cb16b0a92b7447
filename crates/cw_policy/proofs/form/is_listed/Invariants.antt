use Rattle.std.proofs.Common.{◌≡◌, drop}
use Rattle.cw_policy.specs.Form as spec
use Rattle.cw_policy.proofs.form.is_listed.Given as goal

abbrev pub invariant-keys : goal.invariant-keys
invariant-keys l = spec.is_listed l.format (drop l.key-index l.keys) l.text ≡ spec.is_listed l.format l.keys l.text

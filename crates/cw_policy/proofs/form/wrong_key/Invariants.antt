use Rattle.std.proofs.Common.{◌≡◌, drop}
use Rattle.toml.specs.View.{members_view}
use Rattle.cw_policy.specs.Form as spec
use Rattle.cw_policy.proofs.form.wrong_key.Given as goal

abbrev pub invariant-keys : goal.invariant-keys
invariant-keys l = spec.wrong_key (drop l.key-index l.keys) (members_view l.table.entries) ≡ spec.wrong_key l.keys (members_view l.table.entries)

use Rattle.std.proofs.Common.{◌≡◌}
use Rattle.toml.specs.View.{members_view}
use Rattle.cw_policy.specs.Form as spec
use Rattle.cw_policy.proofs.form.has_only.Given as goal

abbrev pub invariant-members : goal.invariant-members
invariant-members l =
    (goal.iterator-members).can_next l.text-iterator ×
    (goal.iterator-members).is_finite l.text-iterator ×
    (spec.has_only l.format l.keys (members_view l.text-iterator) ≡ spec.has_only l.format l.keys (members_view l.table.entries))

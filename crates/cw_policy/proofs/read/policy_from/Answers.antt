use Rattle.std.proofs.Common.{◌≡◌, map, ap, ap₂, ◌∙◌}
use Rattle.toml.specs.View.{table_view}
use Rattle.cw_rights.specs.Policies.{descriptor_of, rule_of}
use Rattle.cw_regex.specs.Labels.{names_in}
use Rattle.cw_regex.specs.Meaning.{names_of}
use Rattle.cw_policy.specs.declared.keys.Key.TheVariants.{Descriptors}
use Rattle.cw_policy.specs.Form as form
use Rattle.cw_policy.specs.Parts as parts
use Rattle.cw_policy.specs.Answer as spec
use Rattle.cw_policy.proofs.Whole.{few_read, names_are, late_refused, have_rules}
use Rattle.cw_policy.proofs.read.policy_from.Goals as goal

pub rules_from-requires-clause-few : goal.rules_from-requires-clause-few
rules_from-requires-clause-few c =
    let ms = table_view c.args.table.now in
    let ds = c.in-Ok.descriptors.items in
    let whole : c.deref.result.now ≡ ds = c.deref.ensures.value in
    let read : map descriptor_of ds ≡ parts.descriptors_in (form.format_of ms) (form.array_at Descriptors ms)
    = c.in-Ok.ensures.descriptors ∙ ap₂ parts.descriptors_in c.format_of.ensures.format c.array_at.ensures in
    rw whole (few_read ds ms read c.requires.early)

pub judged-requires-clause-few : goal.judged-requires-clause-few
judged-requires-clause-few c =
    let ms = table_view c.args.table.now in
    let ds = c.in-Ok.descriptors.items in
    let read : map descriptor_of ds ≡ parts.descriptors_in (form.format_of ms) (form.array_at Descriptors ms)
    = c.in-Ok.ensures.descriptors ∙ ap₂ parts.descriptors_in c.format_of.ensures.format c.array_at.ensures in
    few_read ds ms read c.requires.early

pub returns-in-Err-clause-fault : goal.returns-in-Err-clause-fault
returns-in-Err-clause-fault c =
    let ms = table_view c.args.table.now in
    let ds = c.in-Ok.descriptors.items in
    let whole : c.deref.result.now ≡ ds = c.deref.ensures.value in
    let read : map descriptor_of ds ≡ parts.descriptors_in (form.format_of ms) (form.array_at Descriptors ms)
    = c.in-Ok.ensures.descriptors ∙ ap₂ parts.descriptors_in c.format_of.ensures.format c.array_at.ensures in
    let labels : names_in c.in_ok-labels.labels.keys ≡ spec.at_labels ms = c.in_ok-labels.ensures.labels in
    late_refused ms (names_of c.deref.result.now) (names_in c.in_ok-labels.labels.keys) c.in-Err.fault
    (ap names_of whole ∙ names_are (form.format_of ms) ds (form.array_at Descriptors ms) read) labels c.in-Err.ensures.fault

pub judged-requires-clause-rules : goal.judged-requires-clause-rules
judged-requires-clause-rules c =
    let ms = table_view c.args.table.now in
    let ds = c.in-Ok.descriptors.items in
    let whole : c.deref.result.now ≡ ds = c.deref.ensures.value in
    let read : map descriptor_of ds ≡ parts.descriptors_in (form.format_of ms) (form.array_at Descriptors ms)
    = c.in-Ok.ensures.descriptors ∙ ap₂ parts.descriptors_in c.format_of.ensures.format c.array_at.ensures in
    let labels : names_in c.in_ok-labels.labels.keys ≡ spec.at_labels ms = c.in_ok-labels.ensures.labels in
    have_rules ms (names_of c.deref.result.now) (names_in c.in_ok-labels.labels.keys) (names_in c.rules_from.new.labels.keys) (map rule_of c.in-Ok-rules_from.rules.items)
    (ap names_of whole ∙ names_are (form.format_of ms) ds (form.array_at Descriptors ms) read) labels c.in-Ok-rules_from.ensures.rules

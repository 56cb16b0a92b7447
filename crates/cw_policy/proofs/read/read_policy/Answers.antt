use Rattle.std.proofs.Common.{rules, ◌≡◌, Some}
use Rattle.std.specs.Str.{IsUtf8}
use Rattle.toml.specs.Parse.{parse_document}
use Rattle.toml.specs.View.{table_view}
use Rattle.cw_rights.specs.Policies.{policy_of}
use Rattle.cw_policy.proofs.Kept.{is_valid}
use Rattle.cw_policy.proofs.Trees.{fault_is}
use Rattle.cw_policy.proofs.Whole.{few_texts}
use Rattle.cw_policy.proofs.read.read_policy.Goals as goal

pub returns-in-Ok-read_table-clause-policy : goal.returns-in-Ok-read_table-clause-policy
returns-in-Ok-read_table-clause-policy c =
    let utf8 : IsUtf8 c.args.text.now = search rules in
    let parsed : parse_document c.args.text.now ≡ Some (table_view c.in-Ok-table_from_str.table) = search rules in
    record {
      utf8 = utf8;
      tree = table_view c.in-Ok-table_from_str.table;
      parsed = parsed;
      has = c.in-Ok-read_table.ensures.policy;
      few_splits = few_texts c.in-Ok-read_table.policy.split.items c.in-Ok-read_table.ensures.splits;
      few_detached = few_texts c.in-Ok-read_table.policy.detached.items c.in-Ok-read_table.ensures.detached;
      few_labels = few_texts c.in-Ok-read_table.policy.labels.items c.in-Ok-read_table.ensures.labels;
    }

pub returns-in-Ok-read_table-clause-valid : goal.returns-in-Ok-read_table-clause-valid
returns-in-Ok-read_table-clause-valid c = is_valid c.args.text.now (policy_of c.in-Ok-read_table.policy) (returns-in-Ok-read_table-clause-policy c)

pub returns-in-Err-read_table-clause-fault : goal.returns-in-Err-read_table-clause-fault
returns-in-Err-read_table-clause-fault c =
    let utf8 : IsUtf8 c.args.text.now = search rules in
    let parsed : parse_document c.args.text.now ≡ Some (table_view c.in-Ok-table_from_str.table) = search rules in
    fault_is c.args.text.now (table_view c.in-Ok-table_from_str.table) c.in-Err-read_table.fault utf8 parsed c.in-Err-read_table.ensures.fault

-- One row more.
use Rattle.std.proofs.Common.{ap, ◌∙◌}
use Rattle.cw_certs.specs.Tables.{Table}
use Rattle.cw_table_text.specs.declared.row.Row.TheVariants.{Live}
use Rattle.cw_table_text.specs.Working.{table_of}
use Rattle.cw_table_text.proofs.Faults.{next_text, next_good, next_count, same_states, same_start}
use Rattle.cw_table_text.proofs.rows.read_rows.Goals as goal

pub rows-preserved : goal.rows-preserved
rows-preserved c =
    let same = c.in_ok-push-in-Ok-Row.ensures in
    record {
      is = rw same (next_text c.args.format c.args.text.now c.rows.rest.now c.in-Ok-Row.after.now (table_of c.rows.draft) c.in-Ok-Row.row c.rows.invariant.is
          (rw c.in-Ok-Row.field-0-is at c.in-Ok-Row.ensures));
      good = rw same (next_good c.args.format c.rows.rest.now c.in-Ok-Row.after.now (table_of c.rows.draft) c.in-Ok-Row.row c.rows.invariant.good (rw c.in-Ok-Row.field-0-is at c.in-Ok-Row.ensures));
      count_is = rw same (next_count c.args.format c.rows.count c.rows.rest.now c.in-Ok-Row.after.now (table_of c.rows.draft) c.in-Ok-Row.row c.rows.invariant.count_is
          (rw c.in-Ok-Row.field-0-is at c.in-Ok-Row.ensures));
      states = ap (λ (t : Table). t.states) same ∙ same_states (table_of c.rows.draft) c.in-Ok-Row.row ∙ c.rows.invariant.states;
      start = ap (λ (t : Table). t.start) same ∙ same_start (table_of c.rows.draft) c.in-Ok-Row.row ∙ c.rows.invariant.start;
    }

pub rows-preserved-in-Some : goal.rows-preserved-in-Some
rows-preserved-in-Some c =
    let same = c.in_ok-push_live.ensures in
    let next = c.in-Some.ensures c.args.format in
    record {
      is = rw same (next_text c.args.format c.args.text.now c.rows.rest.now c.in-Some.after.now (table_of c.rows.draft) (Live c.in-Some.pair) c.rows.invariant.is next);
      good = rw same (next_good c.args.format c.rows.rest.now c.in-Some.after.now (table_of c.rows.draft) (Live c.in-Some.pair) c.rows.invariant.good next);
      count_is = rw same (next_count c.args.format c.rows.count c.rows.rest.now c.in-Some.after.now (table_of c.rows.draft) (Live c.in-Some.pair) c.rows.invariant.count_is next);
      states = ap (λ (t : Table). t.states) same ∙ same_states (table_of c.rows.draft) (Live c.in-Some.pair) ∙ c.rows.invariant.states;
      start = ap (λ (t : Table). t.start) same ∙ same_start (table_of c.rows.draft) (Live c.in-Some.pair) ∙ c.rows.invariant.start;
    }

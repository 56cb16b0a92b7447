use Rattle.std.proofs.Common.{◌≡◌, ◌∷◌, [], ◌∙◌, sym, ap, arith, length, length-append, map}
use Rattle.std.proofs.lemmas.Result.{err_from_is_err_and}
use Rattle.cw_certs.specs.Strategies.{row_of}
use Rattle.cw_strategy_text.specs.Faults.{no_head, no_states, HasRow}
use Rattle.cw_strategy_text.proofs.Fronts.{front_first, front_end, front_fault, front_more, count_more, few_rows, at_length, counted_first}
use Rattle.cw_strategy_text.proofs.RowLines.{row_shortens}
use Rattle.cw_strategy_text.proofs.reading.read_env.Goals as goal

pub returns-in_default-clause-fault : goal.returns-in_default-clause-fault
returns-in_default-clause-fault c = no_head c.in_default.ensures.none

pub returns-in_default-after_states-clause-fault :
    goal.returns-in_default-after_states-clause-fault
returns-in_default-after_states-clause-fault c = no_states c.in-Some.after.now c.in-Some.ensures.some c.in_default-after_states.ensures.none

pub rows-init : goal.rows-init
rows-init c = record {
  front = rw c.new-rows.ensures.items (front_first c.args.format c.args.text.now c.in-Some.after.now c.in-Some-after_states.first.now c.in-Some-after_states.states
      c.in-Some-after_states.ensures.small c.in-Some.ensures.some c.in-Some-after_states.ensures.some);
  count = rw c.new-rows.ensures.items counted_first;
  len = c.new-rows.ensures.len ∙ sym (ap length c.new-rows.ensures.items);
}

pub next_row-requires-clause-few : goal.next_row-requires-clause-few
next_row-requires-clause-few c = few_rows c.args.format c.args.text.now c.in-Some-after_states.states c.rows.rows.items c.rows.rest.now c.len.result c.rows.invariant.front
    (c.len.ensures ∙ c.rows.invariant.len)

pub next_row-requires-clause-room : goal.next_row-requires-clause-room
next_row-requires-clause-room c = let e = c.rows.invariant.count in let few = c.rows.invariant.front.fits.few in omega (arith, e, few)

pub returns-in_err-row-clause-fault : goal.returns-in_err-row-clause-fault
returns-in_err-row-clause-fault c =
    let p = err_from_is_err_and c.from_residual.result c.from_residual.ensures.1 in
    let same : c.len.result ≡ length (map row_of c.rows.rows.items) = at_length c.rows.rows.items c.len.result (c.len.ensures ∙ c.rows.invariant.len) in
    rw (p.1, p.2) (front_fault c.args.format c.args.text.now c.in-Some-after_states.states (map row_of c.rows.rows.items) c.rows.rest.now c.rows.count c.in_err-row.field-0.0
    c.rows.invariant.front c.rows.invariant.count (rw same at c.in_err-row.ensures.fault))

pub returns-in_default-2-clause-spells : goal.returns-in_default-2-clause-spells
returns-in_default-2-clause-spells c = front_end c.args.format c.args.text.now c.in-Some-after_states.states (map row_of c.rows.rows.items) c.rows.rest.now c.rows.invariant.front
    (rw c.in_default-2.is at c.in_ok-row.ensures.over)

pub rows-smaller : goal.rows-smaller
rows-smaller c = row_shortens c.args.format c.rows.rest.now c.len.result (row_of c.in-Some-2.row) c.in-Some-2.more.now (rw c.in-Some-2.is at c.in_ok-row.ensures.row)

pub rows-preserved : goal.rows-preserved
rows-preserved c =
    let stands : HasRow c.args.format c.rows.rest.now c.len.result (row_of c.in-Some-2.row) c.in-Some-2.more.now = rw c.in-Some-2.is at c.in_ok-row.ensures.row in
    let within = rw c.in-Some-2.is at c.in_ok-row.ensures.within in
    record {
      front = front_more c.args.format c.args.text.now c.in-Some-after_states.states c.rows.rows.items c.push.new.self.items c.rows.rest.now c.in-Some-2.more.now c.in-Some-2.row
          c.len.result c.rows.count c.rows.invariant.front (c.len.ensures ∙ c.rows.invariant.len) c.rows.invariant.count c.in_ok-push.ensures.items stands within;
      count = count_more c.rows.rows.items c.push.new.self.items c.in-Some-2.row c.rows.count c.rows_of-count.result c.rows.invariant.count c.rows_of-count.ensures c.in_ok-push.ensures.items;
      len = let a = c.in_ok-push.ensures.len in let b = ap length c.in_ok-push.ensures.items in let e = c.rows.invariant.len in
          omega (arith, a, b, e, length-append c.rows.rows.items (c.in-Some-2.row ∷ []));
    }

use Rattle.std.proofs.Common.{◌+◌, ◌<◌, ℕ, [], length, drop, reverse, refl, sym, ap, ◌∙◌, subst, arith}
use Rattle.std.proofs.lemmas.List.{length-reverse}
use Rattle.std.specs.Prelude.{is_some}
use Rattle.cw_certs.specs.Strategies.{how_of, row_of, strategy_of}
use Rattle.cw_states.specs.States.{lists_of}
use Rattle.cw_product.specs.Product.{game_of}
use Rattle.cw_trace.specs.Labels.{name_lists}
use Rattle.cw_play.proofs.Going.{begins}
use Rattle.cw_play.proofs.Nested.{few_open}
use Rattle.cw_play.proofs.Looping.{at_within, row_here, turn, taken_within, fewer_then, nested_then, next_within, row_then, kept_then, pos_within, state_within, bad_there, played}
use Rattle.cw_play.proofs.play.play_env.Goals as goal

pub rows-init : goal.rows-init
rows-init g c =
    let kept = begins (game_of c.args.game.now) (lists_of c.args.game.now.states) (name_lists c.args.names.now) (strategy_of c.args.cert.now) c.start_row-at.result c.args.tape.now
    c.args.writer.now.text c.start_row-at.ensures.start.stands in
    record {
      entries = omega arith;
      kept = rw c.in_ok-calls.ensures.items kept;
      nested = rw c.in_ok-calls.ensures.items (at_within c.args.game.now c.args.cert.now (name_lists c.args.names.now) c.args.tape.now c.args.writer.now.text c.start_row-at.result
          c.requires.good c.requires.tape c.args.writer.now.text c.start_row-at.result [] 0 kept);
      room = omega (arith, c.in_ok-calls.ensures.capacity, c.args.cert.now.rows.ok.0);
      begun = refl;
      follows = c.requires.follows;
    }

pub index-row-requires : goal.index-row-requires
index-row-requires g c = subst (λ (n : ℕ). c.rows.at < n) (sym c.args.cert.now.rows.ok.0)
    (at_within c.args.game.now c.args.cert.now (name_lists c.args.names.now) c.args.tape.now c.args.writer.now.text c.start_row-at.result c.requires.good c.requires.tape c.rows.writer.text
    c.rows.at (reverse c.rows.calls.items) c.rows.taken c.rows.invariant.kept)

pub end_at-requires-clause-position : goal.end_at-requires-clause-position
end_at-requires-clause-position g c = pos_within c.args.game.now c.args.cert.now (name_lists c.args.names.now) c.args.tape.now c.args.writer.now.text c.start_row-at.result c.requires.good
    c.requires.tape c.rows.at c.index-row.result.now (row_here c.args.game.now c.args.cert.now (name_lists c.args.names.now) c.args.tape.now c.args.writer.now.text c.start_row-at.result
    c.requires.good c.requires.tape c.rows.writer.text c.rows.at (reverse c.rows.calls.items) c.rows.taken c.rows.invariant.kept c.index-row.result.now c.index-row.ensures)

pub end_at-requires-clause-state : goal.end_at-requires-clause-state
end_at-requires-clause-state g c = state_within c.args.game.now c.args.cert.now (name_lists c.args.names.now) c.args.tape.now c.args.writer.now.text c.start_row-at.result c.requires.good
    c.requires.tape c.rows.at c.index-row.result.now (row_here c.args.game.now c.args.cert.now (name_lists c.args.names.now) c.args.tape.now c.args.writer.now.text c.start_row-at.result
    c.requires.good c.requires.tape c.rows.writer.text c.rows.at (reverse c.rows.calls.items) c.rows.taken c.rows.invariant.kept c.index-row.result.now c.index-row.ensures)

pub end_at-requires-clause-bad : goal.end_at-requires-clause-bad
end_at-requires-clause-bad g c = bad_there c.args.game.now c.args.cert.now (name_lists c.args.names.now) c.args.tape.now c.args.writer.now.text c.start_row-at.result c.requires.good
    c.requires.tape c.rows.at c.index-row.result.now (row_here c.args.game.now c.args.cert.now (name_lists c.args.names.now) c.args.tape.now c.args.writer.now.text c.start_row-at.result
    c.requires.good c.requires.tape c.rows.writer.text c.rows.at (reverse c.rows.calls.items) c.rows.taken c.rows.invariant.kept c.index-row.result.now c.index-row.ensures)

pub returns-in_default-clause-play : goal.returns-in_default-clause-play
returns-in_default-clause-play g c =
    λ source file drawn run assigns. played c.args.game.now c.args.cert.now (name_lists c.args.names.now) c.args.tape.now c.args.writer.now.text c.start_row-at.result c.requires.good
    c.requires.tape c.requires.valid c.requires.lists c.start_row-at.ensures.start c.rows.writer.text c.rows.at (reverse c.rows.calls.items) c.rows.taken c.rows.invariant.kept
    c.index-row.result.now c.index-row.ensures c.entry_at-entry.result c.entry_at-entry.ensures c.end_at.result c.end_at.ensures source file drawn run assigns

pub next_row-at-requires-clause-next : goal.next_row-at-requires-clause-next
next_row-at-requires-clause-next g c =
    let y = turn c.args.game.now c.args.cert.now (name_lists c.args.names.now) c.args.tape.now c.args.writer.now.text c.start_row-at.result c.requires.good c.requires.tape c.rows.writer.text
    c.rows.at (reverse c.rows.calls.items) c.rows.taken c.entries_at-taken.result c.rows.invariant.kept c.index-row.result.now c.index-row.ensures c.entry_at-entry.result c.in-Some.by
    c.entry_at-entry.ensures (sym c.move_at.ensures ∙ c.in-Some.is) c.entries_at-taken.ensures in
    ap is_some y.is_after

pub next_row-at-requires-clause-room : goal.next_row-at-requires-clause-room
next_row-at-requires-clause-room g c =
    let k = few_open (length c.args.cert.now.rows.items) c.rows.at (reverse c.rows.calls.items) c.rows.invariant.nested in
    omega (arith, k, c.rows.invariant.room, length-reverse c.rows.calls.items, c.rows.calls.ok.0)

pub index-reached-requires : goal.index-reached-requires
index-reached-requires g c =
    let y = turn c.args.game.now c.args.cert.now (name_lists c.args.names.now) c.args.tape.now c.args.writer.now.text c.start_row-at.result c.requires.good c.requires.tape c.rows.writer.text
    c.rows.at (reverse c.rows.calls.items) c.rows.taken c.entries_at-taken.result c.rows.invariant.kept c.index-row.result.now c.index-row.ensures c.entry_at-entry.result c.in-Some.by
    c.entry_at-entry.ensures (sym c.move_at.ensures ∙ c.in-Some.is) c.entries_at-taken.ensures in
    subst (λ (n : ℕ). c.next_row-at.result < n) (sym c.args.cert.now.rows.ok.0)
    (next_within c.args.game.now c.args.cert.now (name_lists c.args.names.now) c.args.tape.now c.args.writer.now.text c.start_row-at.result c.requires.good c.requires.tape
    c.rows.writer.text c.rows.at (reverse c.rows.calls.items) (row_of c.index-row.result.now) c.in-Some.by (drop (c.rows.taken + c.entries_at-taken.result) c.args.tape.now) y
    c.next_row-at.result (reverse c.next_row-at.new.calls.items) c.next_row-at.ensures.next)

pub put_step-requires-clause-position : goal.put_step-requires-clause-position
put_step-requires-clause-position g c = pos_within c.args.game.now c.args.cert.now (name_lists c.args.names.now) c.args.tape.now c.args.writer.now.text c.start_row-at.result c.requires.good
    c.requires.tape c.rows.at c.index-row.result.now (row_here c.args.game.now c.args.cert.now (name_lists c.args.names.now) c.args.tape.now c.args.writer.now.text c.start_row-at.result
    c.requires.good c.requires.tape c.rows.writer.text c.rows.at (reverse c.rows.calls.items) c.rows.taken c.rows.invariant.kept c.index-row.result.now c.index-row.ensures)

pub put_step-requires-clause-next : goal.put_step-requires-clause-next
put_step-requires-clause-next g c =
    let y = turn c.args.game.now c.args.cert.now (name_lists c.args.names.now) c.args.tape.now c.args.writer.now.text c.start_row-at.result c.requires.good c.requires.tape c.rows.writer.text
    c.rows.at (reverse c.rows.calls.items) c.rows.taken c.entries_at-taken.result c.rows.invariant.kept c.index-row.result.now c.index-row.ensures c.entry_at-entry.result c.in-Some.by
    c.entry_at-entry.ensures (sym c.move_at.ensures ∙ c.in-Some.is) c.entries_at-taken.ensures in
    pos_within c.args.game.now c.args.cert.now (name_lists c.args.names.now) c.args.tape.now c.args.writer.now.text c.start_row-at.result c.requires.good c.requires.tape c.next_row-at.result
    c.index-reached.result.now (row_then c.args.game.now c.args.cert.now (name_lists c.args.names.now) c.args.tape.now c.args.writer.now.text c.start_row-at.result c.requires.good
    c.requires.tape c.rows.writer.text c.rows.at (reverse c.rows.calls.items) (row_of c.index-row.result.now) c.in-Some.by
    (drop (c.rows.taken + c.entries_at-taken.result) c.args.tape.now) y c.next_row-at.result (reverse c.next_row-at.new.calls.items) c.next_row-at.ensures.next c.index-reached.result.now
    c.index-reached.ensures)

pub put_step-requires-clause-state : goal.put_step-requires-clause-state
put_step-requires-clause-state g c =
    let y = turn c.args.game.now c.args.cert.now (name_lists c.args.names.now) c.args.tape.now c.args.writer.now.text c.start_row-at.result c.requires.good c.requires.tape c.rows.writer.text
    c.rows.at (reverse c.rows.calls.items) c.rows.taken c.entries_at-taken.result c.rows.invariant.kept c.index-row.result.now c.index-row.ensures c.entry_at-entry.result c.in-Some.by
    c.entry_at-entry.ensures (sym c.move_at.ensures ∙ c.in-Some.is) c.entries_at-taken.ensures in
    state_within c.args.game.now c.args.cert.now (name_lists c.args.names.now) c.args.tape.now c.args.writer.now.text c.start_row-at.result c.requires.good c.requires.tape c.next_row-at.result
    c.index-reached.result.now (row_then c.args.game.now c.args.cert.now (name_lists c.args.names.now) c.args.tape.now c.args.writer.now.text c.start_row-at.result c.requires.good
    c.requires.tape c.rows.writer.text c.rows.at (reverse c.rows.calls.items) (row_of c.index-row.result.now) c.in-Some.by
    (drop (c.rows.taken + c.entries_at-taken.result) c.args.tape.now) y c.next_row-at.result (reverse c.next_row-at.new.calls.items) c.next_row-at.ensures.next c.index-reached.result.now
    c.index-reached.ensures)

pub rows-smaller : goal.rows-smaller
rows-smaller g c =
    let y = turn c.args.game.now c.args.cert.now (name_lists c.args.names.now) c.args.tape.now c.args.writer.now.text c.start_row-at.result c.requires.good c.requires.tape c.rows.writer.text
    c.rows.at (reverse c.rows.calls.items) c.rows.taken c.entries_at-taken.result c.rows.invariant.kept c.index-row.result.now c.index-row.ensures c.entry_at-entry.result c.in-Some.by
    c.entry_at-entry.ensures (sym c.move_at.ensures ∙ c.in-Some.is) c.entries_at-taken.ensures in
    fewer_then c.args.game.now c.args.cert.now (name_lists c.args.names.now) c.args.tape.now c.args.writer.now.text c.start_row-at.result c.requires.good c.requires.tape c.rows.writer.text
    c.rows.at (reverse c.rows.calls.items) (row_of c.index-row.result.now) c.in-Some.by (drop (c.rows.taken + c.entries_at-taken.result) c.args.tape.now) y c.next_row-at.result
    (reverse c.next_row-at.new.calls.items) c.next_row-at.ensures.next

pub rows-preserved : goal.rows-preserved
rows-preserved g c =
    let y = turn c.args.game.now c.args.cert.now (name_lists c.args.names.now) c.args.tape.now c.args.writer.now.text c.start_row-at.result c.requires.good c.requires.tape c.rows.writer.text
    c.rows.at (reverse c.rows.calls.items) c.rows.taken c.entries_at-taken.result c.rows.invariant.kept c.index-row.result.now c.index-row.ensures c.entry_at-entry.result c.in-Some.by
    c.entry_at-entry.ensures (sym c.move_at.ensures ∙ c.in-Some.is) c.entries_at-taken.ensures in
    record {
      entries = taken_within (how_of c.index-row.result.now.how) c.args.tape.now c.rows.taken c.entries_at-taken.result c.entry_at-entry.result c.in-Some.by c.rows.invariant.entries c.entry_at-entry.ensures
          (sym c.move_at.ensures ∙ c.in-Some.is) c.entries_at-taken.ensures;
      nested = nested_then c.args.game.now c.args.cert.now (name_lists c.args.names.now) c.args.tape.now c.args.writer.now.text c.start_row-at.result c.requires.good c.requires.tape
          c.rows.writer.text c.rows.at (reverse c.rows.calls.items) (row_of c.index-row.result.now) c.in-Some.by (drop (c.rows.taken + c.entries_at-taken.result) c.args.tape.now) y
          c.next_row-at.result (reverse c.next_row-at.new.calls.items) c.next_row-at.ensures.next (length c.args.cert.now.rows.items) c.rows.invariant.nested;
      room = omega (arith, c.rows.invariant.room, c.next_row-at.ensures.capacity);
      begun = c.put_step.ensures.begun ∙ c.rows.invariant.begun;
      follows = c.put_step.ensures.follows;
      kept = kept_then c.args.game.now c.args.cert.now (name_lists c.args.names.now) c.args.tape.now c.args.writer.now.text c.start_row-at.result c.requires.good c.requires.tape
          c.rows.writer.text c.rows.at (reverse c.rows.calls.items) (row_of c.index-row.result.now) c.in-Some.by (drop (c.rows.taken + c.entries_at-taken.result) c.args.tape.now) y
          c.next_row-at.result (reverse c.next_row-at.new.calls.items) c.next_row-at.ensures.next c.index-reached.result.now c.index-reached.ensures c.put_step.new.writer.text c.put_step.ensures.told;
    }

-- Part by part.
use Rattle.std.proofs.Common.{option_map, sym, ap, ◌∙◌}
use Rattle.cw_product.specs.Product.{game_of}
use Rattle.cw_wcheck.specs.Checking.{numbered}
use Rattle.cw_game.proofs.Goods.{in_ranges}
use Rattle.cw_wcheck.proofs.Faults.{mean_states}
use Rattle.cw_wcheck.proofs.Lives.{all_positions, all_ranges, fault_in_ranges, fault_at_start, fault_in_rows}
use Rattle.cw_wcheck.proofs.check.first_fault.Goals as goal

pub returns-in-Some : goal.returns-in-Some
returns-in-Some c = fault_in_ranges (game_of c.args.game.now) c.args.cert.now c.range_fault.result c.in-Some.row (sym c.is_header.ensures ∙ c.if-not-is_header.false) c.range_fault.ensures c.in-Some.is

pub returns-then-not-begins : goal.returns-then-not-begins
returns-then-not-begins c =
    let none = all_ranges (game_of c.args.game.now) c.args.cert.now c.range_fault.result c.range_fault.ensures c.in_default.is in
    sym (fault_at_start (game_of c.args.game.now) c.args.cert.now (sym c.is_header.ensures ∙ c.if-not-is_header.false) none (sym c.begins.ensures ∙ c.if-not-begins.true))

pub row_fault-requires-clause-mems : goal.row_fault-requires-clause-mems
row_fault-requires-clause-mems c =
    let none = all_ranges (game_of c.args.game.now) c.args.cert.now c.range_fault.result c.range_fault.ensures c.in_default.is in
    mean_states (game_of c.args.game.now) c.args.cert.now (in_ranges (game_of c.args.game.now) c.args.cert.now none).mems

pub row_fault-requires-clause-positions : goal.row_fault-requires-clause-positions
row_fault-requires-clause-positions c =
    let none = all_ranges (game_of c.args.game.now) c.args.cert.now c.range_fault.result c.range_fault.ensures c.in_default.is in
    all_positions (game_of c.args.game.now) c.args.cert.now (in_ranges (game_of c.args.game.now) c.args.cert.now none).live

pub returns : goal.returns
returns c =
    let none = all_ranges (game_of c.args.game.now) c.args.cert.now c.range_fault.result c.range_fault.ensures c.in_default.is in
    c.row_fault.ensures
    ∙ sym (ap (option_map numbered) (fault_in_rows (game_of c.args.game.now) c.args.cert.now (sym c.is_header.ensures ∙ c.if-not-is_header.false) none (sym c.begins.ensures ∙ c.if-not-begins.false)))

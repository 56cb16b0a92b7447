-- A live row that may stand there is what comes next.
use Rattle.std.proofs.Common.{sym, ◌∙◌}
use Rattle.cw_table_text.specs.Working.{table_of}
use Rattle.cw_table_text.proofs.LiveLines.{is_row_line}
use Rattle.cw_table_text.proofs.live.next_live.Goals as goal

pub returns : goal.returns
returns c = λ format.
    is_row_line format (table_of c.args.draft.now) c.args.text.now c.in_ok-pair.rest.now c.in_ok-pair.pair c.in_ok-pair.ensures.0 c.in_ok-pair.ensures.1
    (sym c.is_next_live.ensures ∙ c.if-not-is_next_live.false) (λ e. c.if-count-eq-MOST_ROWS.false (c.requires.count ∙ e))

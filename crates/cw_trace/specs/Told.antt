-- What a move tells, by what stands at the position where it is made and at the one that is reached.
use Rattle.std.specs.Prelude.{ℕ, List, [], true, false, Option, Some, None}
use Rattle.cw_rights.specs.declared.capabilities.Caps.{Caps}
use Rattle.cw_rights.specs.Policies.{PlainPolicy}
use Rattle.cw_certs.specs.declared.moves.Move.{Move}
use Rattle.cw_text.specs.LimitsText.{descriptor_name}
use Rattle.cw_game.specs.declared.spots.Spot.{Spot}
use Rattle.cw_game.specs.declared.spots.Spot.TheVariants.{Asked, Label, Open, Close, Call, SplitCall, Exit}
use Rattle.cw_resolve.specs.Held.{name_in}
use Rattle.cw_trace.specs.Lines.{close_line, call_line, label_line}
use Rattle.cw_trace.specs.Traces.{Names, answered_lines, opened_lines, returned_lines}

-- what a move tells that is made where this stands, in a program whose `main` has this number
abbrev pub spot_lines : Names → PlainPolicy → (main : ℕ) → Spot → Move → List ℕ
spot_lines names policy main (Asked j i a) by = answered_lines (Some j) i a by
spot_lines names policy main (Open j d n) by = opened_lines (descriptor_name policy d) by
spot_lines names policy main (Close j d n) by = close_line (descriptor_name policy d)
spot_lines names policy main (Call j f n) by = call_line (name_in names.functions f) false
spot_lines names policy main (SplitCall j f n) by = call_line (name_in names.functions f) true
spot_lines names policy main (Exit f) by = returned_lines names main f
spot_lines names policy main _ by = []

-- what is told where this is reached with these capabilities: a label
abbrev pub label_lines : Names → PlainPolicy → Caps → Spot → List ℕ
label_lines names policy caps (Label j l n) = label_line policy.descriptors (name_in names.labels j) caps
label_lines names policy caps _ = []

-- the same by the spot of a position; none has nothing to tell
abbrev pub lines_at : Names → PlainPolicy → (main : ℕ) → Option Spot → Move → List ℕ
lines_at names policy main None by = []
lines_at names policy main (Some spot) by = spot_lines names policy main spot by

abbrev pub label_at : Names → PlainPolicy → Caps → Option Spot → List ℕ
label_at names policy caps None = []
label_at names policy caps (Some spot) = label_lines names policy caps spot

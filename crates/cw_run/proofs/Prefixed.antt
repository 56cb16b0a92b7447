-- Lines behind the number of a process.
use Rattle.std.proofs.Common.{◌≡◌, ℕ, List, [], ◌++◌, Bool, true, false, cond, not, Option, Some, None, refl, sym, ap, ◌∙◌, append_assoc}
use Rattle.std.specs.Prelude.{nat_eq}
use Rattle.cw_rights.specs.declared.capabilities.Caps.{Caps}
use Rattle.cw_rights.specs.Policies.{PlainPolicy}
use Rattle.cw_certs.specs.declared.moves.Move.{Move}
use Rattle.cw_certs.specs.declared.moves.Move.TheVariants.{Grant, Refuse, Opened, Failed}
use Rattle.cw_text.specs.LimitsText.{descriptor_name}
use Rattle.cw_game.specs.declared.spots.Spot.{Spot}
use Rattle.cw_game.specs.declared.spots.Spot.TheVariants.{Visit, Asked, Step, Branch, Label, Open, Close, Call, SplitCall, Exit}
use Rattle.cw_trace.specs.Lines.{try_line, stop_line, open_line, close_line, call_line, return_line, label_line}
use Rattle.cw_trace.specs.Traces.{Names}
use Rattle.cw_trace.specs.Told.{spot_lines, label_lines}
use Rattle.cw_resolve.specs.Held.{name_in}
use Rattle.cw_run.specs.Lines.{is_told, lead_of, own_of}
use Rattle.cw_run.specs.Walks.{has_line, is_label}

pub own_none : (o : Option ℕ) → own_of o [] ≡ []
own_none None = refl
own_none (Some i) = refl

pub own_told : (o : Option ℕ) (line : List ℕ) → is_told line ≡ true → lead_of o ++ line ≡ own_of o line
own_told None line e = refl
own_told (Some i) line e = sym (ap (λ b. cond b (lead_of (Some i) ++ line) line) e)

pub own_untold : (o : Option ℕ) (line : List ℕ) → is_told line ≡ false → line ≡ own_of o line
own_untold None line e = refl
own_untold (Some i) line e = sym (ap (λ b. cond b (lead_of (Some i) ++ line) line) e)

try_told : (seam stage : ℕ) (a : _) (granted : Bool) → is_told (try_line seam stage a granted) ≡ true
unfolding try_line
try_told seam stage a granted = refl

open_told : (name : List ℕ) (granted : Bool) → is_told (open_line name granted) ≡ true
unfolding open_line
open_told name granted = refl

close_told : (name : List ℕ) → is_told (close_line name) ≡ true
unfolding close_line
close_told name = refl

call_told : (name : List ℕ) (split : Bool) → is_told (call_line name split) ≡ true
unfolding call_line
call_told name split = refl

return_told : (name : List ℕ) → is_told (return_line name) ≡ true
unfolding return_line
return_told name = refl

pub stop_told : (seam : ℕ) → is_told (stop_line seam) ≡ true
unfolding stop_line
stop_told seam = refl

label_told : (ds : _) (name : List ℕ) (caps : Caps) → is_told (label_line ds name caps) ≡ true
unfolding label_line
label_told ds name caps = refl

returned_told : (main : Bool) (name : List ℕ) → is_told (cond main [] (return_line name)) ≡ not main
returned_told true name = refl
returned_told false name = return_told name

-- which moves have a line
pub line_told : (names : Names) (policy : PlainPolicy) (main : ℕ) (spot : Spot) (by : Move) → is_told (spot_lines names policy main spot by) ≡ has_line main spot by
line_told names policy main (Asked j i a) Grant = try_told j i a true
line_told names policy main (Asked j i a) Refuse = try_told j i a false
line_told names policy main (Asked j i a) _ = refl
line_told names policy main (Open j d n) Opened = open_told (descriptor_name policy d) true
line_told names policy main (Open j d n) Failed = open_told (descriptor_name policy d) false
line_told names policy main (Open j d n) _ = refl
line_told names policy main (Close j d n) by = close_told (descriptor_name policy d)
line_told names policy main (Call j f n) by = call_told (name_in names.functions f) false
line_told names policy main (SplitCall j f n) by = call_told (name_in names.functions f) true
line_told names policy main (Exit f) by = returned_told (nat_eq f main) (name_in names.functions f)
line_told names policy main (Visit j i a) by = refl
line_told names policy main (Step n) by = refl
line_told names policy main (Branch l r) by = refl
line_told names policy main (Label j l n) by = refl

-- and what is reached has one where it is a label
pub reached_told : (names : Names) (policy : PlainPolicy) (caps : Caps) (spot : Spot) → is_told (label_lines names policy caps spot) ≡ is_label spot
reached_told names policy caps (Label j l n) = label_told policy.descriptors (name_in names.labels j) caps
reached_told names policy caps (Asked j i a) = refl
reached_told names policy caps (Open j d n) = refl
reached_told names policy caps (Close j d n) = refl
reached_told names policy caps (Call j f n) = refl
reached_told names policy caps (SplitCall j f n) = refl
reached_told names policy caps (Exit f) = refl
reached_told names policy caps (Visit j i a) = refl
reached_told names policy caps (Step n) = refl
reached_told names policy caps (Branch l r) = refl

-- a text with a line behind it
pub told_after : (o : Option ℕ) (old mid new line : List ℕ) → is_told line ≡ true → mid ≡ old ++ lead_of o → new ≡ mid ++ line → new ≡ old ++ own_of o line
told_after o old mid new line e em en =
    en ∙ ap (λ l. l ++ line) em ∙ append_assoc old (lead_of o) line ∙ ap (λ l. old ++ l) (own_told o line e)

pub untold_after : (o : Option ℕ) (old new line : List ℕ) → is_told line ≡ false → new ≡ old ++ line → new ≡ old ++ own_of o line
untold_after o old new line e en = en ∙ ap (λ l. old ++ l) (own_untold o line e)

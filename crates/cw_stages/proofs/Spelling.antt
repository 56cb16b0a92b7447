-- What is told of a strategy's text.
use Rattle.std.proofs.Common.{◌≢◌, ℕ, ◌^◌, ◌<◌, List, length, refl, arith}
use Rattle.cw_certs.specs.Strategies.{Strategy}
use Rattle.cw_text.specs.declared.fault.TextFault.{TextFault}
use Rattle.cw_text.specs.declared.fault.TextFault.TheVariants.{Line, Order, Limit, NoMemory}
use Rattle.cw_strategy_text.specs.Faults.{IsCause, IsFault}
use Rattle.cw_strategy_text.specs.StrategyText.{Spells}
use Rattle.cw_strategy_text.proofs.Fronts.{rows_within}

pub is_fault : (format : ℕ) (text : List ℕ) (f : TextFault) → (f ≢ NoMemory) → IsCause format text f → IsFault format text f
is_fault format text (Line n) other h = h
is_fault format text (Order n) other h = h
is_fault format text (Limit n) other h = h
is_fault format text NoMemory other h = absurd (other refl)

pub rows_few : (format : ℕ) (text : List ℕ) (s : Strategy) → Spells format text s → length s.rows < 2 ^ 32
rows_few format text s h = omega (arith, rows_within s.rows, h.fits.few)

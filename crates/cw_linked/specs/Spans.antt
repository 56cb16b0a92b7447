-- Working definitions: where in a function its calls and labels stand.
use Rattle.std.specs.Prelude.{◌≡◌, ℕ, ◌+◌, ◌<◌, ◌≤◌, List, Bool, true, false, Some, slice_get}
use Rattle.cw_game.specs.Games.{Game}
use Rattle.cw_game.specs.Pairs.{Called, call_in, is_call_in}
use Rattle.cw_product.specs.Routed.{IsOf}
use Rattle.cw_linked.specs.Added.{loss_begins_in}
use Rattle.cw_linked.specs.declared.spans.Span.{Span}
use Rattle.cw_linked.specs.declared.spans.Spans.{Spans}

-- a position is one of a span
abbrev pub IsIn : Span → ℕ → Type 0
IsIn span p = (span.first ≤ p) × (p < span.end)

-- a span grows up to a position, and has that one if this is so
pub record Reaches (old new : Span) (p : ℕ) (is : Bool) : Type 0 where
  pub first : old.first ≤ new.first
  pub order : new.first ≤ new.end
  pub end : new.end ≤ p + 1
  pub kept : (r : ℕ) → IsIn old r → IsIn new r
  pub here : is ≡ true → IsIn new p

-- a span of a function has all its positions up to one of which this is so
pub record IsSpan (g : Game) (function : ℕ) (Is : ℕ → Bool) (span : Span) (p : ℕ) : Type 0 where
  pub first : g.entry function ≤ span.first
  pub order : span.first ≤ span.end
  pub end : span.end ≤ p
  pub all : (r : ℕ) → g.entry function ≤ r → r < p → Is r ≡ true → IsIn span r

-- the spans of a function
pub record IsSpanned (g : Game) (function : ℕ) (spans : Spans) : Type 0 where
  pub calls : IsSpan g function (λ p. is_call_in (slice_get g.spots p)) spans.calls (g.exit function + 1)
  pub whole : spans.split ≡ false → (p : ℕ) (call : Called) → IsOf g function p → call_in (slice_get g.spots p) ≡ Some call → call.split ≡ false
  pub labels : IsSpan g function (λ p. loss_begins_in (slice_get g.spots p)) spans.labels (g.exit function)

-- those of the functions that are there
abbrev pub AreSpanned : Game → List Spans → Type 0
AreSpanned g all = (f : ℕ) (spans : Spans) → slice_get all f ≡ Some spans → IsSpanned g f spans

-- Pairs of a position and a state: those of calls at positions before one, those at such positions at which what is lost can begin, and all at which no call stands or nothing begins.
abbrev pub CallsBefore : Game → (r : ℕ) → ℕ → ℕ → Type 0
CallsBefore g r p x = is_call_in (slice_get g.spots p) ≡ true → p < r

abbrev pub LossesBefore : Game → (r : ℕ) → ℕ → ℕ → Type 0
LossesBefore g r p x = loss_begins_in (slice_get g.spots p) ≡ true → p < r

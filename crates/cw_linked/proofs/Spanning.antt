-- Of a function only the positions in its spans are looked at.
use Rattle.std.proofs.Common.{◌≡◌, ℕ, ◌+◌, ◌-◌, ◌<◌, ◌≤◌, List, Bool, true, false, Some, sym, subst, arith, inl, inr}
use Rattle.std.specs.Prelude.{◌⊎◌, slice_get}
use Rattle.std.proofs.lemmas.Bool.{cases_lt}
use Rattle.std.proofs.lemmas.Bool.{cases_Bool as decide}
use Rattle.cw_game.specs.Games.{Game}
use Rattle.cw_game.specs.Pairs.{Called, call_in, is_call_in}
use Rattle.cw_lemmas.proofs.Truths.{not_both}
use Rattle.cw_links.specs.Stores.{Stored}
use Rattle.cw_product.specs.Routed.{AreRouted, IsOf}
use Rattle.cw_solve.specs.declared.contexts.Context.{Context}
use Rattle.cw_solve.specs.Rounds.{IsCell}
use Rattle.cw_linked.specs.declared.spans.Span.{Span}
use Rattle.cw_linked.specs.Added.{AllOf, loss_begins_in, PushesIndices, ArePushed}
use Rattle.cw_linked.specs.Founds.{Found, IsClosed}
use Rattle.cw_linked.specs.Spans.{IsIn, Reaches, IsSpan, CallsBefore, LossesBefore}
use Rattle.cw_linked.proofs.Passing.{closed_fresh}
use Rattle.cw_linked.proofs.Taking.{is_a_call}

-- A span is made: none yet, and up to one position more.
pub none_spanned : (g : Game) (function : ℕ) (Is : ℕ → Bool) (first : ℕ) → first ≡ g.entry function → IsSpan g function Is (record { first = first; end = first }) first
none_spanned g function Is first is = record {
  first = omega (arith, is);
  order = omega arith;
  end = omega arith;
  all = λ r le lt yes. absurd (omega (arith, le, lt, is));
}

-- a span with one position more, and the same up to one
pub one_longer : (old new : Span) (p : ℕ) → old.first ≤ old.end → old.end ≤ p → old.first ≤ new.first → (old.first < old.end → new.first ≤ old.first) → new.first ≤ p → new.end ≡ p + 1
    → Reaches old new p true
one_longer old new p order behind later same first end = record {
  first = later;
  order = omega (arith, first, end);
  end = omega (arith, end);
  kept = λ r is. (let le = same (omega (arith, is.0, is.1)) in omega (arith, le, is.0), omega (arith, is.1, behind, end));
  here = λ yes. (first, omega (arith, end));
}

pub as_long : (span : Span) (p : ℕ) (is : Bool) → is ≡ false → span.first ≤ span.end → span.end ≤ p → Reaches span span p is
as_long span p is quiet order behind = record {
  first = omega arith;
  order = order;
  end = omega (arith, behind);
  kept = λ r inside. inside;
  here = λ yes. absurd (not_both is yes quiet);
}

pub more_spanned : (g : Game) (function : ℕ) (Is : ℕ → Bool) (old new : Span) (p : ℕ) → IsSpan g function Is old p → Reaches old new p (Is p) → IsSpan g function Is new (p + 1)
more_spanned g function Is old new p are reaches = record {
  first = omega (arith, are.first, reaches.first);
  order = reaches.order;
  end = reaches.end;
  all = λ r le lt yes. elim (cases_lt r p) [
    | inl before ↦ reaches.kept r (are.all r le before yes)
    | inr ge ↦ let here : p ≡ r = omega (arith, lt, ge) in subst (IsIn new) here (reaches.here (subst (λ (y : ℕ). Is y ≡ true) (sym here) yes))
  ];
}

-- no call stands at a position of a function outside its span
pub outside : (g : Game) (function : ℕ) (span : Span) → IsSpan g function (λ p. is_call_in (slice_get g.spots p)) span (g.exit function + 1)
    → (p : ℕ) (call : Called) → IsOf g function p → (p < span.first) ⊎ (span.end ≤ p) → call_in (slice_get g.spots p) ≡ Some call → ⊥
outside g function span are p call of out is =
    let inside = are.all p of.0 (omega (arith, of.1)) (is_a_call (slice_get g.spots p) call is) in
    elim out [ inl before ↦ omega (arith, before, inside.0) | inr behind ↦ omega (arith, behind, inside.1) ]

-- one position more
pub one_more_call : (g : Game) (r p q : ℕ) → CallsBefore g (r + 1) p q → CallsBefore g r p q ⊎ AllOf r p q
one_more_call g r p q h = elim (cases_lt p r) [
  | inl lt ↦ inl (λ is. lt)
  | inr ge ↦ elim (cases_lt r p) [
    | inl past ↦ inl (λ is. absurd (let lt = h is in omega (arith, lt, past)))
    | inr le ↦ inr (omega (arith, ge, le))
  ]
]

pub one_more_loss : (g : Game) (r p q : ℕ) → LossesBefore g (r + 1) p q → LossesBefore g r p q ⊎ AllOf r p q
one_more_loss g r p q h = elim (cases_lt p r) [
  | inl lt ↦ inl (λ is. lt)
  | inr ge ↦ elim (cases_lt r p) [
    | inl past ↦ inl (λ is. absurd (let lt = h is in omega (arith, lt, past)))
    | inr le ↦ inr (omega (arith, ge, le))
  ]
]

-- indices are still to be added of positions that are passed over, at which no calls stand
pub passed_pushed : (g : Game) (old new : Stored) (function x p q plain : ℕ) → ArePushed g old new function x p plain → p ≤ q
    → ((r : ℕ) (call : Called) → p ≤ r → r < q → call_in (slice_get g.spots r) ≡ Some call → ⊥) → ArePushed g old new function x q (plain + (q - p))
passed_pushed g old new function x p q plain are le none = record {
  ahead = omega (arith, are.ahead, le);
  indices = (let many : p - g.entry function - plain ≡ q - g.entry function - (plain + (q - p)) = omega (arith, are.ahead, le) in
      subst (λ (n : ℕ). PushesIndices old new n) many are.indices);
  flagged = λ r call of lt is class. are.flagged r call of (omega (arith, lt, le)) is class;
  rest = λ r call lt behind is class. elim (cases_lt r p) [
    | inl before ↦ are.rest r call before (omega (arith, behind, le)) is class
    | inr ge ↦ none r call ge lt is
  ];
}

-- In a context in which no cell has a height nothing is missing before the span of the labels.
pub closed_before : (g : Game) (functions : ℕ) → AreRouted g functions → (contexts : List Context) (s : Found) (i : ℕ) (c : Context) (span : Span)
    → IsSpan g c.function (λ p. loss_begins_in (slice_get g.spots p)) span (g.exit c.function) → c.function < functions
    → ((r x : ℕ) → IsCell g contexts i c r x → s.height i r x ≡ 0) → (p q : ℕ) → IsCell g contexts i c p q → LossesBefore g span.first p q → IsClosed g s i c p q
closed_before g functions routed contexts s i c span are below fresh p q is before = elim (decide (loss_begins_in (slice_get g.spots p))) [
  | inl lost ↦ absurd (
      let lt = before lost in
      let inside = are.all p is.of.0 (omega (arith, lt, are.order, are.end)) lost in
      omega (arith, lt, inside.0))
  | inr quiet ↦ closed_fresh g functions routed contexts s i c p q below is quiet fresh
]

-- and nothing behind it but at the end
pub losses_passed : (g : Game) (function : ℕ) (span : Span) → IsSpan g function (λ p. loss_begins_in (slice_get g.spots p)) span (g.exit function) → (r p q : ℕ) → span.end ≤ r
    → IsOf g function p → LossesBefore g r p q ⊎ AllOf (g.exit function) p q
losses_passed g function span are r p q le of = elim (cases_lt p (g.exit function)) [
  | inl lt ↦ inl (λ lost. let inside = are.all p of.0 lt lost in omega (arith, inside.1, le))
  | inr ge ↦ inr (omega (arith, ge, of.1))
]

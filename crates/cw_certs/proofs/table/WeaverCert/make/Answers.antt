-- Each list by its own test.
use Rattle.std.proofs.Common.{◌≡◌, Bool, true, false, List, sym, subst}
use Rattle.std.specs.Prelude.{MatchBool}
use Rattle.std.specs.List.Sorted.{IsStrictlySortedBy}
use Rattle.std.specs.declared.cmp.Ordering.{Ordering}
use Rattle.std.proofs.lemmas.Bool.{MatchBool-at_true, MatchBool-at_false}
use Rattle.cw_certs.specs.Ascending.{mem_cmp, live_cmp, try_cmp, at_cmp, open_cmp, into_cmp, back_cmp}
use Rattle.cw_certs.proofs.table.WeaverCert.make.Goals as goal

sorted : {A : Type 0} (cmp : A → A → Ordering) (slice list : List A) (b : Bool) → slice ≡ list → b ≡ true
    → MatchBool b (IsStrictlySortedBy cmp slice) (IsStrictlySortedBy cmp slice → ⊥) → IsStrictlySortedBy cmp list
sorted cmp slice list b e is m = subst (λ xs. IsStrictlySortedBy cmp xs) e (MatchBool-at_true (IsStrictlySortedBy cmp slice) (IsStrictlySortedBy cmp slice → ⊥) is m)

unsorted : {A : Type 0} (cmp : A → A → Ordering) (slice list : List A) (b : Bool) → slice ≡ list → b ≡ false
    → MatchBool b (IsStrictlySortedBy cmp slice) (IsStrictlySortedBy cmp slice → ⊥) → IsStrictlySortedBy cmp list → ⊥
unsorted cmp slice list b e is m s =
    MatchBool-at_false (IsStrictlySortedBy cmp slice) (IsStrictlySortedBy cmp slice → ⊥) is m (subst (λ xs. IsStrictlySortedBy cmp xs) (sym e) s)

pub returns-then-not-ascends-7-clause-refused : goal.returns-then-not-ascends-7-clause-refused
returns-then-not-ascends-7-clause-refused c a =
    unsorted into_cmp c.deref-7.result.now c.args.into.items c.ascends-7.result c.deref-7.ensures.value c.if-not-ascends-7.true c.ascends-7.ensures a.into

pub returns-then-not-ascends-8-clause-refused : goal.returns-then-not-ascends-8-clause-refused
returns-then-not-ascends-8-clause-refused c a =
    unsorted back_cmp c.deref-8.result.now c.args.back.items c.ascends-8.result c.deref-8.ensures.value c.if-not-ascends-8.true c.ascends-8.ensures a.back

pub invariant_of-result : goal.invariant_of-result
invariant_of-result c = record {
  mems = sorted mem_cmp c.deref.result.now c.args.mems.items c.ascends.result c.deref.ensures.value c.if-not-ascends.false c.ascends.ensures;
  live = sorted live_cmp c.deref-2.result.now c.args.live.items c.ascends-2.result c.deref-2.ensures.value c.if-not-ascends-2.false c.ascends-2.ensures;
  tries = sorted try_cmp c.deref-3.result.now c.args.tries.items c.ascends-3.result c.deref-3.ensures.value c.if-not-ascends-3.false c.ascends-3.ensures;
  ats = sorted at_cmp c.deref-4.result.now c.args.ats.items c.ascends-4.result c.deref-4.ensures.value c.if-not-ascends-4.false c.ascends-4.ensures;
  opened = sorted open_cmp c.deref-5.result.now c.args.opened.items c.ascends-5.result c.deref-5.ensures.value c.if-not-ascends-5.false c.ascends-5.ensures;
  closed = sorted at_cmp c.deref-6.result.now c.args.closed.items c.ascends-6.result c.deref-6.ensures.value c.if-not-ascends-6.false c.ascends-6.ensures;
  into = sorted into_cmp c.deref-7.result.now c.args.into.items c.ascends-7.result c.deref-7.ensures.value c.if-not-ascends-7.false c.ascends-7.ensures;
  back = sorted back_cmp c.deref-8.result.now c.args.back.items c.ascends-8.result c.deref-8.ensures.value c.if-not-ascends-8.false c.ascends-8.ensures;
}

pub returns-clause-ascends : goal.returns-clause-ascends
returns-clause-ascends c = record {
  mems = sorted mem_cmp c.deref.result.now c.args.mems.items c.ascends.result c.deref.ensures.value c.if-not-ascends.false c.ascends.ensures;
  live = sorted live_cmp c.deref-2.result.now c.args.live.items c.ascends-2.result c.deref-2.ensures.value c.if-not-ascends-2.false c.ascends-2.ensures;
  tries = sorted try_cmp c.deref-3.result.now c.args.tries.items c.ascends-3.result c.deref-3.ensures.value c.if-not-ascends-3.false c.ascends-3.ensures;
  ats = sorted at_cmp c.deref-4.result.now c.args.ats.items c.ascends-4.result c.deref-4.ensures.value c.if-not-ascends-4.false c.ascends-4.ensures;
  opened = sorted open_cmp c.deref-5.result.now c.args.opened.items c.ascends-5.result c.deref-5.ensures.value c.if-not-ascends-5.false c.ascends-5.ensures;
  closed = sorted at_cmp c.deref-6.result.now c.args.closed.items c.ascends-6.result c.deref-6.ensures.value c.if-not-ascends-6.false c.ascends-6.ensures;
  into = sorted into_cmp c.deref-7.result.now c.args.into.items c.ascends-7.result c.deref-7.ensures.value c.if-not-ascends-7.false c.ascends-7.ensures;
  back = sorted back_cmp c.deref-8.result.now c.args.back.items c.ascends-8.result c.deref-8.ensures.value c.if-not-ascends-8.false c.ascends-8.ensures;
}

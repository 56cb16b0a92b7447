-- What waits while a search goes on.
use Rattle.std.proofs.Common.{◌≡◌, ℕ, ◌+◌, ◌∙◌, ◌⊎◌, [], ◌∷◌, Bool, true, false, Some, refl, sym, ap, subst, arith, inl, inr}
use Rattle.std.specs.Prelude.{List, cond, nat_eq, slice_get, Contains, IsPermutation}
use Rattle.std.proofs.lemmas.Bool.{eqb-true}
use Rattle.std.proofs.lemmas.Option.{same_Some}
use Rattle.std.proofs.lemmas.List.Elements.{Contains-append_right}
use Rattle.std.proofs.lemmas.List.Sorted.{Contains-permutation}
use Rattle.indexmap.specs.IndexMap.{IndexMap}
use Rattle.cw_audit_store.specs.declared.row_key.RowKey.{RowKey}
use Rattle.cw_audit_store.specs.declared.row_key.Row.{Row}
use Rattle.cw_audit_search.specs.Sound.{HasFallen}
use Rattle.cw_audit_visits.specs.declared.under_way.Search.{Search}
use Rattle.cw_audit_visits.specs.Searching.{found_of, reach_of, IsPut, WaitOn, Waits, WaitsFor}

abbrev entries_of : {S : Type 0} → IndexMap RowKey Row S → List (RowKey × Row)
entries_of m = m.entries

-- no row was made or lowered, and nothing more waits
pub waits_same : (s s2 : Search) → s2.store.rows ≡ s.store.rows → s2.frontier.rows ≡ s.frontier.rows → WaitOn s s2
waits_same s s2 rows frontier = record {
  kept = λ key number w. subst (λ (ws : List (ℕ × ℕ)). Contains ws (key, number)) (sym frontier) w;
  made = λ number at row e. inl (ap (λ m. slice_get (entries_of m) number) (sym rows) ∙ e);
}

-- where more waits, and numbers fall, what waits for a row still does
waits_later : (s s2 : Search) → HasFallen (found_of s.store) (found_of s2.store) → ((key number : ℕ) → Waits s key number → Waits s2 key number)
    → (number : ℕ) (at : RowKey) (row : Row) → WaitsFor s number at row → WaitsFor s2 number at row
waits_later s s2 fallen kept number at row w =
    let less = fallen.reach at.entrance.function at.entrance.state.0 w.1 w.3 in
    (w.0, less.0, kept w.0 number w.2, less.1, omega (arith, less.2, w.4))

pub wait_trans : (a b c : Search) → HasFallen (found_of b.store) (found_of c.store) → WaitOn a b → WaitOn b c → WaitOn a c
wait_trans a b c fallen x y = record {
  kept = λ key number w. y.kept key number (x.kept key number w);
  made = λ number at row e. elim (y.made number at row e) [
    | inl same ↦ elim (x.made number at row same) [
      | inl old ↦ inl old
      | inr w ↦ inr (waits_later b c fallen y.kept number at row w)
    ]
    | inr w ↦ inr w
  ];
}

module _ (s s2 : Search) (at : RowKey) (row : Row) (reach m : ℕ)
    (set : (n : ℕ) → slice_get s2.store.rows.entries n ≡ cond (nat_eq n m) (Some (at, row)) (slice_get s.store.rows.entries n))
    (put : IsPermutation ((reach + row.inside, m) ∷ s.frontier.rows) s2.frontier.rows) where
  its : Waits s2 (reach + row.inside) m
  its = Contains-permutation ((reach + row.inside, m) ∷ s.frontier.rows) s2.frontier.rows (reach + row.inside, m) put (0, omega arith, refl)

  old_or_its : (b : Bool) (n : ℕ) (q : RowKey) (row2 : Row) → (b ≡ true → n ≡ m) → cond b (Some (at, row)) (slice_get s.store.rows.entries n) ≡ Some (q, row2)
      → (slice_get s.store.rows.entries n ≡ Some (q, row2)) ⊎ ((q ≡ at) × Waits s2 (reach + row2.inside) n)
  old_or_its false n q row2 is e = inl e
  old_or_its true n q row2 is e =
      let same = same_Some (at, row) (q, row2) e in
      inr (
        ap (λ (p : RowKey × Row). p.0) (sym same),
        subst (λ (r : Row). Waits s2 (reach + r.inside) n) (ap (λ (p : RowKey × Row). p.1) same) (subst (Waits s2 (reach + row.inside)) (sym (is refl)) its),
      )

  -- a row is set, and put
  pub row_put : IsPut s s2 at reach
  row_put = record {
    kept = λ key number w.
        Contains-permutation ((reach + row.inside, m) ∷ s.frontier.rows) s2.frontier.rows (key, number) put
        (Contains-append_right ((reach + row.inside, m) ∷ []) s.frontier.rows (key, number) w);
    made = λ n q row2 e. old_or_its (nat_eq n m) n q row2 (eqb-true n m) (sym (set n) ∙ e);
  }

-- the reach is that of its group
pub put_waits : (s s2 : Search) (at : RowKey) (reach : ℕ) → reach_of s2 at ≡ Some reach → IsPut s s2 at reach → WaitOn s s2
put_waits s s2 at reach known put = record {
  kept = put.kept;
  made = λ n q row e. elim (put.made n q row e) [
    | inl old ↦ inl old
    | inr its ↦ inr (reach + row.inside, reach, its.1, subst (λ (p : RowKey). reach_of s2 p ≡ Some reach) (sym its.0) known, omega arith)
  ];
}

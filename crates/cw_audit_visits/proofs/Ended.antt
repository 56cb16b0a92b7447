-- Calls go on behind the ends that are listed.
use Rattle.std.proofs.Common.{◌≡◌, ℕ, ◌+◌, ◌∙◌, List, [], ◌∷◌, ◌++◌, length, true, false, refl, sym, ap, subst, arith, inl, inr}
use Rattle.std.specs.Prelude.{Option, Some, slice_get}
use Rattle.std.proofs.lemmas.Option.{same_Some, slice_get_within}
use Rattle.std.proofs.lemmas.Bool.Decides.{leb_tells}
use Rattle.std.proofs.lemmas.Map.Entries.{place_from_lookup}
use Rattle.cw_lemmas.proofs.Lists.{get_front, get_last}
use Rattle.cw_lemmas.proofs.Options.{option_map_some}
use Rattle.cw_product.specs.Product.{Held}
use Rattle.cw_audit_store.specs.declared.lists.Lists.{Lists}
use Rattle.cw_audit_store.specs.declared.row_key.Entrance.{Entrance}
use Rattle.cw_audit_store.specs.declared.row_key.RowKey.{RowKey}
use Rattle.cw_audit_store.specs.declared.row_key.Row.{Row}
use Rattle.cw_audit_store.specs.declared.store.Store.{Store}
use Rattle.cw_audit_store.specs.Listed.{list_of}
use Rattle.cw_audit_store.specs.Stores.{entrance_eq, row_key_eq, row_at}
use Rattle.cw_audit_store.proofs.Orders.{equal_entrances, equal_row_keys}
use Rattle.cw_audit_visits.specs.declared.met.Calling.{Calling}
use Rattle.cw_audit_visits.specs.declared.under_way.Search.{Search}
use Rattle.cw_audit_visits.specs.Searching.{AreEnds, AreEndsOf, AreEndsNoted, AreEndsUpTo, IsEndIn, IsEndPut, IsEndNoted, IsIn, IsReturnNoted, end_of, entrance}
use Rattle.cw_audit_visits.proofs.Oks.{by_truth}

module _ (h : Held) (s : Search) (number : ℕ) (ends ends2 : Lists) (at : RowKey) (row : Row) (there : slice_get s.store.rows.entries number ≡ Some (at, row)) where
  same_row_key : (at2 : RowKey) (row2 : Row) → slice_get s.store.rows.entries number ≡ Some (at2, row2) → at ≡ at2
  same_row_key at2 row2 e = ap (λ (p : RowKey × Row). p.0) (same_Some (at, row) (at2, row2) (sym there ∙ e))

  -- the row is at the end of its function, and its number is put
  pub end_put : list_of ends2 at.entrance ≡ list_of ends at.entrance ++ number ∷ [] → ((q : Entrance) → entrance_eq at.entrance q ≡ false → list_of ends2 q ≡ list_of ends q)
      → IsEndPut h s number ends ends2
  end_put here others = record {
    one = λ at2 row2 e is.
        subst (λ (p : RowKey). IsIn (list_of ends2 p.entrance) number) (same_row_key at2 row2 e)
        (length (list_of ends at.entrance), ap (λ ns. slice_get ns (length (list_of ends at.entrance))) here ∙ get_last (list_of ends at.entrance) number);
    others = λ q n i. by_truth {X = IsIn (list_of ends2 q) n} (entrance_eq at.entrance q)
        (λ e. subst (λ ns. IsIn ns n) (sym (others q e)) i)
        (λ e. let same = equal_entrances at.entrance q e in
        subst (λ q. IsIn (list_of ends q) n → IsIn (list_of ends2 q) n) same
        (λ i. (i.0, ap (λ ns. slice_get ns i.0) here ∙ get_front (list_of ends at.entrance) (number ∷ []) i.0 n i.1)) i);
  }

-- no row has the number
pub end_nowhere : (h : Held) (s : Search) (number : ℕ) (ends : Lists) (o : Option (RowKey × Row)) → o ≡ slice_get s.store.rows.entries number → ((p : RowKey × Row) → o ≡ Some p → ⊥)
    → IsEndPut h s number ends ends
end_nowhere h s number ends o is none = record { one = λ at row e end. absurd (none (at, row) (is ∙ e)); others = λ q n i. i }

-- one row more
pub ends_more : (h : Held) (s : Search) (n : ℕ) (ends ends2 : Lists) → AreEndsUpTo h s ends n → IsEndPut h s n ends ends2 → AreEndsUpTo h s ends2 (n + 1)
ends_more h s n ends ends2 before put = λ i l. elim (leb_tells n i) [
  | inl q ↦ let z : n ≡ i = omega (arith, q.1, l) in subst (IsEndIn h s ends2) z put.one
  | inr q ↦ λ at row e is. put.others at.entrance i (before i q.1 at row e is)
]

pub all_ends : (h : Held) (s : Search) (ends : Lists) (count : ℕ) → count ≡ length s.store.rows.entries → AreEndsUpTo h s ends count → AreEnds h s ends
all_ends h s ends count is each = λ n at row e end. each n (omega (arith, is, slice_get_within s.store.rows.entries n (at, row) e)) at row e end

-- what is noted of so many listed ends, and of one more
pub noted_more : (h : Held) (s s1 : Search) (call : Calling) (ns : List ℕ) (n number : ℕ) → s1.store ≡ s.store → AreEndsNoted h s call ns n → slice_get ns n ≡ Some number
    → IsEndNoted h s1 call number
    → AreEndsNoted h s call ns (n + 1)
noted_more h s s1 call ns n number same before there here = λ i m l e. elim (leb_tells n i) [
  | inl q ↦ let z : i ≡ n = omega (arith, q.1, l) in
      let k : number ≡ m = same_Some number m (sym there ∙ sym (ap (slice_get ns) z) ∙ e) in
      subst (IsEndNoted h s call) k (subst (λ t. IsEndNoted h (record { store = t; frontier = s.frontier }) call number) same here)
  | inr q ↦ before i m q.1 e
]

-- the list of the entrance to which the call leads has its ends
pub call_ends : (h : Held) (s s1 : Search) (ends : Lists) (call : Calling) (ns : List ℕ) → s1.store ≡ s.store → ns ≡ list_of ends (entrance call.callee call.met.row_key.state.0)
    → AreEnds h s ends
    → AreEndsOf h s1 call ns
call_ends h s s1 ends call ns same is are = λ y number row there.
    subst (λ ns. IsIn ns number) (sym is) (are number (end_of h call y) row (sym (ap (λ (t : Store). slice_get t.rows.entries number) same) ∙ there) refl)

-- each return is noted, where each listed end is
pub returns_noted : (h : Held) (s : Search) (call : Calling) (ns : List ℕ) (many : ℕ) → AreEndsOf h s call ns → many ≡ length ns → AreEndsNoted h s call ns many
    → (y : ℕ) → IsReturnNoted h s call.met.row_key call.callee call.back.0 y
returns_noted h s call ns many are is noted y = λ r a e er ea ee.
    let end = end_of h call y in
    let row = option_map_some (λ (x : Row). x.inside) (row_at s.store end) e ee in
    let found = place_from_lookup (row_key_eq end) s.store.rows.entries row.0 row.1 in
    let same : end ≡ found.1 = equal_row_keys end found.1 found.3 in
    let there : slice_get s.store.rows.entries found.0 ≡ Some (end, row.0) = found.2 ∙ ap (λ (p : RowKey). Some (p, row.0)) (sym same) in
    let i = are y found.0 row.0 there in
    noted i.0 found.0 (omega (arith, is, slice_get_within ns i.0 found.0 i.1)) i.1 y row.0 there r a e er ea ee

module _ (h : Held) (s : Search) (call : Calling) (number : ℕ) where
  -- no row has the number
  pub no_end : (o : Option (RowKey × Row)) → o ≡ slice_get s.store.rows.entries number → ((p : RowKey × Row) → o ≡ Some p → ⊥) → IsEndNoted h s call number
  no_end o is none = λ y row e. absurd (none (end_of h call y, row) (is ∙ e))

  module _ (end : RowKey) (ended : Row) (there : slice_get s.store.rows.entries number ≡ Some (end, ended)) where
    same_end : (y : ℕ) (row : Row) → slice_get s.store.rows.entries number ≡ Some (end_of h call y, row) → end ≡ end_of h call y
    same_end y row e = ap (λ (p : RowKey × Row). p.0) (same_Some (end, ended) (end_of h call y, row) (sym there ∙ e))

    -- the row is at an end of the callee, and the return is noted
    pub end_noted : IsReturnNoted h s call.met.row_key call.callee call.back.0 end.state.0 → IsEndNoted h s call number
    end_noted noted = λ y row e. subst (λ (p : RowKey). IsReturnNoted h s call.met.row_key call.callee call.back.0 p.state.0) (same_end y row e) noted

    pub end_at : row_at s.store end ≡ Some ended → row_key_eq end (end_of h call end.state.0) ≡ true → row_at s.store (end_of h call end.state.0) ≡ Some ended
    end_at e is = subst (λ p. row_at s.store p ≡ Some ended) (equal_row_keys end (end_of h call end.state.0) is) e

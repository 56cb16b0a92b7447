-- All rows below a bound are visited.
use Rattle.std.proofs.Common.{◌≡◌, ℕ, ◌+◌, ◌<◌, ◌≤◌, ◌∙◌, length, true, Some, sym, ap, subst, arith, inl, inr}
use Rattle.std.specs.Prelude.{Option, option_map, slice_get}
use Rattle.std.proofs.lemmas.Option.{same_Some, slice_get_within}
use Rattle.std.proofs.lemmas.Bool.Decides.{leb_tells}
use Rattle.std.proofs.lemmas.Map.Entries.{place_from_lookup}
use Rattle.cw_lemmas.proofs.Options.{option_map_some}
use Rattle.cw_core.specs.declared.ids.PosId.{PosId}
use Rattle.cw_product.specs.Product.{Held, game_of}
use Rattle.cw_audit_search.specs.Searches.{is_row}
use Rattle.cw_audit_search.specs.Sound.{IsArrival}
use Rattle.cw_audit_search.specs.Settled.{IsCovered}
use Rattle.cw_audit_search.proofs.Setting.{same_row}
use Rattle.cw_audit_store.specs.declared.lists.Lists.{Lists}
use Rattle.cw_audit_store.specs.declared.row_key.Entrance.{Entrance}
use Rattle.cw_audit_store.specs.declared.row_key.RowKey.{RowKey}
use Rattle.cw_audit_store.specs.declared.row_key.Entered.{Entered}
use Rattle.cw_audit_store.specs.declared.row_key.Row.{Row}
use Rattle.cw_audit_table.specs.Runs.{cut}
use Rattle.cw_audit_store.specs.Stores.{row_at, group_at, entrance_eq, row_key_eq}
use Rattle.cw_audit_store.proofs.Orders.{eq_row_key, equal_entrances}
use Rattle.cw_audit_visits.specs.declared.met.Met.{Met}
use Rattle.cw_audit_visits.specs.declared.under_way.Search.{Search}
use Rattle.cw_audit_visits.specs.Searching.{entrance, row_key, found_of, functions_of, AreBegun, AreBegunUpTo, AreEnds, IsBegunAt, IsEntryNoted, IsKept, IsThere}
use Rattle.cw_audit_visits.specs.Searching.{IsNoted, IsUnknown, IsVisited, IsSettledAt, IsNumberSettled, AreSettledAt, AreSettledBelow}

-- each group has a number
pub begun_more : (h : Held) (s s1 : Search) (n : ℕ) → s1.store ≡ s.store → AreBegunUpTo h s n → IsBegunAt h s1 n → AreBegunUpTo h s (n + 1)
begun_more h s s1 n same before now = λ i l. elim (leb_tells n i) [
  | inl q ↦ let z : n ≡ i = omega (arith, q.1, l) in
      subst (IsBegunAt h s) z (subst (λ t. IsBegunAt h (record { store = t; frontier = s.frontier }) n) same now)
  | inr q ↦ before i q.1
]

pub all_begun : (h : Held) (s : Search) (count : ℕ) → count ≡ length s.store.groups.entries → AreBegunUpTo h s count → AreBegun h s
all_begun h s count is each = λ f q r er.
    let e = option_map_some (λ (e : Entered). e.reach) (group_at s.store (entrance f q)) r er in
    let there = place_from_lookup (entrance_eq (entrance f q)) s.store.groups.entries e.0 e.1 in
    let at = there.1 in
    let few : there.0 < count = omega (arith, is, slice_get_within s.store.groups.entries there.0 (at, e.0) there.2) in
    let same : entrance f q ≡ at = equal_entrances (entrance f q) at there.3 in
    subst (λ r. IsEntryNoted h s f q r) e.2
    (subst (λ (at : Entrance). IsEntryNoted h s at.function at.state.0 e.0.reach) (sym same) (each there.0 few at e.0 there.2))

-- a group that is there
pub group_reached : (s : Search) (at : Entrance) (e : Entered) → group_at s.store at ≡ Some e → (found_of s.store).reach at.function at.state.0 ≡ Some e.reach
group_reached s at e there = ap (option_map (λ (e : Entered). e.reach)) there

pub group_arrival : (h : Held) (s : Search) (at : Entrance) (e : Entered) → IsKept (game_of h) (functions_of h) s → group_at s.store at ≡ Some e
    → IsArrival (game_of h) at.function at.state.0 e.reach
group_arrival h s at e kept there = kept.sound.entered at.function at.state.0 e.reach (group_reached s at e there)

pub entry_noted : (h : Held) (s : Search) (at : Entrance) (e : Entered) (p : PosId) → p.0 ≡ (game_of h).entry at.function → group_at s.store at ≡ Some e
    → IsNoted h s (row_key at.function at.state.0 p.0 at.state.0) 0 → IsEntryNoted h s at.function at.state.0 e.reach
entry_noted h s at e p is there noted =
    subst (λ p. IsCovered (game_of h) (found_of s.store) at.function at.state.0 e.reach p at.state.0 0) is (noted e.reach (group_reached s at e there))

pub begun_same : (h : Held) (s s1 : Search) → s1.store ≡ s.store → AreBegun h s → AreBegun h s1
begun_same h s s1 same begun = subst (λ t. AreBegun h (record { store = t; frontier = s1.frontier })) (sym same) begun

pub ends_same : (h : Held) (s s1 : Search) (ends : Lists) → s1.store ≡ s.store → AreEnds h s ends → AreEnds h s1 ends
ends_same h s s1 ends same are = subst (λ t. AreEnds h (record { store = t; frontier = s1.frontier }) ends) (sym same) are

-- of the one group with the number
pub number_begun : (h : Held) (s : Search) (number : ℕ) (at : Entrance) (e : Entered) → Some (at, e) ≡ slice_get s.store.groups.entries number → IsEntryNoted h s at.function at.state.0 e.reach
    → IsBegunAt h s number
number_begun h s number at e there noted = λ at2 e2 is.
    subst (λ (p : Entrance × Entered). IsEntryNoted h s p.0.function p.0.state.0 p.1.reach) (same_Some (at, e) (at2, e2) (there ∙ is)) noted

pub no_begun : (h : Held) (s : Search) (number : ℕ) (o : Option (Entrance × Entered)) → o ≡ slice_get s.store.groups.entries number → ((p : Entrance × Entered) → o ≡ Some p → ⊥)
    → IsBegunAt h s number
no_begun h s number o is none = λ at e there. absurd (none (at, e) (is ∙ there))

-- each row has a number
pub all_settled : (h : Held) (s : Search) (bound count : ℕ) → count ≡ length s.store.rows.entries → AreSettledAt h s bound count → AreSettledBelow h s bound
all_settled h s bound count is each f q p x = λ r a er ea low.
    let row = option_map_some (λ (r : Row). r.inside) (row_at s.store (row_key f q p x)) a ea in
    let there = place_from_lookup (row_key_eq (row_key f q p x)) s.store.rows.entries row.0 row.1 in
    let at = there.1 in
    let few : there.0 < count = omega (arith, is, slice_get_within s.store.rows.entries there.0 (at, row.0) there.2) in
    let same : is_row f q p x at.entrance.function at.entrance.state.0 at.pos.0 at.state.0 ≡ true = sym (eq_row_key (row_key f q p x) at) ∙ there.3 in
    same_row (λ f2 q2 p2 x2. IsSettledAt h s bound (row_key f2 q2 p2 x2) → IsSettledAt h s bound (row_key f q p x)) f q p x at.entrance.function at.entrance.state.0 at.pos.0 at.state.0 same
    (λ z. z) (each there.0 few at row.0 there.2) r a er ea low

-- one row more
pub settled_more : (h : Held) (s s1 : Search) (bound n : ℕ) → s1.store ≡ s.store → AreSettledAt h s bound n → IsNumberSettled h s1 bound n → AreSettledAt h s bound (n + 1)
settled_more h s s1 bound n same before now = λ i l at row e. elim (leb_tells n i) [
  | inl q ↦ let z : i ≡ n = omega (arith, q.1, l) in
      subst (λ t. IsNumberSettled h (record { store = t; frontier = s.frontier }) bound n) same now at row (ap (slice_get s.store.rows.entries) (sym z) ∙ e)
  | inr q ↦ before i q.1 at row e
]

-- of the one row with the number
pub number_settled : (h : Held) (s : Search) (bound number : ℕ) (at : RowKey) (row : Row) → Some (at, row) ≡ slice_get s.store.rows.entries number → IsSettledAt h s bound at
    → IsNumberSettled h s bound number
number_settled h s bound number at row there settled = λ at2 row2 e.
    subst (IsSettledAt h s bound) (ap (λ (p : RowKey × Row). p.0) (same_Some (at, row) (at2, row2) (there ∙ e))) settled

-- no row of an entrance without a group is asked for, nor one past the bound
pub unknown_settled : (h : Held) (s : Search) (bound number : ℕ) → IsUnknown s number → IsNumberSettled h s bound number
unknown_settled h s bound number unknown = λ at row e r a er ea low. absurd (unknown at row r e er)

pub past_bound : (h : Held) (s : Search) (bound n : ℕ) (met : Met) → IsThere s met → n ≡ cut (met.reach + met.row.inside) → bound ≤ n → IsSettledAt h s bound met.row_key
past_bound h s bound n met there is past = λ r a er ea low.
    let same_r : met.reach ≡ r = same_Some met.reach r (sym there.reach ∙ er) in
    let same_a : met.row.inside ≡ a = same_Some met.row.inside a (sym (ap (option_map (λ (x : Row). x.inside)) there.row) ∙ ea) in
    absurd (omega (arith, same_r, same_a, is, past, low))

pub visited_settled : (h : Held) (s : Search) (bound : ℕ) (at : RowKey) → IsVisited h s at → IsSettledAt h s bound at
visited_settled h s bound at visited = λ r a er ea low. visited r a er ea

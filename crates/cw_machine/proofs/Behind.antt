-- Statements from one on, of which the first that begins at its place is that one.
use Rattle.std.proofs.Common.{◌≡◌, ℕ, zero, suc, ◌+◌, ◌-◌, ◌<◌, ◌≤◌, cond, get_or, length, subst, List, [], ◌∷◌, drop, Some, slice_get, refl, ap, sym, ◌∙◌}
use Rattle.std.specs.Prelude.{find, option_map}
use Rattle.std.specs.Borrow.{Bor}
use Rattle.std.proofs.lemmas.Bool.{eq-eqb}
use Rattle.std.proofs.lemmas.List.{drop-map, at_drop_more, at_drop_all}
use Rattle.std.proofs.lemmas.Option.{none-some, same_Some, slice_get-map}
use Rattle.cw_syntax.specs.declared.program.Stmt.{Stmt}
use Rattle.cw_syntax.specs.Trees.{Statement}
use Rattle.cw_value.specs.Deeds.{begins_at, form_of, plain_if}
use Rattle.cw_apart.specs.Starts.{start_of, Ascend}
use Rattle.cw_apart.proofs.Between.{begins, found}
use Rattle.cw_deeds.specs.declared.items.Row.{Row}
use Rattle.cw_deeds.specs.declared.items.Row.TheVariants as row
use Rattle.cw_deeds.specs.Forms.{deed_among}
use Rattle.cw_slots.specs.Texts.{statement_at}
use Rattle.cw_machine.specs.Apart.{AreApart}
use Rattle.cw_machine.specs.Knowing.{place_of, said_in}

-- statements that ascend are apart
pub apart : (to : ℕ) (l : List Statement) → Ascend 0 to l → AreApart l
apart to l h i s is = found 0 to i l s h is

first_of : (l : List Statement) (i : ℕ) (s : Statement) → slice_get l i ≡ Some s → find (begins_at (start_of s)) (drop i l) ≡ Some s
first_of [] i s is = absurd (none-some s is)
first_of (x ∷ l) zero s is =
    let same : x ≡ s = same_Some x s is in
    ap (λ t. cond t (Some x) (find (begins_at (start_of s)) l)) (begins (start_of s) x ∙ eq-eqb (start_of x) (start_of s) (ap start_of same)) ∙ ap Some same
first_of (x ∷ l) (suc i) s is = first_of l i s is

on : (l : List Statement) (i at : ℕ) (s : Statement) → AreApart l → slice_get l i ≡ Some s → start_of s ≡ at → find (begins_at at) (drop i l) ≡ find (begins_at at) l
on l i at s apart is same =
    ap (λ p. find (begins_at p) (drop i l)) (sym same) ∙ first_of l i s is ∙ sym (apart i s is) ∙ ap (λ p. find (begins_at p) l) same

pub behind : (l : List (Bor Stmt)) (i at : ℕ) (s : Bor Stmt) → AreApart (said_in l) → slice_get l i ≡ Some s → s.now.from ≡ at
    → find (begins_at at) (said_in (drop i l)) ≡ find (begins_at at) (said_in l)
behind l i at s apart is same =
    ap (find (begins_at at)) (sym (drop-map statement_at i l))
    ∙ on (said_in l) i at (statement_at s) apart (slice_get-map statement_at l i ∙ ap (option_map statement_at) is) same

-- a row looks for one statement alone
pub same_deed : (a b : List Statement) (r : Row) → find (begins_at (place_of r)) a ≡ find (begins_at (place_of r)) b → deed_among a r ≡ deed_among b r
same_deed a b row.Rests e = refl
same_deed a b (row.Plain at) e = ap (λ o. plain_if (option_map form_of o)) e
same_deed a b row.Ends e = refl
same_deed a b r e = cc

-- ---- statements that are looked at one after the other

pub ascend_more : (xs : List (Bor Stmt)) (i from to : ℕ) (x : Bor Stmt) → i < length xs → x ≡ get_or xs i x → from ≤ x.now.from → Ascend (x.now.from + 1) to (said_in (drop (i + 1) xs))
    → Ascend from to (said_in (drop i xs))
ascend_more xs i from to x within is le h =
    let e : said_in (drop i xs) ≡ statement_at x ∷ said_in (drop (i + 1) xs) = at_drop_more said_in xs i x within ∙ ap (λ y. statement_at y ∷ said_in (drop (i + 1) xs)) (sym is) in
    subst (Ascend from to) (sym e) (le, h)

pub ascend_all : (xs : List (Bor Stmt)) (i from to : ℕ) → length xs ≤ i → from ≤ to → Ascend from to (said_in (drop i xs))
ascend_all xs i from to past le = subst (Ascend from to) (sym (at_drop_all said_in xs i past)) le

-- The conditions of rows and groups, from one of them on.
use Rattle.std.proofs.Common.{◌≡◌, ℕ, suc, ◌+◌, ◌<◌, ◌≤◌, List, ◌∷◌, ◌++◌, Bool, Option, Some, None, option_map, map, length, get_or}
use Rattle.std.proofs.Common.{drop, sym, ap, ◌∙◌, subst, arith}
use Rattle.std.specs.Prelude.{slice_get}
use Rattle.std.specs.List.{enumerate_from}
use Rattle.std.proofs.Math.Seq.{drop-cons}
use Rattle.std.proofs.lemmas.List.{drop_all}
use Rattle.cw_game.specs.Games.{Game}
use Rattle.cw_game.specs.Conditions.{first_failing}
use Rattle.cw_game.proofs.Failing.{first_mapped, append_none, append_some}
use Rattle.cw_audit_table.specs.declared.table.Group.{Group}
use Rattle.cw_audit_table.specs.Tables.{PlainGroup, Audit, row_of, group_of}
use Rattle.cw_audit_table.specs.Conditions.{GroupFault, fault_at, row_conditions, row_faults, group_faults}
use Rattle.cw_audit_check.specs.Checks.{group_conditions}
use Rattle.cw_audit_check.proofs.Orders.{ARow}

module _ (g : Game) (t : Audit) where
  module _ (i : ℕ) (grp : PlainGroup) (rows : List ARow) where
    -- what fails first from a row on
    abbrev pub RowsFrom : ℕ → Option GroupFault
    RowsFrom n = first_failing (row_faults g t i grp (enumerate_from n (map row_of (drop n rows))))

    abbrev pub conditions_at : ARow → Option ℕ
    conditions_at x = first_failing (row_conditions g t grp (row_of x) (slice_get g.spots x.0.0))

    abbrev these : ℕ → ARow → List (GroupFault × Bool)
    these n x = map (λ c. (fault_at i n c.0, c.1)) (row_conditions g t grp (row_of x) (slice_get g.spots x.0.0))

    abbrev later : ℕ → List (GroupFault × Bool)
    later n = row_faults g t i grp (enumerate_from (n + 1) (map row_of (drop (n + 1) rows)))

    step : (n : ℕ) (d : ARow) → n < length rows → RowsFrom n ≡ first_failing (these n (get_or rows n d) ++ later n)
    step n d lt =
        let next : suc n ≡ n + 1 = omega arith in
        ap (λ (rs : List ARow). first_failing (row_faults g t i grp (enumerate_from n (map row_of rs)))) (subst (λ k. drop n rows ≡ get_or rows n d ∷ drop k rows) next (drop-cons rows n d lt))

    told : (n : ℕ) (x : ARow) (o : Option ℕ) → conditions_at x ≡ o → first_failing (these n x) ≡ option_map (fault_at i n) o
    told n x o e = first_mapped (fault_at i n) (row_conditions g t grp (row_of x) (slice_get g.spots x.0.0)) ∙ ap (option_map (fault_at i n)) e

    pub row_here : (n : ℕ) (d : ARow) (condition : ℕ) → n < length rows → conditions_at (get_or rows n d) ≡ Some condition → RowsFrom n ≡ Some (fault_at i n condition)
    row_here n d condition lt e = step n d lt ∙ append_some (these n (get_or rows n d)) (later n) (fault_at i n condition) (told n (get_or rows n d) (Some condition) e)

    pub row_next : (n : ℕ) (d : ARow) → n < length rows → conditions_at (get_or rows n d) ≡ None → RowsFrom n ≡ RowsFrom (n + 1)
    row_next n d lt e = step n d lt ∙ append_none (these n (get_or rows n d)) (later n) (told n (get_or rows n d) None e)

    pub row_end : (n : ℕ) → length rows ≤ n → RowsFrom n ≡ None
    row_end n le = ap (λ (rs : List ARow). first_failing (row_faults g t i grp (enumerate_from n (map row_of rs)))) (drop_all n rows le)

  module _ (groups : List Group) where
    abbrev pub GroupsFrom : ℕ → Option GroupFault
    GroupsFrom n = first_failing (group_faults g t (enumerate_from n (map group_of (drop n groups))))

    abbrev the_rest : ℕ → List (GroupFault × Bool)
    the_rest n = group_faults g t (enumerate_from (n + 1) (map group_of (drop (n + 1) groups)))

    step_group : (n : ℕ) (x : Group) → n < length groups → x ≡ get_or groups n x → GroupsFrom n ≡ first_failing (group_conditions g t n (group_of x) ++ the_rest n)
    step_group n x lt is =
        let next : suc n ≡ n + 1 = omega arith in
        ap (λ (gs : List Group). first_failing (group_faults g t (enumerate_from n (map group_of gs))))
        (subst (λ k. drop n groups ≡ get_or groups n x ∷ drop k groups) next (drop-cons groups n x lt) ∙ ap (λ y. y ∷ drop (n + 1) groups) (sym is))

    pub group_here : (n : ℕ) (x : Group) (fault : GroupFault) → n < length groups → x ≡ get_or groups n x → first_failing (group_conditions g t n (group_of x)) ≡ Some fault
        → GroupsFrom n ≡ Some fault
    group_here n x fault lt is e = step_group n x lt is ∙ append_some (group_conditions g t n (group_of x)) (the_rest n) fault e

    pub group_next : (n : ℕ) (x : Group) → n < length groups → x ≡ get_or groups n x → first_failing (group_conditions g t n (group_of x)) ≡ None → GroupsFrom n ≡ GroupsFrom (n + 1)
    group_next n x lt is e = step_group n x lt is ∙ append_none (group_conditions g t n (group_of x)) (the_rest n) e

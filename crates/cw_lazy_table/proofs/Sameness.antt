-- A game has one lazy table at most.
use Rattle.std.proofs.Common.{◌≡◌, inl, inr, ⊎_elim, ℕ, List, [], ◌∷◌, refl, sym, ap, ap₂, ◌∙◌, subst}
use Rattle.std.specs.Cmp.{IsTotalOrder}
use Rattle.std.specs.List.Sorted.{IsStrictlySortedBy}
use Rattle.std.specs.declared.cmp.Ordering.{Ordering}
use Rattle.std.specs.declared.cmp.Ordering.TheVariants.{Less}
use Rattle.cw_core.specs.declared.ids.StateId.{StateId}
use Rattle.cw_certs.specs.Tables.{Table, table_with}
use Rattle.cw_certs.proofs.Orders.{mem_total, live_total, try_total, at_total, open_total, into_total, back_total}
use Rattle.cw_certs.specs.Ascending.{mem_cmp, live_cmp, try_cmp, at_cmp, open_cmp, into_cmp, back_cmp}
use Rattle.cw_fixpoint.specs.Closures.{Exactly}
use Rattle.cw_game.specs.Games.{Game}
use Rattle.cw_game.specs.Pairs.{all_states}
use Rattle.cw_lazy_table.specs.Lazy.{Means, IsMemory, IsLiveRow, IsTryRow, IsLabelRow, IsOpenRow, IsCloseRow, IsIntoRow, IsBackRow, IsLazyTable}
use Rattle.cw_fixpoint.proofs.Numbers.{apart}
use Rattle.cw_lazy_table.proofs.Finding.{In, in_of, of_in, all_in}
use Rattle.cw_lazy_table.proofs.Numbers.{number_is}

module _ {A : Type 0} (cmp : A → A → Ordering) (total : IsTotalOrder cmp) where
  -- lists that ascend and have the same elements are one
  pub same_lists : (xs ys : List A) → IsStrictlySortedBy cmp xs → IsStrictlySortedBy cmp ys → ((x : A) → In xs x → In ys x) → ((x : A) → In ys x → In xs x) → xs ≡ ys
  unfolding IsStrictlySortedBy
  same_lists [] [] s r f h = refl
  same_lists [] (y ∷ ys) s r f h = absurd (h y (inl refl))
  same_lists (x ∷ xs) [] s r f h = absurd (f x (inl refl))
  same_lists (x ∷ xs) (y ∷ ys) s r f h = ap₂ (λ a b. a ∷ b) heads (same_lists xs ys s.1 r.1 (λ z n. on z n (f z (inr n))) (λ z n. back z n (h z (inr n))))
    where
      heads : x ≡ y
      heads = ⊎_elim (λ e. sym e) (λ n. ⊎_elim (λ e. e) (λ m. absurd (apart cmp total x y (all_in (λ z. cmp x z ≡ Less) xs y s.0 m) (all_in (λ z. cmp y z ≡ Less) ys x r.0 n)))
          (h y (inl refl))) (f x (inl refl))

      on : (z : A) → In xs z → In (y ∷ ys) z → In ys z
      on z n (inl e) = let l : cmp z z ≡ Less = subst (λ w. cmp w z ≡ Less) (heads ∙ e) (all_in (λ z. cmp x z ≡ Less) xs z s.0 n) in absurd (apart cmp total z z l l)
      on z n (inr m) = m

      back : (z : A) → In ys z → In (x ∷ xs) z → In xs z
      back z n (inl e) = let l : cmp z z ≡ Less = subst (λ w. cmp w z ≡ Less) (sym heads ∙ e) (all_in (λ z. cmp y z ≡ Less) ys z r.0 n) in absurd (apart cmp total z z l l)
      back z n (inr m) = m

  pub one : (P : A → Type 0) (xs ys : List A) → Exactly cmp P xs → Exactly cmp P ys → xs ≡ ys
  one P xs ys a b = same_lists xs ys a.0 b.0 (λ x n. in_of ys x ((b.1 x).1 ((a.1 x).0 (of_in xs x n)))) (λ x n. in_of xs x ((a.1 x).1 ((b.1 x).0 (of_in ys x n))))

-- with the same memories the rows are the same
rows_one : {A : Type 0} (cmp : A → A → Ordering) → IsTotalOrder cmp → (P : List (StateId × ℕ) → A → Type 0) (ms ns : List (StateId × ℕ)) (xs ys : List A) → ms ≡ ns
    → Exactly cmp (P ms) xs → Exactly cmp (P ns) ys → xs ≡ ys
rows_one cmp total P ms ns xs ys e a b = one cmp total (P ns) xs ys (subst (λ m. Exactly cmp (P m) xs) e a) b

pub lazy_is_one : (g : Game) (s t : Table) → IsLazyTable g s → IsLazyTable g t → s ≡ t
lazy_is_one g s t a b =
    let e : s.mems ≡ t.mems = one mem_cmp mem_total (IsMemory g) s.mems t.mems a.mems b.mems in
    let i : s.start.0 ≡ t.start.0 =
    number_is t.mems s.start.0 g.states.start (all_states g) b.mems.0 (subst (λ m. Means m s.start.0 g.states.start (all_states g)) e a.start)
    ∙ sym (number_is t.mems t.start.0 g.states.start (all_states g) b.mems.0 b.start) in
    whole s t (a.states ∙ sym b.states) (ap (λ (n : ℕ). record { 0 = n }) i) e
    (rows_one live_cmp live_total (IsLiveRow g) s.mems t.mems s.live t.live e a.live b.live)
    (rows_one try_cmp try_total (IsTryRow g) s.mems t.mems s.tries t.tries e a.tries b.tries)
    (rows_one at_cmp at_total (IsLabelRow g) s.mems t.mems s.ats t.ats e a.ats b.ats)
    (rows_one open_cmp open_total (IsOpenRow g) s.mems t.mems s.opened t.opened e a.opened b.opened)
    (rows_one at_cmp at_total (IsCloseRow g) s.mems t.mems s.closed t.closed e a.closed b.closed)
    (rows_one into_cmp into_total (IsIntoRow g) s.mems t.mems s.into t.into e a.into b.into)
    (rows_one back_cmp back_total (IsBackRow g) s.mems t.mems s.back t.back e a.back b.back)
  where
    whole : (s t : Table) → s.states ≡ t.states → s.start ≡ t.start → s.mems ≡ t.mems → s.live ≡ t.live → s.tries ≡ t.tries → s.ats ≡ t.ats → s.opened ≡ t.opened → s.closed ≡ t.closed
        → s.into ≡ t.into → s.back ≡ t.back → s ≡ t
    whole s t e1 e2 e3 e4 e5 e6 e7 e8 e9 e10 =
        ap₂ (λ x y. table_with x y s.mems s.live s.tries s.ats s.opened s.closed s.into s.back) e1 e2
        ∙ ap₂ (λ x y. table_with t.states t.start x y s.tries s.ats s.opened s.closed s.into s.back) e3 e4
        ∙ ap₂ (λ x y. table_with t.states t.start t.mems t.live x y s.opened s.closed s.into s.back) e5 e6
        ∙ ap₂ (λ x y. table_with t.states t.start t.mems t.live t.tries t.ats x y s.into s.back) e7 e8
        ∙ ap₂ (λ x y. table_with t.states t.start t.mems t.live t.tries t.ats t.opened t.closed x y) e9 e10

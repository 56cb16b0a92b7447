-- A game has one table, but for its moves.
use Rattle.std.proofs.Common.{◌≡◌, ℕ, zero, suc, ◌+◌, List, [], ◌∷◌, map, Option, Some, None, refl, sym, ap, ◌∙◌, subst, arith, ◌⊎◌, inl, inr}
use Rattle.std.specs.Prelude.{slice_get}
use Rattle.std.proofs.lemmas.Option.{none-some, same_Some}
use Rattle.cw_game.specs.Games.{Game}
use Rattle.cw_audit_table.specs.Runs.{skipped, cut, IsEntered, IsWithin, IsCutLeast, IsShortest}
use Rattle.cw_audit_table.specs.Tables.{PlainRow, PlainGroup, Audit, group_at, inside_at}
use Rattle.cw_audit_table.specs.Conditions.{key_of, pair_of, IsGoodAudit, EndAlone}
use Rattle.cw_audit_table.specs.Stated.{IsKeptBy, IsStated}
use Rattle.cw_audit_table.proofs.Closing.{group_found, row_found, parts, entry_row}
use Rattle.cw_audit_search.specs.Counted.{HasRow}
use Rattle.cw_audit_search.specs.Ordered.{AscendAfter}
use Rattle.cw_audit_search.proofs.Ascending.{After, all_after, group_there, row_there}
use Rattle.cw_audit_search.proofs.Counting.{ranges_ascend}

abbrev IsIn : {X : Type 0} → List X → X → Type 0
IsIn xs x = (i : ℕ) × (slice_get xs i ≡ Some x)

-- Lists that ascend by a key and have the same members are the same.
module _ {X : Type 0} (key : X → ℕ × ℕ) where
  not_both_after : (x y : X) → After (key x) (key y) → After (key y) (key x) → ⊥
  not_both_after x y h k = elim h [
    | inl a ↦ elim k [ inl b ↦ omega (arith, a, b) | inr b ↦ let e = b.0 in omega (arith, a, e) ]
    | inr a ↦ let e = a.0 in let l = a.1 in elim k [ inl b ↦ omega (arith, b, e) | inr b ↦ let m = b.1 in omega (arith, l, m) ]
  ]

  not_itself : (x y : X) → x ≡ y → After (key x) (key y) → ⊥
  not_itself x y e h = let k = subst (λ z. After (key x) (key z)) (sym e) h in not_both_after x x k k

  -- in a list with a first, either the first or behind it
  first_or : (y : X) (ys : List X) (x : X) → IsIn (y ∷ ys) x → (y ≡ x) ⊎ IsIn ys x
  first_or y ys x (zero, e) = inl (same_Some y x e)
  first_or y ys x (suc i, e) = inr (i, e)

  heads_same : (x y : X) (xs ys : List X) → AscendAfter (Some (key x)) (map key xs) → AscendAfter (Some (key y)) (map key ys) → IsIn (y ∷ ys) x → IsIn (x ∷ xs) y → x ≡ y
  heads_same x y xs ys hx hy inx iny = elim (first_or y ys x inx) [
    | inl e ↦ sym e
    | inr k ↦ elim (first_or x xs y iny) [
      | inl e ↦ e
      | inr l ↦ absurd (not_both_after y x (all_after key (key y) ys hy k.0 x k.1) (all_after key (key x) xs hx l.0 y l.1))
    ]
  ]

  rest_in : (x y : X) (xs ys : List X) → x ≡ y → AscendAfter (Some (key x)) (map key xs) → ((z : X) → IsIn (x ∷ xs) z → IsIn (y ∷ ys) z) → (z : X) → IsIn xs z → IsIn ys z
  rest_in x y xs ys e hx h z k = elim (first_or y ys z (h z (suc k.0, k.1))) [
    | inl same ↦ absurd (not_itself x z (e ∙ same) (all_after key (key x) xs hx k.0 z k.1))
    | inr l ↦ l
  ]

  same_lists : (xs ys : List X) (a b : Option (ℕ × ℕ)) → AscendAfter a (map key xs) → AscendAfter b (map key ys) → ((z : X) → IsIn xs z → IsIn ys z)
      → ((z : X) → IsIn ys z → IsIn xs z) → xs ≡ ys
  same_lists [] [] a b hx hy f h = refl
  same_lists [] (y ∷ ys) a b hx hy f h = let k = h y (0, refl) in absurd (none-some y k.1)
  same_lists (x ∷ xs) [] a b hx hy f h = let k = f x (0, refl) in absurd (none-some x k.1)
  same_lists (x ∷ xs) (y ∷ ys) a b hx hy f h =
      let e = heads_same x y xs ys hx.1 hy.1 (f x (0, refl)) (h y (0, refl)) in
      let rest = same_lists xs ys (Some (key x)) (Some (key y)) hx.1 hy.1 (rest_in x y xs ys e hx.1 f) (rest_in y x ys xs (sym e) hy.1 h) in
      λ i. e i ∷ rest i

-- The least number, cut, is one.
cut_least_one : (P : ℕ → Type 0) (v w : ℕ) → IsCutLeast P v → IsCutLeast P w → v ≡ w
cut_least_one P v w h k =
    let hv = h.0 in
    let kw = k.0 in
    let a = k.1 hv.0 hv.1 in
    let b = h.1 kw.0 kw.1 in
    let c = hv.2 in
    let d = kw.2 in
    omega (arith, a, b, c, d)

distance_one : (g : Game) (D E : Option ℕ) → IsShortest g D → IsShortest g E → D ≡ E
distance_one g None None h k = refl
distance_one g None (Some T) h k = absurd (h T k.0)
distance_one g (Some T) None h k = absurd (k T h.0)
distance_one g (Some T) (Some U) h k = ap (λ n. Some n) (let a = h.1 U k.0 in let b = k.1 T h.0 in omega (arith, a, b))

module _ (g : Game) (functions : ℕ) (alone : EndAlone g functions) where
  record IsTable (t : Audit) : Type 0 where
    pub good : IsGoodAudit g functions t
    pub stated : IsStated g t

  ascend : (t : Audit) → IsTable t → AscendAfter None (map key_of t.groups) × ((i : ℕ) (grp : PlainGroup) → slice_get t.groups i ≡ Some grp → AscendAfter None (map pair_of grp.rows))
  ascend t h = ranges_ascend g functions 0 None t.groups (parts g functions t h.good).ranges

  module _ (t u : Audit) (ht : IsTable t) (hu : IsTable u) where
    kept_uncut : (D : Option ℕ) (r a n m : ℕ) → r ≡ cut n → a ≡ cut m → IsKeptBy D (r + a) → IsKeptBy D (n + m)
    kept_uncut None r a n m er ea k = tt
    kept_uncut (Some T) r a n m er ea k = λ few. let l = k few in omega (arith, l, er, ea, few)

    -- a row of the one is one of the other
    row_too : t.distance ≡ u.distance → (f q p x : ℕ) → HasRow t f q p x → HasRow u f q p x
    row_too same f q p x h =
        let e = (ht.stated.reached f q h.0 h.1).0 in
        let w = (ht.stated.within f q p x h.2.0 h.0 h.1 h.2.1).0 in
        let k = kept_uncut t.distance h.0.reach h.2.0 e.0 w.0 e.2 w.2 (ht.stated.kept f q p x h.2.0 h.0 h.1 h.2.1) in
        hu.stated.whole f q p x e.0 w.0 e.1 w.1 (subst (λ D. IsKeptBy D (e.0 + w.0)) same k)

    -- the rows of the same group
    rows_in : t.distance ≡ u.distance → (f q : ℕ) (x y : PlainGroup) → group_at t.groups f q ≡ Some x → group_at u.groups f q ≡ Some y → (r : PlainRow) → IsIn x.rows r
        → IsIn y.rows r
    rows_in same f q x y ex ey r i =
        let zx = group_found t.groups f q x ex in
        let at = row_there x.rows i.0 r r.pos r.state ((ascend t ht).1 zx.2.0 x zx.2.1) i.1 refl refl in
        let h = row_too same f q r.pos r.state (x, ex, (r.inside, at)) in
        let is : inside_at y.rows r.pos r.state ≡ Some h.2.0 = subst (λ (z : PlainGroup). inside_at z.rows r.pos r.state ≡ Some h.2.0) (same_Some h.0 y (sym h.1 ∙ ey)) h.2.1 in
        let number = cut_least_one (IsWithin g f q r.pos r.state) h.2.0 r.inside (hu.stated.within f q r.pos r.state h.2.0 y ey is) (ht.stated.within f q r.pos r.state r.inside x ex at) in
        let w = row_found y.rows r.pos r.state h.2.0 is in
        let row : w.0 ≡ r = λ i. record { pos = w.1 i; state = w.2 i; inside = (w.3 ∙ number) i } in
        (w.4.0, w.4.1 ∙ ap (λ z. Some z) row)

module _ (g : Game) (functions : ℕ) (alone : EndAlone g functions) (t u : Audit) (ht : IsTable g functions alone t) (hu : IsTable g functions alone u) (same : t.distance ≡ u.distance) where
  -- a group of the one is one of the other
  group_too : (x : PlainGroup) → IsIn t.groups x → IsIn u.groups x
  group_too x i =
      let here = group_there t.groups i.0 x x.function x.entered (ascend g functions alone t ht).0 i.1 refl refl in
      let w = entry_row g functions t alone ht.good x.function x.entered x here in
      let h = row_too g functions alone t u ht hu same x.function x.entered (skipped g (g.entry x.function)) x.entered (w.group, w.there, (0, w.inside)) in
      let y = h.0 in
      let zx = group_found t.groups x.function x.entered x here in
      let zy = group_found u.groups x.function x.entered y h.1 in
      let reach = cut_least_one (IsEntered g x.function x.entered) y.reach x.reach (hu.stated.reached x.function x.entered y h.1) (ht.stated.reached x.function x.entered x here) in
      let rows = same_lists pair_of y.rows x.rows None None ((ascend g functions alone u hu).1 zy.2.0 y zy.2.1) ((ascend g functions alone t ht).1 zx.2.0 x zx.2.1)
      (rows_in g functions alone u t hu ht (sym same) x.function x.entered y x h.1 here) (rows_in g functions alone t u ht hu same x.function x.entered x y here h.1) in
      let group : y ≡ x = λ i. record { function = zy.0 i; entered = zy.1 i; reach = reach i; rows = rows i } in
      (zy.2.0, zy.2.1 ∙ ap (λ z. Some z) group)

pub tables_one : (g : Game) (functions : ℕ) (t u : Audit) → EndAlone g functions → IsGoodAudit g functions t → IsStated g t → IsGoodAudit g functions u → IsStated g u
    → (t.states ≡ u.states) × (t.distance ≡ u.distance) × (t.groups ≡ u.groups)
tables_one g functions t u alone gt st gu su =
    let ht : IsTable g functions alone t = record { good = gt; stated = st } in
    let hu : IsTable g functions alone u = record { good = gu; stated = su } in
    let same = distance_one g t.distance u.distance st.verdict su.verdict in (
      st.states ∙ sym su.states,
      same,
      same_lists key_of t.groups u.groups None None (ascend g functions alone t ht).0 (ascend g functions alone u hu).0 (group_too g functions alone t u ht hu same)
          (group_too g functions alone u t hu ht (sym same)),
    )

-- How many rows a lazy table has.
use Rattle.std.proofs.Common.{◌≡◌, inl, inr, ℕ, suc, ◌<◌, ◌≤◌, List, [], ◌∷◌, Bool, cond, Some, length, nat_eq, refl, sym, ap, ap₂, ◌∙◌, subst, arith}
use Rattle.std.specs.Prelude.{slice_get}
use Rattle.std.specs.List.{AllByRecursion}
use Rattle.std.specs.List.Sorted.{IsStrictlySortedBy}
use Rattle.std.specs.Cmp.{IsTotalOrder, tied_itself}
use Rattle.std.specs.declared.cmp.Ordering.{Ordering}
use Rattle.std.specs.declared.cmp.Ordering.TheVariants.{Less, Equal}
use Rattle.std.proofs.lemmas.Cmp.{nat_cmp_total, on_total, then_total}
use Rattle.std.proofs.lemmas.Option.{same_Some}
use Rattle.cw_core.specs.declared.ids.StateId.{StateId}
use Rattle.cw_core.specs.declared.ids.MemId.{MemId}
use Rattle.cw_core.specs.declared.ids.PosId.{PosId}
use Rattle.cw_certs.specs.declared.rows.BackRow.{BackRow}
use Rattle.cw_certs.specs.Ascending.{mem_cmp}
use Rattle.cw_certs.specs.Tables.{Table}
use Rattle.cw_fixpoint.specs.Closures.{Exactly}
use Rattle.cw_game.specs.Games.{Game}
use Rattle.cw_game.specs.Pairs.{Called, call_in}
use Rattle.cw_joins.specs.Members.{HaveMore, IsPair, pair_cmp}
use Rattle.cw_solve.specs.Low.{HeightsAreLow}
use Rattle.cw_lazy_table.specs.declared.key.Key.{Key}
use Rattle.cw_lazy_table.specs.declared.seam_key.SeamKey.{SeamKey}
use Rattle.cw_lazy_table.specs.Choices.{set_in, choices, start_of}
use Rattle.cw_lazy_table.specs.Laws.{CanBegin}
use Rattle.cw_lazy_table.specs.Lazy.{state_id, IsMemory, IsLazyTable, table_rows}
use Rattle.cw_lazy_table.specs.Live.{IsLive}
use Rattle.cw_lazy_table.specs.SeamKeys.{key_cmp, key_of, IsReturn}
use Rattle.cw_lazy_table.specs.Rowing.{Memories, number, live_row, back_row}
use Rattle.cw_lazy_table.proofs.Finding.{In, in_of, of_in}
use Rattle.cw_lazy_table.proofs.Listing.{call_one}
use Rattle.cw_lazy_table.proofs.Placing.{call_there, split_is}
use Rattle.cw_lazy_table.proofs.Returning.{return_at, alive, pair_return}
use Rattle.cw_lazy_table.proofs.Rowing.{meant, live_to, back_to}

module _ {B : Type 0} where
  abbrev Without : List B → B → Type 0
  Without ys y = (zs : List B) × (length ys ≡ suc (length zs)) × ((z : B) → In ys z → (z ≡ y → ⊥) → In zs z)

  take_out : (ys : List B) (y : B) → In ys y → Without ys y
  take_out [] y n = absurd n
  take_out (x ∷ ys) y (inl e) = (ys, refl, left)
    where
      left : (z : B) → In (x ∷ ys) z → (z ≡ y → ⊥) → In ys z
      left z (inl i) d = absurd (d (sym i ∙ e))
      left z (inr m) d = m
  take_out (x ∷ ys) y (inr n) = more (take_out ys y n)
    where
      more : Without ys y → Without (x ∷ ys) y
      more k = (x ∷ k.0, ap suc k.1, left)
        where
          left : (z : B) → In (x ∷ ys) z → (z ≡ y → ⊥) → In (x ∷ k.0) z
          left z (inl i) d = inl i
          left z (inr m) d = inr (k.2 z m d)

module _ {A B : Type 0} (cmp : A → A → Ordering) (total : IsTotalOrder cmp) (f : A → B) (P : A → Type 0) (one : (a b : A) → P a → P b → f a ≡ f b → a ≡ b) where
  later : (x : A) (xs : List A) (a : A) → AllByRecursion (λ z. cmp x z ≡ Less) xs → In xs a → cmp x a ≡ Less
  later x [] a s n = absurd n
  later x (y ∷ ys) a s (inl e) = subst (λ z. cmp x z ≡ Less) e s.0
  later x (y ∷ ys) a s (inr n) = later x ys a s.1 n

  -- an ascending list is no longer than one that has another image of each
  pub no_more : (xs : List A) → IsStrictlySortedBy cmp xs → ((a : A) → In xs a → P a) → (ys : List B) → ((a : A) → In xs a → In ys (f a)) → length xs ≤ length ys
  unfolding IsStrictlySortedBy
  no_more [] s h ys into = omega arith
  no_more (x ∷ xs) s h ys into =
      let k = take_out ys (f x) (into x (inl refl)) in
      let rest = no_more xs s.1 (λ a n. h a (inr n)) k.0
      (λ a n. k.2 (f a) (into a (inr n))
      (λ e.
      let same : a ≡ x = one a x (h a (inr n)) (h x (inl refl)) e in
      let w : Less ≡ Equal = sym (later x xs a s.0 n) ∙ ap (cmp x) same ∙ tied_itself total x in
      cc)) in
      let long = k.1 in
      omega (arith, rest, long)

pub key_total : IsTotalOrder key_cmp
key_total = then_total (on_total (λ (k : Key). k.pos) nat_cmp_total) (then_total (on_total (λ (k : Key). k.state) nat_cmp_total) (on_total (λ (k : Key). k.promise) nat_cmp_total))

pub pair_total : IsTotalOrder (pair_cmp key_cmp)
pair_total = then_total (on_total (λ (x : Key × Key). x.0) key_total) (on_total (λ (x : Key × Key). x.1) key_total)

same_key : (p q e r x y : ℕ) → p ≡ r → q ≡ x → e ≡ y → ◌≡◌ {A = Key} (record { pos = p; state = q; promise = e }) (record { pos = r; state = x; promise = y })
same_key p q e r x y a b c = cc

module _ (g : Game) (functions : ℕ) (can : CanBegin g functions) (low : HeightsAreLow g) (ms : Memories) (are : Exactly mem_cmp (IsMemory g) ms) where
  -- one number, one memory
  same_memory : (p q e r x y : ℕ) → IsLive g p q e → IsLive g r x y → number ms q e ≡ number ms x y → (q ≡ x) × (e ≡ y)
  same_memory p q e r x y a b n =
      let z = same_Some (state_id q, e) (state_id x, y) (sym (meant g functions can low ms are p q e a) ∙ ap (slice_get ms) n ∙ meant g functions can low ms are r x y b) in
      (ap (λ (r : StateId × ℕ). r.0.0) z, ap (λ (r : StateId × ℕ). r.1) z)

  live_one : (a b : Key) → IsLive g a.pos a.state a.promise → IsLive g b.pos b.state b.promise → live_row ms a ≡ live_row ms b → a ≡ b
  live_one a b la lb e =
      let m = same_memory a.pos a.state a.promise b.pos b.state b.promise la lb (ap (λ (r : PosId × MemId). r.1.0) e) in
      same_key a.pos a.state a.promise b.pos b.state b.promise (ap (λ (r : PosId × MemId). r.0.0) e) m.0 m.1

  back_one : (x y : SeamKey × Key) → IsReturn g x → IsReturn g y → back_row g ms x ≡ back_row g ms y → (key_of x.0 ≡ key_of y.0) × (x.1 ≡ y.1)
  back_one x y a b e = (
    same_key x.0.pos x.0.state x.0.promise y.0.pos y.0.state y.0.promise same_pos m.0 m.1,
    same_key x.1.pos x.1.state x.1.promise y.1.pos y.1.state y.1.promise
        (a.pos ∙ ap (λ (f : Called). g.exit f.function) call ∙ sym b.pos)
        (ap (λ (r : BackRow). r.exit.0) e)
        (a.promise ∙ ap (λ (z : Key). set_in g z.pos z.state z.promise) (same_key x.0.pos x.0.state x.0.promise y.0.pos y.0.state y.0.promise same_pos m.0 m.1) ∙ sym b.promise),
  )
    where
      same_part : (s t : Bool) (i j : ℕ) → i ≡ cond s 1 0 → j ≡ cond t 1 0 → nat_eq i 1 ≡ nat_eq j 1 → i ≡ j
      same_part s t i j p q n = p ∙ ap (λ (b : Bool). cond b 1 0) (sym (ap (λ (i : ℕ). nat_eq i 1) p ∙ split_is s) ∙ n ∙ (ap (λ (i : ℕ). nat_eq i 1) q ∙ split_is t)) ∙ sym q

      s : (c : Called) × (call_in (slice_get g.spots x.0.pos) ≡ Some c) × (c.seam ≡ x.0.seam) × (x.0.part ≡ cond c.split 1 0)
      s = call_there (slice_get g.spots x.0.pos) x.0.seam x.0.part a.seam_key.at

      t : (c : Called) × (call_in (slice_get g.spots y.0.pos) ≡ Some c) × (c.seam ≡ y.0.seam) × (y.0.part ≡ cond c.split 1 0)
      t = call_there (slice_get g.spots y.0.pos) y.0.seam y.0.part b.seam_key.at

      same_pos : x.0.pos ≡ y.0.pos
      same_pos = call_one g functions can x.0 y.0 a.seam_key b.seam_key (ap (λ (r : BackRow). r.seam.0) e) (same_part s.0.split t.0.split x.0.part y.0.part s.3 t.3 (ap (λ (r : BackRow). r.split) e))

      m : (x.0.state ≡ y.0.state) × (x.0.promise ≡ y.0.promise)
      m = same_memory x.0.pos x.0.state x.0.promise y.0.pos y.0.state y.0.promise a.seam_key.live b.seam_key.live (ap (λ (r : BackRow). r.mem.0) e)

      call : a.call ≡ b.call
      call = same_Some a.call b.call (sym a.is_call ∙ ap (λ (p : ℕ). call_in (slice_get g.spots p)) same_pos ∙ b.is_call)

-- where members and pairs are too many each lazy table has too many rows
pub many_members : (g : Game) (functions : ℕ) → CanBegin g functions → HeightsAreLow g → (n : ℕ) → HaveMore key_cmp (choices g) (start_of g) n → (t : Table) → IsLazyTable g t → n < table_rows t
many_members g functions can low n more t lazy =
    let live = no_more key_cmp key_total (live_row t.mems) (λ (k : Key). IsLive g k.pos k.state k.promise) (live_one g functions can low t.mems lazy.mems)
    more.members more.ascend (λ a i. alive g functions can low a (more.are a (of_in more.members a i))) t.live
    (λ a i. in_of t.live (live_row t.mems a) ((lazy.live.1 (live_row t.mems a)).1
    (live_to g functions can low t.mems lazy.mems a (alive g functions can low a (more.are a (of_in more.members a i)))))) in
    let back = no_more (pair_cmp key_cmp) pair_total (λ ab. back_row g t.mems (return_at g ab)) (λ ab. IsPair (choices g) (start_of g) ab)
    (λ ab cd p q e.
    let k = back_one g functions can low t.mems lazy.mems (return_at g ab) (return_at g cd) (pair_return g functions can low ab p) (pair_return g functions can low cd q) e in
    ap₂ (λ (a b : Key). (a, b)) k.0 k.1)
    more.pairs more.rise (λ ab i. more.meet ab (of_in more.pairs ab i)) t.back
    (λ ab i. in_of t.back (back_row g t.mems (return_at g ab)) ((lazy.back.1 (back_row g t.mems (return_at g ab))).1
    (back_to g functions can low t.mems lazy.mems (return_at g ab) (pair_return g functions can low ab (more.meet ab (of_in more.pairs ab i)))))) in
    let many = more.more in
    omega (arith, live, back, many)

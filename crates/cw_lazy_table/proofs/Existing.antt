-- A game in which the lazy table can begin has one: what is live is within a finite set, and each list is put together of what is live.
use Rattle.std.proofs.Common.{◌≡◌, ℕ, ◌^◌, ◌<◌, List, [], ◌∷◌, ◌++◌, Bool, true, false, cond, ◌&&◌, Option, Some, None, map, filter_map, length, nat_eq, refl, sym, ap, ap₂, ◌∙◌, subst, inl, inr, arith, eq-eqb, eqb-true}
use Rattle.std.specs.List.{Contains, flat_map}
use Rattle.std.specs.Cmp.{IsTotalOrder}
use Rattle.std.specs.FinMap.{IsAntisymmetric, nat_cmp-IsAntisymmetric}
use Rattle.std.specs.Ordering.{nat_cmp, ordering_then}
use Rattle.std.specs.declared.cmp.Ordering.TheVariants.{Equal}
use Rattle.std.proofs.lemmas.Bool.{and_parts}
use Rattle.std.proofs.lemmas.Cmp.{nat_cmp_total, on_total, then_total}
use Rattle.std.proofs.lemmas.List.Elements.{Contains-append_left, Contains-append_right, Contains-append_cases}
use Rattle.cw_lemmas.proofs.Lists.{contains_none, contains_one, contains_map, head_in}
use Rattle.cw_lemmas.proofs.Orders.{then_equal}
use Rattle.cw_certs.specs.Ascending.{mem_cmp}
use Rattle.cw_certs.specs.Tables.{Table, table_with}
use Rattle.cw_certs.proofs.Orders.{mem_total}
use Rattle.cw_fixpoint.specs.Closures.{Exactly}
use Rattle.cw_joins.specs.Members.{Rules, IsMember, first, then, joins, IsPair, pair_cmp}
use Rattle.cw_fixpoint.proofs.Existing.{in_order, closed_in, in_flat, of_flat, numbers, in_numbers}
use Rattle.cw_game.specs.Games.{Game}
use Rattle.cw_game.specs.Pairs.{all_states}
use Rattle.cw_solve.specs.Contexts.{context}
use Rattle.cw_solve.specs.Low.{HeightsAreLow}
use Rattle.cw_solve.proofs.Few.{there as context_below}
use Rattle.cw_solve.proofs.Tabling.{there}
use Rattle.cw_lazy_table.specs.declared.key.Key.{Key}
use Rattle.cw_lazy_table.specs.Kinds.{SpotKind}
use Rattle.cw_lazy_table.specs.Kinds as kind
use Rattle.cw_lazy_table.specs.declared.seam_key.SeamKey.{SeamKey}
use Rattle.cw_lazy_table.specs.Choices.{lost_in, set_in, choices, start_of}
use Rattle.cw_lazy_table.specs.Closing.{key}
use Rattle.cw_lazy_table.specs.Laws.{CanBegin}
use Rattle.cw_lazy_table.specs.Lazy.{IsLazyTable}
use Rattle.cw_lazy_table.specs.Live.{IsLive, begins}
use Rattle.cw_lazy_table.specs.SeamKeys.{key_cmp, seam_key_cmp, seam_key_of, memory_of, return_cmp, return_of}
use Rattle.cw_lazy_table.specs.Rowing.{mem, live_row, try_row, at_row, open_row, into_row, back_row}
use Rattle.cw_lazy_table.proofs.Choosing.{safe_at}
use Rattle.cw_lazy_table.proofs.Counting.{key_total, pair_total}
use Rattle.cw_lazy_table.proofs.Listing.{seam_key_exact, seam_keys_exactly, memories_exactly, tries_exactly, labels_exactly, opened_exactly, closed_exactly, into_exactly, back_exactly, live_exactly}
use Rattle.cw_lazy_table.proofs.Returning.{alive, listed, returns_exactly}
use Rattle.cw_lazy_table.proofs.Rowing.{meant}

-- ---- one element, or none

one_if : {A : Type 0} (b : Bool) (x y : A) → Contains (cond b (x ∷ []) []) y → (b ≡ true) × (x ≡ y)
one_if true x y h = (refl, contains_one x y h)
one_if false x y h = absurd (contains_none y h)

if_one : {A : Type 0} (b : Bool) (x : A) → b ≡ true → Contains (cond b (x ∷ []) []) x
if_one true x e = head_in x []
if_one false x e = cc

-- ---- a group that one waits for and one ends

meets : Option (ℕ × ℕ) → Option (ℕ × ℕ) → Bool
meets (Some a) (Some b) = nat_eq a.0 b.0 && nat_eq a.1 b.1
meets _ _ = false

they_meet : (a b : Option (ℕ × ℕ)) → meets a b ≡ true → (x : ℕ × ℕ) × (a ≡ Some x) × (b ≡ Some x)
unfolding meets
they_meet (Some a) (Some b) e =
    let p = and_parts (nat_eq a.0 b.0) (nat_eq a.1 b.1) e in
    let same : b ≡ a = ap₂ (λ (x y : ℕ). (x, y)) (sym (eqb-true a.0 b.0 p.0)) (sym (eqb-true a.1 b.1 p.1)) in
    (a, refl, ap Some same)
they_meet None b e = cc
they_meet (Some a) None e = cc

do_meet : (x : ℕ × ℕ) (a b : Option (ℕ × ℕ)) → a ≡ Some x → b ≡ Some x → meets a b ≡ true
unfolding meets
do_meet x a b e f = ap₂ meets e f ∙ ap₂ (λ (p q : Bool). p && q) (eq-eqb x.0 x.0 refl) (eq-eqb x.1 x.1 refl)

module _ (r : Rules Key (ℕ × ℕ)) where
  joined : List Key → List Key
  joined xs = flat_map (λ a. flat_map (λ b. cond (meets (r.waits a) (r.ends b)) (r.join a b ∷ []) []) xs) xs

  next : List Key → List Key
  next xs = flat_map r.after xs ++ joined xs

  paired : List Key → List (Key × Key)
  paired xs = flat_map (λ a. flat_map (λ b. cond (meets (r.waits a) (r.ends b)) ((a, b) ∷ []) []) xs) xs

  module _ (start : Key) where
    sound : (xs : List Key) → ((x : Key) → Contains xs x → IsMember r start x) → (y : Key) → Contains (next xs) y → IsMember r start y
    unfolding next joined
    sound xs are y h = elim (Contains-append_cases (flat_map r.after xs) (joined xs) y h) [
      | inl c ↦ let k = of_flat r.after xs y c in then k.0 y (are k.0 k.1) k.2
      | inr c ↦
          let k = of_flat (λ a. flat_map (λ b. cond (meets (r.waits a) (r.ends b)) (r.join a b ∷ []) []) xs) xs y c in
          let m = of_flat (λ b. cond (meets (r.waits k.0) (r.ends b)) (r.join k.0 b ∷ []) []) xs y k.2 in
          let o = one_if (meets (r.waits k.0) (r.ends m.0)) (r.join k.0 m.0) y m.2 in
          let g = they_meet (r.waits k.0) (r.ends m.0) o.0 in
          subst (IsMember r start) o.1 (joins k.0 m.0 g.0 (are k.0 k.1) (are m.0 m.1) g.1 g.2)
    ]

    all_in : (ys : List Key) → Contains ys start → ((x : Key) → Contains (next ys) x → Contains ys x) → (k : Key) → IsMember r start k → Contains ys k
    unfolding next joined
    all_in ys has closed _ first = has
    all_in ys has closed _ (then a b m c) =
        closed b (Contains-append_left (flat_map r.after ys) (joined ys) b (in_flat r.after ys a b (all_in ys has closed a m) c))
    all_in ys has closed _ (joins a b g m n e f) =
        closed (r.join a b) (Contains-append_right (flat_map r.after ys) (joined ys) (r.join a b)
        (in_flat (λ a. flat_map (λ b. cond (meets (r.waits a) (r.ends b)) (r.join a b ∷ []) []) ys) ys a (r.join a b) (all_in ys has closed a m)
        (in_flat (λ b. cond (meets (r.waits a) (r.ends b)) (r.join a b ∷ []) []) ys b (r.join a b) (all_in ys has closed b n)
        (if_one (meets (r.waits a) (r.ends b)) (r.join a b) (do_meet g (r.waits a) (r.ends b) e f)))))

    pairs_are : (ys : List Key) → ((x : Key) → (Contains ys x → IsMember r start x) × (IsMember r start x → Contains ys x))
        → (ab : Key × Key) → (Contains (paired ys) ab → IsPair r start ab) × (IsPair r start ab → Contains (paired ys) ab)
    unfolding paired
    pairs_are ys are ab = (
      λ h.
          let k = of_flat (λ a. flat_map (λ b. cond (meets (r.waits a) (r.ends b)) ((a, b) ∷ []) []) ys) ys ab h in
          let m = of_flat (λ b. cond (meets (r.waits k.0) (r.ends b)) ((k.0, b) ∷ []) []) ys ab k.2 in
          let o = one_if (meets (r.waits k.0) (r.ends m.0)) (k.0, m.0) ab m.2 in
          let g = they_meet (r.waits k.0) (r.ends m.0) o.0 in
          subst (IsPair r start) o.1 (record { waiting = (are k.0).0 k.1; ending = (are m.0).0 m.1; met = g }),
      λ p.
          in_flat (λ a. flat_map (λ b. cond (meets (r.waits a) (r.ends b)) ((a, b) ∷ []) []) ys) ys ab.0 ab ((are ab.0).1 p.waiting)
          (in_flat (λ b. cond (meets (r.waits ab.0) (r.ends b)) ((ab.0, b) ∷ []) []) ys ab.1 ab ((are ab.1).1 p.ending)
          (if_one (meets (r.waits ab.0) (r.ends ab.1)) (ab.0, ab.1) (do_meet p.met.0 (r.waits ab.0) (r.ends ab.1) p.met.1 p.met.2))),
    )

-- ---- orders

seam_key_total : IsTotalOrder seam_key_cmp
seam_key_total =
    then_total (on_total (λ (x : SeamKey). x.seam) nat_cmp_total) (then_total (on_total (λ (x : SeamKey). x.part) nat_cmp_total)
    (then_total (on_total (λ (x : SeamKey). x.state) nat_cmp_total) (then_total (on_total (λ (x : SeamKey). x.promise) nat_cmp_total) (on_total (λ (x : SeamKey). x.pos) nat_cmp_total))))

return_total : IsTotalOrder return_cmp
return_total = then_total (on_total (λ (x : SeamKey × Key). x.0) seam_key_total) (on_total (λ (x : SeamKey × Key). x.1) key_total)

key_exact : IsAntisymmetric key_cmp
key_exact x y e =
    let a = then_equal (nat_cmp x.pos y.pos) (ordering_then (nat_cmp x.state y.state) (nat_cmp x.promise y.promise)) e in
    let b = then_equal (nat_cmp x.state y.state) (nat_cmp x.promise y.promise) a.1 in
    let p = nat_cmp-IsAntisymmetric x.pos y.pos a.0 in
    let q = nat_cmp-IsAntisymmetric x.state y.state b.0 in
    let s = nat_cmp-IsAntisymmetric x.promise y.promise b.1 in
    ap₂ (λ (m : ℕ × ℕ) (n : ℕ). key m.0 m.1 n) (ap₂ (λ (m n : ℕ). (m, n)) p q) s

both_exact : {A B : Type 0} (c : A → A → _) (d : B → B → _) → IsAntisymmetric c → IsAntisymmetric d → (x y : A × B) → ordering_then (c x.0 y.0) (d x.1 y.1) ≡ Equal → x ≡ y
both_exact c d f g x y e = let a = then_equal (c x.0 y.0) (d x.1 y.1) e in ap₂ (λ p q. (p, q)) (f x.0 y.0 a.0) (g x.1 y.1 a.1)

mem_exact : IsAntisymmetric mem_cmp
mem_exact x y e =
    let a = then_equal (nat_cmp x.0.0 y.0.0) (nat_cmp x.1 y.1) e in
    ap₂ (λ (m n : ℕ). (record { 0 = m }, n)) (nat_cmp-IsAntisymmetric x.0.0 y.0.0 a.0) (nat_cmp-IsAntisymmetric x.1 y.1 a.1)

-- ---- all keys

module _ (g : Game) (functions : ℕ) (can : CanBegin g functions) (low : HeightsAreLow g) where
  universe : List Key
  universe = flat_map (λ p. flat_map (λ q. map (key p q) (numbers (2 ^ g.states.count))) (numbers g.states.count)) (numbers (length g.spots))

  in_universe : (k : Key) → IsMember (choices g) (start_of g) k → Contains universe k
  unfolding universe
  in_universe k m =
      let s = safe_at g functions can k.pos k.state k.promise (alive g functions can low k m) in
      let th = there g functions can.routed (context s.function k.promise) s.needed in
      let below : k.pos < length g.spots = let a = s.of.1 in let b = th.ends in omega (arith, a, b) in
      let set = context_below g functions can.routed (context s.function k.promise) s.needed in
      in_flat (λ p. flat_map (λ q. map (key p q) (numbers (2 ^ g.states.count))) (numbers g.states.count)) (numbers (length g.spots)) k.pos k (in_numbers (length g.spots) k.pos below)
      (in_flat (λ q. map (key k.pos q) (numbers (2 ^ g.states.count))) (numbers g.states.count) k.state k (in_numbers g.states.count k.state s.state)
      (contains_map (key k.pos k.state) (numbers (2 ^ g.states.count)) k.promise (in_numbers (2 ^ g.states.count) k.promise set.1)))

  keys_there : (ys : List Key) × Exactly key_cmp (IsMember (choices g) (start_of g)) ys
  keys_there =
      let c = closed_in key_cmp key_total key_exact (IsMember (choices g) (start_of g)) (next (choices g)) (sound (choices g) (start_of g)) universe (start_of g ∷ []) in_universe
      (λ x h. subst (IsMember (choices g) (start_of g)) (contains_one (start_of g) x h) first) in
      (c.0, (c.1.order, λ k. (c.1.are k, all_in (choices g) (start_of g) c.0 (c.1.has (start_of g) (head_in (start_of g) [])) c.1.closed k)))

  pub lazy_there : (t : Table) × IsLazyTable g t
  lazy_there =
      let keys = keys_there in
      let lives : (x : Key) → (Contains keys.0 x → IsLive g x.pos x.state x.promise) × (IsLive g x.pos x.state x.promise → Contains keys.0 x) =
      λ (x : Key). ((λ c. alive g functions can low x ((keys.1.1 x).0 c)), (λ l. (keys.1.1 x).1 (listed g functions can low x.pos x.state x.promise l))) in
      let memories = in_order mem_cmp mem_total mem_exact (map memory_of keys.0) in
      let ms = memories.0 in
      let are = memories_exactly g functions can keys.0 ms lives memories.1 in
      let seam_key = λ (k : SpotKind). in_order seam_key_cmp seam_key_total seam_key_exact (filter_map (seam_key_of g k) keys.0) in
      let exactly = λ (k : SpotKind). seam_keys_exactly g functions can k keys.0 (seam_key k).0 lives (seam_key k).1 in
      let ab = in_order (pair_cmp key_cmp) pair_total (both_exact key_cmp key_cmp key_exact key_exact) (paired (choices g) keys.0) in
      let pairs : Exactly (pair_cmp key_cmp) (IsPair (choices g) (start_of g)) ab.0 = (ab.1.0, λ (x : Key × Key). ((λ c. (pairs_are (choices g) (start_of g) keys.0 keys.1.1 x).0 ((ab.1.1 x).0 c)), (λ p. (ab.1.1 x).1 ((pairs_are (choices g) (start_of g) keys.0 keys.1.1 x).1 p)))) in
      let back = in_order return_cmp return_total (both_exact seam_key_cmp key_cmp seam_key_exact key_exact) (filter_map (return_of g) ab.0) in
      let backs = returns_exactly g functions can low ab.0 back.0 pairs back.1 in (
        table_with g.states.count (mem ms g.states.start (all_states g)) ms (map (live_row ms) keys.0) (map (try_row g (lost_in g) ms) (seam_key kind.Asked).0) (map (at_row g ms) (seam_key kind.Label).0)
            (map (open_row g ms) (seam_key kind.Open).0) (map (at_row g ms) (seam_key kind.Close).0) (map (into_row (set_in g) ms) (seam_key kind.Call).0) (map (back_row g ms) back.0),
        record {
          states = refl;
          start = meant g functions can low ms are (g.entry g.main) g.states.start (all_states g) begins;
          mems = are;
          live = live_exactly g functions can ms are low keys.0 (keys.1.0, lives);
          tries = tries_exactly g functions can ms are low (seam_key kind.Asked).0 (exactly kind.Asked);
          ats = labels_exactly g functions can ms are low (seam_key kind.Label).0 (exactly kind.Label);
          opened = opened_exactly g functions can ms are low (seam_key kind.Open).0 (exactly kind.Open);
          closed = closed_exactly g functions can ms are low (seam_key kind.Close).0 (exactly kind.Close);
          into = into_exactly g functions can ms are low (seam_key kind.Call).0 (exactly kind.Call);
          back = back_exactly g functions can ms are low back.0 backs;
        },
      )

-- The rows of keys in order are the lists of the table.
use Rattle.std.proofs.Common.{◌≡◌, inl, inr, ⊎_elim, ℕ, List, [], ◌∷◌, map, filter_map, Bool, true, false, cond, Option, Some, None, option_map, nat_eq, refl, sym, ap}
use Rattle.std.proofs.Common.{ap₂, ◌∙◌, subst}
use Rattle.std.specs.Prelude.{slice_get}
use Rattle.std.specs.List.{Contains, AllByRecursion, cons_option}
use Rattle.std.specs.List.Sorted.{IsStrictlySortedBy}
use Rattle.std.specs.declared.cmp.Ordering.{Ordering}
use Rattle.std.specs.declared.cmp.Ordering.TheVariants.{Less, Equal, Greater}
use Rattle.std.specs.Ordering.{ordering_then, nat_cmp, bool_cmp}
use Rattle.std.proofs.lemmas.Option.{same_Some}
use Rattle.std.specs.FinMap.{nat_cmp-IsAntisymmetric}
use Rattle.cw_certs.specs.Ascending.{mem_cmp, live_cmp, try_cmp, at_cmp, open_cmp, into_cmp, back_cmp}
use Rattle.cw_fixpoint.specs.Closures.{Exactly}
use Rattle.cw_game.specs.declared.spots.Spot.TheVariants.{Asked, Label, Open, Close}
use Rattle.cw_game.specs.Games.{Game}
use Rattle.cw_game.specs.Pairs.{Called, call_in}
use Rattle.cw_solve.specs.Low.{HeightsAreLow}
use Rattle.cw_lazy_table.specs.declared.key.Key.{Key}
use Rattle.cw_lazy_table.specs.Kinds.{SpotKind}
use Rattle.cw_lazy_table.specs.Kinds as kind
use Rattle.cw_lazy_table.specs.declared.seam_key.SeamKey.{SeamKey}
use Rattle.cw_lazy_table.specs.Choices.{lost_in, set_in}
use Rattle.cw_lazy_table.specs.Closing.{key}
use Rattle.cw_lazy_table.specs.Laws.{CanBegin}
use Rattle.cw_lazy_table.specs.Lazy.{state_id, IsMemory, IsLiveRow, IsTryRow, IsLabelRow, IsOpenRow, IsCloseRow, IsIntoRow, IsBackRow}
use Rattle.cw_lazy_table.specs.Live.{IsLive}
use Rattle.cw_lazy_table.specs.SeamKeys.{key_cmp, seam_key_cmp, part_at, seam_key, seam_key_of, memory_of, IsSeamKey, IsReturn, return_cmp}
use Rattle.cw_lazy_table.specs.Rowing.{Memories, number, live_row, try_row, at_row, open_row, into_row, back_row}
use Rattle.cw_lemmas.proofs.Options.{option_map_some as mapped}
use Rattle.cw_lazy_table.proofs.Finding.{In, in_of, of_in, all_in}
use Rattle.cw_lazy_table.proofs.Numbers.{mem_less}
use Rattle.cw_lazy_table.proofs.Placing.{asked_there, label_there, open_there, close_there, call_there, less_first, then_equal, tied_nat, not_less_same, split_parts}
use Rattle.cw_lazy_table.proofs.Rowing.{meant, try_to, try_from, label_to, label_from, close_to, close_from, open_to, open_from, into_to, into_from, back_to, back_from, live_to, live_from}
use Rattle.cw_lemmas.proofs.Orders.{then_equal as both_equal, then_less, less_nat}

module _ {A : Type 0} where
  all_by : (P : A → Type 0) (xs : List A) → ((x : A) → In xs x → P x) → AllByRecursion P xs
  all_by P [] h = tt
  all_by P (x ∷ xs) h = (h x (inl refl), all_by P xs (λ y n. h y (inr n)))

module _ {A B : Type 0} where
  pub in_map : (f : A → B) (xs : List A) (x : A) → In xs x → In (map f xs) (f x)
  in_map f [] x n = absurd n
  in_map f (y ∷ ys) x (inl e) = inl (ap f e)
  in_map f (y ∷ ys) x (inr n) = inr (in_map f ys x n)

  pub of_map : (f : A → B) (xs : List A) (y : B) → In (map f xs) y → (x : A) × In xs x × (f x ≡ y)
  of_map f [] y n = absurd n
  of_map f (z ∷ zs) y (inl e) = (z, inl refl, e)
  of_map f (z ∷ zs) y (inr n) = let k = of_map f zs y n in (k.0, inr k.1, k.2)

  pub sorted_map : (c : A → A → Ordering) (d : B → B → Ordering) (f : A → B) (xs : List A) → ((x y : A) → In xs x → In xs y → c x y ≡ Less → d (f x) (f y) ≡ Less)
      → IsStrictlySortedBy c xs → IsStrictlySortedBy d (map f xs)
  unfolding IsStrictlySortedBy
  sorted_map c d f [] h s = tt
  sorted_map c d f (x ∷ xs) h s = (
    all_by (λ y. d (f x) y ≡ Less) (map f xs)
        (λ y n. let k = of_map f xs y n in subst (λ z. d (f x) z ≡ Less) k.2 (h x k.0 (inl refl) (inr k.1) (all_in (λ z. c x z ≡ Less) xs k.0 s.0 k.1))),
    sorted_map c d f xs (λ y z n m. h y z (inr n) (inr m)) s.1,
  )

  -- a list of rows from a list of keys
  pub rows_exactly : (c : A → A → Ordering) (d : B → B → Ordering) (Q : A → Type 0) (P : B → Type 0) (f : A → B) (xs : List A) → Exactly c Q xs
      → ((x y : A) → Q x → Q y → c x y ≡ Less → d (f x) (f y) ≡ Less) → ((x : A) → Q x → P (f x)) → ((y : B) → P y → (x : A) × Q x × (y ≡ f x)) → Exactly d P (map f xs)
  rows_exactly c d Q P f xs e order forth back = (
    sorted_map c d f xs (λ x y n m. order x y ((e.1 x).0 (of_in xs x n)) ((e.1 y).0 (of_in xs y m))) e.0,
    λ y. (
      λ i. let k = of_map f xs y (in_of (map f xs) y i) in subst P k.2 (forth k.0 ((e.1 k.0).0 (of_in xs k.0 k.1))),
      λ p. let k = back y p in of_in (map f xs) y (subst (In (map f xs)) (sym k.2) (in_map f xs k.0 (in_of xs k.0 ((e.1 k.0).1 k.1)))),
    ),
  )

  pub filter_to : (f : A → Option B) (xs : List A) (x : A) (y : B) → In xs x → f x ≡ Some y → In (filter_map f xs) y
  filter_to f [] x y n e = absurd n
  filter_to f (z ∷ zs) x y (inl i) e = subst (λ o. In (cons_option o (filter_map f zs)) y) (sym (ap f i ∙ e)) (inl refl)
  filter_to f (z ∷ zs) x y (inr n) e = more (f z) (filter_map f zs) (filter_to f zs x y n e)
    where
      more : (o : Option B) (ys : List B) → In ys y → In (cons_option o ys) y
      more None ys n = n
      more (Some v) ys n = inr n

  pub filter_of : (f : A → Option B) (xs : List A) (y : B) → In (filter_map f xs) y → (x : A) × In xs x × (f x ≡ Some y)
  filter_of f [] y n = absurd n
  filter_of f (z ∷ zs) y n = by (f z) refl n (λ m. filter_of f zs y m)
    where
      by : (o : Option B) → f z ≡ o → In (cons_option o (filter_map f zs)) y → (In (filter_map f zs) y → (x : A) × In zs x × (f x ≡ Some y)) → (x : A) × In (z ∷ zs) x × (f x ≡ Some y)
      by None e n h = let k = h n in (k.0, inr k.1, k.2)
      by (Some v) e (inl i) h = (z, inl refl, e ∙ ap (λ (w : B). Some w) i)
      by (Some v) e (inr n) h = let k = h n in (k.0, inr k.1, k.2)

  -- a list of the different images of a list
  pub images : (d : B → B → Ordering) (Q : A → Type 0) (P : B → Type 0) (f : A → Option B) (xs : List A) (ys : List B) → ((x : A) → (Contains xs x → Q x) × (Q x → Contains xs x))
      → ((x : A) (y : B) → Q x → f x ≡ Some y → P y) → ((y : B) → P y → (x : A) × Q x × (f x ≡ Some y)) → Exactly d (Contains (filter_map f xs)) ys → Exactly d P ys
  images d Q P f xs ys are forth back e = (
    e.0,
    λ y. (
      λ i. let k = filter_of f xs y (in_of (filter_map f xs) y ((e.1 y).0 i)) in forth k.0 y ((are k.0).0 (of_in xs k.0 k.1)) k.2,
      λ p. let k = back y p in (e.1 y).1 (of_in (filter_map f xs) y (filter_to f xs k.0 y (in_of xs k.0 ((are k.0).1 k.1)) k.2)),
    ),
  )

  pub images_all : (d : B → B → Ordering) (Q : A → Type 0) (P : B → Type 0) (f : A → B) (xs : List A) (ys : List B) → ((x : A) → (Contains xs x → Q x) × (Q x → Contains xs x))
      → ((x : A) → Q x → P (f x)) → ((y : B) → P y → (x : A) × Q x × (f x ≡ y)) → Exactly d (Contains (map f xs)) ys → Exactly d P ys
  images_all d Q P f xs ys are forth back e = (
    e.0,
    λ y. (
      λ i. let k = of_map f xs y (in_of (map f xs) y ((e.1 y).0 i)) in subst P k.2 (forth k.0 ((are k.0).0 (of_in xs k.0 k.1))),
      λ p. let k = back y p in (e.1 y).1 (of_in (map f xs) y (subst (In (map f xs)) k.2 (in_map f xs k.0 (in_of xs k.0 ((are k.0).1 k.1))))),
    ),
  )

-- orders of several keys
longer : (s p m e : Ordering) → ordering_then s (ordering_then p m) ≡ Less → ordering_then s (ordering_then p (ordering_then m e)) ≡ Less
longer Less p m e h = refl
longer Equal Less m e h = refl
longer Equal Equal Less e h = refl
longer Equal Equal Equal e h = cc
longer Equal Equal Greater e h = cc
longer Equal Greater m e h = cc
longer Greater p m e h = cc

without : (s p m : Ordering) → p ≡ Equal → ordering_then s (ordering_then p m) ≡ Less → ordering_then s m ≡ Less
without s p m e h = ap (λ o. ordering_then s o) (sym (then_equal p m e)) ∙ h

same_seam_key : (a b c d e k l m n o : ℕ) → a ≡ k → b ≡ l → c ≡ m → d ≡ n → e ≡ o
    → ◌≡◌ {A = SeamKey} (record { seam = a; part = b; state = c; promise = d; pos = e }) (record { seam = k; part = l; state = m; promise = n; pos = o })
same_seam_key a b c d e k l m n o p q r s t = cc

pub seam_key_exact : (x y : SeamKey) → seam_key_cmp x y ≡ Equal → x ≡ y
seam_key_exact x y e =
    let a = both_equal _ _ e in
    let b = both_equal _ _ a.1 in
    let c = both_equal _ _ b.1 in
    let d = both_equal _ _ c.1 in
    same_seam_key x.seam x.part x.state x.promise x.pos y.seam y.part y.state y.promise y.pos (nat_cmp-IsAntisymmetric _ _ a.0)
    (nat_cmp-IsAntisymmetric _ _ b.0) (nat_cmp-IsAntisymmetric _ _ c.0) (nat_cmp-IsAntisymmetric _ _ d.0) (nat_cmp-IsAntisymmetric _ _ d.1)

module _ (g : Game) (functions : ℕ) (can : CanBegin g functions) where
  -- a seam's parts stand at one position each
  abbrev pub One : SpotKind → Type 0
  One k = (x y : SeamKey) → IsSeamKey g k x → IsSeamKey g k y → x.seam ≡ y.seam → x.part ≡ y.part → x.pos ≡ y.pos

  asked_one : One kind.Asked
  asked_one x y a b j i =
      let s = asked_there (slice_get g.spots x.pos) x.seam x.part a.at in
      let t = asked_there (slice_get g.spots y.pos) y.seam y.part b.at in
      can.staged.asks x.pos y.pos y.seam y.part s.0 t.0 (s.1 ∙ ap₂ (λ (j i : ℕ). Some (Asked j i s.0)) j i) t.1

  label_one : One kind.Label
  label_one x y a b j i =
      let s = label_there (slice_get g.spots x.pos) x.seam x.part a.at in
      let t = label_there (slice_get g.spots y.pos) y.seam y.part b.at in
      can.staged.labels x.pos y.pos y.seam s.0 t.0 s.1 t.1 (s.2 ∙ ap (λ (j : ℕ). Some (Label j s.0 s.1)) j) t.2

  open_one : One kind.Open
  open_one x y a b j i =
      let s = open_there (slice_get g.spots x.pos) x.seam x.part a.at in
      let t = open_there (slice_get g.spots y.pos) y.seam y.part b.at in
      can.staged.opens x.pos y.pos y.seam s.0 t.0 s.1 t.1 (s.2 ∙ ap (λ (j : ℕ). Some (Open j s.0 s.1)) j) t.2

  close_one : One kind.Close
  close_one x y a b j i =
      let s = close_there (slice_get g.spots x.pos) x.seam x.part a.at in
      let t = close_there (slice_get g.spots y.pos) y.seam y.part b.at in
      can.staged.closes x.pos y.pos y.seam s.0 t.0 s.1 t.1 (s.2 ∙ ap (λ (j : ℕ). Some (Close j s.0 s.1)) j) t.2

  pub call_one : One kind.Call
  call_one x y a b j i =
      let s = call_there (slice_get g.spots x.pos) x.seam x.part a.at in
      let t = call_there (slice_get g.spots y.pos) y.seam y.part b.at in
      can.staged.calls x.pos y.pos s.0 t.0 s.1 t.1 (s.2 ∙ j ∙ sym t.2) (same_mode s.0.split t.0.split (sym s.3 ∙ i ∙ t.3))
    where
      same_mode : (a b : Bool) → ◌≡◌ {A = ℕ} (cond a 1 0) (cond b 1 0) → a ≡ b
      same_mode true true e = refl
      same_mode true false e = cc
      same_mode false true e = cc
      same_mode false false e = refl

  -- labels, opens and closes have one part
  abbrev pub OnePart : SpotKind → Type 0
  OnePart k = (x y : SeamKey) → IsSeamKey g k x → IsSeamKey g k y → x.part ≡ y.part

  label_part : OnePart kind.Label
  label_part x y a b = (label_there (slice_get g.spots x.pos) x.seam x.part a.at).3 ∙ sym (label_there (slice_get g.spots y.pos) y.seam y.part b.at).3

  open_part : OnePart kind.Open
  open_part x y a b = (open_there (slice_get g.spots x.pos) x.seam x.part a.at).3 ∙ sym (open_there (slice_get g.spots y.pos) y.seam y.part b.at).3

  close_part : OnePart kind.Close
  close_part x y a b = (close_there (slice_get g.spots x.pos) x.seam x.part a.at).3 ∙ sym (close_there (slice_get g.spots y.pos) y.seam y.part b.at).3

  -- keys that are live, by what stands at their positions
  pub seam_keys_exactly : (k : SpotKind) (members : List Key) (ys : List SeamKey)
      → ((x : Key) → (Contains members x → IsLive g x.pos x.state x.promise) × (IsLive g x.pos x.state x.promise → Contains members x))
      → Exactly seam_key_cmp (Contains (filter_map (seam_key_of g k) members)) ys → Exactly seam_key_cmp (IsSeamKey g k) ys
  seam_keys_exactly k members ys are e =
      images seam_key_cmp (λ (x : Key). IsLive g x.pos x.state x.promise) (IsSeamKey g k) (seam_key_of g k) members ys are forth back e
    where
      forth : (x : Key) (y : SeamKey) → IsLive g x.pos x.state x.promise → seam_key_of g k x ≡ Some y → IsSeamKey g k y
      forth x y live f =
          let m = mapped (seam_key x) (part_at g k x.pos) y f in
          subst (IsSeamKey g k) m.2 (record { live = live; at = m.1 })

      back : (y : SeamKey) → IsSeamKey g k y → (x : Key) × IsLive g x.pos x.state x.promise × (seam_key_of g k x ≡ Some y)
      back y is = (key y.pos y.state y.promise, is.live, ap (option_map (seam_key (key y.pos y.state y.promise))) is.at)

  -- the memories
  pub memories_exactly : (members : List Key) (ms : Memories) → ((x : Key) → (Contains members x → IsLive g x.pos x.state x.promise) × (IsLive g x.pos x.state x.promise → Contains members x))
      → Exactly mem_cmp (Contains (map memory_of members)) ms → Exactly mem_cmp (IsMemory g) ms
  memories_exactly members ms are e =
      images_all mem_cmp (λ (x : Key). IsLive g x.pos x.state x.promise) (IsMemory g) memory_of members ms are
      (λ x live. record { pos = x.pos; live = live }) (λ r is. (key is.pos r.0.0 r.1, is.live, refl)) e

  module _ (ms : Memories) (are : Exactly mem_cmp (IsMemory g) ms) (low : HeightsAreLow g) where
    abbrev num : SeamKey → ℕ
    num x = number ms x.state x.promise

    memories_less : (q e x y p r : ℕ) → IsLive g p q e → IsLive g r x y → mem_cmp (state_id q, e) (state_id x, y) ≡ Less → nat_cmp (number ms q e) (number ms x y) ≡ Less
    memories_less q e x y p r a b l =
        less_nat (number ms q e) (number ms x y)
        (mem_less ms q e x y are.0 (meant g functions can low ms are p q e a) (meant g functions can low ms are r x y b) l)

    last : (x y : SeamKey) → IsLive g x.pos x.state x.promise → IsLive g y.pos y.state y.promise → x.pos ≡ y.pos
        → ordering_then (nat_cmp x.state y.state) (ordering_then (nat_cmp x.promise y.promise) (nat_cmp x.pos y.pos)) ≡ Less → nat_cmp (num x) (num y) ≡ Less
    last x y a b p l =
        ⊎_elim
        (λ s. memories_less x.state x.promise y.state y.promise x.pos y.pos a b (less_first (nat_cmp x.state y.state) (nat_cmp x.promise y.promise) s))
        (λ s.
        ⊎_elim
        (λ t. memories_less x.state x.promise y.state y.promise x.pos y.pos a b (then_equal (nat_cmp x.state y.state) (nat_cmp x.promise y.promise) s.0 ∙ t))
        (λ t. absurd (not_less_same x.pos y.pos p t.1))
        (then_less (nat_cmp x.promise y.promise) (nat_cmp x.pos y.pos) s.1))
        (then_less (nat_cmp x.state y.state) (ordering_then (nat_cmp x.promise y.promise) (nat_cmp x.pos y.pos)) l)

    abbrev three : SeamKey → SeamKey → Ordering
    three x y = ordering_then (nat_cmp x.seam y.seam) (ordering_then (nat_cmp x.part y.part) (nat_cmp (num x) (num y)))

    abbrev rest : SeamKey → SeamKey → Ordering
    rest x y = ordering_then (nat_cmp x.state y.state) (ordering_then (nat_cmp x.promise y.promise) (nat_cmp x.pos y.pos))

    -- keys before one another have rows before one another
    three_less : (k : SpotKind) → One k → (x y : SeamKey) → IsSeamKey g k x → IsSeamKey g k y → seam_key_cmp x y ≡ Less → three x y ≡ Less
    three_less k one x y a b l =
        ⊎_elim
        (λ s. less_first (nat_cmp x.seam y.seam) (ordering_then (nat_cmp x.part y.part) (nat_cmp (num x) (num y))) s)
        (λ s.
        then_equal (nat_cmp x.seam y.seam) (ordering_then (nat_cmp x.part y.part) (nat_cmp (num x) (num y))) s.0
        ∙ ⊎_elim
        (λ t. less_first (nat_cmp x.part y.part) (nat_cmp (num x) (num y)) t)
        (λ t.
        then_equal (nat_cmp x.part y.part) (nat_cmp (num x) (num y)) t.0
        ∙ last x y a.live b.live (one x y a b (nat_cmp-IsAntisymmetric x.seam y.seam s.0) (nat_cmp-IsAntisymmetric x.part y.part t.0)) t.1)
        (then_less (nat_cmp x.part y.part) (rest x y) s.1))
        (then_less (nat_cmp x.seam y.seam) (ordering_then (nat_cmp x.part y.part) (rest x y)) l)

    pub tries_exactly : (xs : List SeamKey) → Exactly seam_key_cmp (IsSeamKey g kind.Asked) xs → Exactly try_cmp (IsTryRow g ms) (map (try_row g (lost_in g) ms) xs)
    tries_exactly xs e =
        rows_exactly seam_key_cmp try_cmp (IsSeamKey g kind.Asked) (IsTryRow g ms) (try_row g (lost_in g) ms) xs e (λ x y a b l. three_less kind.Asked asked_one x y a b l)
        (try_to g functions can low ms are) (try_from g functions can low ms are)

    at_less : (k : SpotKind) → One k → OnePart k → (x y : SeamKey) → IsSeamKey g k x → IsSeamKey g k y → seam_key_cmp x y ≡ Less → ordering_then (nat_cmp x.seam y.seam) (nat_cmp (num x) (num y)) ≡ Less
    at_less k one part x y a b l = without (nat_cmp x.seam y.seam) (nat_cmp x.part y.part) (nat_cmp (num x) (num y)) (tied_nat x.part y.part (part x y a b)) (three_less k one x y a b l)

    pub labels_exactly : (xs : List SeamKey) → Exactly seam_key_cmp (IsSeamKey g kind.Label) xs → Exactly at_cmp (IsLabelRow g ms) (map (at_row g ms) xs)
    labels_exactly xs e =
        rows_exactly seam_key_cmp at_cmp (IsSeamKey g kind.Label) (IsLabelRow g ms) (at_row g ms) xs e (λ x y a b l. at_less kind.Label label_one label_part x y a b l)
        (label_to g functions can low ms are) (label_from g functions can low ms are)

    pub closed_exactly : (xs : List SeamKey) → Exactly seam_key_cmp (IsSeamKey g kind.Close) xs → Exactly at_cmp (IsCloseRow g ms) (map (at_row g ms) xs)
    closed_exactly xs e =
        rows_exactly seam_key_cmp at_cmp (IsSeamKey g kind.Close) (IsCloseRow g ms) (at_row g ms) xs e (λ x y a b l. at_less kind.Close close_one close_part x y a b l)
        (close_to g functions can low ms are) (close_from g functions can low ms are)

    pub opened_exactly : (xs : List SeamKey) → Exactly seam_key_cmp (IsSeamKey g kind.Open) xs → Exactly open_cmp (IsOpenRow g ms) (map (open_row g ms) xs)
    opened_exactly xs e =
        rows_exactly seam_key_cmp open_cmp (IsSeamKey g kind.Open) (IsOpenRow g ms) (open_row g ms) xs e (λ x y a b l. at_less kind.Open open_one open_part x y a b l)
        (open_to g functions can low ms are) (open_from g functions can low ms are)

    -- calls by mode
    modes : (x y : SeamKey) → IsSeamKey g kind.Call x → IsSeamKey g kind.Call y → bool_cmp (nat_eq x.part 1) (nat_eq y.part 1) ≡ nat_cmp x.part y.part
    modes x y a b =
        let s = call_there (slice_get g.spots x.pos) x.seam x.part a.at in
        let t = call_there (slice_get g.spots y.pos) y.seam y.part b.at in
        ap₂ (λ (i j : ℕ). bool_cmp (nat_eq i 1) (nat_eq j 1)) s.3 t.3 ∙ split_parts s.0.split t.0.split ∙ sym (ap₂ nat_cmp s.3 t.3)

    pub into_exactly : (xs : List SeamKey) → Exactly seam_key_cmp (IsSeamKey g kind.Call) xs → Exactly into_cmp (IsIntoRow g ms) (map (into_row (set_in g) ms) xs)
    into_exactly xs e =
        rows_exactly seam_key_cmp into_cmp (IsSeamKey g kind.Call) (IsIntoRow g ms) (into_row (set_in g) ms) xs e
        (λ x y a b l. ap (λ o. ordering_then (nat_cmp x.seam y.seam) (ordering_then o (nat_cmp (num x) (num y)))) (modes x y a b) ∙ three_less kind.Call call_one x y a b l)
        (into_to g functions can low ms are) (into_from g functions can low ms are)

    -- returns of one call by their exit states
    exits : (b c : Key) → b.pos ≡ c.pos → b.promise ≡ c.promise → key_cmp b c ≡ Less → nat_cmp b.state c.state ≡ Less
    exits b c p e l =
        let r : ordering_then (nat_cmp b.state c.state) (nat_cmp b.promise c.promise) ≡ Less =
        sym (then_equal (nat_cmp b.pos c.pos) (ordering_then (nat_cmp b.state c.state) (nat_cmp b.promise c.promise)) (tied_nat b.pos c.pos p)) ∙ l in
        ⊎_elim (λ s. s) (λ s. absurd (not_less_same b.promise c.promise e s.1)) (then_less (nat_cmp b.state c.state) (nat_cmp b.promise c.promise) r)

    same_call : (x : SeamKey) (c d : Called) → call_in (slice_get g.spots x.pos) ≡ Some c → call_in (slice_get g.spots x.pos) ≡ Some d → c ≡ d
    same_call x c d e f = same_Some c d (sym e ∙ f)

    abbrev four : SeamKey × Key → SeamKey × Key → Ordering
    four x y =
        ordering_then (nat_cmp x.0.seam y.0.seam) (ordering_then (nat_cmp x.0.part y.0.part) (ordering_then (nat_cmp (num x.0) (num y.0)) (nat_cmp x.1.state y.1.state)))

    four_less : (x y : SeamKey × Key) → IsReturn g x → IsReturn g y → return_cmp x y ≡ Less → four x y ≡ Less
    four_less x y a b l =
        ⊎_elim
        (λ s. longer (nat_cmp x.0.seam y.0.seam) (nat_cmp x.0.part y.0.part) (nat_cmp (num x.0) (num y.0)) (nat_cmp x.1.state y.1.state) (three_less kind.Call call_one x.0 y.0 a.seam_key b.seam_key s))
        (λ s. same_seam x y a b (seam_key_exact x.0 y.0 s.0) s.1)
        (then_less (seam_key_cmp x.0 y.0) (key_cmp x.1 y.1) l)
      where
        same_seam : (x y : SeamKey × Key) → IsReturn g x → IsReturn g y → x.0 ≡ y.0 → key_cmp x.1 y.1 ≡ Less → four x y ≡ Less
        same_seam x y a b e l =
            let c : a.call ≡ b.call = same_call y.0 a.call b.call (subst (λ (z : SeamKey). call_in (slice_get g.spots z.pos) ≡ Some a.call) e a.is_call) b.is_call in
            let p : x.1.pos ≡ y.1.pos = a.pos ∙ ap (λ (f : Called). g.exit f.function) c ∙ sym b.pos in
            let d : x.1.promise ≡ y.1.promise = a.promise ∙ ap (λ (z : SeamKey). set_in g z.pos z.state z.promise) e ∙ sym b.promise in
            then_equal (nat_cmp x.0.seam y.0.seam) _ (tied_nat x.0.seam y.0.seam (ap (λ (z : SeamKey). z.seam) e))
            ∙ then_equal (nat_cmp x.0.part y.0.part) _ (tied_nat x.0.part y.0.part (ap (λ (z : SeamKey). z.part) e))
            ∙ then_equal (nat_cmp (num x.0) (num y.0)) _ (tied_nat (num x.0) (num y.0) (ap num e))
            ∙ exits x.1 y.1 p d l

    pub back_exactly : (xs : List (SeamKey × Key)) → Exactly return_cmp (IsReturn g) xs → Exactly back_cmp (IsBackRow g ms) (map (back_row g ms) xs)
    back_exactly xs e =
        rows_exactly return_cmp back_cmp (IsReturn g) (IsBackRow g ms) (back_row g ms) xs e
        (λ x y a b l.
        ap (λ o. ordering_then (nat_cmp x.0.seam y.0.seam) (ordering_then o (ordering_then (nat_cmp (num x.0) (num y.0)) (nat_cmp x.1.state y.1.state)))) (modes x.0 y.0 a.seam_key b.seam_key)
        ∙ four_less x y a b l)
        (back_to g functions can low ms are) (back_from g functions can low ms are)

    -- where a run may come
    pub live_exactly : (keys : List Key) → Exactly key_cmp (λ (k : Key). IsLive g k.pos k.state k.promise) keys → Exactly live_cmp (IsLiveRow g ms) (map (live_row ms) keys)
    live_exactly keys e =
        rows_exactly key_cmp live_cmp (λ (k : Key). IsLive g k.pos k.state k.promise) (IsLiveRow g ms) (live_row ms) keys e
        (λ x y a b l.
        ⊎_elim
        (λ s. less_first (nat_cmp x.pos y.pos) (nat_cmp (number ms x.state x.promise) (number ms y.state y.promise)) s)
        (λ s.
        then_equal (nat_cmp x.pos y.pos) (nat_cmp (number ms x.state x.promise) (number ms y.state y.promise)) s.0
        ∙ memories_less x.state x.promise y.state y.promise x.pos y.pos a b s.1)
        (then_less (nat_cmp x.pos y.pos) (ordering_then (nat_cmp x.state y.state) (nat_cmp x.promise y.promise)) l))
        (live_to g functions can low ms are) (live_from g functions can low ms are)

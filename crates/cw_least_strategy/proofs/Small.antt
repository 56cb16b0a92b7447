-- Keys by the numbers of their aims.
use Rattle.std.proofs.Common.{◌≡◌, ℕ, suc, ◌+◌, ◌<◌, ◌≤◌, List, [], ◌∷◌, ◌++◌, Bool, true, false, cond, Some, map, append_assoc, length, refl, sym, ap, ◌∙◌, subst, arith}
use Rattle.std.specs.Prelude.{slice_get, slice_index, sum_by}
use Rattle.std.specs.FinMap.{IsAntisymmetric, nat_cmp-IsAntisymmetric}
use Rattle.std.specs.List.{Contains, AllByRecursion}
use Rattle.std.specs.List.Sorted.{IsStrictlySortedBy}
use Rattle.std.specs.declared.cmp.Ordering.{Ordering}
use Rattle.std.specs.declared.cmp.Ordering.TheVariants.{Less, Equal, Greater}
use Rattle.std.specs.Cmp.{IsTotalOrder, nat_cmp_total, then_total, on_total, tied_itself, both_ways}
use Rattle.std.specs.Ordering.{ordering_then, nat_cmp, is_eq, eq_by_cmp}
use Rattle.std.proofs.lemmas.Bool.Decides.{nat_tests}
use Rattle.std.proofs.lemmas.List.{length-map}
use Rattle.std.proofs.lemmas.List.Sums.{sum_by-cons}
use Rattle.std.proofs.lemmas.Option.{slice_get-get_or, get_or_from_slice_get}
use Rattle.cw_core.specs.declared.ids.StateId.{StateId}
use Rattle.cw_fixpoint.specs.Closures.{Reached, first, then, Exactly, HasMore}
use Rattle.cw_fixpoint.specs.Numbers.{number_in}
use Rattle.cw_fixpoint.proofs.Numbers.{equal_is, number_at, stands, below, same_order}
use Rattle.cw_game.specs.Games.{Game}
use Rattle.cw_lemmas.proofs.Lists.{contains_one, contains_map, map_contains, head_in, tail_in}
use Rattle.cw_lemmas.proofs.Orders.{then_equal as both_equal}
use Rattle.cw_product.specs.Product.{game_of}
use Rattle.cw_solve.specs.Solved.{Held}
use Rattle.cw_least_strategy.specs.declared.key.Key.{Key}
use Rattle.cw_least_strategy.specs.declared.key.SmallKey.{SmallKey}
use Rattle.cw_least_strategy.specs.Acts.{backs_of}
use Rattle.cw_least_strategy.specs.Kept.{IsKey, IsFollowed, here}
use Rattle.cw_least_strategy.specs.Small.{whole, small, small_of_back, small_cmp, small_named, AreAims, CanTake, AreRanked, wholes, backs_for}
use Rattle.cw_least_strategy.specs.Strategies.{key_cmp, named, number}
use Rattle.cw_least_strategy.proofs.Acting.{plain}
use Rattle.cw_least_strategy.proofs.Naming.{named_lower, reached_keys}

same_small : (h p q a i r s b : ℕ) → h ≡ i → p ≡ r → q ≡ s → a ≡ b
    → (◌≡◌ {A = SmallKey} (record { height = h; pos = p; state = q; aim = a }) (record { height = i; pos = r; state = s; aim = b }))
same_small h p q a i r s b d e f k = cc

pub small_exact : IsAntisymmetric small_cmp
small_exact x y e =
    let a = both_equal _ _ e in
    let b = both_equal _ _ a.1 in
    let c = both_equal _ _ b.1 in
    same_small x.height x.pos x.state x.aim y.height y.pos y.state y.aim (nat_cmp-IsAntisymmetric _ _ a.0) (nat_cmp-IsAntisymmetric _ _ b.0) (nat_cmp-IsAntisymmetric _ _ c.0)
    (nat_cmp-IsAntisymmetric _ _ c.1)

pub small_total : IsTotalOrder small_cmp
small_total =
    then_total (on_total (λ (k : SmallKey). k.height) nat_cmp_total)
    (then_total (on_total (λ (k : SmallKey). k.pos) nat_cmp_total)
    (then_total (on_total (λ (k : SmallKey). k.state) nat_cmp_total) (on_total (λ (k : SmallKey). k.aim) nat_cmp_total)))

lower_small : (a k : SmallKey) → a.height < k.height → small_cmp a k ≡ Less
lower_small a k l =
    let n : nat_cmp a.height k.height ≡ Less = grind (arith, nat_tests, l) in
    ap (λ o. ordering_then o (ordering_then (nat_cmp a.pos k.pos) (ordering_then (nat_cmp a.state k.state) (nat_cmp a.aim k.aim)))) n

-- a number that is below how many there are is that of an item
pub found_at : (es : List ℕ) (e : ℕ) → number_in nat_cmp es e < length es → slice_get es (number_in nat_cmp es e) ≡ Some e
found_at [] e l = absurd (omega (arith, l))
found_at (y ∷ ys) e l = by (eq_by_cmp nat_cmp y e) refl l (found_at ys e)
  where
    by : (b : Bool) → eq_by_cmp nat_cmp y e ≡ b → cond b 0 (number_in nat_cmp ys e + 1) < length (y ∷ ys) → (number_in nat_cmp ys e < length ys → slice_get ys (number_in nat_cmp ys e) ≡ Some e)
        → slice_get (y ∷ ys) (number_in nat_cmp (y ∷ ys) e) ≡ Some e
    by true t l rec =
        ap (λ b. slice_get (y ∷ ys) (cond b 0 (number_in nat_cmp ys e + 1))) t ∙ ap (λ (x : ℕ). Some x) (equal_is nat_cmp nat_cmp_total nat_cmp-IsAntisymmetric y e t)
    by false f l rec =
        let n : number_in nat_cmp ys e + 1 ≡ suc (number_in nat_cmp ys e) = omega arith in
        ap (λ b. slice_get (y ∷ ys) (cond b 0 (number_in nat_cmp ys e + 1))) f ∙ ap (slice_get (y ∷ ys)) n ∙ rec (omega (arith, l))

then_same : (o p q : Ordering) → is_eq p ≡ is_eq q → is_eq (ordering_then o p) ≡ is_eq (ordering_then o q)
then_same Less p q e = refl
then_same Equal p q e = e
then_same Greater p q e = refl

-- where each item's f is by d as the item is by c, the list of these is in order too
all_map : {A B : Type 0} (P : A → Type 0) (Q : B → Type 0) (f : A → B) (xs : List A) → ((x : A) → Contains xs x → P x → Q (f x)) → AllByRecursion P xs → AllByRecursion Q (map f xs)
all_map P Q f [] h a = tt
all_map P Q f (x ∷ xs) h a = (h x (head_in x xs) a.0, all_map P Q f xs (λ y c p. h y (tail_in x xs y c) p) a.1)

sorted_map : {A B : Type 0} (c : A → A → Ordering) (d : B → B → Ordering) (f : A → B) (xs : List A) → ((x y : A) → Contains xs x → Contains xs y → c x y ≡ Less → d (f x) (f y) ≡ Less)
    → IsStrictlySortedBy c xs → IsStrictlySortedBy d (map f xs)
unfolding IsStrictlySortedBy
sorted_map c d f [] h s = tt
sorted_map c d f (x ∷ xs) h s = (
  all_map (λ y. c x y ≡ Less) (λ y. d (f x) y ≡ Less) f xs (λ y n l. h x y (head_in x xs) (tail_in x xs y n) l) s.0,
  sorted_map c d f xs (λ y z n m. h y z (tail_in x xs y n) (tail_in x xs z m)) s.1,
)

-- aims in order
module _ (aims : List ℕ) (order : IsStrictlySortedBy nat_cmp aims) where
  pub its_number : (n : ℕ) → n < length aims → number_in nat_cmp aims (slice_index aims n) ≡ n
  its_number n l = number_at nat_cmp nat_cmp_total nat_cmp-IsAntisymmetric aims n (slice_index aims n) order (slice_get-get_or aims n 0 l)

  key_order : (x y : SmallKey) → x.aim < length aims → y.aim < length aims → key_cmp (whole aims x) (whole aims y) ≡ small_cmp x y
  key_order x y lx ly =
      ap (λ o. ordering_then (nat_cmp x.height y.height) (ordering_then (nat_cmp x.pos y.pos) (ordering_then (nat_cmp x.state y.state) o))) (same_order aims order x.aim y.aim lx ly)

  -- a number is that of an aim where the aim stands at it
  same_aim : (n e : ℕ) → n < length aims → is_eq (nat_cmp n (number_in nat_cmp aims e)) ≡ is_eq (nat_cmp (slice_index aims n) e)
  same_aim n e l = both_ways (is_eq (nat_cmp n (number_in nat_cmp aims e))) (is_eq (nat_cmp (slice_index aims n) e)) forth back
    where
      forth : is_eq (nat_cmp n (number_in nat_cmp aims e)) ≡ true → is_eq (nat_cmp (slice_index aims n) e) ≡ true
      forth t =
          let same : n ≡ number_in nat_cmp aims e = equal_is nat_cmp nat_cmp_total nat_cmp-IsAntisymmetric n (number_in nat_cmp aims e) t in
          let at = found_at aims e (subst (λ (m : ℕ). m < length aims) same l) in
          let is : slice_index aims n ≡ e = ap (λ (m : ℕ). slice_index aims m) same ∙ get_or_from_slice_get aims (number_in nat_cmp aims e) e 0 at in
          ap (λ (x : ℕ). is_eq (nat_cmp x e)) is ∙ ap is_eq (tied_itself nat_cmp_total e)

      back : is_eq (nat_cmp (slice_index aims n) e) ≡ true → is_eq (nat_cmp n (number_in nat_cmp aims e)) ≡ true
      back t =
          let is : slice_index aims n ≡ e = equal_is nat_cmp nat_cmp_total nat_cmp-IsAntisymmetric (slice_index aims n) e t in
          let same : number_in nat_cmp aims e ≡ n = ap (λ (x : ℕ). number_in nat_cmp aims x) (sym is) ∙ its_number n l in
          ap (λ (m : ℕ). is_eq (nat_cmp n m)) same ∙ ap is_eq (tied_itself nat_cmp_total n)

  same_place : (y : SmallKey) (k : Key) → y.aim < length aims → eq_by_cmp small_cmp y (small aims k) ≡ eq_by_cmp key_cmp (whole aims y) k
  same_place y k l =
      let p = nat_cmp y.aim (number_in nat_cmp aims k.aim) in
      let q = nat_cmp (slice_index aims y.aim) k.aim in
      let state = nat_cmp y.state k.state in
      let pos = nat_cmp y.pos k.pos in
      then_same (nat_cmp y.height k.height) (ordering_then pos (ordering_then state p)) (ordering_then pos (ordering_then state q))
      (then_same pos (ordering_then state p) (ordering_then state q) (then_same state p q (same_aim y.aim k.aim l)))

  -- the number of a key's row is that of its small key
  pub number_same : (keys : List SmallKey) (k : Key) → ((y : SmallKey) → Contains keys y → y.aim < length aims) → number_in small_cmp keys (small aims k) ≡ number (wholes aims keys) k
  number_same [] k within = refl
  number_same (y ∷ ys) k within =
      ap (λ (b : Bool). cond b 0 (number_in small_cmp ys (small aims k) + 1)) (same_place y k (within y (head_in y ys)))
      ∙ ap (λ (n : ℕ). cond (eq_by_cmp key_cmp (whole aims y) k) 0 (n + 1)) (number_same ys k (λ x c. within x (tail_in y ys x c)))

  pub whole_small : (k : Key) → Contains aims k.aim → whole aims (small aims k) ≡ k
  whole_small k c = ap (λ (a : ℕ). let w : Key = record { height = k.height; pos = k.pos; state = k.state; aim = a } in w) (stands aims order k.aim c)

-- what is reached by small keys from a key that may be asked for
module _ (h : Held) (aims : List ℕ) (are : AreAims h aims) (start : Key) (f : IsFollowed h start) where
  abbrev g : Game
  g = game_of h.game

  abbrev functions : ℕ
  functions = length h.game.graph.parts.items

  abbrev Is : Key → Type 0
  Is k = IsKey g functions k

  abbrev FromStart : Key → Type 0
  FromStart k = Reached (named g) (start ∷ []) k

  abbrev FromSmall : SmallKey → Type 0
  FromSmall k = Reached (small_named g aims) (small aims start ∷ []) k

  key_of : (k : Key) → FromStart k → Is k
  key_of k r = reached_keys g functions f.routed start k (f.keys start (here start)) r

  same : (k : Key) → FromStart k → whole aims (small aims k) ≡ k
  same k r = whole_small aims are.ascend.order k (are.all k (key_of k r))

  pub small_reached : (k : Key) → FromStart k → FromSmall (small aims k)
  small_reached k (first d c) = first (small aims d) (contains_map (small aims) (start ∷ []) d c)
  small_reached k (then a b r c) =
      then (small aims a) (small aims b) (small_reached a r)
      (contains_map (small aims) (named g (whole aims (small aims a))) b (subst (λ (x : Key). Contains (named g x) b) (sym (same a r)) c))

  abbrev IsOne : SmallKey → Type 0
  IsOne q = (k : Key) × FromStart k × (small aims k ≡ q)

  pub reached_small : (q : SmallKey) → FromSmall q → IsOne q
  reached_small q (first d c) = (start, first start (head_in start []), contains_one (small aims start) d c)
  reached_small q (then a b r c) =
      let z = reached_small a r in
      let is : whole aims a ≡ z.0 = ap (whole aims) (sym z.2) ∙ same z.0 z.1 in
      let y = map_contains (small aims) (named g (whole aims a)) b c in
      (y.0, then z.0 y.0 z.1 (subst (λ (x : Key). Contains (named g x) y.0) is y.1), y.2)

  -- what a small key stands for is reached, and its number is that of an aim
  pub whole_reached : (q : SmallKey) → FromSmall q → FromStart (whole aims q)
  whole_reached q r = let z = reached_small q r in subst (λ (x : Key). FromStart x) (sym (ap (whole aims) (sym z.2) ∙ same z.0 z.1)) z.1

  pub whole_is : (q : SmallKey) → FromSmall q → Is (whole aims q)
  whole_is q r = key_of (whole aims q) (whole_reached q r)

  pub within : (q : SmallKey) → FromSmall q → q.aim < length aims
  within q r = let z = reached_small q r in subst (λ (x : SmallKey). x.aim < length aims) z.2 (below aims are.ascend.order z.0.aim (are.all z.0 (key_of z.0 z.1)))

  rises : (keys : List SmallKey) → ((k : SmallKey) → Contains keys k → FromSmall k) → IsStrictlySortedBy small_cmp keys → IsStrictlySortedBy key_cmp (wholes aims keys)
  rises keys from s =
      sorted_map small_cmp key_cmp (whole aims) keys (λ x y c d l. key_order aims are.ascend.order x y (within x (from x c)) (within y (from y d)) ∙ l) s

  pub exactly_whole : (keys : List SmallKey) → Exactly small_cmp FromSmall keys → Exactly key_cmp FromStart (wholes aims keys)
  exactly_whole keys e = (
    rises keys (λ k c. (e.1 k).0 c) e.0,
    λ k. (
      λ c. let z = map_contains (whole aims) keys k c in subst (λ (x : Key). FromStart x) z.2 (whole_reached z.0 ((e.1 z.0).0 z.1)),
      λ r. subst (λ (x : Key). Contains (wholes aims keys) x) (same k r) (contains_map (whole aims) keys (small aims k) ((e.1 (small aims k)).1 (small_reached k r))),
    ),
  )

  pub more_whole : (n : ℕ) → HasMore small_cmp FromSmall n → HasMore key_cmp FromStart n
  more_whole n m = (
    wholes aims m.0,
    rises m.0 m.2 m.1,
    λ k c. let z = map_contains (whole aims) m.0 k c in subst (λ (x : Key). FromStart x) z.2 (whole_reached z.0 (m.2 z.0 z.1)),
    let l = length-map m.0 (whole aims) in let lt = m.3 in omega (arith, l, lt),
  )

  pub ranked : (keys : List SmallKey) → Exactly small_cmp FromSmall keys → length keys ≤ 65536 → AreRanked aims keys
  ranked keys e few = record { ascend = are.ascend; within = λ k c. within k ((e.1 k).0 c); order = e.0; few = few }

  pub start_taken : (k : SmallKey) → Contains (small aims start ∷ []) k → CanTake h aims k
  start_taken k c = record { ready = are; start = start; followed = f; reached = first k c }

module _ (h : Held) (aims : List ℕ) (k : SmallKey) (can : CanTake h aims k) where
  pub taken_within : k.aim < length aims
  taken_within = within h aims can.ready can.start can.followed k can.reached

  pub taken_is : IsKey (game_of h.game) (length h.game.graph.parts.items) (whole aims k)
  taken_is = whole_is h aims can.ready can.start can.followed k can.reached

  -- what it names is less
  pub small_descends : (q : SmallKey) → Contains (small_named (game_of h.game) aims k) q → small_cmp q k ≡ Less
  small_descends q c =
      let z = map_contains (small aims) (named (game_of h.game) (whole aims k)) q c in
      let l = (named_lower (game_of h.game) (length h.game.graph.parts.items) can.followed.routed (whole aims k) taken_is z.0 z.1).1 in
      subst (λ (x : SmallKey). small_cmp x k ≡ Less) z.2 (lower_small (small aims z.0) k l)

-- what is said of the keys that small ones stand for
pub map_whole : {A : Type 0} (f : Key → A) (aims : List ℕ) (keys : List SmallKey) → map (λ (k : SmallKey). f (whole aims k)) keys ≡ map f (wholes aims keys)
map_whole f aims [] = refl
map_whole {A} f aims (k ∷ keys) = ap (λ (l : List A). f (whole aims k) ∷ l) (map_whole f aims keys)

pub sum_whole : (f : Key → ℕ) (aims : List ℕ) (keys : List SmallKey) → sum_by (λ (k : SmallKey). f (whole aims k)) keys ≡ sum_by f (wholes aims keys)
sum_whole f aims [] = refl
sum_whole f aims (k ∷ keys) =
    let a = sum_by-cons (λ (k : SmallKey). f (whole aims k)) k keys in
    let b = sum_by-cons f (whole aims k) (wholes aims keys) in
    let h = sum_whole f aims keys in
    omega (arith, a, b, h)

pub long_whole : (aims : List ℕ) (keys : List SmallKey) → length (wholes aims keys) ≡ length keys
long_whole aims keys = length-map keys (whole aims)

into_backs : (aims : List ℕ) (backs : List (StateId × Key)) → map (small_of_back aims) backs ≡ map (small aims) (map (λ (b : ℕ × Key). b.1) (map plain backs))
into_backs aims [] = refl
into_backs aims (b ∷ backs) = ap (λ (l : List SmallKey). small aims b.1 ∷ l) (into_backs aims backs)

-- what is named at a call, put behind other keys
pub into_small : (aims : List ℕ) (old : List SmallKey) (callee : Key) (backs : List (StateId × Key)) {new : List SmallKey}
    → new ≡ (old ++ small aims callee ∷ []) ++ map (small_of_back aims) backs → new ≡ old ++ map (small aims) (callee ∷ map (λ (b : ℕ × Key). b.1) (map plain backs))
into_small aims old callee backs e =
    e ∙ append_assoc old (small aims callee ∷ []) (map (small_of_back aims) backs) ∙ ap (λ (l : List SmallKey). old ++ small aims callee ∷ l) (into_backs aims backs)

pub counted : (g : Game) (aims : List ℕ) (keys : List SmallKey) (n : ℕ) → n < length keys + sum_by (backs_for g aims keys) keys
    → n < length (wholes aims keys) + sum_by (backs_of g (wholes aims keys)) (wholes aims keys)
counted g aims keys n more =
    let a = long_whole aims keys in
    let b = sum_whole (backs_of g (wholes aims keys)) aims keys in
    omega (arith, a, b, more)

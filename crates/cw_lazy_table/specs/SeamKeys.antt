-- Working definitions: keys by what stands at their positions.
use Rattle.std.specs.Prelude.{◌≡◌, ℕ, List, ◌∷◌, [], ◌++◌, Option, Some, None, option_map, filter_map, slice_get, Contains}
use Rattle.std.specs.declared.cmp.Ordering.{Ordering}
use Rattle.std.specs.Ordering.{ordering_then, nat_cmp}
use Rattle.cw_core.specs.declared.ids.StateId.{StateId}
use Rattle.cw_fixpoint.specs.Closures.{Exactly}
use Rattle.cw_game.specs.declared.spots.Spot.{Spot}
use Rattle.cw_game.specs.declared.spots.Spot.TheVariants as spot
use Rattle.cw_game.specs.Games.{Game}
use Rattle.cw_game.specs.Pairs.{Called, call_in}
use Rattle.cw_lazy_table.specs.declared.key.Key.{Key}
use Rattle.cw_lazy_table.specs.Kinds.{SpotKind}
use Rattle.cw_lazy_table.specs.Kinds.{Asked, Label, Open, Close, Call}
use Rattle.cw_lazy_table.specs.declared.seam_key.ByKind.{ByKind}
use Rattle.cw_lazy_table.specs.declared.seam_key.SeamKey.{SeamKey}
use Rattle.cw_lazy_table.specs.Choices.{set_in}
use Rattle.cw_lazy_table.specs.Closing.{key}
use Rattle.cw_lazy_table.specs.Lazy.{state_id}
use Rattle.cw_lazy_table.specs.Live.{IsLive}

-- keys ascend by position, state, and promise as a number
abbrev pub key_cmp : Key → Key → Ordering
key_cmp x y = ordering_then (nat_cmp x.pos y.pos) (ordering_then (nat_cmp x.state y.state) (nat_cmp x.promise y.promise))

abbrev pub seam_key_cmp : SeamKey → SeamKey → Ordering
seam_key_cmp x y =
    ordering_then (nat_cmp x.seam y.seam)
    (ordering_then (nat_cmp x.part y.part) (ordering_then (nat_cmp x.state y.state) (ordering_then (nat_cmp x.promise y.promise) (nat_cmp x.pos y.pos))))

-- seam and part of what stands there, where it is of this kind
abbrev pub part_in : SpotKind → Spot → Option (ℕ × ℕ)
part_in Asked (spot.Asked j i a) = Some (j, i)
part_in Label (spot.Label j l n) = Some (j, 0)
part_in Open (spot.Open j d n) = Some (j, 0)
part_in Close (spot.Close j d n) = Some (j, 0)
part_in Call (spot.Call j f n) = Some (j, 0)
part_in Call (spot.SplitCall j f n) = Some (j, 1)
part_in _ _ = None

abbrev pub part_there : SpotKind → Option Spot → Option (ℕ × ℕ)
part_there kind None = None
part_there kind (Some s) = part_in kind s

abbrev pub part_at : Game → SpotKind → ℕ → Option (ℕ × ℕ)
part_at g kind p = part_there kind (slice_get g.spots p)

abbrev pub seam_key : Key → ℕ × ℕ → SeamKey
seam_key k at = record { seam = at.0; part = at.1; state = k.state; promise = k.promise; pos = k.pos }

abbrev pub seam_key_of : Game → SpotKind → Key → Option SeamKey
seam_key_of g kind k = option_map (seam_key k) (part_at g kind k.pos)

abbrev pub key_of : SeamKey → Key
key_of x = key x.pos x.state x.promise

abbrev pub memory_of : Key → StateId × ℕ
memory_of k = (state_id k.state, k.promise)

-- the list has what the other has, and no more
abbrev pub AreOf : {A : Type 0} → List A → List A → Type 0
AreOf {A} xs ys = (x : A) → (Contains ys x → Contains xs x) × (Contains xs x → Contains ys x)

-- the new list has what the old one has, and this
abbrev pub IsPut : {A : Type 0} → List A → A → List A → Type 0
IsPut {A} old x new = AreOf (old ++ x ∷ []) new

abbrev pub put_seam_key : List SeamKey → Option SeamKey → List SeamKey
put_seam_key xs None = xs
put_seam_key xs (Some x) = xs ++ x ∷ []

-- the keys of a kind, in the order of rows
abbrev pub AreOfKind : Game → SpotKind → List Key → List SeamKey → Type 0
AreOfKind g kind keys ys = Exactly seam_key_cmp (Contains (filter_map (seam_key_of g kind) keys)) ys

-- keys by kind, as they come
pub record ComeByKind (g : Game) (keys : List Key) (lists : ByKind) : Type 0 where
  pub asked : lists.asked.items ≡ filter_map (seam_key_of g Asked) keys
  pub labels : lists.labels.items ≡ filter_map (seam_key_of g Label) keys
  pub opens : lists.opens.items ≡ filter_map (seam_key_of g Open) keys
  pub closes : lists.closes.items ≡ filter_map (seam_key_of g Close) keys
  pub calls : lists.calls.items ≡ filter_map (seam_key_of g Call) keys

-- keys by kind, each kind in the order of rows
pub record AreByKind (g : Game) (keys : List Key) (lists : ByKind) : Type 0 where
  pub asked : AreOfKind g Asked keys lists.asked.items
  pub labels : AreOfKind g Label keys lists.labels.items
  pub opens : AreOfKind g Open keys lists.opens.items
  pub closes : AreOfKind g Close keys lists.closes.items
  pub calls : AreOfKind g Call keys lists.calls.items

-- something with rows stands at a key that is live
pub record IsSeamKey (g : Game) (kind : SpotKind) (x : SeamKey) : Type 0 where
  pub live : IsLive g x.pos x.state x.promise
  pub at : part_at g kind x.pos ≡ Some (x.seam, x.part)

-- a call, and a key where its callee ends
pub record IsReturn (g : Game) (xb : SeamKey × Key) : Type 0 where
  pub seam_key : IsSeamKey g Call xb.0
  pub call : Called
  pub is_call : call_in (slice_get g.spots xb.0.pos) ≡ Some call
  pub pos : xb.1.pos ≡ g.exit call.function
  pub promise : xb.1.promise ≡ set_in g xb.0.pos xb.0.state xb.0.promise
  pub ended : IsLive g xb.1.pos xb.1.state xb.1.promise

abbrev pub return_cmp : SeamKey × Key → SeamKey × Key → Ordering
return_cmp x y = ordering_then (seam_key_cmp x.0 y.0) (key_cmp x.1 y.1)

abbrev pub return_of : Game → Key × Key → Option (SeamKey × Key)
return_of g ab = option_map (λ x. (x, ab.1)) (seam_key_of g Call ab.0)

abbrev pub put_return : List (SeamKey × Key) → Option SeamKey → Key → List (SeamKey × Key)
put_return xs None b = xs
put_return xs (Some x) b = xs ++ (x, b) ∷ []

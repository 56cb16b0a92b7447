-- Working definitions: promises by their numbers. Where the code has a key its promise is a number: the index of the promise among those that the
-- game needs, ascending. So it is with seam keys, and with memories.
use Rattle.std.specs.Prelude.{◌≡◌, ◌<◌, ℕ, Bool, List, Some, Contains, map, length, slice_index}
use Rattle.std.specs.List.Sorted.{IsStrictlySortedBy}
use Rattle.std.specs.Ordering.{nat_cmp}
use Rattle.cw_core.specs.declared.ids.StateId.{StateId}
use Rattle.cw_joins.specs.Members.{Rules, IsMember, then, joins}
use Rattle.cw_fixpoint.specs.Numbers.{number_in}
use Rattle.cw_game.specs.Games.{Game}
use Rattle.cw_product.specs.Product.{Held as HeldGame, game_of}
use Rattle.cw_solve.specs.Contexts.{context, IsNeeded}
use Rattle.cw_solve.specs.Solved.{Held}
use Rattle.cw_lazy_table.specs.declared.key.Key.{Key}
use Rattle.cw_lazy_table.specs.declared.seam_key.SeamKey.{SeamKey}
use Rattle.cw_lazy_table.specs.Choices.{lost_in, set_in, start_of, IsReady, CanFollow}
use Rattle.cw_lazy_table.specs.Closing.{key, rules}
use Rattle.cw_lazy_table.specs.Rowing.{Memories, AreMemories}
use Rattle.cw_lazy_table.specs.Tabled.{AreLive, AreReturns, AreAllMemories}

-- what a number stands for
abbrev pub whole : List ℕ → Key → Key
whole promises k = key k.pos k.state (slice_index promises k.promise)

abbrev pub whole_seam_key : List ℕ → SeamKey → SeamKey
whole_seam_key promises x = record { seam = x.seam; part = x.part; state = x.state; promise = slice_index promises x.promise; pos = x.pos }

abbrev pub whole_memory : List ℕ → StateId × ℕ → StateId × ℕ
whole_memory promises m = (m.0, slice_index promises m.1)

abbrev pub whole_pair : List ℕ → Key × Key → Key × Key
whole_pair promises ab = (whole promises ab.0, whole promises ab.1)

abbrev pub whole_return : List ℕ → SeamKey × Key → SeamKey × Key
whole_return promises xb = (whole_seam_key promises xb.0, whole promises xb.1)

-- what the lazy table chooses, by numbers
abbrev pub lost_by : Game → List ℕ → (p q n : ℕ) → Bool
lost_by g promises p q n = lost_in g p q (slice_index promises n)

abbrev pub set_at : Game → List ℕ → (p q n : ℕ) → ℕ
set_at g promises p q n = number_in nat_cmp promises (set_in g p q (slice_index promises n))

abbrev pub numbered : Game → List ℕ → Rules Key (ℕ × ℕ)
numbered g promises = rules g (lost_by g promises) (set_at g promises)

abbrev pub small : List ℕ → Key → Key
small promises k = key k.pos k.state (number_in nat_cmp promises k.promise)

-- the promises that a game needs, ascending
pub record ArePromises (g : Game) (promises : List ℕ) : Type 0 where
  pub order : IsStrictlySortedBy nat_cmp promises
  pub all : (f e : ℕ) → IsNeeded g (context f e) → Contains promises e

-- a key that is live by its promise, which the number stands for
pub record CanAsk (h : HeldGame) (s : Held) (es : List ℕ) (k : Key) : Type 0 where
  pub promises : ArePromises (game_of h) es
  pub within : k.promise < length es
  pub can : CanFollow h s (whole es k)

-- a key of the closure by numbers
pub record CanTake (h : HeldGame) (s : Held) (es : List ℕ) (k : Key) : Type 0 where
  pub ready : IsReady h s
  pub promises : ArePromises (game_of h) es
  pub member : IsMember (numbered (game_of h) es) (small es (start_of (game_of h))) k

pub takes : (h : HeldGame) (s : Held) (es : List ℕ) (k q : Key) → CanTake h s es k → Contains ((numbered (game_of h) es).after k) q → CanTake h s es q
takes h s es k q can i = record { ready = can.ready; promises = can.promises; member = then k q can.member i }

pub meets : (h : HeldGame) (s : Held) (es : List ℕ) (a b : Key) (x : ℕ × ℕ) → CanTake h s es a → CanTake h s es b
    → (numbered (game_of h) es).waits a ≡ Some x → (numbered (game_of h) es).ends b ≡ Some x
    → CanTake h s es ((numbered (game_of h) es).join a b)
meets h s es a b x can also w e = record { ready = can.ready; promises = can.promises; member = joins a b x can.member also.member w e }

-- all that is live, by numbers
pub record AreNumbered (h : HeldGame) (es : List ℕ) (keys : List Key) : Type 0 where
  pub promises : ArePromises (game_of h) es
  pub within : (k : Key) → Contains keys k → k.promise < length es
  pub live : AreLive h (map (whole es) keys)

-- all pairs of a call and an exit, by numbers
pub record ArePaired (h : HeldGame) (es : List ℕ) (pairs : List (Key × Key)) : Type 0 where
  pub promises : ArePromises (game_of h) es
  pub within : (ab : Key × Key) → Contains pairs ab → (ab.0.promise < length es) × (ab.1.promise < length es)
  pub returns : AreReturns h (map (whole_pair es) pairs)

-- all memories, by numbers
pub record AreKept (g : Game) (es : List ℕ) (ms : Memories) : Type 0 where
  pub promises : ArePromises g es
  pub within : (m : StateId × ℕ) → Contains ms m → m.1 < length es
  pub order : AreMemories ms
  pub all : AreAllMemories g (map (whole_memory es) ms)

-- the key where a call's function ends has the promise that is made at the call
abbrev pub ArePromised : Game → (promises : List ℕ) → List (SeamKey × Key) → Type 0
ArePromised g promises xs = (x : SeamKey × Key) → Contains xs x → x.1.promise ≡ set_at g promises x.0.pos x.0.state x.0.promise

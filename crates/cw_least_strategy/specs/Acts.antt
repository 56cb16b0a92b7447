-- Working definitions, for proofs and contracts inside: what the code's values stand for, and where it looks a height up.
use Rattle.std.specs.Prelude.{◌≡◌, ℕ, ◌<◌, List, map, Bool, Some, length, slice_get}
use Rattle.cw_game.specs.Games.{Game}
use Rattle.cw_game.specs.Pairs.{all_states}
use Rattle.cw_product.specs.Product.{game_of}
use Rattle.cw_solve.specs.declared.contexts.Context.{Context}
use Rattle.cw_product.specs.Routed.{IsOf}
use Rattle.cw_solve.specs.Contexts.{IsHeight}
use Rattle.cw_solve.specs.Numbering.{IsUnder}
use Rattle.cw_solve.specs.Solved.{Held}
use Rattle.cw_solve.specs.Tables.{HasCall}
use Rattle.cw_least_strategy.specs.declared.acts.Act.{Act as ActData}
use Rattle.cw_least_strategy.specs.declared.acts.Act.TheVariants as given
use Rattle.cw_least_strategy.specs.declared.acts.Lead.{Lead}
use Rattle.cw_least_strategy.specs.declared.heights.Lower.{Lower}
use Rattle.cw_least_strategy.specs.Heights.{others}
use Rattle.cw_least_strategy.specs.declared.key.Key.{Key}
use Rattle.cw_least_strategy.specs.declared.key.LentKey.{LentKey}
use Rattle.cw_least_strategy.specs.declared.key.Way.{Way}
use Rattle.cw_least_strategy.specs.Strategies.{backs_in, row_at, start_key, Act, Bad, Out, Both, Go, Into}

-- the context with this number has the pair, and promises all states but those of the aim
pub record IsIn (h : Held) (number aim p q : ℕ) : Type 0 where
  pub context : Context
  pub at : slice_get h.contexts number ≡ Some context
  pub below : context.function < length h.game.graph.parts.items
  pub of : IsOf (game_of h.game) context.function p
  pub state : q < (game_of h.game).states.count
  pub promise : context.promise ≡ others (game_of h.game) aim

-- some needed context has the position, and promises all states but those of the aim
abbrev pub IsThere : Game → ℕ → ℕ → Type 0
IsThere g p aim = IsUnder g p (others g aim)

-- a call stands at p, which returns to this position, plain or split
abbrev pub IsCall : Game → (p back : ℕ) → Bool → Type 0
IsCall g p back split = (function : ℕ) × HasCall g p function back split

-- the key whose aim is lent
abbrev pub key_of : LentKey → Key
key_of k = record { height = k.height; pos = k.pos; state = k.state; aim = k.aim.now }

-- the key of a pair below a key, for an aim, and the way of a move that leads there
abbrev pub key_at : ℕ → Lower → Key
key_at aim to = record { height = to.height; pos = to.pos.0; state = to.state.0; aim = aim }

abbrev pub way_at : ℕ → Lead → Way
way_at aim lead = record { by = lead.by; to = key_at aim lead.to }

-- what is done at a key of an aim
abbrev pub act_of : ℕ → ActData → Act
act_of aim given.Bad = Bad
act_of aim given.Out = Out
act_of aim (given.Both skip tried) = Both (key_at aim skip) (key_at aim tried)
act_of aim (given.Go lead) = Go (way_at aim lead)
act_of aim (given.Into callee backs) = Into callee.value (map (λ b. (b.0.0, b.1)) backs.items)

-- how many backs a key's row has
abbrev pub backs_of : Game → List Key → Key → ℕ
backs_of g keys k = backs_in (row_at g keys k).how

-- the start's height under the promise of all states
abbrev pub IsStartHeight : Game → ℕ → Type 0
IsStartHeight g height = IsHeight g (g.entry g.main) g.states.start (all_states g) height

-- the start is lost
abbrev pub IsLost : Game → Type 0
IsLost g = (height : ℕ) × IsStartHeight g height

-- the key of the start, with its height
abbrev pub IsStartKey : Game → Key → Type 0
IsStartKey g k = (height : ℕ) × IsStartHeight g height × (k ≡ start_key g height)

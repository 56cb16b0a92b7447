-- Working definitions: the keys to which the environment's moves lead, as the code puts them.
use Rattle.std.specs.Prelude.{ℕ, ◌+◌, Bool, cond, List, [], ◌∷◌, ◌++◌, Option, Some, None, option_map}
use Rattle.cw_core.specs.declared.ids.PosId.{PosId}
use Rattle.cw_core.specs.declared.ids.StateId.{StateId}
use Rattle.cw_certs.specs.declared.moves.Move.{Move}
use Rattle.cw_game.specs.Games.{Game}
use Rattle.cw_product.specs.Moves.{next_at}
use Rattle.cw_lazy_table.specs.declared.key.Key.{Key}
use Rattle.cw_lazy_table.specs.Closing.{key}

abbrev pub moved_by : Game → Key → Move → Option Key
moved_by g k by = option_map (λ r. key r.0 r.1 k.promise) (next_at g k.pos k.state by)

-- after a visit: the skip, or the try where the skip is lost
abbrev pub skip_or_try : ((p q e : ℕ) → Bool) → Key → Key
skip_or_try lost k = key (cond (lost (k.pos + 2) k.state k.promise) (k.pos + 1) (k.pos + 2)) k.state k.promise

-- with the key of a pair behind, if there is one
abbrev pub put_if : List Key → Option (PosId × StateId) → ℕ → List Key
put_if keys None e = keys
put_if keys (Some pair) e = keys ++ key pair.0.0 pair.1.0 e ∷ []

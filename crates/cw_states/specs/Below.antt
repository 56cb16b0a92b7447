-- The law: from states below the count each call leads to states below the count.
use Rattle.std.specs.Prelude.{ℕ, ◌<◌}
use Rattle.cw_rights.specs.declared.capabilities.Primitive.{Primitive}
use Rattle.cw_game.specs.Games.{States}
use Rattle.cw_states.specs.declared.uses.Uses.{Uses}
use Rattle.cw_states.specs.States.{Lists, AreLists, states_of}

-- whatever is granted, opened and closed, and whatever the letter
pub record StayBelow (s : States) : Type 0 where
  pub start : s.start < s.count
  pub granted : (q : ℕ) (a : Primitive) → q < s.count → s.granted q a < s.count
  pub opened : (q d : ℕ) → q < s.count → s.opened q d < s.count
  pub closed : (q d : ℕ) → q < s.count → s.closed q d < s.count
  pub lettered : (q label : ℕ) → q < s.count → s.lettered q label < s.count
  pub with_rights : (x q : ℕ) → x < s.count → q < s.count → s.with_rights x q < s.count

abbrev pub StatesStayBelow : Type 0
StatesStayBelow = (uses : Uses) (v : Lists) → AreLists uses v → StayBelow (states_of v)

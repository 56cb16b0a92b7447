-- Working definitions: a link is taken, and the context is found or added to which it goes.
use Rattle.std.specs.Prelude.{◌≡◌, ◌⊎◌, ℕ, ◌<◌, Option, Some, None, slice_get}
use Rattle.cw_game.specs.Games.{Game}
use Rattle.cw_solve.specs.declared.contexts.Context.{Context}
use Rattle.cw_linked.specs.declared.links.Stepped.{Stepped}
use Rattle.cw_linked.specs.declared.links.Stepped.TheVariants.{More, TooMany}
use Rattle.cw_linked.specs.declared.work.Work.{Work}
use Rattle.cw_linked.specs.Added.{AddsContext}
use Rattle.cw_linked.specs.Measures.{work_left}
use Rattle.cw_linked.specs.Popped.{IsWork}
use Rattle.cw_linked.specs.Solving.{IsBeyond}
use Rattle.cw_linked.specs.Works.{known_of}

-- the number of a context: it was there, or is added
pub record IsNumbered (g : Game) (old new : Work) (c : Context) (number : ℕ) : Type 0 where
  pub there : slice_get new.blocks.contexts.items number ≡ Some c
  pub grows : (new ≡ old) ⊎ AddsContext g old new c

-- or its cells are too many, and nothing changes
abbrev pub NumbersContext : Game → (old new : Work) → Context → Option ℕ → Type 0
NumbersContext g old new c (Some number) = IsNumbered g old new c number
NumbersContext g old new c None = (new ≡ old) × IsBeyond g (known_of new) c

-- less is left to do, or the context is needed that was wanted, and its cells are too many
abbrev pub TakesLink : Game → (old new : Work) → Stepped → Context → Type 0
TakesLink g old new More c = IsWork g new × (work_left g new < work_left g old)
TakesLink g old new TooMany c = (new ≡ old) × IsBeyond g (known_of new) c

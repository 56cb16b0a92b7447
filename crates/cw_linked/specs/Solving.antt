-- Working definitions: a game is solved step by step.
use Rattle.std.specs.Prelude.{◌≡◌, ℕ, ◌+◌, ◌<◌, [], Option, Some, None, length, slice_index, Contains}
use Rattle.cw_core.specs.Quantities.{limit_of}
use Rattle.cw_core.specs.declared.quantity.Quantity.TheVariants.{Cells}
use Rattle.cw_game.specs.Games.{Game}
use Rattle.cw_solve.specs.declared.contexts.Context.{Context}
use Rattle.cw_solve.specs.Contexts.{size, HeightIs, IsNeeded}
use Rattle.cw_links.specs.Stores.{IsBlank}
use Rattle.cw_solve.specs.Rounds.{slot, height_by, IsCell}
use Rattle.cw_solve.specs.Tables.{IsMissing}
use Rattle.cw_linked.specs.declared.work.Work.{Work}
use Rattle.cw_linked.specs.Works.{Known, IsKnown}

-- nothing is found yet, and there is room for nothing
pub record IsBlankWork (w : Work) : Type 0 where
  pub contexts : w.blocks.contexts.items ≡ []
  pub bases : w.blocks.bases.items ≡ []
  pub written : w.written ≡ 0
  pub store : IsBlank w.store

-- what is known are the heights, and the contexts are all that are needed
pub record IsAllKnown (g : Game) (t : Known) : Type 0 where
  pub heights : (i : ℕ) (c : Context) (p q : ℕ) → IsCell g t.blocks.contexts.items i c p q
      → HeightIs g p q c.promise (height_by (slice_index t.heights (slot g t.blocks.contexts.items i c.function p q)))
  pub all : (c : Context) → IsNeeded g c → Contains t.blocks.contexts.items c

-- a context that is needed and not tabled, and whose cells are too many beside those that are there
pub record IsBeyond (g : Game) (t : Known) (c : Context) : Type 0 where
  pub missing : IsMissing g t.blocks c
  pub many : limit_of Cells < length t.heights + size g c.function

-- what comes of all steps
abbrev pub Ends : Game → Known → Option Context → Type 0
Ends g t None = IsKnown g t × IsAllKnown g t
Ends g t (Some c) = IsKnown g t × IsBeyond g t c

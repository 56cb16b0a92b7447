-- Working definitions: what a rewriting at the front of a frame leaves.
use Rattle.std.specs.Prelude.{◌≡◌, ◌<◌, suc, ◌+◌, ℕ, [], ◌∷◌}
use Rattle.cw_syntax.specs.Plans.{Stm, Stms, Group, While, Do, For, end, then, Scene}
use Rattle.cw_syntax.specs.Frames.{Item, Todo, Frame, settle}
use Rattle.cw_boards.specs.declared.frames.Rewritten.{Rewritten}
use Rattle.cw_boards.specs.declared.frames.Rewritten.TheVariants.{Last, More}
use Rattle.cw_boards.specs.Held.{frame_in}

-- what a rewriting of a frame leaves: either the frame is rewritten whole, or it is the same to rewrite, and there is less of it
abbrev mutual
  pub weight : Stm → ℕ
  weight (Group ss) = suc (weights ss)
  weight (While at s) = 3
  weight (Do at s) = weight s + 3
  weight (For at init decided stepped s) = 4
  weight _ = 1

  pub weights : Stms → ℕ
  weights end = 0
  weights (then s ss) = weight s + weights ss

abbrev pub item_weight : Item → ℕ
item_weight (Todo s) = weight s
item_weight _ = 1

abbrev pub frame_weight : Frame → ℕ
frame_weight [] = 0
frame_weight (i ∷ is) = item_weight i + frame_weight is

abbrev pub Rewrites : Scene → Frame → Rewritten → Type 0
Rewrites s frame (Last next) = frame_in s next ≡ settle frame
Rewrites s frame (More next) = (settle (frame_in s next) ≡ settle frame) × (frame_weight (frame_in s next) < frame_weight frame)

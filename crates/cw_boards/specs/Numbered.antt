-- Seams whose numbers fit 64 bits, each with the number behind it.
use Rattle.std.specs.Prelude.{ℕ, ◌-◌, ◌^◌, ◌<◌, List, [], ◌∷◌, min}
use Rattle.cw_syntax.specs.Plans.{Stm, Plain, Break, Continue, Return, Open, Close, Call, Group, Label, If, While, Do, For, Stms, end, then}
use Rattle.cw_syntax.specs.Frames.{Item, Entry, Todo, Test, After, LoopEnd, End, Frame}

-- the greatest number of 64 bits: a source of boards has no more seams
abbrev pub most_seams : ℕ
most_seams = 2 ^ 64 - 1

-- a count that goes up to it
abbrev pub capped : ℕ → ℕ
capped n = min n most_seams

-- each seam of a statement has a number below this one
abbrev mutual
  pub SeamsBelow : ℕ → Stm → Type 0
  SeamsBelow n (Plain at) = Unit {0}
  SeamsBelow n (Break at) = Unit {0}
  SeamsBelow n (Continue at) = Unit {0}
  SeamsBelow n (Return at) = Unit {0}
  SeamsBelow n (Open at j d) = j < n
  SeamsBelow n (Close at j d) = j < n
  SeamsBelow n (Call at j callee) = j < n
  SeamsBelow n (Group ss) = AllSeamsBelow n ss
  SeamsBelow n (Label at mark j l s) = (j < n) × SeamsBelow n s
  SeamsBelow n (If at s t) = SeamsBelow n s × SeamsBelow n t
  SeamsBelow n (While at s) = SeamsBelow n s
  SeamsBelow n (Do at s) = SeamsBelow n s
  SeamsBelow n (For at init decided stepped s) = SeamsBelow n s

  pub AllSeamsBelow : ℕ → Stms → Type 0
  AllSeamsBelow n end = Unit {0}
  AllSeamsBelow n (then s ss) = SeamsBelow n s × AllSeamsBelow n ss

-- and each of an item, of a frame, of the frames of a stack
abbrev pub ItemBelow : ℕ → Item → Type 0
ItemBelow n (Entry f j) = j < n
ItemBelow n (Todo s) = SeamsBelow n s
ItemBelow n (Test at decided stepped s) = SeamsBelow n s
ItemBelow n (After at) = Unit {0}
ItemBelow n LoopEnd = Unit {0}
ItemBelow n (End f) = Unit {0}

abbrev pub FrameBelow : ℕ → Frame → Type 0
FrameBelow n [] = Unit {0}
FrameBelow n (i ∷ is) = ItemBelow n i × FrameBelow n is

abbrev pub StackBelow : ℕ → List Frame → Type 0
StackBelow n [] = Unit {0}
StackBelow n (frame ∷ frames) = FrameBelow n frame × StackBelow n frames

-- Stacks of frames among the points of a graph: a step of the stack is one of the graph by the same way, and there is the one where there is the other.
use Rattle.std.proofs.Common.{◌≡◌, ℕ, List, [], ◌∷◌, true, Option, Some, None, option_map, refl}
use Rattle.cw_syntax.specs.Plans.{Routine}
use Rattle.cw_syntax.specs.Frames.{Item, Frame, new_frame, settle, popped, settled}
use Rattle.cw_syntax.proofs.Settling.{settle_settled}
use Rattle.cw_points.specs.declared.graph.Node.{Node}
use Rattle.cw_points.specs.declared.graph.Part.{Part}
use Rattle.cw_points.specs.Graphs.{successors}
use Rattle.cw_points.specs.Walks.{Stand, stand, first_of, returned}
use Rattle.cw_points.proofs.Situated.{At, IsPart}
use Rattle.cw_points.proofs.Standing.{Jumps, at_settle, at_new_frame}

-- a frame that waits: what stands behind its call is at the point to which the callee returns
abbrev pub Waits : List Node → List Item → Frame → ℕ → Type 0
Waits ns its [] back = ⊥
Waits ns its (call ∷ rest) back = (f : ℕ) × (x : ℕ) × At ns its f x rest back

abbrev pub Below : List Node → List Item → List Frame → List ℕ → Type 0
Below ns its [] [] = Unit {0}
Below ns its (frame ∷ frames) (back ∷ returns) = Waits ns its frame back × Below ns its frames returns
Below ns its _ _ = ⊥

-- A stack stands there: its top frame at the point, each below at its return. Where there is no frame the program is over.
abbrev pub StackAt : List Node → List Item → List Frame → Option Stand → Type 0
StackAt ns its [] None = Unit {0}
StackAt ns its (frame ∷ frames) (Some s) = (f : ℕ) × (x : ℕ) × At ns its f x frame s.point × (settled frame ≡ true) × Below ns its frames s.returns
StackAt ns its _ _ = ⊥

-- two steps: there are both, and the one leads to where the other does, or there is neither
abbrev pub Tied : List Node → List Item → Option (List Frame) → Option (Option Stand) → Type 0
Tied ns its None None = Unit {0}
Tied ns its (Some stack) (Some here) = StackAt ns its stack here
Tied ns its _ _ = ⊥

module _ (ns : List Node) (its : List Item) where
  pub lands : (f x : ℕ) (raw : Frame) (q : ℕ) (frames : List Frame) (returns : List ℕ) → At ns its f x raw q → Below ns its frames returns
      → StackAt ns its (settle raw ∷ frames) (Some (stand returns q))
  lands f x raw q frames returns h b = (f, x, at_settle ns its f x raw q h, settle_settled raw, b)

  pub jumped : (f x : ℕ) (o : Option Frame) (b : Option ℕ) (frames : List Frame) (returns : List ℕ) → Jumps ns its f x o b → Below ns its frames returns
      → Tied ns its (option_map (λ next. settle next ∷ frames) o) (option_map (λ p. Some (stand returns p)) (first_of (successors b None)))
  jumped f x None None frames returns h w = tt
  jumped f x (Some raw) (Some q) frames returns h w = lands f x raw q frames returns h w
  jumped f x None (Some q) frames returns h w = absurd h
  jumped f x (Some raw) None frames returns h w = absurd h

  -- a function that is called, or that the program begins with
  pub begun : (f : ℕ) (o : Option Routine) (q : Option Part) (frames : List Frame) (returns : List ℕ) → IsPart ns its f o q → Below ns its frames returns
      → Tied ns its (option_map (λ frame. frame ∷ frames) (option_map (new_frame f) o)) (option_map (λ s. Some s) (option_map (λ part. stand returns part.entry.0) q))
  begun f None None frames returns h w = tt
  begun f (Some r) (Some part) frames returns h w = (f, part.exit.0, at_new_frame ns its f r part.entry.0 part.exit.0 h, refl, w)
  begun f None (Some part) frames returns h w = absurd h
  begun f (Some r) None frames returns h w = absurd h

  pub ended_call : (frames : List Frame) (returns : List ℕ) → Below ns its frames returns → Tied ns its (popped frames) (Some (returned returns))
  ended_call [] [] h = tt
  ended_call [] (back ∷ returns) h = absurd h
  ended_call ([] ∷ frames) [] h = absurd h
  ended_call ([] ∷ frames) (back ∷ returns) h = absurd h.0
  ended_call ((call ∷ rest) ∷ frames) [] h = absurd h
  ended_call ((call ∷ rest) ∷ frames) (back ∷ returns) h = lands h.0.0 h.0.1 rest back frames returns h.0.2 h.1

-- Rewriting the front of a frame.
use Rattle.std.proofs.Common.{◌≡◌, ◌<◌, ℕ, ◌+◌, ◌∷◌, Bool, Option, Some, None, Vec, Box, Global, refl, sym, ap, ◌∙◌, arith}
use Rattle.std.specs.Prelude.{option_map, is_some}
use Rattle.std.specs.declared.collections.VecDeque.{VecDeque}
use Rattle.cw_syntax.specs.declared.program.Stmt.{Stmt}
use Rattle.cw_syntax.specs.declared.program.Head.{Head, out-Head}
use Rattle.cw_syntax.specs.declared.program.What.TheVariants.{Block, For as ForWhat}
use Rattle.cw_syntax.specs.Plans.{Stm, Group, Stms, end, then, Scene, numbered, numbered_all}
use Rattle.cw_syntax.specs.Frames.{Todo, Test, LoopEnd, Frame, items_of, init_if, settle}
use Rattle.cw_boards.specs.declared.items.Item.{Item as Held}
use Rattle.cw_boards.specs.declared.frames.Rewritten.TheVariants.{More}
use Rattle.cw_resolve.specs.Scenes.{stm_in, stms_in}
use Rattle.cw_boards.specs.Held.{frame_in}
use Rattle.cw_boards.specs.Rewriting.{weights, frame_weight, Rewrites}
use Rattle.cw_resolve.proofs.Shapes.{block_steps, for_by, for_steps}
use Rattle.cw_syntax.proofs.Settling.{settle_all}

weigh_all : (ss : Stms) (rest : Frame) → frame_weight (items_of ss rest) ≡ weights ss + frame_weight rest
weigh_all end rest = omega arith
weigh_all (then s ss) rest = let h = weigh_all ss rest in omega (arith, h)

module _ (s : Scene) where
  -- the same statement, by what it is
  abbrev At : Stmt → ℕ → Frame → Frame
  At st j rest = Todo (numbered (stm_in s st) j) ∷ rest

  more : (st : Stmt) (x : Stm) (j : ℕ) (rest next : Frame) (d : VecDeque Held Global) → stm_in s st ≡ x → frame_in s d ≡ next → settle next ≡ settle (Todo (numbered x j) ∷ rest)
      → frame_weight next < frame_weight (Todo (numbered x j) ∷ rest) → Rewrites s (At st j rest) (More d)
  more st x j rest next d e f g w = (
    ap settle f ∙ g ∙ sym (ap (λ y. settle (Todo (numbered y j) ∷ rest)) e),
    let a : frame_weight (frame_in s d) ≡ frame_weight next = ap frame_weight f in
        let b : frame_weight (At st j rest) ≡ frame_weight (Todo (numbered x j) ∷ rest) = ap (λ y. frame_weight (Todo (numbered y j) ∷ rest)) e in
        omega (arith, a, b, w),
  )

  pub a_block : (st : Stmt) (v : Vec Stmt Global) (j : ℕ) (rest : Frame) (d : VecDeque Held Global) → st.what ≡ Block v → frame_in s d ≡ items_of (numbered_all (stms_in s v.items) j) rest
      → Rewrites s (At st j rest) (More d)
  a_block st v j rest d e f =
      let ss = numbered_all (stms_in s v.items) j in
      let w = weigh_all ss rest in
      let l : frame_weight (items_of ss rest) < frame_weight (Todo (Group ss) ∷ rest) = omega (arith, w) in
      more st (Group (stms_in s v.items)) j rest (items_of ss rest) d (block_steps s st.from st.what v e) f (sym (settle_all ss rest)) l

  abbrev Looped : ℕ → Bool → Bool → Stmt → ℕ → Frame → Frame
  Looped at decided stepped body j rest = Test at decided stepped (numbered (stm_in s body) j) ∷ (LoopEnd ∷ rest)

  init_settles : (init : Option ℕ) (at : ℕ) (decided stepped : Bool) (b : Stm) (rest : Frame)
      → settle (init_if init (Test at decided stepped b ∷ (LoopEnd ∷ rest))) ≡ init_if init (Test at decided stepped b ∷ (LoopEnd ∷ rest))
  init_settles None at decided stepped b rest = refl
  init_settles (Some i) at decided stepped b rest = refl

  init_weighs : (init : Option ℕ) (at : ℕ) (decided stepped : Bool) (b : Stm) (rest : Frame) → frame_weight (init_if init (Test at decided stepped b ∷ (LoopEnd ∷ rest))) < 4 + frame_weight rest
  init_weighs None at decided stepped b rest = omega arith
  init_weighs (Some i) at decided stepped b rest = omega arith

  pub a_for : (st : Stmt) (h : Box Head Global) (b : Box Stmt Global) (j : ℕ) (rest : Frame) (d : VecDeque Held Global) → st.what ≡ ForWhat h b
      → frame_in s d ≡ init_if (option_map (λ i. i.from) (out-Head h.value).init) (Looped st.from (is_some (out-Head h.value).test) (is_some (out-Head h.value).step) b.value j rest)
      → Rewrites s (At st j rest) (More d)
  a_for st h b j rest d q f =
      let o = out-Head h.value in
      let body = numbered (stm_in s b.value) j in
      let init = option_map (λ (i : Stmt). i.from) o.init in
      more st (for_by s st.from h.value (stm_in s b.value)) j rest (init_if init (Looped st.from (is_some o.test) (is_some o.step) b.value j rest)) d
      (for_steps s st.from st.what h b q) f
      (init_settles init st.from (is_some o.test) (is_some o.step) body rest)
      (init_weighs init st.from (is_some o.test) (is_some o.step) body rest)

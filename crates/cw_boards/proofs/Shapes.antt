-- What numbering the seams leaves of a statement's kind, and the kind of a `for`.
use Rattle.std.proofs.Common.{◌≡◌, ℕ, Box, Global, refl, sym, ap, ◌∙◌}
use Rattle.cw_syntax.specs.declared.program.Stmt.{Stmt}
use Rattle.cw_syntax.specs.declared.program.What.{What}
use Rattle.cw_syntax.specs.declared.program.Head.{Head, Head'}
use Rattle.cw_syntax.specs.declared.program.What.TheVariants.{For as ForWhat}
use Rattle.cw_syntax.specs.Trees.{Statement, form_of, for_of, Stated}
use Rattle.cw_syntax.specs.Plans.{Scene, numbered, steps_of_form}
use Rattle.cw_boards.specs.declared.kinds.FrontKind.TheVariants.{Loop as LoopKind}
use Rattle.cw_boards.specs.Kinds.{kind_of}
use Rattle.cw_syntax.specs.Frames.{Frame, Todo, Way}
use Rattle.std.specs.Prelude.{None}
use Rattle.cw_boards.specs.Turns.{entered}

loops : (s : Scene) (at : ℕ) (h : Head) (body : Statement) → LoopKind ≡ kind_of (steps_of_form s at (for_of h body))
loops s at (Head' init test step) body = refl

pub for_kind : (s : Scene) (at : ℕ) (w : What) (h : Box Head Global) (b : Box Stmt Global) → w ≡ ForWhat h b → LoopKind ≡ kind_of (steps_of_form s at (form_of w))
for_kind s at w h b e = loops s at h.value (Stated (form_of b.value.what) b.value.from b.value.to) ∙ ap (λ w. kind_of (steps_of_form s at (form_of w))) (sym e)

enters_none : (s : Scene) (at j : ℕ) (h : Head) (body : Statement) (way : Way) (rest : Frame) → None ≡ entered (Todo (numbered (steps_of_form s at (for_of h body)) j)) way rest
enters_none s at j (Head' init test step) body way rest = refl

pub for_enters : (s : Scene) (at j : ℕ) (w : What) (h : Box Head Global) (b : Box Stmt Global) (way : Way) (rest : Frame) → w ≡ ForWhat h b
    → None ≡ entered (Todo (numbered (steps_of_form s at (form_of w)) j)) way rest
for_enters s at j w h b way rest e = enters_none s at j h.value (Stated (form_of b.value.what) b.value.from b.value.to) way rest
    ∙ ap (λ w. entered (Todo (numbered (steps_of_form s at (form_of w)) j)) way rest) (sym e)

-- Where the statements lie that get the two texts, and a text with these.
use Rattle.std.specs.Prelude.{ℕ, List, [], ◌∷◌, ◌++◌, drop}
use Rattle.cw_syntax.specs.Names.{slice}
use Rattle.cw_detach.specs.Form.{before, behind}
use Rattle.cw_forms.specs.Stretches.{Stretch, Keeps, Calls}

-- from where to where each lies
abbrev pub spans_of : List Stretch → List (ℕ × ℕ)
spans_of [] = []
spans_of (Keeps t ∷ ps) = spans_of ps
spans_of (Calls t ys c ∷ ps) = (t.from, c.to) ∷ spans_of ps

unfoldable pub with_texts : List ℕ → ℕ → List (ℕ × ℕ) → List ℕ
with_texts source at [] = drop at source
with_texts source at (s ∷ ss) = slice source at s.0 ++ (before ++ (slice source s.0 s.1 ++ (behind ++ with_texts source s.1 ss)))

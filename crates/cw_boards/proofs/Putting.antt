-- Statements put before a frame, from the last to the first.
use Rattle.std.proofs.Common.{◌≡◌, ◌≤◌, ◌<◌, ℕ, zero, suc, ◌+◌, ◌-◌, List, [], ◌∷◌, drop, length, get_or, ap, sym, ◌∙◌, arith}
use Rattle.std.proofs.lemmas.List.{drop_all}
use Rattle.cw_syntax.specs.declared.program.Stmt.{Stmt}
use Rattle.cw_syntax.specs.Plans.{Scene, numbered, numbered_all, seams, seams_all}
use Rattle.cw_syntax.specs.Frames.{Frame, Todo, items_of}
use Rattle.cw_resolve.specs.Scenes.{stm_in, stms_in}
use Rattle.cw_boards.proofs.Having.{from_here}

pub record Puts (s : Scene) (xs : List Stmt) (seam : ℕ) (rest : Frame) (i at : ℕ) (frame : Frame) : Type 0 where
  pub within : i ≤ length xs
  pub count : at + seams_all (stms_in s (drop i xs)) ≡ seam + seams_all (stms_in s xs)
  pub put : frame ≡ items_of (numbered_all (stms_in s (drop i xs)) at) rest

some_of : (s : Scene) (xs : List Stmt) (k : ℕ) → seams_all (stms_in s (drop k xs)) ≤ seams_all (stms_in s xs)
some_of s [] zero = omega arith
some_of s [] (suc k) = omega arith
some_of s (x ∷ xs) zero = omega arith
some_of s (x ∷ xs) (suc k) = let h = some_of s xs k in omega (arith, h)

-- at the end none is put
pub none_put : (s : Scene) (xs : List Stmt) (seam : ℕ) (rest : Frame) (i at : ℕ) → i ≡ length xs → at ≡ seam + seams_all (stms_in s xs) → Puts s xs seam rest i at rest
none_put s xs seam rest i at e a =
    let none : drop i xs ≡ [] = drop_all i xs (omega (arith, e)) in record {
      within = omega (arith, e);
      count = ap (λ l. at + seams_all (stms_in s l)) none ∙ omega (arith, a);
      put = sym (ap (λ l. items_of (numbered_all (stms_in s l) at) rest) none);
    }

-- a statement has no more seams than all
pub one_within : (s : Scene) (xs : List Stmt) (i k : ℕ) (x : Stmt) → i ≡ k + 1 → k < length xs → x ≡ get_or xs k x → seams (stm_in s x) ≤ seams_all (stms_in s xs)
one_within s xs i k x next_to within here =
    let from = from_here xs k x within here in
    let m = some_of s xs k in
    omega (arith, m, ap (λ l. seams_all (stms_in s l)) from)

-- the statement at place k comes before those from i on
module _ (s : Scene) (xs : List Stmt) (seam : ℕ) (rest : Frame) (i k at own : ℕ) (frame : Frame) (x : Stmt)
    (next_to : i ≡ k + 1) (within : k < length xs) (here : x ≡ get_or xs k x) (its : own ≡ seams (stm_in s x)) (puts : Puts s xs seam rest i at frame) where
  from : drop k xs ≡ x ∷ drop i xs
  from = from_here xs k x within here ∙ ap (λ n. x ∷ drop n xs) (sym next_to)

  split : seams_all (stms_in s (drop k xs)) ≡ seams (stm_in s x) + seams_all (stms_in s (drop i xs))
  split = ap (λ l. seams_all (stms_in s l)) from

  pub own_fits : own ≤ at
  own_fits = let a = split in let m = some_of s xs k in let c = puts.count in omega (arith, a, m, c, its)

  pub one_more : (next : Frame) → next ≡ Todo (numbered (stm_in s x) (at - own)) ∷ frame → Puts s xs seam rest k (at - own) next
  one_more next e =
      let a = split in
      let f = own_fits in
      let c = puts.count in
      let z : at ≡ (at - own) + seams (stm_in s x) = omega (arith, f, its) in record {
        within = omega (arith, within);
        count = omega (arith, a, f, c, its);
        put = e
            ∙ ap (λ l. Todo (numbered (stm_in s x) (at - own)) ∷ l) (puts.put ∙ ap (λ j. items_of (numbered_all (stms_in s (drop i xs)) j) rest) z)
            ∙ sym (ap (λ l. items_of (numbered_all (stms_in s l) (at - own)) rest) from);
      }

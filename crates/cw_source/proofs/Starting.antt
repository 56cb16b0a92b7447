-- A program that is read has `main`, and few functions.
use Rattle.std.proofs.Common.{◌≡◌, ℕ, suc, ◌+◌, ◌≤◌, Bool, true, false, cond, is_some, List, [], ◌∷◌, length, map, Some, slice_get, refl, arith}
use Rattle.std.specs.Prelude.{codes}
use Rattle.std.specs.List.{find, position_or_len}
use Rattle.std.specs.Str.{bytes_eq}
use Rattle.std.proofs.lemmas.Bool.{false≢true}
use Rattle.cw_syntax.specs.Names.{Names, text}
use Rattle.cw_syntax.specs.Trees.{Definition, File}
use Rattle.cw_syntax.specs.Plans.{Scene, steps_of_all, seams_all, Routine, routines_from, scene_of, plan_of}
use Rattle.cw_source.specs.Read.{ReadsAs}
use Rattle.cw_source.proofs.Kept.{has_main_kept, functions_kept}
use Rattle.cw_syntax.proofs.Counting.{length_routines}

behind : (x : Routine) (xs : List Routine) (n : ℕ) (r : Routine) → slice_get xs n ≡ Some r → slice_get (x ∷ xs) (1 + n) ≡ Some r
behind x xs n r e = let same : 1 + n ≡ suc n = omega arith in rw same e

module _ (s : Scene) (source name : List ℕ) where
  abbrev is_named : Definition → Bool
  is_named f = bytes_eq name (text source f.name)

  abbrev place : List Definition → ℕ
  place fs = position_or_len (bytes_eq name) (map (λ f. text source f.name) fs)

  abbrev IsThere : List Definition → ℕ → Type 0
  IsThere fs j = (r : Routine) × (slice_get (routines_from s j fs) (place fs) ≡ Some r)

  there_more : (f : Definition) (fs : List Definition) (j : ℕ) (b : Bool) → is_named f ≡ b → is_some (cond b (Some f) (find is_named fs)) ≡ true
      → (is_some (find is_named fs) ≡ true → IsThere fs (j + 1 + seams_all (steps_of_all s f.body))) → IsThere (f ∷ fs) j
  there_more f fs j true is some more = rw is (_, refl)
  there_more f fs j false is some more =
      let found = more some in
      (found.0, rw is (behind _ _ (place fs) found.0 found.1))

  there : (fs : List Definition) (j : ℕ) → is_some (find is_named fs) ≡ true → IsThere fs j
  there [] j e = absurd (false≢true e)
  there (f ∷ fs) j e = there_more f fs j (is_named f) refl e (there fs (j + 1 + seams_all (steps_of_all s f.body)))

pub main_there : (names : Names) (source : List ℕ) (file : File) → ReadsAs source file → (r : Routine) × (slice_get (plan_of names source file).routines (plan_of names source file).main ≡ Some r)
main_there names source file h = there (scene_of names source file) source (codes "main") file.functions 0 (has_main_kept source file h.scoped)

pub functions_few : (names : Names) (source : List ℕ) (file : File) → ReadsAs source file → length (plan_of names source file).routines ≤ 512
functions_few names source file h = rw (length_routines (scene_of names source file) 0 file.functions) (functions_kept source file h.scoped)

-- The first of some conditions that fails: of two lists of them, and of those that are told otherwise.
use Rattle.std.proofs.Common.{◌≡◌, List, [], ◌∷◌, ◌++◌, map, Bool, true, false, cond, Option, Some, None, option_map, refl, ap, ◌∙◌}
use Rattle.std.specs.Option.{option_or}
use Rattle.cw_game.specs.Conditions.{first_failing}

pub first_append : {A : Type 0} (xs ys : List (A × Bool)) → first_failing (xs ++ ys) ≡ option_or (first_failing xs) (first_failing ys)
first_append [] ys = refl
first_append (x ∷ xs) ys = by x.1 (first_append xs ys)
  where
    by : (b : Bool) → first_failing (xs ++ ys) ≡ option_or (first_failing xs) (first_failing ys)
        → cond b (first_failing (xs ++ ys)) (Some x.0) ≡ option_or (cond b (first_failing xs) (Some x.0)) (first_failing ys)
    by true h = h
    by false h = refl

pub first_mapped : {A B : Type 0} (f : A → B) (cs : List (A × Bool)) → first_failing (map (λ c. (f c.0, c.1)) cs) ≡ option_map f (first_failing cs)
first_mapped f [] = refl
first_mapped f (c ∷ cs) = by c.1 (first_mapped f cs)
  where
    by : (b : Bool) → first_failing (map (λ c. (f c.0, c.1)) cs) ≡ option_map f (first_failing cs)
        → cond b (first_failing (map (λ c. (f c.0, c.1)) cs)) (Some (f c.0)) ≡ option_map f (cond b (first_failing cs) (Some c.0))
    by true h = h
    by false h = refl

-- that of the first list, or else that of the second
pub append_none : {A : Type 0} (xs ys : List (A × Bool)) → first_failing xs ≡ None → first_failing (xs ++ ys) ≡ first_failing ys
append_none xs ys e = first_append xs ys ∙ ap (λ o. option_or o (first_failing ys)) e

pub append_some : {A : Type 0} (xs ys : List (A × Bool)) (x : A) → first_failing xs ≡ Some x → first_failing (xs ++ ys) ≡ Some x
append_some xs ys x e = first_append xs ys ∙ ap (λ o. option_or o (first_failing ys)) e

-- where each holds none fails
pub none_more : {A : Type 0} (b : Bool) (rest : Option A) (a : A) → b ≡ true → rest ≡ None → cond b rest (Some a) ≡ None
none_more b rest a e h = ap (λ b. cond b rest (Some a)) e ∙ h

pub none_append : {A : Type 0} (xs ys : List (A × Bool)) → first_failing xs ≡ None → first_failing ys ≡ None → first_failing (xs ++ ys) ≡ None
none_append xs ys h k = append_none xs ys h ∙ k

pub none_mapped : {A B : Type 0} (f : A → B) (cs : List (A × Bool)) → first_failing cs ≡ None → first_failing (map (λ c. (f c.0, c.1)) cs) ≡ None
none_mapped f cs h = first_mapped f cs ∙ ap (option_map f) h

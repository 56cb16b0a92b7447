-- The least of some places, as a fact on all of them.
use Rattle.std.proofs.Common.{◌≡◌, ◌≤◌, ◌<◌, ◌⊎◌, inl, inr, ℕ, zero, suc, List, [], ◌∷◌, map, min, Option, None, Some, refl, sym, ap, ◌∙◌, subst, arith}
use Rattle.std.specs.Prelude.{slice_get}
use Rattle.std.specs.List.{Contains}
use Rattle.std.proofs.lemmas.List.Elements.{Contains-append_right, Contains-append_cases}
use Rattle.std.proofs.lemmas.Bool.{cases_lt}
use Rattle.cw_syntax.specs.declared.program.Function.{Function}
use Rattle.cw_syntax.specs.Names.{Names}
use Rattle.cw_syntax.specs.Trees.{Definition, File, definition_of}
use Rattle.cw_syntax.specs.Plans.{scene_of, plan_of}
use Rattle.cw_callgraph.specs.Effects.{Reaches}
use Rattle.cw_callgraph.specs.Forbidding.{IsLeast, Forbids, by_head, by_body, by_callee, places_of, head_places, body_places}
use Rattle.cw_callgraph.specs.Lowest.{lowest, at, forbidden}
use Rattle.cw_resolve.specs.Soonest.{sooner, soonest}
use Rattle.cw_lemmas.proofs.Lists.{contains_none as not_in, contains_one}

either : {A B C : Type 0} → (A → C) → (B → C) → A ⊎ B → C
either f g (inl a) = f a
either f g (inr b) = g b

pub turned : (P Q : ℕ → Type 0) (o : Option ℕ) → ((p : ℕ) → P p → Q p) → ((p : ℕ) → Q p → P p) → IsLeast P o → IsLeast Q o
turned P Q None to from h = λ p q. h p (from p q)
turned P Q (Some l) to from h = (to l h.0, λ p q. h.1 p (from p q))

lesser : (P Q : ℕ → Type 0) (a b : ℕ) → P a → Q b → (a < b) ⊎ (b ≤ a) → P (min a b) ⊎ Q (min a b)
lesser P Q a b p q (inl l) = let e : a ≡ min a b = omega (arith, l) in inl (subst P e p)
lesser P Q a b p q (inr l) = let e : b ≡ min a b = omega (arith, l) in inr (subst Q e q)

pub both : (P Q : ℕ → Type 0) (a b : Option ℕ) → IsLeast P a → IsLeast Q b → IsLeast (λ p. P p ⊎ Q p) (sooner a b)
both P Q None None h k = λ p. either (h p) (k p)
both P Q None (Some b) h k = (inr k.0, λ p. either (λ x. absurd (h p x)) (k.1 p))
both P Q (Some a) None h k = (inl h.0, λ p. either (h.1 p) (λ y. absurd (k p y)))
both P Q (Some a) (Some b) h k = (
  lesser P Q a b h.0 k.0 (cases_lt a b),
  λ p. either (λ x. let l : a ≤ p = h.1 p x in omega (arith, l)) (λ y. let l : b ≤ p = k.1 p y in omega (arith, l)),
)

-- one of these numbers has the place
abbrev pub HasSome : (ℕ → ℕ → Type 0) → List ℕ → ℕ → Type 0
HasSome P xs p = (g : ℕ) × Contains xs g × P g p

pub any : (P : ℕ → ℕ → Type 0) (o : ℕ → Option ℕ) (xs : List ℕ) → ((g : ℕ) → IsLeast (P g) (o g)) → IsLeast (HasSome P xs) (soonest (map o xs))
any P o [] h = λ p w. absurd (not_in w.0 w.1)
any P o (x ∷ xs) h = turned (λ p. P x p ⊎ HasSome P xs p) (HasSome P (x ∷ xs)) (sooner (o x) (soonest (map o xs))) to from (both (P x) (HasSome P xs) (o x) (soonest (map o xs)) (h x) (any P o xs h))
  where
    to : (p : ℕ) → P x p ⊎ HasSome P xs p → HasSome P (x ∷ xs) p
    to p (inl y) = (x, (0, omega arith, refl), y)
    to p (inr w) = (w.0, Contains-append_right (x ∷ []) xs w.0 w.1, w.2)

    from : (p : ℕ) → HasSome P (x ∷ xs) p → P x p ⊎ HasSome P xs p
    from p w = either (λ c. inl (subst (λ g. P g p) (sym (contains_one x w.0 c)) w.2)) (λ c. inr (w.0, c, w.2)) (Contains-append_cases (x ∷ []) xs w.0 w.1)

pub lowest_is : (ps : List ℕ) → IsLeast (Contains ps) (lowest ps)
lowest_is ps =
    turned (HasSome (λ g p. g ≡ p) ps) (Contains ps) (lowest ps) (λ p w. subst (Contains ps) w.2 w.1) (λ p c. (p, c, refl))
    (any (λ g p. g ≡ p) Some ps (λ g. (refl, λ p e. let l : g ≡ p = e in omega (arith, l))))

-- the least place of the function with this number
pub at_is : (F : Definition → List ℕ) (fs : List Function) (f : ℕ)
    → at (map (λ x. lowest (F (definition_of x))) fs) f ≡ lowest (places_of F (slice_get (map definition_of fs) f))
at_is F [] f = refl
at_is F (x ∷ fs) zero = refl
at_is F (x ∷ fs) (suc f) = at_is F fs f

pub least_at : (F : Definition → List ℕ) (fs : List Function) (places : List (Option ℕ)) (f : ℕ) → places ≡ map (λ x. lowest (F (definition_of x))) fs
    → IsLeast (Contains (places_of F (slice_get (map definition_of fs) f))) (at places f)
least_at F fs places f e =
    let ps = places_of F (slice_get (map definition_of fs) f) in
    subst (IsLeast (Contains ps)) (sym (ap (λ l. at l f) e ∙ at_is F fs f)) (lowest_is ps)

module _ (names : Names) (source : List ℕ) (file : File) (fs : List Function) (same : map definition_of fs ≡ file.functions) (heads bodies : List (Option ℕ))
    (heads_are : heads ≡ map (λ x. lowest (head_places (definition_of x))) fs) (bodies_are : bodies ≡ map (λ x. lowest (body_places (scene_of names source file) file (definition_of x))) fs) where
  abbrev Head : ℕ → ℕ → Type 0
  Head f p = Contains (places_of head_places (slice_get file.functions f)) p

  abbrev Body : ℕ → ℕ → Type 0
  Body f p = Contains (places_of (body_places (scene_of names source file) file) (slice_get file.functions f)) p

  head_least : (f : ℕ) → IsLeast (Head f) (at heads f)
  head_least f = subst (λ (l : List Definition). IsLeast (Contains (places_of head_places (slice_get l f))) (at heads f)) same (least_at head_places fs heads f heads_are)

  body_least : (f : ℕ) → IsLeast (Body f) (at bodies f)
  body_least f =
      subst (λ (l : List Definition). IsLeast (Contains (places_of (body_places (scene_of names source file) file) (slice_get l f))) (at bodies f)) same
      (least_at (body_places (scene_of names source file) file) fs bodies f bodies_are)

  pub forbidden_is : (f : ℕ) (reaches : List ℕ)
      → ((g : ℕ) → (Contains reaches g → Reaches (plan_of names source file) f g) × (Reaches (plan_of names source file) f g → Contains reaches g))
      → IsLeast (Forbids names source file f) (forbidden heads bodies f reaches)
  forbidden_is f reaches exact =
      turned (λ p. Head f p ⊎ (Body f p ⊎ HasSome Body reaches p)) (Forbids names source file f) (forbidden heads bodies f reaches) to from
      (both (Head f) (λ p. Body f p ⊎ HasSome Body reaches p) (at heads f) (sooner (at bodies f) (soonest (map (at bodies) reaches))) (head_least f)
      (both (Body f) (HasSome Body reaches) (at bodies f) (soonest (map (at bodies) reaches)) (body_least f) (any Body (at bodies) reaches body_least)))
    where
      to : (p : ℕ) → Head f p ⊎ (Body f p ⊎ HasSome Body reaches p) → Forbids names source file f p
      to p (inl h) = by_head h
      to p (inr (inl b)) = by_body b
      to p (inr (inr w)) = by_callee w.0 ((exact w.0).0 w.1) w.2

      from : (p : ℕ) → Forbids names source file f p → Head f p ⊎ (Body f p ⊎ HasSome Body reaches p)
      from p (by_head h) = inl h
      from p (by_body b) = inr (inl b)
      from p (by_callee g r b) = inr (inr (g, (exact g).1 r, b))

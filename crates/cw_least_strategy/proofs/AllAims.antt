-- The aims of all contexts.
use Rattle.std.proofs.Common.{◌≡◌, ℕ, ◌+◌, ◌<◌, ◌≤◌, ◌^◌, List, [], ◌∷◌, ◌++◌, Bool, true, false, not, ◌&&◌, Some, Fits, w32, map, take, length, nat_lt, refl, sym, ap, ◌∙◌, subst, arith}
use Rattle.std.proofs.Math.Facts.{Fits-lt-pow}
use Rattle.std.specs.Prelude.{slice_get}
use Rattle.std.specs.FinMap.{nat_cmp-IsAntisymmetric}
use Rattle.std.specs.List.{Contains}
use Rattle.std.specs.Bool.{Decides}
use Rattle.std.specs.Cmp.{nat_cmp_total, eq_by_cmp_equiv, tied_itself, both_ways}
use Rattle.std.specs.Ordering.{nat_cmp, eq_by_cmp, is_eq}
use Rattle.std.proofs.lemmas.Bool.{lt-ltb}
use Rattle.std.proofs.lemmas.List.{map-append, length-map, take_more}
use Rattle.std.proofs.lemmas.Map.Keys.{IsDistinct-from_sorted}
use Rattle.std.proofs.lemmas.Map.Made.{length-le_from_is_member, is_member-Decides}
use Rattle.std.proofs.lemmas.Option.{slice_get_within, get_or_from_slice_get}
use Rattle.cw_core.specs.StateSet.{has as has_member}
use Rattle.cw_core.proofs.Sets.{IsBelow_from_lt}
use Rattle.cw_fixpoint.specs.Closures.{Exactly}
use Rattle.cw_fixpoint.proofs.Numbers.{equal_is}
use Rattle.cw_game.specs.Games.{Game}
use Rattle.cw_game.specs.Pairs.{has}
use Rattle.cw_lemmas.proofs.Lists.{contains_map}
use Rattle.cw_product.specs.Product.{game_of}
use Rattle.cw_solve.specs.declared.contexts.Context.{Context}
use Rattle.cw_solve.specs.Contexts.{context, AreTheNeeded}
use Rattle.cw_solve.specs.Solved.{Held}
use Rattle.cw_least_strategy.specs.Heights.{others}
use Rattle.cw_least_strategy.specs.Small.{AreAims}
use Rattle.cw_game.proofs.Members.{same_set}
use Rattle.cw_solve.proofs.Sets.{has_set}

pub fit : {n : ℕ} → Fits w32 n → n < 4294967296
fit f = Fits-lt-pow f

-- what is left out of what is left out
low : (n set : ℕ) → set < 2 ^ n → (x : ℕ) → has set x ≡ true → nat_lt x n ≡ true
unfolding has_member
low n set lt x h = lt-ltb x n (IsBelow_from_lt n set lt x h)

twice : (b : Bool) → not (not b) ≡ b
twice true = refl
twice false = refl

out_twice : (n set : ℕ) → set < 2 ^ n → (x : ℕ) (t : Bool) → nat_lt x n ≡ t → (t && not (t && not (has set x))) ≡ has set x
out_twice n set lt x true e = twice (has set x)
out_twice n set lt x false e = both_ways false (has set x) (λ f. let w : false ≡ true = f in cc) (λ h. sym e ∙ low n set lt x h)

pub others_twice : (g : Game) (set : ℕ) → set < 2 ^ g.states.count → others g (others g set) ≡ set
others_twice g set lt =
    same_set (others g (others g set)) set
    (λ x. has_set (λ y. not (has (others g set) y)) g.states.count x
    ∙ ap (λ (b : Bool). nat_lt x g.states.count && not b) (has_set (λ y. not (has set y)) g.states.count x)
    ∙ out_twice g.states.count set lt x (nat_lt x g.states.count) refl)

decides_nat : (a b : ℕ) → Decides (eq_by_cmp nat_cmp a b) (a ≡ b)
decides_nat a b = (
  λ e. equal_is nat_cmp nat_cmp_total nat_cmp-IsAntisymmetric a b e,
  λ e. subst (λ (y : ℕ). eq_by_cmp nat_cmp a y ≡ true) e (ap is_eq (tied_itself nat_cmp_total a)),
)

no_more : (xs ys : List ℕ) → Exactly nat_cmp (Contains ys) xs → length xs ≤ length ys
no_more xs ys e =
    length-le_from_is_member (eq_by_cmp_equiv nat_cmp_total) xs ys (IsDistinct-from_sorted nat_cmp xs e.0)
    (λ q t. (is_member-Decides decides_nat ys q).1 ((e.1 q).0 ((is_member-Decides decides_nat xs q).0 t)))

abbrev pub aim_in : Held → Context → ℕ
aim_in h c = others (game_of h.game) c.promise

-- the aims of the first contexts, and of one more
pub aim_more : (h : Held) (n : ℕ) (c : Context) (aim : ℕ) (old new : List ℕ) → Some c ≡ slice_get h.contexts n → aim ≡ aim_in h c → old ≡ map (aim_in h) (take n h.contexts) → new ≡ old ++ aim ∷ []
    → new ≡ map (aim_in h) (take (n + 1) h.contexts)
aim_more h n c aim old new at is o e =
    let cs = h.contexts in
    let l = slice_get_within cs n c (sym at) in
    let all : take (n + 1) cs ≡ take n cs ++ c ∷ [] = take_more cs n c l ∙ ap (λ (x : Context). take n cs ++ (x ∷ [])) (get_or_from_slice_get cs n c c (sym at)) in
    e ∙ ap (λ (l : List ℕ). l ++ aim ∷ []) o ∙ ap (λ (a : ℕ). map (aim_in h) (take n cs) ++ a ∷ []) is ∙ sym (map-append (aim_in h) (take n cs) (c ∷ [])) ∙ ap (map (aim_in h)) (sym all)

pub are_aims : (h : Held) → AreTheNeeded (game_of h.game) h.contexts → length h.contexts ≤ 4294967295 → (aims : List ℕ) → Exactly nat_cmp (Contains (map (aim_in h) h.contexts)) aims → AreAims h aims
are_aims h needed few aims e = record {
  ascend = record {
    order = e.0;
    few = let l = length-map h.contexts (aim_in h) in let m = no_more aims (map (aim_in h) h.contexts) e in omega (arith, l, m, few);
  };
  all = λ k is.
      let g = game_of h.game in
      subst (λ (a : ℕ). Contains aims a) (others_twice g k.aim is.aim)
      ((e.1 (others g (others g k.aim))).1 (contains_map (aim_in h) h.contexts (context is.function (others g k.aim)) (needed.all (context is.function (others g k.aim)) is.needed)));
}

use Rattle.std.proofs.Common.{◌≡◌, List, ℕ, sym, subst, eqb}
use Rattle.std.specs.List.{Contains, dedup}
use Rattle.std.proofs.lemmas.List.Filters.{dedup_is}
use Rattle.std.proofs.lemmas.List.Kept.{Contains-dedup_nat, Contains-from_dedup}
use Rattle.std.proofs.lemmas.List.Sorted.{Contains-permutation, IsPermutation-sym}
use Rattle.cw_states.proofs.masks.distinct.Goals as goal

pub returns : goal.returns
returns c x =
    let all = c.args.numbers.items in
    let sorted = c.sort_unstable.new.self.items in
    let same : c.dedup.new.self.items ≡ dedup eqb sorted = dedup_is eqb sorted c.dedup.new.self.items c.dedup.ensures.filtered in
    let moved = c.sort_unstable.ensures.permutation in (
      λ h. Contains-permutation sorted all x (IsPermutation-sym all sorted moved) (Contains-from_dedup eqb sorted x (subst (λ (l : List ℕ). Contains l x) same h)),
      λ h. subst (λ (l : List ℕ). Contains l x) (sym same) (Contains-dedup_nat sorted x (Contains-permutation all sorted x moved h)),
    )

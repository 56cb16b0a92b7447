use Rattle.std.proofs.Common.{rules, ℕ, ◌≡◌, ◌∙◌, ◌++◌, ◌∷◌, [], List, length, refl, sym, ap, ap₂, subst, arith, IfSome, IfNone}
use Rattle.std.specs.List.{All, Contains}
use Rattle.std.specs.declared.cmp.Ordering.TheVariants.{Less}
use Rattle.cw_least_strategy.specs.Descents.{Joins}
use Rattle.cw_least_strategy.proofs.Descending.{Descends, descends_start, descends_all, may_follow, has_more, descends_more}
use Rattle.cw_product.specs.Product.{game_of}
use Rattle.cw_lemmas.proofs.Lists.{contains_one}
use Rattle.cw_solve.specs.Solved.{Held}
use Rattle.cw_least_strategy.specs.declared.key.SmallKey.{SmallKey}
use Rattle.cw_least_strategy.specs.Parts.{IsDone}
use Rattle.cw_least_strategy.specs.Small.{small_cmp, small_named, CanTake, takes}
use Rattle.cw_least_strategy.proofs.Searching.{joins_beside, descends_joined, zip_more}
use Rattle.cw_least_strategy.proofs.Small.{small_total, small_descends}
use Rattle.cw_least_strategy.proofs.search.done_up_to.Goals as goal

pub keys-init : goal.keys-init
keys-init c =
    let step = small_named (game_of c.args.solved.now.game) c.args.aims.now in
    let starts = c.args.start ∷ [] in
    let waiting = c.new-waiting.result.keys ++ c.push.new.self.items in
    let is : waiting ≡ [] ++ starts =
    ap₂ (λ (a b : List SmallKey). a ++ b) c.new-waiting.ensures.empty (c.in_ok-push.ensures.items ∙ ap (λ (l : List SmallKey). l ++ starts) c.new-keys.ensures.items) in
    record {
      descends = rw c.in_ok-taken.ensures.items (descends_start small_cmp step starts waiting (subst (λ (l : List SmallKey). Joins [] starts l) (sym is) (joins_beside [] starts)));
      few = rw c.in_ok-taken.ensures.items (omega arith);
      done = rw c.in_ok-taken.ensures.items (rw c.in_ok-acts.ensures.items tt);
    }

-- what may be asked for of the start may be asked for of what is taken
module _ (h : Held) (aims : List ℕ) (start : SmallKey) (can : CanTake h aims start) where
  abbrev step : SmallKey → List SmallKey
  step = small_named (game_of h.game) aims

  begins : (k : SmallKey) → Contains (start ∷ []) k → CanTake h aims k
  begins k i = subst (λ (x : SmallKey). CanTake h aims x) (contains_one start k i) can

  abbrev DescendsTo : List SmallKey → List SmallKey → Type 0
  DescendsTo taken waiting = Descends small_cmp step (start ∷ []) taken waiting

  can_take : (taken low : List SmallKey) (key : SmallKey) → DescendsTo taken (low ++ key ∷ []) → CanTake h aims key
  can_take taken low key descends = may_follow small_cmp step (start ∷ []) taken (low ++ key ∷ []) low key descends refl (CanTake h aims) begins (takes h aims)

  one_more : (taken low : List SmallKey) (key : SmallKey) (keys : List SmallKey) → DescendsTo taken (low ++ key ∷ []) → All (λ q. small_cmp q key ≡ Less) low → keys ≡ step key
      → DescendsTo (taken ++ key ∷ []) (low ++ keys)
  one_more taken low key keys descends below after =
      descends_more small_cmp step (start ∷ []) taken (low ++ key ∷ []) low key descends refl (CanTake h aims) begins (takes h aims)
      (λ a q c i. small_descends h aims a c q i) small_total (low ++ keys) keys below after (joins_beside low keys)

pub returns-then-len-most-clause-many : goal.returns-then-len-most-clause-many
returns-then-len-most-clause-many c =
    let step = small_named (game_of c.args.solved.now.game) c.args.aims.now in
    let starts = c.args.start ∷ [] in
    let taken = c.keys.taken.items in
    let low = c.greatest.new.waiting.keys in
    let key = c.in-Some.key in
    let joined : Joins c.keys.waiting.keys c.keys.keys.items (low ++ key ∷ []) =
    subst (λ o. IfSome o (λ k. Joins c.keys.waiting.keys c.keys.keys.items (low ++ k ∷ []))) c.in-Some.is c.in_ok-key.ensures.taken in
    let descends = descends_joined small_cmp step starts taken c.keys.waiting.keys c.keys.keys.items (low ++ key ∷ []) joined c.keys.invariant.descends in
    let full : length taken ≡ c.args.most = search rules in
    has_more small_cmp step starts taken (low ++ key ∷ []) low key descends refl c.args.most full

pub context_at-number-requires-clause-can : goal.context_at-number-requires-clause-can
context_at-number-requires-clause-can c =
    let step = small_named (game_of c.args.solved.now.game) c.args.aims.now in
    let starts = c.args.start ∷ [] in
    let taken = c.keys.taken.items in
    let low = c.greatest.new.waiting.keys in
    let key = c.in-Some.key in
    let joined : Joins c.keys.waiting.keys c.keys.keys.items (low ++ key ∷ []) =
    subst (λ o. IfSome o (λ k. Joins c.keys.waiting.keys c.keys.keys.items (low ++ k ∷ []))) c.in-Some.is c.in_ok-key.ensures.taken in
    let descends = descends_joined small_cmp step starts taken c.keys.waiting.keys c.keys.keys.items (low ++ key ∷ []) joined c.keys.invariant.descends in
    can_take c.args.solved.now c.args.aims.now c.args.start c.requires.can taken low key descends

pub put_named-requires-clause-can : goal.put_named-requires-clause-can
put_named-requires-clause-can c =
    let step = small_named (game_of c.args.solved.now.game) c.args.aims.now in
    let starts = c.args.start ∷ [] in
    let taken = c.keys.taken.items in
    let low = c.greatest.new.waiting.keys in
    let key = c.in-Some.key in
    let joined : Joins c.keys.waiting.keys c.keys.keys.items (low ++ key ∷ []) =
    subst (λ o. IfSome o (λ k. Joins c.keys.waiting.keys c.keys.keys.items (low ++ k ∷ []))) c.in-Some.is c.in_ok-key.ensures.taken in
    let descends = descends_joined small_cmp step starts taken c.keys.waiting.keys c.keys.keys.items (low ++ key ∷ []) joined c.keys.invariant.descends in
    can_take c.args.solved.now c.args.aims.now c.args.start c.requires.can taken low key descends

pub keys-preserved : goal.keys-preserved
keys-preserved c =
    let g = game_of c.args.solved.now.game in
    let aims = c.args.aims.now in
    let step = small_named g aims in
    let starts = c.args.start ∷ [] in
    let taken = c.keys.taken.items in
    let acts = c.keys.acts.items in
    let low = c.greatest.new.waiting.keys in
    let key = c.in-Some.key in
    let act = c.in_ok-act.act in
    let joined : Joins c.keys.waiting.keys c.keys.keys.items (low ++ key ∷ []) =
    subst (λ o. IfSome o (λ k. Joins c.keys.waiting.keys c.keys.keys.items (low ++ k ∷ []))) c.in-Some.is c.in_ok-key.ensures.taken in
    let below : All (λ q. small_cmp q key ≡ Less) low =
    subst (λ o. IfSome o (λ k. All (λ q. small_cmp q k ≡ Less) low)) c.in-Some.is c.in_ok-key.ensures.below in
    let descends = descends_joined small_cmp step starts taken c.keys.waiting.keys c.keys.keys.items (low ++ key ∷ []) joined c.keys.invariant.descends in
    let keys = c.put_named.new.keys.items in
    let after : keys ≡ step key = c.in_ok-act.ensures.after ∙ ap (λ (l : List SmallKey). l ++ step key) c.in_ok-key.ensures.empty in
    record {
      descends = rw c.in_ok-push-2.ensures.items (one_more c.args.solved.now aims c.args.start c.requires.can taken low key keys descends below after);
      few = search rules;
      done = rw c.in_ok-push-2.ensures.items (rw c.in_ok-push-3.ensures.items (zip_more (IsDone g aims) taken acts key act c.keys.invariant.done c.in_ok-act.ensures.done));
    }

pub returns-clause-reached : goal.returns-clause-reached
returns-clause-reached c =
    let step = small_named (game_of c.args.solved.now.game) c.args.aims.now in
    let starts = c.args.start ∷ [] in
    let taken = c.keys.taken.items in
    let joined : Joins c.keys.waiting.keys c.keys.keys.items [] =
    subst (λ o. IfNone o (Joins c.keys.waiting.keys c.keys.keys.items [])) c.in_default.is c.in_ok-key.ensures.none in
    let descends = descends_joined small_cmp step starts taken c.keys.waiting.keys c.keys.keys.items [] joined c.keys.invariant.descends in
    descends_all small_cmp step starts taken [] c.reverse.new.self.items descends refl c.reverse.ensures.items

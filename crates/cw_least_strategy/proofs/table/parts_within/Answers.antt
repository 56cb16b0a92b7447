use Rattle.std.proofs.Common.{rules, ◌≡◌, ◌+◌, ◌<◌, ◌≤◌, List, [], ◌∷◌, map, length, sym, subst}
use Rattle.std.specs.Prelude.{sum_by, Contains}
use Rattle.cw_certs.specs.Strategies.{how_of}
use Rattle.cw_fixpoint.specs.Closures.{Reached, Exactly, HasMore}
use Rattle.cw_lemmas.proofs.Lists.{head_in}
use Rattle.cw_product.specs.Product.{game_of}
use Rattle.cw_least_strategy.specs.declared.key.SmallKey.{SmallKey}
use Rattle.cw_least_strategy.specs.Small.{small, small_cmp, small_named, wholes, backs_for, AreRanked}
use Rattle.cw_least_strategy.specs.Parts.{how_in, AreDone}
use Rattle.cw_least_strategy.proofs.Small.{start_taken, ranked, exactly_whole, more_whole, counted}
use Rattle.cw_least_strategy.proofs.Tabled.{routed, start_followed, keys_many, rows_many}
use Rattle.cw_least_strategy.proofs.table.parts_within.Goals as goal

pub make-requires : goal.make-requires
make-requires c = record { routed = routed c.args.solved.now c.requires.made; ascend = c.requires.aims.ascend }

pub small-first-requires : goal.small-first-requires
small-first-requires c = record { ascend = c.requires.aims.ascend }

pub done_up_to-requires-clause-can : goal.done_up_to-requires-clause-can
done_up_to-requires-clause-can c =
    let h = c.args.solved.now in
    let s = c.args.start.now in
    let aims = c.args.aims.now in
    start_taken h aims c.requires.aims s (start_followed h c.requires.made s c.requires.start) c.small-first.result
    (subst (λ (x : SmallKey). Contains (small aims s ∷ []) x) (sym c.small-first.ensures) (head_in (small aims s) []))

pub returns-in-None-clause-many : goal.returns-in-None-clause-many
returns-in-None-clause-many c =
    let h = c.args.solved.now in
    let s = c.args.start.now in
    let aims = c.args.aims.now in
    let are = c.requires.aims in
    let more : HasMore small_cmp (Reached (small_named (game_of h.game) aims) (c.small-first.result ∷ [])) 65536 = search rules in
    keys_many h c.requires.made s c.requires.start 65536
    (more_whole h aims are s (start_followed h c.requires.made s c.requires.start) 65536
    (subst (λ (x : SmallKey). HasMore small_cmp (Reached (small_named (game_of h.game) aims) (x ∷ [])) 65536) c.small-first.ensures more))

pub hows_within-requires-clause-ranked : goal.hows_within-requires-clause-ranked
hows_within-requires-clause-ranked c =
    let h = c.args.solved.now in
    let g = game_of h.game in
    let s = c.args.start.now in
    let aims = c.args.aims.now in
    let are = c.requires.aims in
    let keys = c.in-Some.keys.items in
    let given : Exactly small_cmp (Reached (small_named g aims) (c.small-first.result ∷ [])) keys = search rules in
    let exactly = subst (λ (x : SmallKey). Exactly small_cmp (Reached (small_named g aims) (x ∷ [])) keys) c.small-first.ensures given in
    let followed = start_followed h c.requires.made s c.requires.start in
    subst (λ (l : List SmallKey). AreRanked aims l) (sym c.deref.ensures.value) (ranked h aims are s followed keys exactly (search rules))

pub hows_within-requires-clause-done : goal.hows_within-requires-clause-done
hows_within-requires-clause-done c =
    let g = game_of c.args.solved.now.game in
    let aims = c.args.aims.now in
    let keys = c.in-Some.keys.items in
    let acts = c.in-Some.acts.items in
    let done : AreDone g aims keys acts = search rules in
    subst (λ l. AreDone g aims l c.deref-in-Some.result.now) (sym c.deref.ensures.value) (subst (λ l. AreDone g aims keys l) (sym c.deref-in-Some.ensures.value) done)

pub returns-in-None-2-clause-many : goal.returns-in-None-2-clause-many
returns-in-None-2-clause-many c =
    let h = c.args.solved.now in
    let g = game_of h.game in
    let s = c.args.start.now in
    let aims = c.args.aims.now in
    let are = c.requires.aims in
    let keys = c.in-Some.keys.items in
    let given : Exactly small_cmp (Reached (small_named g aims) (c.small-first.result ∷ [])) keys = search rules in
    let exactly = subst (λ (x : SmallKey). Exactly small_cmp (Reached (small_named g aims) (x ∷ [])) keys) c.small-first.ensures given in
    let followed = start_followed h c.requires.made s c.requires.start in
    let more : 65536 < length c.deref.result.now + sum_by (backs_for g aims c.deref.result.now) c.deref.result.now = search rules in
    rows_many h c.requires.made s c.requires.start (wholes aims keys) 65536 (exactly_whole h aims are s followed keys exactly)
    (counted g aims keys 65536 (subst (λ (l : List SmallKey). 65536 < length l + sum_by (backs_for g aims l) l) c.deref.ensures.value more))

pub returns-clause-parts : goal.returns-clause-parts
returns-clause-parts c =
    let h = c.args.solved.now in
    let g = game_of h.game in
    let s = c.args.start.now in
    let aims = c.args.aims.now in
    let are = c.requires.aims in
    let keys = c.in-Some.keys.items in
    let hows = c.in-Some-2.hows.items in
    let given : Exactly small_cmp (Reached (small_named g aims) (c.small-first.result ∷ [])) keys = search rules in
    let exactly = subst (λ (x : SmallKey). Exactly small_cmp (Reached (small_named g aims) (x ∷ [])) keys) c.small-first.ensures given in
    let followed = start_followed h c.requires.made s c.requires.start in
    let done : map how_of hows ≡ map (how_in g aims c.deref.result.now) c.deref.result.now = search rules in
    let few : length c.deref.result.now + sum_by (backs_for g aims c.deref.result.now) c.deref.result.now ≤ 65536 = search rules in
    record {
      ranked = ranked h aims are s followed keys exactly (search rules);
      exactly = exactly_whole h aims are s followed keys exactly;
      done = subst (λ (l : List SmallKey). map how_of hows ≡ map (how_in g aims l) l) c.deref.ensures.value done;
      few = subst (λ (l : List SmallKey). length l + sum_by (backs_for g aims l) l ≤ 65536) c.deref.ensures.value few;
    }

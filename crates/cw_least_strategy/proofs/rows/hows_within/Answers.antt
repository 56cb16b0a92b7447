use Rattle.std.proofs.Common.{◌≡◌, ℕ, ◌<◌, Some, List, length, sym, ap, ◌∙◌, subst, arith}
use Rattle.std.specs.Prelude.{get_or, slice_get, Contains}
use Rattle.std.proofs.lemmas.Option.{slice_get-get_or, get_or_from_slice_get}
use Rattle.std.proofs.lemmas.Slice.Zip.{AllZip-long}
use Rattle.cw_product.specs.Product.{game_of}
use Rattle.cw_least_strategy.specs.declared.key.SmallKey.{SmallKey}
use Rattle.cw_least_strategy.specs.Parts.{IsDone}
use Rattle.cw_least_strategy.specs.Small.{backs_for}
use Rattle.cw_least_strategy.specs.Strategies.{backs_in}
use Rattle.cw_least_strategy.proofs.Finding.{sum_past}
use Rattle.cw_least_strategy.proofs.Searching.{zip_at}
use Rattle.cw_least_strategy.proofs.rows.hows_within.Goals as goal

-- the key at an index of the loop
abbrev key_at : List SmallKey → ℕ → SmallKey
key_at keys i = get_or keys i (record { height = 0; pos = 0; state = 0; aim = 0 })

there : (keys : List SmallKey) (i : ℕ) → i < length keys → slice_get keys i ≡ Some (key_at keys i)
there keys i within = slice_get-get_or keys i (record { height = 0; pos = 0; state = 0; aim = 0 }) within

one_of : (keys : List SmallKey) (i : ℕ) → i < length keys → Contains keys (key_at keys i)
one_of keys i within = (i, within, get_or_from_slice_get keys i (key_at keys i) (key_at keys i) (there keys i within))

pub bounds-acts-index : goal.bounds-acts-index
bounds-acts-index c =
    let place = c.loop-key.invariant.place in
    let within = c.loop-key-test.true in
    let long = AllZip-long (IsDone (game_of c.args.solved.now.game) c.args.aims.now) c.args.keys.now c.args.acts.now c.requires.done in
    omega (arith, place, within, long)

pub how_at-requires-clause-within : goal.how_at-requires-clause-within
how_at-requires-clause-within c =
    let i = c.loop-key.key-index in
    c.requires.ranked.within (key_at c.args.keys.now i) (one_of c.args.keys.now i c.loop-key-test.true)

pub how_at-requires-clause-done : goal.how_at-requires-clause-done
how_at-requires-clause-done c =
    let done = IsDone (game_of c.args.solved.now.game) c.args.aims.now in
    let i = c.loop-key.key-index in
    let act = c.index-acts-index.result in
    subst (λ a. done (key_at c.args.keys.now i) a) (sym c.index-acts-index.is)
    (zip_at done c.args.keys.now c.args.acts.now i c.loop-key.index (record { height = 0; pos = 0; state = 0; aim = 0 }) act c.requires.done c.loop-key-test.true c.loop-key.invariant.place)

pub returns-then-left-backs-clause-many : goal.returns-then-left-backs-clause-many
returns-then-left-backs-clause-many c =
    let g = game_of c.args.solved.now.game in
    let w = backs_for g c.args.aims.now c.args.keys.now in
    let i = c.loop-key.key-index in
    let past = sum_past w c.args.keys.now i (key_at c.args.keys.now i) (there c.args.keys.now i c.loop-key-test.true) in
    let more : c.backs_in-backs.result ≡ w (key_at c.args.keys.now i) = c.backs_in-backs.ensures ∙ ap backs_in c.in_ok-how.ensures in
    let left = c.loop-key.invariant.left in
    let lt = c.if-left-backs.true in
    omega (arith, past, more, left, lt)

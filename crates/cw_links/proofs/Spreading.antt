-- Keys and values of links, as they stand at their indices.
use Rattle.std.proofs.Common.{◌≡◌, ℕ, ◌+◌, ◌<◌, ◌≤◌, Bool, true, false, cond, List, [], ◌∷◌, ◌++◌, length, replicate, set, get_or, refl, sym, ap, ◌∙◌, subst, arith}
use Rattle.std.specs.Prelude.{slice_index, nat_eq, nat_lt, ◌||◌, Contains}
use Rattle.cw_links.specs.Lists.{list_at}
use Rattle.std.proofs.lemmas.List.{length_push, length-append, length-replicate, append-nil}
use Rattle.cw_links.specs.Flags.{is_flagged, number, rank, spread}
use Rattle.cw_links.proofs.Ranks.{flagged_within, rank_below, number_push, number-none, number-append}
use Rattle.cw_links.proofs.Plain.{number-plain}
use Rattle.cw_links.proofs.Spreads.{length-spread, spread-at, spread_flagged, set_flagged, spread_push_flagged, spread_grows}
use Rattle.cw_links.specs.declared.popped.Popped.{Popped}
use Rattle.cw_links.specs.declared.popped.Popped.TheVariants.{Nothing as Empty, Cell as OfCell, Link as OfLink}
use Rattle.cw_links.specs.Callers.{Calling}
use Rattle.cw_links.specs.Keys.{Keyed, Pops, lowered, AreFrom, AreEmpty, Takes}
use Rattle.cw_links.specs.Stores.{Stored, AreStored, IsKnown, IsAt, Pushes, PushesPlain, PopsIndex, Ties, stored, with_cells, with_due}

spread_cond : (flags : List Bool) (b : Bool) (xs ys : List ℕ) → spread flags (cond b xs ys) ≡ cond b (spread flags xs) (spread flags ys)
spread_cond flags true xs ys = refl
spread_cond flags false xs ys = refl

-- a link's key is lowered at its index
pub lowered_flagged : (flags : List Bool) (values : List ℕ) (index key : ℕ) → length values ≡ number flags → is_flagged flags index ≡ true
    → spread flags (lowered values (rank flags index) key) ≡ lowered (spread flags values) index key
lowered_flagged flags values index key as_many flagged =
    let v = slice_index values (rank flags index) in
    spread_cond flags (nat_eq v 0 || nat_lt key v) (set values (rank flags index) key) values
    ∙ ap (λ (xs : List ℕ). cond (nat_eq v 0 || nat_lt key v) xs (spread flags values)) (set_flagged flags values index key as_many flagged)
    ∙ ap (λ (y : ℕ). cond (nat_eq y 0 || nat_lt key y) (set (spread flags values) index key) (spread flags values)) (sym (spread_flagged flags values index flagged))

pub from_flagged : (flags : List Bool) (asked due : List ℕ) (key : ℕ) → AreFrom asked due key → AreFrom asked (spread flags due) key
from_flagged flags asked due key from = record {
  cells = from.cells;
  links = λ k some. at k (get_or flags k false) (spread-at 0 flags due k) some;
}
  where
    at : (k : ℕ) (flag : Bool) → get_or (spread flags due) k 0 ≡ cond flag (get_or due (rank flags k) 0) 0 → 0 < get_or (spread flags due) k 0 → key ≤ get_or (spread flags due) k 0
    at k true e some = (let h = from.links (rank flags k) (omega (arith, e, some)) in omega (arith, e, h))
    at k false e some = absurd (omega (arith, e, some))

pub empty_flagged : (flags : List Bool) (asked due : List ℕ) → AreEmpty asked due → AreEmpty asked (spread flags due)
empty_flagged flags asked due empty = record { cells = empty.cells; links = λ k. at k (get_or flags k false) (spread-at 0 flags due k) }
  where
    at : (k : ℕ) (flag : Bool) → get_or (spread flags due) k 0 ≡ cond flag (get_or due (rank flags k) 0) 0 → get_or (spread flags due) k 0 ≡ 0
    at k true e = e ∙ empty.links (rank flags k)
    at k false e = e

pub taken_flagged : (flags : List Bool) (old new : List ℕ) (link index key : ℕ) → length old ≡ number flags → is_flagged flags index ≡ true → rank flags index ≡ link → Takes old new link key
    → Takes (spread flags old) (spread flags new) index key
taken_flagged flags old new link index key as_many flagged is takes = record {
  within = (let h = flagged_within flags index flagged in let l = length-spread 0 flags old in omega (arith, h, l));
  is = spread_flagged flags old index flagged ∙ ap (λ (y : ℕ). slice_index old y) is ∙ takes.is;
  some = takes.some;
  taken = ap (λ (xs : List ℕ). spread flags xs) (takes.taken ∙ ap (λ (y : ℕ). set old y 0) (sym is)) ∙ set_flagged flags old index 0 as_many flagged;
}

-- so many indices more that are no links
plain_spread : (flags : List Bool) (values : List ℕ) (many : ℕ) → length values ≡ number flags → spread (flags ++ replicate many false) values ≡ spread flags values ++ replicate many 0
plain_spread flags values many as_many =
    let none : values ++ replicate (number (replicate many false)) 0 ≡ values = ap (λ (n : ℕ). values ++ replicate n 0) (number-plain many) ∙ append-nil values in
    ap (λ (vs : List ℕ). spread (flags ++ replicate many false) vs) (sym none) ∙ spread_grows 0 flags (replicate many false) values as_many
    ∙ ap (λ (n : ℕ). spread flags values ++ replicate n 0) (length-replicate many false)

plain_number : (flags : List Bool) (many : ℕ) → number (flags ++ replicate many false) ≡ number flags
plain_number flags many = (let n = number-append flags (replicate many false) in let z = number-plain many in omega (arith, n, z))

-- what is read of an index that is no link, or of a link
pub read_flagged : (flags : List Bool) (values : List ℕ) (index v : ℕ) → is_flagged flags index ≡ true → v ≡ slice_index values (rank flags index) → v ≡ slice_index (spread flags values) index
read_flagged flags values index v flagged is = is ∙ sym (spread_flagged flags values index flagged)

-- ---- what is told of the vectors
pub none_stored : (flags : List Bool) (keys : Keyed) (callers : Calling) (waves : List ℕ) → flags ≡ [] → keys.asked ≡ [] → keys.due ≡ [] → callers.to ≡ [] → waves ≡ [] → AreStored flags keys callers waves
none_stored flags keys callers waves none asked due to wave =
    let m = ap (λ (ms : List Bool). length ms) none in
    let n = ap number none ∙ number-none in
    let a = ap (λ (xs : List ℕ). length xs) asked in
    let d = ap (λ (xs : List ℕ). length xs) due in
    let t = ap (λ (xs : List ℕ). length xs) to in
    let w = ap (λ (xs : List ℕ). length xs) wave in
    record {
      few = omega (arith, m);
      keys_of_cells = omega (arith, m, a);
      keys_of_links = omega (arith, n, d);
      lists_of_links = omega (arith, n, t);
      waves_of_links = omega (arith, n, w);
    }

pub known_popped : (flags : List Bool) (old new : Keyed) (p : Popped) → length old.due ≡ number flags → Pops old new p → IsKnown flags p
known_popped flags old new Empty long pops = record {}
known_popped flags old new (OfCell index key) long pops = record {}
known_popped flags old new (OfLink link key) long pops = (let h = pops.1.within in omega (arith, h, long))

pub popped_at : (flags : List Bool) (old new : Keyed) (callers : Calling) (waves : List ℕ) (p result : Popped) → length old.due ≡ number flags → Pops old new p → IsAt flags p result
    → PopsIndex (stored flags old callers waves) (stored flags new callers waves) result
popped_at flags old new callers waves Empty result long pops at =
    subst (λ (r : Popped). PopsIndex (stored flags old callers waves) (stored flags new callers waves) r) (sym at)
    (empty_flagged flags old.asked old.due pops.0, ap (λ (k : Keyed). stored flags k callers waves) pops.1)
popped_at flags old new callers waves (OfCell index key) result long pops at =
    subst (λ (r : Popped). PopsIndex (stored flags old callers waves) (stored flags new callers waves) r) (sym at) (
      from_flagged flags old.asked old.due key pops.0,
      pops.1,
      ap (λ (due : List ℕ). with_cells (with_due (stored flags old callers waves) (spread flags due)) new.heights new.asked) pops.2
          ∙ ap (λ (heights : List ℕ). with_cells (stored flags old callers waves) heights new.asked) pops.3,
    )
popped_at flags old new callers waves (OfLink link key) result long pops at =
    subst (λ (r : Popped). PopsIndex (stored flags old callers waves) (stored flags new callers waves) r) (sym at.3) (
      from_flagged flags old.asked old.due key pops.0,
      taken_flagged flags old.due new.due link at.0 key long at.1 at.2 pops.1,
      at.1,
      ap (λ (asked : List ℕ). with_cells (with_due (stored flags old callers waves) (spread flags new.due)) new.heights asked) pops.2
          ∙ ap (λ (heights : List ℕ). with_cells (with_due (stored flags old callers waves) (spread flags new.due)) heights old.asked) pops.3,
    )

pub tied_at : (flags : List Bool) (keys : Keyed) (old new : Calling) (waves : List ℕ) (index list moves : ℕ) → AreStored flags keys old waves → is_flagged flags index ≡ true
    → new.to ≡ set old.to (rank flags index) list → length new.lists ≡ length old.lists
    → Ties (stored flags keys old waves) (stored flags keys new (set waves (rank flags index) moves)) index list moves
tied_at flags keys old new waves index list moves are flagged to lists = record {
  flags = refl;
  heights = refl;
  asked = refl;
  due = refl;
  to = ap (λ (xs : List ℕ). spread flags xs) to ∙ set_flagged flags old.to index list are.lists_of_links flagged;
  waves = set_flagged flags waves index moves are.waves_of_links flagged;
  lists = lists;
}

-- a link more
module _ (flags : List Bool) (keys keys' : Keyed) (callers callers' : Calling) (waves waves' : List ℕ) (are : AreStored flags keys callers waves)
    (asked : keys'.asked ≡ keys.asked ++ 0 ∷ []) (due : keys'.due ≡ keys.due ++ 0 ∷ []) (to : callers'.to ≡ callers.to ++ 0 ∷ []) (wave : waves' ≡ waves ++ 0 ∷ []) where
  one_longer : (values values' : List ℕ) → length values ≡ number flags → values' ≡ values ++ 0 ∷ [] → length values' ≡ number (flags ++ true ∷ [])
  one_longer values values' as_many is =
      let e = ap (λ (xs : List ℕ). length xs) is in
      let l = length_push values 0 in
      let n = number_push flags true in
      omega (arith, e, l, n, as_many)

  pub pushed_stored : length flags < 4194304 → AreStored (flags ++ true ∷ []) keys' callers' waves'
  pushed_stored few = record {
    few = (let n = length_push flags true in omega (arith, n, few));
    keys_of_cells = (let n = length_push flags true in let a = ap (λ (xs : List ℕ). length xs) asked in let l = length_push keys.asked 0 in omega (arith, n, a, l, are.keys_of_cells));
    keys_of_links = one_longer keys.due keys'.due are.keys_of_links due;
    lists_of_links = one_longer callers.to callers'.to are.lists_of_links to;
    waves_of_links = one_longer waves waves' are.waves_of_links wave;
  }

  pub pushed_at : keys'.heights ≡ keys.heights ++ 0 ∷ [] → length callers'.lists ≡ length callers.lists
      → Pushes (stored flags keys callers waves) (stored (flags ++ true ∷ []) keys' callers' waves') true
  pushed_at heights lists = record {
    flags = refl;
    heights = heights;
    asked = asked;
    due = ap (λ (xs : List ℕ). spread (flags ++ true ∷ []) xs) due ∙ spread_push_flagged 0 flags keys.due 0 are.keys_of_links;
    to = ap (λ (xs : List ℕ). spread (flags ++ true ∷ []) xs) to ∙ spread_push_flagged 0 flags callers.to 0 are.lists_of_links;
    waves = ap (λ (xs : List ℕ). spread (flags ++ true ∷ []) xs) wave ∙ spread_push_flagged 0 flags waves 0 are.waves_of_links;
    lists = lists;
  }

-- so many indices more that are no links
module _ (flags : List Bool) (keys keys' : Keyed) (callers : Calling) (waves : List ℕ) (many : ℕ) (are : AreStored flags keys callers waves)
    (asked : keys'.asked ≡ keys.asked ++ replicate many 0) (due : keys'.due ≡ keys.due) where
  pub plain_stored : length flags + many ≤ 4194304 → AreStored (flags ++ replicate many false) keys' callers waves
  plain_stored few =
      let m : length (flags ++ replicate many false) ≡ length flags + many = length-append flags (replicate many false) ∙ ap (λ (k : ℕ). length flags + k) (length-replicate many false) in
      let a : length keys'.asked ≡ length keys.asked + many
      = ap (λ (xs : List ℕ). length xs) asked ∙ length-append keys.asked (replicate many 0) ∙ ap (λ (k : ℕ). length keys.asked + k) (length-replicate {A = ℕ} many 0) in
      let n = plain_number flags many in
      record {
        few = omega (arith, m, few);
        keys_of_cells = omega (arith, m, a, are.keys_of_cells);
        keys_of_links = ap (λ (xs : List ℕ). length xs) due ∙ are.keys_of_links ∙ sym n;
        lists_of_links = are.lists_of_links ∙ sym n;
        waves_of_links = are.waves_of_links ∙ sym n;
      }

  pub plain_at : keys'.heights ≡ keys.heights ++ replicate many 0 → PushesPlain (stored flags keys callers waves) (stored (flags ++ replicate many false) keys' callers waves) many
  plain_at heights = record {
    flags = refl;
    heights = heights;
    asked = asked;
    due = ap (λ (xs : List ℕ). spread (flags ++ replicate many false) xs) due ∙ plain_spread flags keys.due many are.keys_of_links;
    to = plain_spread flags callers.to many are.lists_of_links;
    waves = plain_spread flags waves many are.waves_of_links;
    lists = refl;
  }

-- one index more that is no link
pub one_plain : (old new : Stored) → PushesPlain old new 1 → Pushes old new false
one_plain old new pushes = record {
  flags = pushes.flags;
  heights = pushes.heights;
  asked = pushes.asked;
  due = pushes.due;
  to = pushes.to;
  waves = pushes.waves;
  lists = ap (λ (ls : List (List ℕ)). length ls) pushes.lists;
}

-- the link at an index stands in its list
pub there_at : (flags : List Bool) (callers : Calling) → length callers.to ≡ number flags → ((k : ℕ) → k < length callers.to → Contains (list_at callers.lists (slice_index callers.to k)) k)
    → (index : ℕ) → is_flagged flags index ≡ true → Contains (list_at callers.lists (slice_index (spread flags callers.to) index)) (rank flags index)
there_at flags callers long there index flagged =
    let b = rank_below flags index flagged in
    subst (λ (l : ℕ). Contains (list_at callers.lists l) (rank flags index)) (sym (spread_flagged flags callers.to index flagged)) (there (rank flags index) (omega (arith, b, long)))

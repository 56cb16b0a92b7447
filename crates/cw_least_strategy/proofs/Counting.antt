-- How many rows and backs a strategy by least heights has.
use Rattle.std.proofs.Common.{◌≡◌, ◌+◌, List, [], ◌∷◌, map, length, refl, ap, ◌∙◌, arith}
use Rattle.std.specs.Prelude.{sum_by}
use Rattle.std.specs.Cmp.{both_ways}
use Rattle.std.specs.BTreeSet.{BTreeSet, contains}
use Rattle.std.proofs.lemmas.Map.Lookups.{btree_set_from_contains}
use Rattle.std.proofs.lemmas.Map.Views.{btree_set_contains_iff}
use Rattle.std.proofs.lemmas.List.Sums.{sum_by-cons}
use Rattle.cw_certs.specs.Strategies.{Row, Strategy}
use Rattle.cw_fixpoint.specs.Closures.{Exactly}
use Rattle.cw_game.specs.Games.{Game}
use Rattle.cw_least_strategy.specs.declared.key.Key.{Key}
use Rattle.cw_least_strategy.specs.Acts.{backs_of}
use Rattle.cw_least_strategy.specs.Strategies.{key_cmp, row_at, backs_in, rows_of}
use Rattle.cw_least_strategy.proofs.Keys.{key_total, key_exact}

-- two lists that have just the same keys
pub exactly_same : (P : Key → Type 0) (xs ys : List Key) → Exactly key_cmp P xs → Exactly key_cmp P ys → xs ≡ ys
exactly_same P xs ys a b =
    btree_set_from_contains key_total s t a.0 b.0
    (λ q. both_ways (contains key_cmp s q) (contains key_cmp t q)
    (λ e. (btree_set_contains_iff key_total key_exact t q).1 ((b.1 q).1 ((a.1 q).0 ((btree_set_contains_iff key_total key_exact s q).0 e))))
    (λ e. (btree_set_contains_iff key_total key_exact s q).1 ((a.1 q).1 ((b.1 q).0 ((btree_set_contains_iff key_total key_exact t q).0 e))))) key_exact
  where
    s : BTreeSet Key
    s = record { keys = xs }

    t : BTreeSet Key
    t = record { keys = ys }

counted : (g : Game) (keys xs : List Key) → length (map (row_at g keys) xs) + sum_by (λ (r : Row). backs_in r.how) (map (row_at g keys) xs) ≡ length xs + sum_by (backs_of g keys) xs
counted g keys [] = refl
counted g keys (x ∷ xs) =
    let h = counted g keys xs in
    let a = sum_by-cons (λ (r : Row). backs_in r.how) (row_at g keys x) (map (row_at g keys) xs) in
    let b = sum_by-cons (backs_of g keys) x xs in
    omega (arith, h, a, b)

-- its number
pub count_is : (g : Game) (keys : List Key) (s : Strategy) → s.rows ≡ map (row_at g keys) keys → rows_of s ≡ length keys + sum_by (backs_of g keys) keys
count_is g keys s e = ap (λ (rows : List Row). length rows + sum_by (λ (r : Row). backs_in r.how) rows) e ∙ counted g keys keys

-- A strategy in two lists.
use Rattle.std.proofs.Common.{◌≡◌, ℕ, zero, suc, ◌+◌, ◌≤◌, List, [], ◌∷◌, ◌++◌, Some, map, take, length, refl, sym, ap, ap₂, ◌∙◌, arith}
use Rattle.std.specs.Prelude.{slice_get}
use Rattle.cw_certs.specs.declared.strategy.EnvRow.{EnvRow}
use Rattle.std.proofs.lemmas.List.{length-map, map-append, take_all, take_more}
use Rattle.std.proofs.lemmas.Option.{same_Some, none-some, get_or_from_slice_get, slice_get_within}
use Rattle.cw_certs.specs.declared.strategy.How.{How as HowData}
use Rattle.cw_certs.specs.Strategies.{How, Row, Strategy, how_of, row_of}
use Rattle.cw_game.specs.Games.{Game}
use Rattle.cw_least_strategy.specs.declared.key.Key.{Key}
use Rattle.cw_least_strategy.specs.declared.key.SmallKey.{SmallKey}
use Rattle.cw_least_strategy.specs.Acts.{backs_of}
use Rattle.cw_least_strategy.specs.Parts.{row_by, rows_by, strategy_by, ArePaired, how_in, AreParts}
use Rattle.cw_least_strategy.specs.Small.{whole, wholes, row_in}
use Rattle.cw_least_strategy.specs.Strategies.{row_at, rows_of}
use Rattle.cw_least_strategy.proofs.Counting.{count_is}
use Rattle.cw_least_strategy.proofs.Small.{map_whole, sum_whole, long_whole}

-- a row for each key
pub long_rows : (aims : List ℕ) (keys : List SmallKey) (hows : List HowData) → length hows ≡ length keys → length (rows_by aims keys hows) ≡ length keys
long_rows aims [] hows e = refl
long_rows aims (k ∷ keys) [] e = e
long_rows aims (k ∷ keys) (how ∷ hows) e = let r = long_rows aims keys hows (omega (arith, e)) in omega (arith, r)

pub as_long : (s : Strategy) (states : ℕ) (aims : List ℕ) (keys : List SmallKey) (hows : List HowData) → strategy_by states aims keys hows ≡ s → length hows ≡ length keys → length s.rows ≡ length keys
as_long s states aims keys hows e l = ap (λ (x : Strategy). length x.rows) (sym e) ∙ long_rows aims keys hows l

-- the row of a number
pub row_of_number : (aims : List ℕ) (keys : List SmallKey) (hows : List HowData) (i : ℕ) (k : SmallKey) (how : HowData) → slice_get keys i ≡ Some k → slice_get hows i ≡ Some how
    → slice_get (rows_by aims keys hows) i ≡ Some (row_by aims k how)
row_of_number aims [] hows i k how a b = absurd (none-some k a)
row_of_number aims (x ∷ keys) [] i k how a b = absurd (none-some how b)
row_of_number aims (x ∷ keys) (y ∷ hows) zero k how a b = ap₂ (λ x y. Some (row_by aims x y)) (same_Some x k a) (same_Some y how b)
row_of_number aims (x ∷ keys) (y ∷ hows) (suc i) k how a b = row_of_number aims keys hows i k how a b

-- what is done is as long as the keys
pub paired : {g : Game} {aims : List ℕ} {start : Key} {keys : List SmallKey} {hows : List HowData} → AreParts g aims start keys hows → ArePaired aims keys hows
paired {g} {aims} {start} {keys} {hows} parts =
    let a = length-map hows how_of in
    let b = length-map keys (how_in g aims keys) in
    let c = ap length parts.done in
    record { long = omega (arith, a, b, c); within = parts.ranked.within }

-- the rows are those of the keys
rows_are : (g : Game) (aims : List ℕ) (all keys : List SmallKey) (hows : List HowData) → map how_of hows ≡ map (how_in g aims all) keys → rows_by aims keys hows ≡ map (row_in g aims all) keys
rows_are g aims all [] hows e = refl
rows_are g aims all (k ∷ keys) [] e = cc
rows_are g aims all (k ∷ keys) (how ∷ hows) e =
    let h = cons_parts (how_of how) (map how_of hows) (how_in g aims all k) (map (how_in g aims all) keys) e in
    ap₂ (λ (x : How) (rest : List Row). (record { pos = k.pos; state = k.state; aim = (whole aims k).aim; how = x }) ∷ rest) h.0 (rows_are g aims all keys hows h.1)
  where
    cons_parts : (x : How) (xs : List How) (y : How) (ys : List How) → (x ∷ xs) ≡ (y ∷ ys) → (x ≡ y) × (xs ≡ ys)
    cons_parts x xs y ys e = (cc, cc)

pub whole_rows : {g : Game} {aims : List ℕ} {start : Key} {keys : List SmallKey} {hows : List HowData} → AreParts g aims start keys hows
    → rows_by aims keys hows ≡ map (row_at g (wholes aims keys)) (wholes aims keys)
whole_rows {g} {aims} {start} {keys} {hows} parts = rows_are g aims keys keys hows parts.done ∙ map_whole (row_at g (wholes aims keys)) aims keys

-- and they are few
pub few_rows : {g : Game} {aims : List ℕ} {start : Key} {keys : List SmallKey} {hows : List HowData} (states : ℕ) → AreParts g aims start keys hows
    → rows_of (strategy_by states aims keys hows) ≤ 65536
few_rows {g} {aims} {start} {keys} {hows} states parts =
    let a = count_is g (wholes aims keys) (strategy_by states aims keys hows) (whole_rows parts) in
    let b = long_whole aims keys in
    let c = sum_whole (backs_of g (wholes aims keys)) aims keys in
    let d = parts.few in
    omega (arith, a, b, c, d)

-- one row more
pub row_more : (rows : List Row) (before : List EnvRow) (x : EnvRow) (i : ℕ) → map row_of before ≡ take i rows → slice_get rows i ≡ Some (row_of x) → map row_of (before ++ x ∷ []) ≡ take (i + 1) rows
row_more rows before x i so_far at =
    map-append row_of before (x ∷ []) ∙ ap (λ (l : List Row). l ++ row_of x ∷ []) so_far
    ∙ sym (take_more rows i (row_of x) (slice_get_within rows i (row_of x) at) ∙ ap (λ (r : Row). take i rows ++ r ∷ []) (get_or_from_slice_get rows i (row_of x) (row_of x) at))

-- the strategy of these rows
pub strategy_is : (s : Strategy) (states : ℕ) (rows : List EnvRow) (i : ℕ) → states ≡ s.states → length s.rows ≤ i → map row_of rows ≡ take i s.rows
    → (◌≡◌ {A = Strategy} (record { states = states; rows = map row_of rows }) s)
strategy_is s states rows i e le done =
    ap₂ (λ (n : ℕ) (l : List Row). let t : Strategy = record { states = n; rows = l } in t) e (done ∙ take_all i s.rows le)

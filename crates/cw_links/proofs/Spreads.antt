-- A value for each index, made of values for the flagged indices alone.
use Rattle.std.proofs.Common.{◌≡◌, ℕ, zero, suc, ◌+◌, ◌<◌, ◌≤◌, Bool, true, false, cond, List, [], ◌∷◌, ◌++◌, length, drop, get_or, set, replicate, refl, ap, ◌∙◌, subst, arith}
use Rattle.std.proofs.lemmas.Bool.{false≢true}
use Rattle.std.proofs.lemmas.List.{get_or-drop, append-nil}
use Rattle.cw_links.specs.Flags.{number, rank, spread_or, spread}
use Rattle.cw_links.proofs.Ranks.{number-none, number-cons, rank-zero, rank_below, rank_cons_flagged, rank_cons_not_flagged}

pub length-spread : {A : Type 0} (d : A) (flags : List Bool) (values : List A) → length (spread_or d flags values) ≡ length flags
length-spread d [] values = refl
length-spread d (flag ∷ flags) values = ap suc (length-spread d flags (cond flag (drop 1 values) values))

-- a flagged index has the value of its rank, each other the default
pub spread-at : {A : Type 0} (d : A) (flags : List Bool) (values : List A) (index : ℕ) →
    get_or (spread_or d flags values) index d ≡ cond (get_or flags index false) (get_or values (rank flags index) d) d
spread-at d [] values index = refl
spread-at d (true ∷ flags) values zero = rw rank-zero refl
spread-at d (false ∷ flags) values zero = refl
spread-at d (true ∷ flags) values (suc index) =
    let e : 1 + rank flags index ≡ rank (true ∷ flags) (suc index) = omega (arith, rank_cons_flagged flags index) in
    spread-at d flags (drop 1 values) index
    ∙ ap (λ (value : _). cond (get_or flags index false) value d) (get_or-drop 1 values (rank flags index) d ∙ ap (λ (n : ℕ). get_or values n d) e)
spread-at d (false ∷ flags) values (suc index) = spread-at d flags values index ∙ rw (rank_cons_not_flagged flags index) refl

pub spread_flagged : (flags : List Bool) (values : List ℕ) (index : ℕ) → get_or flags index false ≡ true →
    get_or (spread flags values) index 0 ≡ get_or values (rank flags index) 0
spread_flagged flags values index flagged = spread-at 0 flags values index ∙ rw flagged refl

pub spread_not_flagged : (flags : List Bool) (values : List ℕ) (index : ℕ) → get_or flags index false ≡ false → get_or (spread flags values) index 0 ≡ 0
spread_not_flagged flags values index not_flagged = spread-at 0 flags values index ∙ rw not_flagged refl

-- to set the value of a rank is to set that of its index
pub spread-set : {A : Type 0} (d : A) (flags : List Bool) (values : List A) (index : ℕ) (value : A) → get_or flags index false ≡ true →
    rank flags index < length values →
    spread_or d flags (set values (rank flags index) value) ≡ set (spread_or d flags values) index value
spread-set d [] values index value flagged within = refl
spread-set d (true ∷ flags) [] index value flagged within = absurd (omega (arith, within))
spread-set d (true ∷ flags) (v ∷ values) zero value flagged within = rw (rank-zero (true ∷ flags)) refl
spread-set d (false ∷ flags) values zero value flagged within = absurd (false≢true flagged)
spread-set d (true ∷ flags) (v ∷ values) (suc index) value flagged within =
    let e : rank (true ∷ flags) (suc index) ≡ suc (rank flags index) = rank_cons_flagged flags index in
    rw e (ap (λ (rest : List _). v ∷ rest) (spread-set d flags values index value flagged (omega (arith, within, e))))
spread-set d (false ∷ flags) values (suc index) value flagged within =
    let e : rank (false ∷ flags) (suc index) ≡ rank flags index = rank_cons_not_flagged flags index in
    rw e (ap (λ (rest : List _). d ∷ rest) (spread-set d flags values index value flagged (omega (arith, within, e))))

pub set_flagged : (flags : List Bool) (values : List ℕ) (index value : ℕ) → length values ≡ number flags → get_or flags index false ≡ true →
    spread flags (set values (rank flags index) value) ≡ set (spread flags values) index value
set_flagged flags values index value as_many flagged = spread-set 0 flags values index value flagged (omega (arith, as_many, rank_below flags index flagged))

-- further flags with their values behind the others
pub spread-append : {A : Type 0} (d : A) (flags more : List Bool) (values others : List A) → length values ≡ number flags →
    spread_or d (flags ++ more) (values ++ others) ≡ spread_or d flags values ++ spread_or d more others
spread-append d [] more [] others as_many = refl
spread-append d [] more (v ∷ values) others as_many = absurd (omega (arith, as_many, number-none))
spread-append d (true ∷ flags) more [] others as_many = absurd (omega (arith, as_many, number-cons true flags))
spread-append d (true ∷ flags) more (v ∷ values) others as_many =
    ap (λ (rest : List _). v ∷ rest) (spread-append d flags more values others (omega (arith, as_many, number-cons true flags)))
spread-append d (false ∷ flags) more values others as_many =
    ap (λ (rest : List _). d ∷ rest) (spread-append d flags more values others (omega (arith, as_many, number-cons false flags)))

-- one index more at the end
pub spread_push_flagged : {A : Type 0} (d : A) (flags : List Bool) (values : List A) (value : A) → length values ≡ number flags →
    spread_or d (flags ++ true ∷ []) (values ++ value ∷ []) ≡ spread_or d flags values ++ value ∷ []
spread_push_flagged d flags values value as_many = spread-append d flags (true ∷ []) values (value ∷ []) as_many

pub spread_push_not_flagged : {A : Type 0} (d : A) (flags : List Bool) (values : List A) → length values ≡ number flags →
    spread_or d (flags ++ false ∷ []) values ≡ spread_or d flags values ++ d ∷ []
spread_push_not_flagged d flags values as_many = subst (λ (vs : List _). spread_or d (flags ++ false ∷ []) vs ≡ spread_or d flags values ++ d ∷ [])
    (append-nil values) (spread-append d flags (false ∷ []) values [] as_many)

-- the default at every index
pub spread-replicate : {A : Type 0} (d : A) (flags : List Bool) (n : ℕ) → spread_or d flags (replicate n d) ≡ replicate (length flags) d
spread-replicate d [] n = refl
spread-replicate d (true ∷ flags) zero = ap (λ (rest : List _). d ∷ rest) (spread-replicate d flags zero)
spread-replicate d (true ∷ flags) (suc n) = ap (λ (rest : List _). d ∷ rest) (spread-replicate d flags n)
spread-replicate d (false ∷ flags) n = ap (λ (rest : List _). d ∷ rest) (spread-replicate d flags n)

-- so defaults for further flags are defaults for their indices
pub spread_grows : {A : Type 0} (d : A) (flags more : List Bool) (values : List A) → length values ≡ number flags →
    spread_or d (flags ++ more) (values ++ replicate (number more) d) ≡ spread_or d flags values ++ replicate (length more) d
spread_grows d flags more values as_many =
    spread-append d flags more values (replicate (number more) d) as_many
    ∙ ap (λ (rest : List _). spread_or d flags values ++ rest) (spread-replicate d more (number more))

-- no value of an index is above all values
pub spread-le : (flags : List Bool) (values : List ℕ) (most : ℕ) → ((k : ℕ) → get_or values k 0 ≤ most) → (index : ℕ) →
    get_or (spread flags values) index 0 ≤ most
spread-le flags values most up_to index = at (get_or flags index false) (spread-at 0 flags values index)
  where
    at : (flag : Bool) → get_or (spread flags values) index 0 ≡ cond flag (get_or values (rank flags index) 0) 0 → get_or (spread flags values) index 0 ≤ most
    at true e = omega (arith, e, up_to (rank flags index))
    at false e = omega (arith, e)

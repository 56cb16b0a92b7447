-- A list of the lists after new lists are added and a cell is moved.
use Rattle.std.proofs.Common.{◌≡◌, ◌≢◌, ℕ, suc, zero, ◌<◌, List, [], ◌∷◌, ◌++◌, length, replicate, refl, ap, ◌∙◌}
use Rattle.std.proofs.lemmas.List.{get_or-set_same, get_or-set_other, length-map}
use Rattle.cw_links.specs.Lists.{list_at, without, with_front}
use Rattle.cw_links.proofs.CallerLemmas.{list_at-without}
use Rattle.cw_links.proofs.NodeRows.{less}

pub list_at-empties : (ls : List (List ℕ)) (k h : ℕ) → list_at (ls ++ replicate k []) h ≡ list_at ls h
list_at-empties [] zero h = refl
list_at-empties [] (suc k) zero = refl
list_at-empties [] (suc k) (suc h) = list_at-empties [] k h
list_at-empties (xs ∷ ls) k zero = refl
list_at-empties (xs ∷ ls) k (suc h) = list_at-empties ls k h

-- a list of the lists with the cell moved to the front of one that may be new
pub moved : (ls : List (List ℕ)) (k c l h : ℕ) → h ≢ l → list_at (with_front (without (ls ++ replicate k []) c) l c) h ≡ less (list_at ls h) c
moved ls k c l h ne =
    get_or-set_other (without (ls ++ replicate k []) c) l h _ [] ne ∙ list_at-without (ls ++ replicate k []) c h ∙ ap (λ w. less w c) (list_at-empties ls k h)

pub moved_here : (ls : List (List ℕ)) (k c l : ℕ) → l < length (ls ++ replicate k []) → list_at (with_front (without (ls ++ replicate k []) c) l c) l ≡ c ∷ less (list_at ls l) c
moved_here ls k c l i =
    get_or-set_same (without (ls ++ replicate k []) c) l _ [] (rw (length-map (ls ++ replicate k []) _) i)
    ∙ ap (λ w. c ∷ w) (list_at-without (ls ++ replicate k []) c l ∙ ap (λ w. less w c) (list_at-empties ls k l))

-- A test of some item, over two lists joined.
use Rattle.std.proofs.Common.{◌≡◌, ℕ, Bool, true, false, ◌||◌, List, [], ◌∷◌, ◌++◌, map, refl, ap, ◌∙◌}
use Rattle.std.specs.List.{list_any}
use Rattle.std.specs.Str.{bytes_eq}
use Rattle.cw_syntax.specs.Names.{text}
use Rattle.cw_resolve.specs.declared.labelled.Labelled.{Labelled}

or_assoc : (a b c : Bool) → (a || (b || c)) ≡ ((a || b) || c)
or_assoc true b c = refl
or_assoc false b c = refl

pub any_join : {X Y : Type 0} (p : Y → Bool) (f : X → Y) (xs ys : List X) → list_any p (map f (xs ++ ys)) ≡ (list_any p (map f xs) || list_any p (map f ys))
any_join p f [] ys = refl
any_join p f (x ∷ xs) ys = ap (λ rest. p (f x) || rest) (any_join p f xs ys) ∙ or_assoc (p (f x)) (list_any p (map f xs)) (list_any p (map f ys))

-- of a name among those of labels
pub any_label : (source name : List ℕ) (ls ms : List Labelled)
    → list_any (bytes_eq name) (map (λ l. text source l.name) (ls ++ ms))
    ≡ (list_any (bytes_eq name) (map (λ l. text source l.name) ls) || list_any (bytes_eq name) (map (λ l. text source l.name) ms))
any_label source name ls ms = any_join (bytes_eq name) (λ (l : Labelled). text source l.name) ls ms

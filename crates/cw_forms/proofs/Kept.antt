-- Tokens that are kept, and the rules of lists of them.
use Rattle.std.proofs.Common.{◌≡◌, ℕ, Bool, true, false, List, [], ◌∷◌, ◌++◌, map, refl, sym, ap, subst, ◌∙◌}
use Rattle.std.proofs.lemmas.List.{map-append}
use Rattle.cw_syntax.specs.declared.program.CType.{CType}
use Rattle.cw_syntax.specs.declared.program.Base.{Base}
use Rattle.cw_syntax.specs.Trees.{Tree}
use Rattle.cw_grammar.specs.declared.terminals.Terminal.{Terminal}
use Rattle.cw_grammar.specs.declared.terminals.Terminal.TheVariants as w
use Rattle.cw_grammar.specs.declared.terminals.Lexeme.{Lexeme}
use Rattle.cw_grammar.specs.Lexemes.{Is, terminals, IsFlag, AreSeparated, IsBetween, IsEnded, trees}
use Rattle.cw_grammar.specs.Types.{IsType, AreStars, IsTypeName, IsAmong, type_terminals}
use Rattle.cw_forms.specs.Moved.{moved, Pairs, AreKept, Alike, AllAlike}

pub terminals_moved : (d : ℕ) (ts : List Lexeme) → terminals (map (moved d) ts) ≡ terminals ts
terminals_moved d [] = refl
terminals_moved d (t ∷ ts) = ap (λ (z : List Terminal). t.terminal ∷ z) (terminals_moved d ts)

pub empty_moved : (d : ℕ) (ts : List Lexeme) → ts ≡ [] → map (moved d) ts ≡ []
empty_moved d ts e = ap (map (moved d)) e

pub parts_moved : (d : ℕ) (ts a b : List Lexeme) → ts ≡ a ++ b → map (moved d) ts ≡ map (moved d) a ++ map (moved d) b
parts_moved d ts a b e = ap (map (moved d)) e ∙ map-append (moved d) a b

pub between_moved : (d : ℕ) (ts a : List Lexeme) (o c : Lexeme) → ts ≡ o ∷ a ++ c ∷ [] → map (moved d) ts ≡ moved d o ∷ map (moved d) a ++ moved d c ∷ []
between_moved d ts a o c e = ap (map (moved d)) e ∙ ap (λ (z : List Lexeme). moved d o ∷ z) (map-append (moved d) a (c ∷ []))

pub flag_moved : (d : ℕ) (w : Terminal) (ts : List Lexeme) (b : Bool) → IsFlag w ts b → IsFlag w (map (moved d) ts) b
flag_moved d w ts true is = terminals_moved d ts ∙ is
flag_moved d w ts false is = empty_moved d ts is

pub type_moved : (d : ℕ) (ts : List Lexeme) (base : Base) (unsigned : Bool) → IsType ts base unsigned → IsType (map (moved d) ts) base unsigned
type_moved d ts base unsigned is = subst (λ (z : List Terminal). IsAmong (z, (base, unsigned)) type_terminals) (sym (terminals_moved d ts)) is

pub stars_moved : (d : ℕ) (ts : List Lexeme) (n : ℕ) → AreStars ts n → AreStars (map (moved d) ts) n
stars_moved d ts n (few, are) = (few, terminals_moved d ts ∙ are)

pub three_moved : (d : ℕ) (ts a b c : List Lexeme) → ts ≡ a ++ (b ++ c) → map (moved d) ts ≡ map (moved d) a ++ (map (moved d) b ++ map (moved d) c)
three_moved d ts a b c e = parts_moved d ts a (b ++ c) e ∙ ap (λ (z : List Lexeme). map (moved d) a ++ z) (map-append (moved d) b c)

pub type_name_moved : (d : ℕ) (ts : List Lexeme) (kind : CType) → IsTypeName ts kind → IsTypeName (map (moved d) ts) kind
type_name_moved d ts kind (constant, c, t, s, whole, flag, type, stars) = (
  constant,
  map (moved d) c,
  map (moved d) t,
  map
      (moved d) s,
  three_moved d ts c t s whole,
  flag_moved d _ c constant flag,
  type_moved d t kind.base kind.unsigned type,
  stars_moved d s kind.stars stars,
)

module _ (source form : List ℕ) (d : ℕ) where
  abbrev K : List Lexeme → Type 0
  K ts = AreKept source form d ts

  pub kept_as : (ts xs : List Lexeme) → ts ≡ xs → K ts → K xs
  kept_as ts xs e k = subst (λ (z : List Lexeme). K z) e k

  pub kept_both : (a b : List Lexeme) → K (a ++ b) → K a × K b
  kept_both [] b k = (tt, k)
  kept_both (t ∷ a) b k = let both = kept_both a b k.1 in ((k.0, both.0), both.1)

  pub kept_parts : (ts a b : List Lexeme) → ts ≡ a ++ b → K ts → K a × K b
  kept_parts ts a b e k = kept_both a b (kept_as ts (a ++ b) e k)

  pub kept_between : (ts a : List Lexeme) (o c : Lexeme) → ts ≡ o ∷ a ++ c ∷ [] → K ts → K a
  kept_between ts a o c e k = (kept_both a (c ∷ []) (kept_as ts (o ∷ a ++ c ∷ []) e k).1).0

  -- what some rule derives of tokens, it derives of kept ones, but for places
  abbrev pub Moves : {X : Type 0} → (List Lexeme → X → Type 0) → (X → X → Type 0) → Type 0
  Moves {X} P A = (ts : List Lexeme) (x : X) → K ts → P ts x → (y : X) × P (map (moved d) ts) y × A x y

  module _ {X : Type 0} (P : List Lexeme → X → Type 0) (A : X → X → Type 0) (f : Moves P A) where
    separated_more : (ts a : List Lexeme) (c : Lexeme) (b : List Lexeme) (x y x' : X) (ys ys' : List X) → ts ≡ a ++ c ∷ b → Is w.Comma c → P a x' → A x x' → AreSeparated P b ys'
        → Pairs A (y ∷ ys) ys'
        → (zs : List X) × AreSeparated P ts zs × Pairs A (x ∷ y ∷ ys) zs
    separated_more ts a c b x y x' ys [] whole comma first alike rest pairs = absurd pairs
    separated_more ts a c b x y x' ys (y' ∷ ys') whole comma first alike rest pairs = (x' ∷ y' ∷ ys', (a, c, b, whole, comma, first, rest), (alike, pairs))

    pub separated_moves : (xs : List X) (ts : List Lexeme) → K ts → AreSeparated P ts xs → (ys : List X) × AreSeparated P (map (moved d) ts) ys × Pairs A xs ys
    separated_moves [] ts k is = ([], empty_moved d ts is, tt)
    separated_moves (x ∷ []) ts k is = let p = f ts x k is in (p.0 ∷ [], p.1, (p.2, tt))
    separated_moves (x ∷ y ∷ ys) ts k (a, c, b, whole, comma, first, rest) =
        let own = kept_parts ts a (c ∷ b) whole k in
        let p = f a x own.0 first in
        let q = separated_moves (y ∷ ys) b own.1.1 rest in
        separated_more (map (moved d) ts) (map (moved d) a) (moved d c) (map (moved d) b) x y p.0 ys q.0 (parts_moved d ts a (c ∷ b) whole) comma p.1 p.2 q.1 q.2

    pub between_moves : (left right : Terminal) (ts : List Lexeme) (x : X) → K ts → IsBetween left right P ts x → (y : X) × IsBetween left right P (map (moved d) ts) y × A x y
    between_moves left right ts x k (o, inner, c, whole, p, q, is) =
        let h = f inner x (kept_between ts inner o c whole k) is in
        (h.0, (moved d o, map (moved d) inner, moved d c, between_moved d ts inner o c whole, p, q, h.1), h.2)

    pub ended_moves : (right : Terminal) (ts : List Lexeme) (x : X) → K ts → IsEnded right P ts x → (y : X) × IsEnded right P (map (moved d) ts) y × A x y
    ended_moves right ts x k (inner, c, whole, q, is) =
        let h = f inner x (kept_parts ts inner (c ∷ []) whole k).0 is in
        (h.0, (map (moved d) inner, moved d c, parts_moved d ts inner (c ∷ []) whole, q, h.1), h.2)

  pub trees_alike : (xs ys : List Tree) → Pairs (Alike source form) xs ys → AllAlike source form (trees xs) (trees ys)
  trees_alike [] [] h = tt
  trees_alike [] (y ∷ ys) h = absurd h
  trees_alike (x ∷ xs) [] h = absurd h
  trees_alike (x ∷ xs) (y ∷ ys) h = (h.0, trees_alike xs ys h.1)

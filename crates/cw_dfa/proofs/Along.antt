-- What the loops over parts and over rules keep.
use Rattle.std.proofs.Common.{◌≡◌, ℕ, ◌+◌, ◌<◌, length, take, add-one, ap, ap₂, Bool, List, [], ◌∷◌, sym, ◌∙◌, subst, ◌++◌, slice_index}
use Rattle.std.proofs.Common.{slice_set, append_assoc, append-nil}
use Rattle.std.proofs.Math.Seq.{take-suc-set}
use Rattle.std.specs.Int.RustNames.{bit_or}
use Rattle.cw_rights.specs.Trees.{Literal, Tree, seq, alt, nothing, never, count}
use Rattle.cw_rights.specs.Policies.{PlainRule}
use Rattle.cw_dfa.specs.Tables.{picked, firsts, lasts, followers, lasts_of}
use Rattle.cw_dfa.proofs.Sums.{or_assoc, or_zero}

-- over trees: the rest, after one part more
module _ (f : Literal → Bool) where
  pub picked_step : (whole part rest : Tree) (set at : ℕ) (total s a : ℕ) → whole ≡ seq part rest → s ≡ picked f part at → a ≡ at + count part →
      bit_or set (picked f whole at) ≡ total → bit_or (bit_or set s) (picked f rest a) ≡ total
  picked_step whole part rest set at total s a e g h t =
      let u : bit_or set (picked f (seq part rest) at) ≡ total = subst (λ l. bit_or set (picked f l at) ≡ total) e t in
      rw (g, h) (or_assoc set (picked f part at) (picked f rest (at + count part)) ∙ u)

  pub picked_end : (whole : Tree) (set at : ℕ) (total : ℕ) → whole ≡ nothing → bit_or set (picked f whole at) ≡ total → set ≡ total
  picked_end whole set at total e t = sym (or_zero set) ∙ subst (λ l. bit_or set (picked f l at) ≡ total) e t

  -- over rules
  pub rules_step : (whole part rest : Tree) (set at : ℕ) (total s a : ℕ) → whole ≡ alt part rest → s ≡ picked f part at → a ≡ at + count part →
      bit_or set (picked f whole at) ≡ total → bit_or (bit_or set s) (picked f rest a) ≡ total
  rules_step whole part rest set at total s a e g h t =
      let u : bit_or set (picked f (alt part rest) at) ≡ total = subst (λ l. bit_or set (picked f l at) ≡ total) e t in
      rw (g, h) (or_assoc set (picked f part at) (picked f rest (at + count part)) ∙ u)

  pub rules_end : (whole : Tree) (set at : ℕ) (total : ℕ) → whole ≡ never → bit_or set (picked f whole at) ≡ total → set ≡ total
  rules_end whole set at total e t = sym (or_zero set) ∙ subst (λ l. bit_or set (picked f l at) ≡ total) e t

pub first_step : (whole part rest : Tree) (first at total f a : ℕ) → whole ≡ alt part rest → f ≡ firsts part at → a ≡ at + count part → bit_or first (firsts whole at) ≡ total →
    bit_or (bit_or first f) (firsts rest a) ≡ total
first_step whole part rest first at total f a e h g t =
    let u : bit_or first (firsts (alt part rest) at) ≡ total = subst (λ l. bit_or first (firsts l at) ≡ total) e t in
    rw (h, g) (or_assoc first (firsts part at) (firsts rest (at + count part)) ∙ u)

pub first_end : (whole : Tree) (first at total : ℕ) → whole ≡ never → bit_or first (firsts whole at) ≡ total → first ≡ total
first_end whole first at total e t = sym (or_zero first) ∙ subst (λ l. bit_or first (firsts l at) ≡ total) e t

pub follow_step : (whole part rest : Tree) (old new : List ℕ) (at a p : ℕ) (total : ℕ) → whole ≡ alt part rest → slice_index new p ≡ bit_or (slice_index old p) (followers part at p) →
    a ≡ at + count part → bit_or (slice_index old p) (followers whole at p) ≡ total → bit_or (slice_index new p) (followers rest a p) ≡ total
follow_step whole part rest old new at a p total e h g t =
    let u : bit_or (slice_index old p) (followers (alt part rest) at p) ≡ total = subst (λ l. bit_or (slice_index old p) (followers l at p) ≡ total) e t in
    rw (h, g) (or_assoc (slice_index old p) (followers part at p) (followers rest (at + count part) p) ∙ u)

pub follow_end : (whole : Tree) (row : List ℕ) (at p total : ℕ) → whole ≡ never → bit_or (slice_index row p) (followers whole at p) ≡ total → slice_index row p ≡ total
follow_end whole row at p total e t = sym (or_zero (slice_index row p)) ∙ subst (λ l. bit_or (slice_index row p) (followers l at p) ≡ total) e t

pub take_set : (l : List ℕ) (i x : ℕ) → i < length l → take (i + 1) (slice_set l i x) ≡ take i l ++ x ∷ []
take_set l i x h = rw (add-one i) (take-suc-set l i x h)

pub last_step : (rules rest : List PlainRule) (r : PlainRule) (last : List ℕ) (i at l a : ℕ) (total : List ℕ) → i < length last → rules ≡ r ∷ rest → l ≡ lasts r.bad at →
    a ≡ at + count r.bad → take i last ++ lasts_of rules at ≡ total → take (i + 1) (slice_set last i l) ++ lasts_of rest a ≡ total
last_step rules rest r last i at l a total h e f g t =
    let u : take i last ++ lasts_of (r ∷ rest) at ≡ total = subst (λ x. take i last ++ lasts_of x at ≡ total) e t in
    let v : take (i + 1) (slice_set last i l) ++ lasts_of rest a ≡ (take i last ++ lasts r.bad at ∷ []) ++ lasts_of rest (at + count r.bad) =
    ap₂ (λ x y. x ++ lasts_of rest y) (take_set last i l h ∙ ap (λ x. take i last ++ x ∷ []) f) g in
    v ∙ append_assoc (take i last) (lasts r.bad at ∷ []) (lasts_of rest (at + count r.bad)) ∙ u

pub last_end : (rules : List PlainRule) (last : List ℕ) (n at : ℕ) (total : List ℕ) → rules ≡ [] → take n last ++ lasts_of rules at ≡ total → take n last ≡ total
last_end rules last n at total e t = sym (append-nil (take n last)) ∙ subst (λ x. take n last ++ lasts_of x at ≡ total) e t

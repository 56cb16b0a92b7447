-- The trees of sequences and of alternatives.
use Rattle.std.proofs.Common.{◌≡◌, ◌⊎◌, inl, inr, ℕ, ◌+◌, Bool, List, [], ◌∷◌, Vec, Global, refl, sym, ap, ◌∙◌}
use Rattle.std.specs.Int.RustNames.{bit_or}
use Rattle.cw_rights.specs.declared.words.Regex.{Regex}
use Rattle.cw_rights.specs.declared.words.Regex.TheVariants.{Cat, Or}
use Rattle.cw_rights.specs.Trees.{Literal, count, tree_of, seq_of, alt_of}
use Rattle.cw_rights.proofs.Rows.{or_tree, cat_count}
use Rattle.cw_dfa.specs.Tables.{picked}

-- the literals are counted and matched alike in both
alt_count : (parts : List Regex) → count (alt_of parts) ≡ count (seq_of parts)
alt_count [] = refl
alt_count (r ∷ rest) = ap (λ n. count (tree_of r) + n) (alt_count rest)

alt_picked : (f : Literal → Bool) (parts : List Regex) (k : ℕ) → picked f (alt_of parts) k ≡ picked f (seq_of parts) k
alt_picked f [] k = refl
alt_picked f (r ∷ rest) k = ap (λ n. bit_or (picked f (tree_of r) k) n) (alt_picked f rest (k + count (tree_of r)))

pub or_count : (r : Regex) (v : Vec Regex Global) → r ≡ Or v → count (tree_of r) ≡ count (seq_of v.items)
or_count r v e = ap count (or_tree r v e) ∙ alt_count v.items

pub or_picked : (r : Regex) (v : Vec Regex Global) (f : Literal → Bool) (k : ℕ) → r ≡ Or v → picked f (tree_of r) k ≡ picked f (seq_of v.items) k
or_picked r v f k e = ap (λ t. picked f t k) (or_tree r v e) ∙ alt_picked f v.items k

pub row_count : (r : Regex) (v : Vec Regex Global) (items : List Regex) → (r ≡ Cat v) ⊎ (r ≡ Or v) → items ≡ v.items → count (tree_of r) ≡ count (seq_of items)
row_count r v items (inl e) f = cat_count r v e ∙ sym (ap (λ l. count (seq_of l)) f)
row_count r v items (inr e) f = or_count r v e ∙ sym (ap (λ l. count (seq_of l)) f)

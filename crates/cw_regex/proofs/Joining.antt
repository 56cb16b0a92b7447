-- Sequences and alternatives of what was built.
use Rattle.std.proofs.Common.{◌≡◌, ◌≢◌, List, [], ◌∷◌, Vec, Global, map, length, refl, ap, ◌∙◌}
use Rattle.cw_rights.specs.declared.words.Regex.{Regex}
use Rattle.cw_rights.specs.declared.words.Regex.TheVariants.{Cat, Or}
use Rattle.cw_rights.specs.Trees.{seq, alt, tree_of, seq_of, alt_of}
use Rattle.cw_rights.proofs.Rows.{cat_tree, or_tree}
use Rattle.cw_regex.specs.Meaning.{chain_seq, chain_alt, joined_seq, joined_alt}

chain_is : (rs : List Regex) → seq_of rs ≡ chain_seq (map tree_of rs)
chain_is [] = refl
chain_is (r ∷ rs) = ap (seq (tree_of r)) (chain_is rs)

seq_is : (rs : List Regex) → length rs ≢ 1 → seq_of rs ≡ joined_seq (map tree_of rs)
seq_is [] n = refl
seq_is (r ∷ []) n = absurd (n refl)
seq_is (r ∷ (s ∷ rs)) n = ap (λ t. seq (tree_of r) (seq (tree_of s) t)) (chain_is rs)

pub cat_joined : (v : Vec Regex Global) → length v.items ≢ 1 → tree_of (Cat v) ≡ joined_seq (map tree_of v.items)
cat_joined v n = cat_tree (Cat v) v refl ∙ seq_is v.items n

chain_alt_is : (rs : List Regex) → alt_of rs ≡ chain_alt (map tree_of rs)
chain_alt_is [] = refl
chain_alt_is (r ∷ rs) = ap (alt (tree_of r)) (chain_alt_is rs)

alt_is : (rs : List Regex) → length rs ≢ 1 → alt_of rs ≡ joined_alt (map tree_of rs)
alt_is [] n = refl
alt_is (r ∷ []) n = absurd (n refl)
alt_is (r ∷ (s ∷ rs)) n = ap (λ t. alt (tree_of r) (alt (tree_of s) t)) (chain_alt_is rs)

pub or_joined : (v : Vec Regex Global) → length v.items ≢ 1 → tree_of (Or v) ≡ joined_alt (map tree_of v.items)
or_joined v n = or_tree (Or v) v refl ∙ alt_is v.items n

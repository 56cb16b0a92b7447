-- The tree of a sequence and of an alternative.
use Rattle.std.proofs.Common.{◌≡◌, List, Vec, Global, refl, sym, ap, ◌∙◌}
use mathlib.Core.Former.{Count}
use Rattle.cw_rights.specs.declared.words.Letter.{Letter}
use Rattle.cw_rights.specs.declared.words.Regex.{Regex, Cat', Or', Row_of-Regex, end_of-Regex, more_of-Regex, items-the_row-Regex, items_hidden-the_row-Regex-0}
use Rattle.cw_rights.specs.declared.words.Regex.TheVariants.{Cat, Or}
use Rattle.cw_rights.specs.Trees.{seq, alt, count, tree_of, seq_row, alt_row, seq_of, alt_of}
use Rattle.cw_rights.specs.Plain.{plain}

row_seq : (n : _) (row : Row_of-Regex n) → seq_row row ≡ seq_of (items-the_row-Regex n row)
row_seq n end_of-Regex = refl
row_seq n (more_of-Regex r rest) = ap (seq (tree_of r)) (row_seq _ rest)

row_alt : (n : _) (row : Row_of-Regex n) → alt_row row ≡ alt_of (items-the_row-Regex n row)
row_alt n end_of-Regex = refl
row_alt n (more_of-Regex r rest) = ap (alt (tree_of r)) (row_alt _ rest)

abbrev row_in : Regex → (n : Count) × Row_of-Regex n
row_in (Cat' shape row) = (_, row)
row_in (Or' shape row) = (_, row)
row_in _ = (_, end_of-Regex)

pub cat_tree : (r : Regex) (v : Vec Regex Global) → r ≡ Cat v → tree_of r ≡ seq_of v.items
cat_tree r v e = let q = row_in (Cat v) in ap tree_of e ∙ row_seq q.0 q.1 ∙ ap seq_of (items_hidden-the_row-Regex-0 v)

pub or_tree : (r : Regex) (v : Vec Regex Global) → r ≡ Or v → tree_of r ≡ alt_of v.items
or_tree r v e = let q = row_in (Or v) in ap tree_of e ∙ row_alt q.0 q.1 ∙ ap alt_of (items_hidden-the_row-Regex-0 v)

pub cat_count : (r : Regex) (v : Vec Regex Global) → r ≡ Cat v → count (tree_of r) ≡ count (seq_of v.items)
cat_count r v e = ap count (cat_tree r v e)

pub or_count : (r : Regex) (v : Vec Regex Global) → r ≡ Or v → count (tree_of r) ≡ count (alt_of v.items)
or_count r v e = ap count (or_tree r v e)

pub cat_of : (r : Regex) (v : Vec Regex Global) (items : List Regex) → r ≡ Cat v → items ≡ v.items → tree_of r ≡ seq_of items
cat_of r v items e f = cat_tree r v e ∙ sym (ap seq_of f)

pub or_of : (r : Regex) (v : Vec Regex Global) (items : List Regex) → r ≡ Or v → items ≡ v.items → tree_of r ≡ alt_of items
or_of r v items e f = or_tree r v e ∙ sym (ap alt_of f)

pub cat_plain : (r : Regex) (v : Vec Regex Global) (w : List Letter) → r ≡ Cat v → plain (tree_of r) w ≡ plain (seq_of v.items) w
cat_plain r v w e = ap (λ t. plain t w) (cat_tree r v e)

pub or_plain : (r : Regex) (v : Vec Regex Global) (w : List Letter) → r ≡ Or v → plain (tree_of r) w ≡ plain (alt_of v.items) w
or_plain r v w e = ap (λ t. plain t w) (or_tree r v e)

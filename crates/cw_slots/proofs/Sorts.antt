-- Names of a shape, in lists.
use Rattle.std.proofs.Common.{◌≡◌, ℕ, List, [], ◌∷◌, ◌++◌, Bool, true, false, cond, map, filter, refl, sym, ap, ◌∙◌, Vec, Box, Global}
use Rattle.std.proofs.lemmas.List.{append_assoc}
use Rattle.cw_syntax.specs.declared.program.Stmt.{Stmt}
use Rattle.cw_syntax.specs.declared.program.Head.{Head, Head'}
use Rattle.cw_syntax.specs.declared.program.What.TheVariants.{Block, For}
use Rattle.cw_syntax.specs.Names.{text}
use Rattle.cw_syntax.specs.Trees.{Declared, Statement, form_of, for_of, statement_of}
use Rattle.cw_syntax.proofs.Shapes.{block_form}
use Rattle.cw_value.specs.Machines.{declared_by, declared_in, names_of}

module _ (bytes : List ℕ) (shape : Declared → Bool) where
  kept_too : (d : Declared) (ds : List Declared) (b : Bool) → map (λ i. text bytes i.name) (cond b (d ∷ filter shape ds) (filter shape ds))
      ≡ map (λ i. text bytes i.name) (cond b (d ∷ []) []) ++ map (λ i. text bytes i.name) (filter shape ds)
  kept_too d ds true = refl
  kept_too d ds false = refl

  pub names_first : (d : Declared) (ds : List Declared) → names_of bytes shape (d ∷ ds) ≡ names_of bytes shape (d ∷ []) ++ names_of bytes shape ds
  names_first d ds = kept_too d ds (shape d)

  pub names_both : (ds es : List Declared) → names_of bytes shape (ds ++ es) ≡ names_of bytes shape ds ++ names_of bytes shape es
  names_both [] es = refl
  names_both (d ∷ ds) es =
      names_first d (ds ++ es)
      ∙ ap (λ l. names_of bytes shape (d ∷ []) ++ l) (names_both ds es)
      ∙ sym (append_assoc (names_of bytes shape (d ∷ [])) (names_of bytes shape ds) (names_of bytes shape es))
      ∙ ap (λ l. l ++ names_of bytes shape es) (sym (names_first d ds))

for_declares : (h : Head) (body : Statement) → declared_in (for_of h body) ≡ []
for_declares (Head' init test step) body = refl

pub no_for : (s : Stmt) (h : Box Head Global) (b : Box Stmt Global) → s.what ≡ For h b → declared_by (statement_of s) ≡ []
no_for s h b e = ap (λ w. declared_in (form_of w)) e ∙ for_declares h.value (statement_of b.value)

pub no_block : (s : Stmt) (v : Vec Stmt Global) → s.what ≡ Block v → declared_by (statement_of s) ≡ []
no_block s v e = ap declared_in (block_form s.what v e)

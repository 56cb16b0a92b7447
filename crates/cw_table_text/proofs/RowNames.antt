-- A row's kind by its name.
use Rattle.std.proofs.Common.{◌≡◌, refl, ap, sym, ◌∙◌, subst, ℕ, List, Option, Some, None}
use Rattle.std.specs.List.{AllByRecursion}
use Rattle.std.proofs.lemmas.Option.{none-some}
use Rattle.cw_text.specs.KindsByName.{kind_by}
use Rattle.cw_text.proofs.KindsByName.{kind_found}
use Rattle.cw_table_text.specs.Rows.{name_of}
use Rattle.cw_table_text.specs.Working.{TakesNamed, kind_name, row_names}
use Rattle.cw_table_text.specs.declared.line.RowKind.{RowKind}
use Rattle.cw_table_text.specs.declared.line.RowKind.TheVariants as kind
use Rattle.cw_table_text.specs.declared.row.Row.{Row}
use Rattle.cw_table_text.specs.declared.row.Row.TheVariants.{Memory, Live, Try, At, Opened, Closed, Into, Back}

abbrev IsNameOf : List ℕ → RowKind → Type 0
IsNameOf name k = kind_name k ≡ name

all_names : AllByRecursion (λ (r : List ℕ × RowKind). IsNameOf r.0 r.1) row_names
all_names = (refl, (refl, (refl, (refl, (refl, (refl, (refl, (refl, tt))))))))

pub named_row : (format : ℕ) (name : List ℕ) (k : RowKind) (old new : List (List ℕ)) (result : Option Row) → Some k ≡ kind_by row_names name → TakesNamed format (kind_name k) old new result
    → TakesNamed format name old new result
named_row format name k old new result e takes =
    let named : kind_name k ≡ name = kind_found IsNameOf row_names name k all_names (sym e) in
    subst (λ w. TakesNamed format w old new result) named takes

abbrev kind_in : Row → RowKind
kind_in (Memory n m) = kind.Memory
kind_in (Live r) = kind.Live
kind_in (Try r) = kind.Try
kind_in (At r) = kind.At
kind_in (Opened r) = kind.Opened
kind_in (Closed r) = kind.Closed
kind_in (Into r) = kind.Into
kind_in (Back r) = kind.Back

found : (row : Row) → kind_by row_names (name_of row) ≡ Some (kind_in row)
found (Memory n m) = refl
found (Live r) = refl
found (Try r) = refl
found (At r) = refl
found (Opened r) = refl
found (Closed r) = refl
found (Into r) = refl
found (Back r) = refl

pub no_row : (format : ℕ) (name : List ℕ) (fields : List (List ℕ)) → None ≡ kind_by row_names name → TakesNamed format name fields fields None
no_row format name fields e = record {
  some = tt;
  none = λ row rest fits named same. absurd (none-some (kind_in row) (e ∙ ap (kind_by row_names) named ∙ found row));
}

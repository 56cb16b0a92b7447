-- A line's kind by the word of its first field.
use Rattle.std.proofs.Common.{◌≡◌, ◌≢◌, refl, ap, sym, ◌∙◌, ℕ, List, Some, None}
use Rattle.std.specs.List.{AllByRecursion}
use Rattle.std.proofs.lemmas.Option.{none-some}
use Rattle.cw_certs.specs.declared.moves.Move.{Move}
use Rattle.cw_text.specs.Lines.{Reads}
use Rattle.cw_text.specs.Moves.{move_name, IsEnvironments}
use Rattle.cw_text.specs.KindsByName.{kind_by}
use Rattle.cw_text.proofs.KindsByName.{kind_found}
use Rattle.cw_audit_text.specs.declared.text_line.LineKind.{LineKind}
use Rattle.cw_audit_text.specs.declared.text_line.LineKind.TheVariants as kind
use Rattle.cw_audit_text.specs.Kinds.{kind_field, word_kinds, FitsKind}

abbrev IsKindOf : List ℕ → LineKind → Type 0
IsKindOf field k = FitsKind k × (kind_field k ≡ field)

all_kinds : AllByRecursion (λ (r : List ℕ × LineKind). IsKindOf r.0 r.1) word_kinds
all_kinds = ((tt, refl), ((tt, refl), ((tt, refl), ((tt, refl), ((tt, refl), ((tt, refl), ((tt, refl), tt)))))))

pub word_kind : (field : List ℕ) (k : LineKind) → Some k ≡ kind_by word_kinds field → Reads FitsKind kind_field field (Some k)
word_kind field k e = record { some = kind_found IsKindOf word_kinds field k all_kinds (sym e); none = tt }

pub move_kind : (field : List ℕ) (by : Move) → IsEnvironments by → move_name by ≡ field → Reads FitsKind kind_field field (Some (kind.Go by))
move_kind field by fits e = record { some = (fits, e); none = tt }

other : (field : List ℕ) (k : LineKind) → kind_by word_kinds (kind_field k) ≡ Some k → None ≡ kind_by word_kinds field → kind_field k ≢ field
other field k is none e = none-some k (none ∙ ap (kind_by word_kinds) (sym e) ∙ is)

none_of : (field : List ℕ) → None ≡ kind_by word_kinds field → ((by : Move) → IsEnvironments by → move_name by ≢ field) → (k : LineKind) → FitsKind k → kind_field k ≢ field
none_of field none moves kind.Head fits = other field kind.Head refl none
none_of field none moves kind.States fits = other field kind.States refl none
none_of field none moves kind.Meets fits = other field kind.Meets refl none
none_of field none moves kind.Violates fits = other field kind.Violates refl none
none_of field none moves (kind.Go by) fits = moves by fits
none_of field none moves kind.In fits = other field kind.In refl none
none_of field none moves kind.At fits = other field kind.At refl none
none_of field none moves kind.End fits = other field kind.End refl none

pub no_kind : (field : List ℕ) → None ≡ kind_by word_kinds field → ((by : Move) → IsEnvironments by → move_name by ≢ field) → Reads FitsKind kind_field field None
no_kind field none moves = record { some = tt; none = none_of field none moves }

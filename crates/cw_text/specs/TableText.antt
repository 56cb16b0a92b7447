-- The fields of a table's rows, as the prologue of a woven text has them.
use Rattle.std.specs.Prelude.{ℕ, List, [], ◌∷◌, Bool, false, true, Option, None, Some, codes}
use Rattle.std.specs.Fmt.{decimal}
use Rattle.cw_core.specs.declared.ids.PosId.{PosId}
use Rattle.cw_core.specs.declared.ids.MemId.{MemId}
use Rattle.cw_certs.specs.declared.rows.TryRow.{TryRow}
use Rattle.cw_certs.specs.declared.rows.AtRow.{AtRow}
use Rattle.cw_certs.specs.declared.rows.OpenRow.{OpenRow}
use Rattle.cw_certs.specs.declared.rows.IntoRow.{IntoRow}
use Rattle.cw_certs.specs.declared.rows.BackRow.{BackRow}

-- a memory's number, or CW_NONE for an answer that never comes
abbrev pub answer : Option MemId → List ℕ
answer None = codes "CW_NONE"
answer (Some m) = decimal m.0

-- 0 for a plain call, 1 for a split one
abbrev pub mode : Bool → List ℕ
mode false = decimal 0
mode true = decimal 1

-- the fields of each kind of row
abbrev pub live_fields : PosId × MemId → List (List ℕ)
live_fields p = decimal p.0.0 ∷ decimal p.1.0 ∷ []

abbrev pub try_fields : TryRow → List (List ℕ)
try_fields r = decimal r.seam.0 ∷ decimal r.stage ∷ decimal r.mem.0 ∷ answer r.granted ∷ answer r.refused ∷ []

abbrev pub after_fields : AtRow → List (List ℕ)
after_fields r = decimal r.seam.0 ∷ decimal r.mem.0 ∷ decimal r.after.0 ∷ []

abbrev pub opened_fields : OpenRow → List (List ℕ)
opened_fields r = decimal r.seam.0 ∷ decimal r.mem.0 ∷ decimal r.opened.0 ∷ decimal r.failed.0 ∷ []

abbrev pub into_fields : IntoRow → List (List ℕ)
into_fields r = decimal r.seam.0 ∷ mode r.split ∷ decimal r.mem.0 ∷ decimal r.callee.0 ∷ []

abbrev pub back_fields : BackRow → List (List ℕ)
back_fields r = decimal r.seam.0 ∷ mode r.split ∷ decimal r.mem.0 ∷ decimal r.exit.0 ∷ decimal r.after.0 ∷ []

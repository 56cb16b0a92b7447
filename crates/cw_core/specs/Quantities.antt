-- The quantities that have a limit.
use Rattle.std.specs.Prelude.{ℕ, ◌==◌, if◌then◌else◌, List, codes}
use Rattle.cw_core.specs.declared.quantity.Quantity.{Quantity}
use Rattle.cw_core.specs.declared.quantity.Quantity.TheVariants.{PolicyBytes, SourceBytes, FileBytes, Descriptors, Limits, Rules, RulePositions, Nesting, Functions, Labels, Points, RightsStates, PolicyStates, ProductStates, PositionsTimesStates, Cells, Rows, AuditMoves}

-- its name, as a refusal prints it
abbrev pub name_of : Quantity → List ℕ
name_of PolicyBytes = codes "policy bytes"
name_of SourceBytes = codes "source bytes"
name_of FileBytes = codes "file bytes"
name_of Descriptors = codes "descriptors"
name_of Limits = codes "limits"
name_of Rules = codes "rules"
name_of RulePositions = codes "rule positions"
name_of Nesting = codes "nesting"
name_of Functions = codes "functions"
name_of Labels = codes "labels"
name_of Points = codes "points"
name_of RightsStates = codes "rights states"
name_of PolicyStates = codes "policy states"
name_of ProductStates = codes "product states"
name_of PositionsTimesStates = codes "positions times states"
name_of Cells = codes "cells"
name_of Rows = codes "rows"
name_of AuditMoves = codes "audit moves"

-- the greatest number of it that is within the limit, for a policy of format 1
abbrev pub limit_of : Quantity → ℕ
limit_of PolicyBytes = 65536
limit_of SourceBytes = 262144
limit_of FileBytes = 16777216
limit_of Descriptors = 8
limit_of Limits = 12
limit_of Rules = 32
limit_of RulePositions = 64
limit_of Nesting = 64
limit_of Functions = 512
limit_of Labels = 256
limit_of Points = 8192
limit_of RightsStates = 128
limit_of PolicyStates = 64
limit_of ProductStates = 512
limit_of PositionsTimesStates = 1048576
limit_of Cells = 4194304
limit_of Rows = 65536
limit_of AuditMoves = 65536

-- in format 2 a file may have twice as many bytes, and the product twice as many states
abbrev pub limit_in : (format : ℕ) → Quantity → ℕ
limit_in format FileBytes = if format == 2 then 33554432 else limit_of FileBytes
limit_in format ProductStates = if format == 2 then 1024 else limit_of ProductStates
limit_in format quantity = limit_of quantity

-- Moves by their names, and whose they are.
use Rattle.std.specs.Prelude.{ℕ, List, [], codes}
use Rattle.cw_certs.specs.declared.moves.Move.{Move}
use Rattle.cw_certs.specs.declared.moves.Move.TheVariants.{Skip, Try, Grant, Refuse, On, Left, Right, Opened, Failed, Stop}

-- The name of a move. A stop has none: no text has one.
abbrev pub move_name : Move → List ℕ
move_name Skip = codes "skip"
move_name Try = codes "try"
move_name Grant = codes "grant"
move_name Refuse = codes "refuse"
move_name On = codes "on"
move_name Left = codes "left"
move_name Right = codes "right"
move_name Opened = codes "opened"
move_name Failed = codes "failed"
move_name Stop = []

-- the weaver's moves, and the environment's
abbrev pub IsWeavers : Move → Type 0
IsWeavers Skip = Unit {0}
IsWeavers Try = Unit {0}
IsWeavers by = ⊥

abbrev pub IsEnvironments : Move → Type 0
IsEnvironments Skip = ⊥
IsEnvironments Try = ⊥
IsEnvironments Stop = ⊥
IsEnvironments by = Unit {0}

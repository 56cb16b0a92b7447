use Rattle.std.proofs.Common.{◌≡◌, ◌++◌, map, drop}
use Rattle.cw_resolve.specs.Scenes.{stms_in}
use Rattle.cw_points.specs.Points.{points_in_all}
use Rattle.cw_deeds.specs.Rows.{row_of}
use Rattle.cw_deeds.proofs.items.+rows.Given as goal

abbrev pub invariant-put_statements-loop-statement : goal.invariant-put_statements-loop-statement
invariant-put_statements-loop-statement l =
    l.rows.items ++ map row_of (points_in_all (stms_in l.scene (drop l.statement-index l.statements)))
    ≡ l.initial.rows.items ++ map row_of (points_in_all (stms_in l.scene l.statements))

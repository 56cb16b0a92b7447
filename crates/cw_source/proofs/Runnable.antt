-- A program that is read can be run.
use Rattle.std.proofs.Common.{ℕ, List}
use Rattle.cw_syntax.specs.Names.{Names}
use Rattle.cw_syntax.specs.Trees.{File}
use Rattle.cw_syntax.specs.Plans.{plan_of}
use Rattle.cw_syntax.specs.Runnable.{IsRunnable}
use Rattle.cw_source.specs.Read.{ReadsAs}
use Rattle.cw_source.proofs.Landing.{jumps_land}
use Rattle.cw_source.proofs.Starting.{main_there}

pub runnable : (names : Names) (source : List ℕ) (file : File) → ReadsAs source file → IsRunnable (plan_of names source file)
runnable names source file h = record { lands = jumps_land names source file h; main = main_there names source file h }

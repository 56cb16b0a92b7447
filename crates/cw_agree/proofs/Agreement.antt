-- The plain run and the woven run from the start.
use Rattle.std.proofs.Common.{◌≡◌, List, [], ◌∷◌, Option, Some, None, refl, sym, ap, subst, ◌∙◌, inl}
use Rattle.std.specs.Prelude.{slice_get, option_map}
use Rattle.std.proofs.lemmas.Bool.{both_ways}
use Rattle.cw_rights.specs.Policies.{PlainPolicy}
use Rattle.cw_certs.specs.declared.moves.Move.{Move}
use Rattle.cw_certs.specs.Tables.{Table}
use Rattle.cw_syntax.specs.Plans.{Routine}
use Rattle.cw_syntax.specs.Frames.{start_stack, stack_of, new_frame}
use Rattle.cw_model.specs.Boards.{Problem, problem_of, is_refused, begin}
use Rattle.cw_callgraph.specs.Fitting.{Fits}
use Rattle.cw_value.specs.Expressions.{Memory, Outcome, gives, stops}
use Rattle.cw_value.specs.Declarations.{Done}
use Rattle.cw_value.specs.Machines.{Source, Locals}
use Rattle.cw_value.specs.Starts.{begun, main_machine}
use Rattle.cw_value.specs.Shown.{Values}
use Rattle.cw_value.specs.Runs.{going_start, most_steps, source_of, RunsFrom}
use Rattle.cw_agree.specs.Agreements.{Agrees}
use Rattle.cw_agree.specs.Laws.{RunsAgree, SomeRunAgrees}
use Rattle.cw_agree.proofs.Progress.{some_run}
use Rattle.cw_agree.proofs.Paired.{Paired, agree, begin_fits, begin_plain, begin_split}
use Rattle.cw_agree.proofs.Fenced.{plan, new_called}
use Rattle.cw_agree.proofs.Invariants.{Aligned, Inv, invariant}
use Rattle.cw_model.proofs.Moving.{begin_on}

module _ (policy : PlainPolicy) (s : Source) (fits : Fits s.bytes s.file policy) where
  abbrev p : Problem
  p = problem_of policy s.bytes s.file

  aligned_start : (o : Option Routine) (l : Locals) → slice_get (plan policy s).routines (plan policy s).main ≡ o → l.function ≡ (plan policy s).main
      → Aligned policy s fits (stack_of (option_map (new_frame (plan policy s).main) o)) (l ∷ [])
  aligned_start None l e f = tt
  aligned_start (Some r) l e f =
      subst (λ n. Aligned policy s fits (new_frame (plan policy s).main r ∷ []) (record l { function = n } ∷ [])) (sym f) (new_called policy s fits (plan policy s).main r e, tt)

  inv_start : (m : Memory) → Inv policy s fits (start_stack (plan policy s)) (main_machine s (plan policy s).main m)
  inv_start m = (aligned_start (slice_get (plan policy s).routines (plan policy s).main) _ refl refl, (tt, λ k. absurd (cc), tt))

  pub start_paired : (t : Table) (tries : List Move) (m : Memory)
      → Paired s p (Some t) (Inv policy s fits) (invariant policy s fits) (going_start s p None tries m) (going_start s p (Some t) tries m)
  start_paired t tries m =
      let stack = start_stack (plan policy s) in
      record {
        stack = refl;
        values = refl;
        is_plain = begin_plain policy stack;
        plain_fits = begin_fits policy stack;
        woven_fits = begin_fits policy stack;
        split = λ k. sym (begin_split policy stack) ∙ k;
        stop = λ k. absurd (both_ways (is_refused (begin policy stack)) (begin_on policy stack) k);
        inv = inv_start m;
      }

  from_agree : (t : Table) (tries : List Move) (o : Outcome Done) (v w : Values) → RunsFrom s p None tries o v → RunsFrom s p (Some t) tries o w → Agrees policy v w
  from_agree t tries (stops why m) v w h k = let e = h ∙ sym k in inl (ap (λ (x : Values). x.made) e, ap (λ (x : Values). x.stop) e)
  from_agree t tries (gives d m) v w h k =
      agree s p (Some t) (Inv policy s fits) (invariant policy s fits) most_steps (going_start s p None tries m) (going_start s p (Some t) tries m) v w (start_paired t tries m) h k

pub runs_agree : RunsAgree
runs_agree policy table bytes file handed_in v w fits h k =
    let s = source_of bytes file handed_in in
    from_agree policy s fits table handed_in.tries (begun s handed_in.calls) v w h k

pub some_run_agrees : SomeRunAgrees
some_run_agrees policy table bytes file handed_in w runs fits k =
    let v = some_run policy bytes file handed_in runs in
    (v.0, v.1, runs_agree policy table bytes file handed_in v.0 w fits v.1 k)

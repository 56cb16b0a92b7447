-- The visits of a point, one after the other.
use Rattle.std.proofs.Common.{◌≡◌, ℕ, suc, ◌+◌, ◌≤◌, List, ◌∷◌, Some, refl, sym, ◌∙◌, subst, arith}
use Rattle.std.specs.List.{All}
use Rattle.cw_core.specs.declared.ids.SeamId.{SeamId}
use Rattle.cw_certs.specs.declared.moves.Move.{Move}
use Rattle.cw_certs.specs.Tables.{Table}
use Rattle.cw_syntax.specs.Frames.{Frame}
use Rattle.cw_model.specs.Boards.{Phase, Visit, Asked, Refused as RefusedPhase, Free, FreeSplit, Over, begin}
use Rattle.cw_product.specs.Product.{Held}
use Rattle.cw_run.specs.Walks.{Here, Wait}
use Rattle.cw_value.specs.declared.values.Stop.TheVariants.{Refused}
use Rattle.cw_value.specs.Machines.{Source, Machine}
use Rattle.cw_value.specs.Shown.{IsAnswer}
use Rattle.cw_value.specs.Runs.{Going, Ends, IsFree}
use Rattle.cw_woven_values.specs.Standing.{IsWoven, IsCalm, IsFresh, to_come, problem, policy, EndsAlike, Weaves}
use Rattle.cw_woven_values.specs.Visiting.{Goes, Quits, Rests, Arrives}
use Rattle.cw_woven_values.proofs.Seeing.{seen}
use Rattle.cw_woven_values.proofs.Passing.{begin_calm, begin_few}

-- nothing is to come any more
calm_free : (phase : Phase) → IsCalm phase → to_come phase ≤ 0 → IsFree phase
calm_free (Visit i a later) c e = absurd (omega (arith, e))
calm_free Free c e = tt
calm_free FreeSplit c e = tt
calm_free (Asked i a later) c e = absurd c
calm_free (RefusedPhase i a later) c e = absurd c
calm_free Over c e = absurd c

module _ (h : Held) (s : Source) (t : Table) (w : IsWoven h s t) (plain : Going) (waits : List Wait) where
  -- so many visits behind a state
  pub record Gone (i : ℕ) (here : Here) (left : List Move) (made : ℕ) (run now : Going) : Type 0 where
    pub weaves : Weaves h s t w plain here waits left made now
    pub calm : IsCalm now.woven.board.phase
    pub machine : now.machine ≡ run.machine
    pub few : to_come now.woven.board.phase + i ≤ 14
    pub ends : EndsAlike h s t run now

  fresh_calm : (stack : List Frame) (frame : Frame) (frames : List Frame) → stack ≡ frame ∷ frames → IsCalm (begin (policy h s t) stack)
  fresh_calm stack frame frames e = subst (λ (x : List Frame). IsCalm (begin (policy h s t) x)) (sym e) (begin_calm (policy h s t) frame frames)

  fresh_few : (stack : List Frame) (frame : Frame) (frames : List Frame) → stack ≡ frame ∷ frames → to_come (begin (policy h s t) stack) ≤ 14
  fresh_few stack frame frames e = subst (λ (x : List Frame). to_come (begin (policy h s t) x) ≤ 14) (sym e) (begin_few (policy h s t) w.valid.few_limits frame frames)

  pub gone_none : (here : Here) (left : List Move) (made : ℕ) (run : Going) → Weaves h s t w plain here waits left made run → IsFresh h s t run → (now : Going) × Gone 0 here left made run now
  gone_none here left made run on fresh =
      let k = seen h s t w run.woven here waits on.sits in
      let few = subst (λ (x : Phase). to_come x ≤ 14) (sym fresh) (fresh_few run.woven.board.stack k.frame k.frames k.stack) in (
        run,
        record {
          weaves = on;
          calm = subst IsCalm (sym fresh) (fresh_calm run.woven.board.stack k.frame k.frames k.stack);
          machine = refl;
          few = omega (arith, few);
          ends = λ n v rest. rest;
        },
      )

  pub gone_on : (i : ℕ) (here next : Here) (left left2 : List Move) (made made2 : ℕ) (run now then : Going) → Gone i here left made run now → Goes h s t w plain waits left2 made2 now next then
      → Gone (i + 1) next left2 made2 run then
  gone_on i here next left left2 made made2 run now then a b = record {
    weaves = b.weaves;
    calm = b.calm;
    machine = b.machine ∙ a.machine;
    few = let x = a.few in let y = b.less in omega arith;
    ends = λ n v rest. a.ends n v (b.ends n v rest);
  }

  pub gone_free : (i : ℕ) (here : Here) (left left2 : List Move) (made made2 : ℕ) (run now : Going) → Gone i here left made run now → Rests h s t w plain waits left2 made2 now
      → Arrives h s t w plain waits left2 made2 run here now
  gone_free i here left left2 made made2 run now a b = record {
    weaves = record {
      paired = a.weaves.paired;
      sits = a.weaves.sits;
      comes = a.weaves.comes;
      tries = b.tries;
      answers = subst (λ (l : List Move). All IsAnswer l) (sym a.weaves.tries ∙ b.tries) a.weaves.answers;
      tried = b.tried;
    };
    free = b.free;
    machine = a.machine;
    ends = a.ends;
  }

  pub gone_all : (i : ℕ) (here : Here) (left : List Move) (made : ℕ) (run now : Going) → 14 ≤ i → Gone i here left made run now → Arrives h s t w plain waits left made run here now
  gone_all i here left made run now e a = record {
    weaves = a.weaves;
    free = let few = a.few in calm_free now.woven.board.phase a.calm (omega arith);
    machine = a.machine;
    ends = a.ends;
  }

  pub gone_quits : (i : ℕ) (here : Here) (left left2 : List Move) (made made2 : ℕ) (run now : Going) (seam : SeamId) → Gone i here left made run now → Quits h s t w plain waits left2 made2 now seam
      → Quits h s t w plain waits left2 made2 run seam
  gone_quits i here left left2 made made2 run now seam a b = λ n.
      subst (λ (x : Machine). Ends s (problem h s t) (Some t) (suc n) run (record { made = x.made; tried = made2; stop = Refused seam })) a.machine (a.ends n _ (b n))

use Rattle.std.proofs.Common.{◌≡◌, ◌+◌, suc, subst, sym, arith, []}
use Rattle.cw_rights.specs.Policies.{policy_of}
use Rattle.cw_syntax.specs.declared.marks.SeamMark.{SeamMark as MarkHeld}
use Rattle.cw_syntax.specs.declared.marks.MarkKind.TheVariants.{Entry}
use Rattle.cw_woven.specs.declared.parts.Insertion.{Insertion as Held}
use Rattle.cw_woven.specs.Reading.{IsFirstDifference}
use Rattle.std.proofs.lemmas.Bool.{true≢false}
use Rattle.std.proofs.Common.{◌∙◌}
use Rattle.cw_woven.proofs.Differing.{insertion_next, mark_next, no_insertion, no_mark, at_once, same_step, differs_step, differs_here, insertion_alone, mark_alone, bytes_step}
use Rattle.cw_woven.proofs.comparing.compare.Goals as goal

abbrev default_insertion : Held
default_insertion = record { gap = record { ref_ptr = (0, 0); now = [] }; inner = record { ref_ptr = (0, 0); now = [] } }

abbrev default_mark : MarkHeld
default_mark = record { place = 0; seam = 0; kind = Entry }

pub returns-then-marks-n-clause-fault : goal.returns-then-marks-n-clause-fault
returns-then-marks-n-clause-fault c =
    let i = c.loop-insertion.insertion-index in
    at_once _ _ (IsFirstDifference _ _) c.loop-insertion.n c.loop-insertion.invariant.differs
    (insertion_alone (policy_of c.args.policy.now) c.args.source.now c.loop-insertion.place _ _ _ _ (insertion_next c.args.insertions.now i default_insertion c.loop-insertion-test.true) (no_mark c.args.marks.now c.loop-insertion.n c.if-marks-n.true))

pub returns-else-is_due-clause-fault : goal.returns-else-is_due-clause-fault
returns-else-is_due-clause-fault c =
    at_once _ _ (IsFirstDifference _ _) c.loop-insertion.n c.loop-insertion.invariant.differs
    (differs_here (policy_of c.args.policy.now) c.args.source.now c.loop-insertion.place _ _ _ _ _ _ (insertion_next c.args.insertions.now c.loop-insertion.insertion-index default_insertion c.loop-insertion-test.true) (mark_next c.args.marks.now c.loop-insertion.n default_mark c.if-marks-n.false)
    (λ e. true≢false (sym (c.is_due.ensures.1 e) ∙ c.if-is_due.false)))

pub loop-insertion-preserved : goal.loop-insertion-preserved
loop-insertion-preserved c =
    let policy = policy_of c.args.policy.now in
    let source = c.args.source.now in
    let inv = c.loop-insertion.invariant in
    let pe = insertion_next c.args.insertions.now c.loop-insertion.insertion-index default_insertion c.loop-insertion-test.true in
    let me = mark_next c.args.marks.now c.loop-insertion.n default_mark c.if-marks-n.false in
    let due = c.is_due.ensures.0 c.if-is_due.true in
    let count = inv.count in
    let less = c.if-marks-n.false in
    record {
      count = omega (arith, count);
      within = omega (arith, less);
      bytes = bytes_step c.loop-insertion.place _ _ _ _ c.args.left.now pe inv.bytes;
      same = λ e. inv.same (same_step policy source c.loop-insertion.place _ _ _ _ _ _ pe me due e);
      differs = λ k d. let f : c.loop-insertion.n + suc k ≡ c.loop-insertion.n + 1 + k = omega arith in subst (IsFirstDifference _ _) f (inv.differs (suc k) (differs_step policy source c.loop-insertion.place _ _ _ _ _ _ k pe me due d));
    }

pub returns-then-n-marks-clause-fault : goal.returns-then-n-marks-clause-fault
returns-then-n-marks-clause-fault c =
    let over = c.loop-insertion-test.false in
    at_once _ _ (IsFirstDifference _ _) c.loop-insertion.n c.loop-insertion.invariant.differs
    (mark_alone (policy_of c.args.policy.now) c.args.source.now c.loop-insertion.place _ _ _ _ (no_insertion c.args.insertions.now c.loop-insertion.insertion-index (omega (arith, over))) (mark_next c.args.marks.now c.loop-insertion.n default_mark c.if-n-marks.true))

use Rattle.std.proofs.Common.{◌≡◌, ◌+◌, ◌-◌, [], length, drop, ap, sym, ◌∙◌, refl, arith, rules}
use Rattle.std.proofs.lemmas.List.{drop_all}
use Rattle.cw_syntax.specs.declared.program.What.{the_lemmas}
use Rattle.cw_syntax.specs.declared.program.What.TheVariants.{If}
use Rattle.cw_syntax.specs.Trees.{Block, Labels, Chooses, Whiles, Does, Fors, nothing, just, declaration_of, tree_of, form_of, statement_of, statements_of}
use Rattle.std.specs.Prelude.{option_map, is_some}
use Rattle.cw_syntax.specs.declared.program.Head.{Head, out-Head}
use Rattle.cw_syntax.specs.Names.{number_or_other}
use Rattle.cw_points.specs.Graphs.{branch, first}
use Rattle.cw_points.specs.Sizes.{size, capped}
use Rattle.cw_points.specs.Drawing.{drawn_of, laid_all}
use Rattle.cw_syntax.proofs.Shapes.{block_form}
use Rattle.cw_points.proofs.Shapes.{for_form, IsFor}
use Rattle.cw_points.proofs.Adding.{laid_declares, laid_empty, laid_break, laid_continue, laid_return, laid_block, laid_no_more}
use Rattle.cw_points.proofs.Counting.{one_more}
use Rattle.cw_points.proofs.Room.{whole, arm_part, for_part, block_room, label_room, arm_room, other_room, while_room, for_room, first_room, rest_room}
use Rattle.cw_points.proofs.Room.{one_less, own_less, other_left, other_own, arm_own, for_own, block_own, last_own}
use Rattle.cw_points.proofs.Told.{on_ok, at_form, label_told, if_told, choice_told, while_told, do_told, for_told, more_told, left_told}
use Rattle.cw_points.proofs.lay.+lay.Goals as goal

pub lay-returns-in-Decl : goal.lay-returns-in-Decl
lay-returns-in-Decl t c =
    let sc = c.args.scene.now in
    let s = c.args.statement.now in
    let d = drawn_of c.args.draft.now in
    on_ok c.put_step.result c.put_step.ensures (λ h. at_form sc c.args.function s _ c.args.ways d (drawn_of c.put_step.new.self) (ap form_of c.in-Decl.is)
    (h ∙ laid_declares sc c.args.function (declaration_of c.in-Decl.field-0) s.from s.to c.args.ways d))

pub lay-returns-in-Empty : goal.lay-returns-in-Empty
lay-returns-in-Empty t c =
    let sc = c.args.scene.now in
    let s = c.args.statement.now in
    let d = drawn_of c.args.draft.now in
    on_ok c.put_step-in-Empty.result c.put_step-in-Empty.ensures (λ h. at_form sc c.args.function s _ c.args.ways d (drawn_of c.put_step-in-Empty.new.self) (ap form_of c.in-Empty.is)
    (h ∙ laid_empty sc c.args.function s.from s.to c.args.ways d))

pub lay-returns-in-Break : goal.lay-returns-in-Break
lay-returns-in-Break t c =
    let sc = c.args.scene.now in
    let s = c.args.statement.now in
    let d = drawn_of c.args.draft.now in
    on_ok c.put_step-in-Break.result c.put_step-in-Break.ensures (λ h. at_form sc c.args.function s _ c.args.ways d (drawn_of c.put_step-in-Break.new.self) (ap form_of c.in-Break.is)
    (h ∙ laid_break sc c.args.function s.from s.to c.args.ways d))

pub lay-returns-in-Continue : goal.lay-returns-in-Continue
lay-returns-in-Continue t c =
    let sc = c.args.scene.now in
    let s = c.args.statement.now in
    let d = drawn_of c.args.draft.now in
    on_ok c.put_step-in-Continue.result c.put_step-in-Continue.ensures (λ h. at_form sc c.args.function s _ c.args.ways d (drawn_of c.put_step-in-Continue.new.self)
    (ap form_of c.in-Continue.is) (h ∙ laid_continue sc c.args.function s.from s.to c.args.ways d))

pub lay-returns-in-Return : goal.lay-returns-in-Return
lay-returns-in-Return t c =
    let sc = c.args.scene.now in
    let s = c.args.statement.now in
    let d = drawn_of c.args.draft.now in
    on_ok c.put_step-in-Return.result c.put_step-in-Return.ensures (λ h. at_form sc c.args.function s _ c.args.ways d (drawn_of c.put_step-in-Return.new.self) (ap form_of c.in-Return.is)
    (h ∙ laid_return sc c.args.function (option_map tree_of c.in-Return.field-0) s.from s.to c.args.ways d))

pub lay-returns-in-Block : goal.lay-returns-in-Block
lay-returns-in-Block t c =
    let sc = c.args.scene.now in
    let s = c.args.statement.now in
    let d = drawn_of c.args.draft.now in
    let ss = statements_of c.in-Block.statements.items in
    on_ok c.lay_all.result c.lay_all.ensures (λ h.
    at_form sc c.args.function s (Block ss) c.args.ways d (drawn_of c.lay_all.new.draft) (block_form s.what c.in-Block.statements c.in-Block.is)
    (h ∙ ap (λ l. laid_all sc c.args.function (statements_of l) c.args.ways d) c.deref.ensures.value ∙ laid_block sc c.args.function ss s.from s.to c.args.ways d))

pub lay-returns-in_ok-put_seam-in-Label : goal.lay-returns-in_ok-put_seam-in-Label
lay-returns-in_ok-put_seam-in-Label t c =
    let sc = c.args.scene.now in
    let s = c.args.statement.now in
    let d = drawn_of c.args.draft.now in
    let body = statement_of c.in-Label.body.value in
    on_ok c.lay.result c.lay.ensures (λ h.
    at_form sc c.args.function s (Labels c.in-Label.name c.in-Label.mark body) c.args.ways d (drawn_of c.lay.new.draft) (ap form_of c.in-Label.is)
    (label_told sc c.args.function c.in-Label.name c.in-Label.mark body (statement_of c.deref-in-Label.result.now) s.from s.to c.label_number-label.result c.next_point-at.result
    (c.args.own - 1) c.first-next.result c.args.ways d (drawn_of c.put_seam.new.self) (drawn_of c.lay.new.draft)
    (ap statement_of c.deref-in-Label.ensures) (c.label_number-label.ensures.number ∙ ap (number_or_other sc.names.labels) c.text.ensures.bytes) c.next_point-at.ensures
    (one_less s c.args.own c.requires.own (Labels c.in-Label.name c.in-Label.mark body) (size body) (ap form_of c.in-Label.is) refl) c.first-next.ensures
    c.in_ok-put_seam-in-Label.ensures h))

pub lay-returns-in_ok-put_branch-in-None : goal.lay-returns-in_ok-put_branch-in-None
lay-returns-in_ok-put_branch-in-None t c =
    let sc = c.args.scene.now in
    let s = c.args.statement.now in
    let d = drawn_of c.args.draft.now in
    let arm = statement_of c.in-If.arm.value in
    let e = tree_of c.in-If.field-0 in
    on_ok c.lay-in-None.result c.lay-in-None.ensures (λ h.
    at_form sc c.args.function s (Chooses e arm nothing) c.args.ways d (drawn_of c.lay-in-None.new.draft) (ap form_of (c.in-If.is ∙ ap (If c.in-If.field-0 c.in-If.arm) c.in-None.is))
    (if_told sc c.args.function e arm (statement_of c.deref-in-None.result.now) s.from s.to c.next_point-at-in-None.result (c.args.own - 1) c.first-holds.result c.args.ways d
    (drawn_of c.put_branch.new.self) (drawn_of c.lay-in-None.new.draft)
    (ap statement_of c.deref-in-None.ensures) c.next_point-at-in-None.ensures
    (one_less s c.args.own c.requires.own (Chooses e arm nothing) (size arm) (ap form_of (c.in-If.is ∙ ap (If c.in-If.field-0 c.in-If.arm) c.in-None.is)) (omega arith)) c.first-holds.ensures
    c.in_ok-put_branch-in-None.ensures h))

pub lay-returns-in_ok-put_branch-in-While : goal.lay-returns-in_ok-put_branch-in-While
lay-returns-in_ok-put_branch-in-While t c =
    let sc = c.args.scene.now in
    let s = c.args.statement.now in
    let d = drawn_of c.args.draft.now in
    let body = statement_of c.in-While.body.value in
    let e = tree_of c.in-While.field-0 in
    on_ok c.lay-in-While.result c.lay-in-While.ensures (λ h.
    at_form sc c.args.function s (Whiles e body) c.args.ways d (drawn_of c.lay-in-While.new.draft) (ap form_of c.in-While.is)
    (while_told sc c.args.function e body (statement_of c.deref-in-While.result.now) s.from s.to c.next_point-at-in-While.result (c.args.own - 1) c.first-holds-in-While.result
    c.looped.result c.args.ways d (drawn_of c.put_branch-in-While.new.self) (drawn_of c.lay-in-While.new.draft)
    (ap statement_of c.deref-in-While.ensures) c.next_point-at-in-While.ensures
    (one_less s c.args.own c.requires.own (Whiles e body) (size body) (ap form_of c.in-While.is) refl) c.first-holds-in-While.ensures c.looped.ensures
    c.in_ok-put_branch-in-While.ensures h))

pub lay-returns-in_ok-lay-in-Do : goal.lay-returns-in_ok-lay-in-Do
lay-returns-in_ok-lay-in-Do t c =
    let sc = c.args.scene.now in
    let s = c.args.statement.now in
    let d = drawn_of c.args.draft.now in
    let body = statement_of c.in-Do.body.value in
    let e = tree_of c.in-Do.field-1 in
    on_ok c.put_branch-in-Do.result c.put_branch-in-Do.ensures (λ h.
    at_form sc c.args.function s (Does body e) c.args.ways d (drawn_of c.put_branch-in-Do.new.self) (ap form_of c.in-Do.is)
    (do_told sc c.args.function e body (statement_of c.deref-in-Do.result.now) s.from s.to c.next_point-at-in-Do.result (c.args.own - 1)
    (c.next_point-at-in-Do.result + (c.args.own - 1)) c.looped-in-Do.result c.args.ways d (drawn_of c.lay-in-Do.new.draft) (drawn_of c.put_branch-in-Do.new.self)
    (ap statement_of c.deref-in-Do.ensures) c.next_point-at-in-Do.ensures
    (one_less s c.args.own c.requires.own (Does body e) (size body) (ap form_of c.in-Do.is) refl) refl c.looped-in-Do.ensures
    c.in_ok-lay-in-Do.ensures h))

pub lay-returns-in_ok-turn-in-For : goal.lay-returns-in_ok-turn-in-For
lay-returns-in_ok-turn-in-For t c =
    let sc = c.args.scene.now in
    let s = c.args.statement.now in
    let d = drawn_of c.args.draft.now in
    let body = statement_of c.in-For.body.value in
    let head = c.in-For.head.value in
    let k : IsFor head body (form_of s.what) = for_form s.what c.in-For.head c.in-For.body c.in-For.is in
    let o = out-Head c.deref-in-For-2.result.now in
    on_ok c.lay-in-For.result c.lay-in-For.ensures (λ h.
    at_form sc c.args.function s (Fors k.init k.test k.step body) c.args.ways d (drawn_of c.lay-in-For.new.draft) k.form_is
    (for_told sc c.args.function k.init k.test k.step body (statement_of c.deref-in-For-3.result.now) s.from s.to c.count-inner-in-For.result c.in_ok-turn-in-For.turn (is_some o.init)
    (is_some o.test) (is_some o.step) c.looped-in-For.result c.args.ways d (drawn_of c.put_head.new.draft) (drawn_of c.lay-in-For.new.draft)
    (ap (λ (h : Head). is_some (out-Head h).init) c.deref-in-For-2.ensures ∙ k.head_is.begun) (ap (λ (h : Head). is_some (out-Head h).test) c.deref-in-For-2.ensures ∙ k.head_is.decided)
    (ap (λ (h : Head). is_some (out-Head h).step) c.deref-in-For-2.ensures ∙ k.head_is.stepped)
    (ap statement_of c.deref-in-For-3.ensures)
    (whole c.count-inner-in-For.result (size body) (length d.nodes) (c.count-inner-in-For.ensures ∙ ap (λ b. capped (size (statement_of b))) c.deref-in-For.ensures)
    (for_part s d c.requires.few k.init k.test k.step body k.form_is))
    c.in_ok-turn-in-For.ensures.turn c.looped-in-For.ensures c.in_ok-turn-in-For.ensures.drawn h))

pub lay_all-loop-i-preserved : goal.lay_all-loop-i-preserved
lay_all-loop-i-preserved t c =
    let sc = c.args.scene.now in
    let ss = c.args.statements.now in
    let s = c.index-statements-i.result in
    let i = c.loop-i.i in
    let rest = statements_of (drop (i + 1) ss) in
    let all = statements_of (drop i ss) in
    let d = drawn_of c.loop-i.draft in
    let e = one_more ss s i c.loop-i-test.true c.index-statements-i.is in
    let inv = c.loop-i.invariant in
    let own = c.own_count-own.ensures in
    record {
      few = rest_room sc c.args.function c.before-in-loop-i.result d (drawn_of c.lay.new.draft) (statement_of s) rest all e c.in_ok-lay.ensures inv.few;
      left = left_told sc c.args.function (statement_of s) rest all c.own_count-own.result c.loop-i.left e inv.left own;
      drawn =
          more_told sc c.args.function (statement_of s) rest all c.next_point-at.result c.own_count-own.result c.loop-i.left
          (c.loop-i.left - c.own_count-own.result) c.first-next.result c.before-in-loop-i.result c.args.ways d (drawn_of c.lay.new.draft)
          e inv.left own refl c.next_point-at.ensures c.first-next.ensures c.before-in-loop-i.ensures c.in_ok-lay.ensures
          ∙ inv.drawn;
    }

pub lay_all-returns : goal.lay_all-returns
lay_all-returns t c =
    let sc = c.args.scene.now in
    let ss = c.args.statements.now in
    let i = c.loop-i.i in
    let d = drawn_of c.loop-i.draft in
    let none : drop i ss ≡ [] = drop_all i ss (omega (arith, c.loop-i-test.false)) in
    sym (laid_no_more sc c.args.function c.args.ways d) ∙ sym (ap (λ l. laid_all sc c.args.function (statements_of l) c.args.ways d) none) ∙ c.loop-i.invariant.drawn

pub lay-returns-in_ok-lay-in-Some : goal.lay-returns-in_ok-lay-in-Some
lay-returns-in_ok-lay-in-Some t c =
    let sc = c.args.scene.now in
    let s = c.args.statement.now in
    let d = drawn_of c.args.draft.now in
    let arm = statement_of c.in-If.arm.value in
    let other = statement_of c.in-Some.other.value in
    let e = tree_of c.in-If.field-0 in
    let is = ap form_of (c.in-If.is ∙ ap (If c.in-If.field-0 c.in-If.arm) c.in-Some.is) in
    let inner = whole c.count-inner.result (size arm) (length d.nodes) (c.count-inner.ensures ∙ ap (λ b. capped (size (statement_of b))) c.deref-in-Some.ensures)
    (arm_part s d c.requires.few e arm (just other) is) in
    on_ok c.lay-in-Some-2.result c.lay-in-Some-2.ensures (λ h.
    at_form sc c.args.function s (Chooses e arm (just other)) c.args.ways d (drawn_of c.lay-in-Some-2.new.draft) (ap form_of (c.in-If.is ∙ ap (If c.in-If.field-0 c.in-If.arm) c.in-Some.is))
    (choice_told sc c.args.function e arm (statement_of c.deref-in-Some-2.result.now) other
    (statement_of c.deref-in-Some-3.result.now) s.from s.to c.next_point-at-in-Some.result c.count-inner.result (c.args.own - 1 - c.count-inner.result)
    c.first-holds-in-Some.result c.first-fails.result c.args.ways d
    (drawn_of c.put_branch-in-Some.new.self) (drawn_of c.lay-in-Some.new.draft) (drawn_of c.lay-in-Some-2.new.draft)
    (ap statement_of c.deref-in-Some-2.ensures) (ap statement_of c.deref-in-Some-3.ensures)
    c.next_point-at-in-Some.ensures
    inner
    (other_left s c.args.own c.requires.own e arm other c.count-inner.result is inner) c.first-holds-in-Some.ensures c.first-fails.ensures
    c.in_ok-put_branch-in-Some.ensures c.in_ok-lay-in-Some.ensures h))

pub lay-lay_all-requires : goal.lay-lay_all-requires
lay-lay_all-requires t c =
    let s = c.args.statement.now in (
      search (rules, the_lemmas),
      (
        c.requires.labels,
        (
          c.requires.descriptors,
          (
            c.requires.functions,
            (
              block_own s c.args.own c.requires.own (statements_of c.in-Block.statements.items) (statements_of c.deref.result.now)
                  (block_form s.what c.in-Block.statements c.in-Block.is) (ap statements_of c.deref.ensures.value),
              block_room s (drawn_of c.args.draft.now) c.requires.few (statements_of c.in-Block.statements.items) (statements_of c.deref.result.now)
                  (block_form s.what c.in-Block.statements c.in-Block.is) (ap statements_of c.deref.ensures.value),
            ),
          ),
        ),
      ),
    )

pub lay-lay-requires : goal.lay-lay-requires
lay-lay-requires t c = (
  search (rules, the_lemmas),
  (
    c.requires.labels,
    (
      c.requires.descriptors,
      (
        c.requires.functions,
        (
          own_less c.args.statement.now c.args.own c.requires.own (Labels c.in-Label.name c.in-Label.mark (statement_of c.in-Label.body.value)) (statement_of c.in-Label.body.value)
              (statement_of c.deref-in-Label.result.now) (ap form_of c.in-Label.is) refl (ap statement_of c.deref-in-Label.ensures),
          label_room c.args.statement.now (drawn_of c.args.draft.now) c.requires.few c.args.function c.in-Label.name c.in-Label.mark (statement_of c.in-Label.body.value)
              (statement_of c.deref-in-Label.result.now) c.label_number-label.result c.first-next.result (drawn_of c.put_seam.new.self) (ap form_of c.in-Label.is)
              (ap statement_of c.deref-in-Label.ensures) c.in_ok-put_seam-in-Label.ensures,
        ),
      ),
    ),
  ),
)

pub lay-lay-requires-in-None : goal.lay-lay-requires-in-None
lay-lay-requires-in-None t c = (
  search (rules, the_lemmas),
  (
    c.requires.labels,
    (
      c.requires.descriptors,
      (
        c.requires.functions,
        (
          own_less c.args.statement.now c.args.own c.requires.own (Chooses (tree_of c.in-If.field-0) (statement_of c.in-If.arm.value) nothing) (statement_of c.in-If.arm.value)
              (statement_of c.deref-in-None.result.now) (ap form_of (c.in-If.is ∙ ap (If c.in-If.field-0 c.in-If.arm) c.in-None.is)) (omega arith) (ap statement_of c.deref-in-None.ensures),
          arm_room c.args.statement.now (drawn_of c.args.draft.now) c.requires.few (tree_of c.in-If.field-0) (statement_of c.in-If.arm.value) (statement_of c.deref-in-None.result.now)
              nothing (branch c.args.function c.first-holds.result c.args.ways.next) (drawn_of c.put_branch.new.self) (ap form_of (c.in-If.is ∙ ap (If c.in-If.field-0 c.in-If.arm) c.in-None.is))
              (ap statement_of c.deref-in-None.ensures) c.in_ok-put_branch-in-None.ensures,
        ),
      ),
    ),
  ),
)

pub lay-lay-requires-in-Some : goal.lay-lay-requires-in-Some
lay-lay-requires-in-Some t c = (
  search (rules, the_lemmas),
  (
    c.requires.labels,
    (
      c.requires.descriptors,
      (
        c.requires.functions,
        (
          arm_own c.args.statement.now (drawn_of c.args.draft.now) c.requires.few (tree_of c.in-If.field-0) (statement_of c.in-If.arm.value) (statement_of c.deref-in-Some-2.result.now)
              (just (statement_of c.in-Some.other.value)) c.count-inner.result (ap form_of (c.in-If.is ∙ ap (If c.in-If.field-0 c.in-If.arm) c.in-Some.is))
              (c.count-inner.ensures ∙ ap (λ b. capped (size (statement_of b))) c.deref-in-Some.ensures) (ap statement_of c.deref-in-Some-2.ensures),
          arm_room c.args.statement.now (drawn_of c.args.draft.now) c.requires.few (tree_of c.in-If.field-0) (statement_of c.in-If.arm.value) (statement_of c.deref-in-Some-2.result.now)
              (just (statement_of c.in-Some.other.value)) (branch c.args.function c.first-holds-in-Some.result c.first-fails.result) (drawn_of c.put_branch-in-Some.new.self)
              (ap form_of (c.in-If.is ∙ ap (If c.in-If.field-0 c.in-If.arm) c.in-Some.is)) (ap statement_of c.deref-in-Some-2.ensures) c.in_ok-put_branch-in-Some.ensures,
        ),
      ),
    ),
  ),
)

pub lay-lay-requires-in-Some-2 : goal.lay-lay-requires-in-Some-2
lay-lay-requires-in-Some-2 t c = (
  search (rules, the_lemmas),
  (
    c.requires.labels,
    (
      c.requires.descriptors,
      (
        c.requires.functions,
        (
          other_own c.args.statement.now c.args.own c.requires.own (tree_of c.in-If.field-0) (statement_of c.in-If.arm.value) (statement_of c.in-Some.other.value)
              (statement_of c.deref-in-Some-3.result.now) c.count-inner.result (drawn_of c.args.draft.now) c.requires.few (ap form_of (c.in-If.is ∙ ap (If c.in-If.field-0 c.in-If.arm) c.in-Some.is))
              (c.count-inner.ensures ∙ ap (λ b. capped (size (statement_of b))) c.deref-in-Some.ensures) (ap statement_of c.deref-in-Some-3.ensures),
          other_room c.args.statement.now (drawn_of c.args.draft.now) c.requires.few c.args.scene.now c.args.function c.args.ways
              (tree_of c.in-If.field-0) (statement_of c.in-If.arm.value) (statement_of c.deref-in-Some-2.result.now) (statement_of c.in-Some.other.value) (statement_of c.deref-in-Some-3.result.now)
              (branch c.args.function c.first-holds-in-Some.result c.first-fails.result) (drawn_of c.put_branch-in-Some.new.self) (drawn_of c.lay-in-Some.new.draft)
              (ap form_of (c.in-If.is ∙ ap (If c.in-If.field-0 c.in-If.arm) c.in-Some.is)) (ap statement_of c.deref-in-Some-2.ensures) (ap statement_of c.deref-in-Some-3.ensures)
              c.in_ok-put_branch-in-Some.ensures c.in_ok-lay-in-Some.ensures,
        ),
      ),
    ),
  ),
)

pub lay-lay-requires-in-While : goal.lay-lay-requires-in-While
lay-lay-requires-in-While t c = (
  search (rules, the_lemmas),
  (
    c.requires.labels,
    (
      c.requires.descriptors,
      (
        c.requires.functions,
        (
          own_less c.args.statement.now c.args.own c.requires.own (Whiles (tree_of c.in-While.field-0) (statement_of c.in-While.body.value)) (statement_of c.in-While.body.value)
              (statement_of c.deref-in-While.result.now) (ap form_of c.in-While.is) refl (ap statement_of c.deref-in-While.ensures),
          while_room c.args.statement.now (drawn_of c.args.draft.now) c.requires.few (tree_of c.in-While.field-0) (statement_of c.in-While.body.value) (statement_of c.deref-in-While.result.now)
              (branch c.args.function c.first-holds-in-While.result c.args.ways.next) (drawn_of c.put_branch-in-While.new.self) (ap form_of c.in-While.is)
              (ap statement_of c.deref-in-While.ensures) c.in_ok-put_branch-in-While.ensures,
        ),
      ),
    ),
  ),
)

pub lay-lay-requires-in-For : goal.lay-lay-requires-in-For
lay-lay-requires-in-For t c =
    let s = c.args.statement.now in
    let body = statement_of c.in-For.body.value in
    let k : IsFor c.in-For.head.value body (form_of s.what) = for_form s.what c.in-For.head c.in-For.body c.in-For.is in
    let o = out-Head c.deref-in-For-2.result.now in
    let turn = c.in_ok-turn-in-For.turn in (
      search (rules, the_lemmas),
      (
        c.requires.labels,
        (
          c.requires.descriptors,
          (
            c.requires.functions,
            (
              for_own s (drawn_of c.args.draft.now) c.requires.few k.init k.test k.step body (statement_of c.deref-in-For-3.result.now) c.count-inner-in-For.result k.form_is
                  (c.count-inner-in-For.ensures ∙ ap (λ b. capped (size (statement_of b))) c.deref-in-For.ensures) (ap statement_of c.deref-in-For-3.ensures),
              for_room s (drawn_of c.args.draft.now) c.requires.few c.args.function k.init k.test k.step body (statement_of c.deref-in-For-3.result.now) (is_some o.init) (is_some o.test)
                  (is_some o.step) (first c.count-inner-in-For.result (turn + 1) turn) c.args.ways.next (drawn_of c.put_head.new.draft) k.form_is (ap statement_of c.deref-in-For-3.ensures)
                  (ap (λ (h : Head). is_some (out-Head h).init) c.deref-in-For-2.ensures ∙ k.head_is.begun) (ap (λ (h : Head). is_some (out-Head h).step) c.deref-in-For-2.ensures ∙ k.head_is.stepped)
                  c.in_ok-turn-in-For.ensures.drawn,
            ),
          ),
        ),
      ),
    )

pub lay_all-lay-requires : goal.lay_all-lay-requires
lay_all-lay-requires t c =
    let ss = c.args.statements.now in
    let s = c.index-statements-i.result in
    let i = c.loop-i.i in (
      search (rules, the_lemmas),
      (
        c.requires.labels,
        (
          c.requires.descriptors,
          (
            c.requires.functions,
            (
              c.own_count-own.ensures,
              first_room (drawn_of c.loop-i.draft) (statement_of s) (statements_of (drop (i + 1) ss)) (statements_of (drop i ss))
                  (one_more ss s i c.loop-i-test.true c.index-statements-i.is) c.loop-i.invariant.few,
            ),
          ),
        ),
      ),
    )

pub lay_all-own_count-own-requires-clause-few : goal.lay_all-own_count-own-requires-clause-few
lay_all-own_count-own-requires-clause-few t c =
    let ss = c.args.statements.now in
    let s = c.index-statements-i.result in
    let i = c.loop-i.i in
    let e = one_more ss s i c.loop-i-test.true c.index-statements-i.is in
    omega (arith, first_room (drawn_of c.loop-i.draft) (statement_of s) (statements_of (drop (i + 1) ss)) (statements_of (drop i ss)) e c.loop-i.invariant.few)

pub lay_all-own_count-own-requires-clause-last : goal.lay_all-own_count-own-requires-clause-last
lay_all-own_count-own-requires-clause-last t c = λ last.
    last_own c.args.statements.now c.index-statements-i.result c.loop-i.i c.loop-i.left c.loop-i-test.true c.index-statements-i.is (grind (arith, last)) c.loop-i.invariant.left

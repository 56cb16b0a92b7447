use Rattle.std.proofs.Common.{◌≡◌, ◌+◌, ◌∙◌, sym, ap, subst, rules, [], take, drop, length, get_or, arith}
use Rattle.std.proofs.lemmas.List.{take_more, take_all}
use Rattle.cw_certs.specs.declared.moves.Move.TheVariants.{Skip}
use Rattle.std.specs.List.{All}
use Rattle.cw_product.specs.Product.{game_of}
use Rattle.cw_audit_table.specs.Runs.{skipped, start_at, Goes}
use Rattle.cw_audit_table.specs.Tables.{audit_of}
use Rattle.cw_audit_check.specs.Walks.{rets_of, config_of, IsWait}
use Rattle.cw_audit_check.proofs.Walked.{Walked, begin_walk, walk_on, no_walk, walked_shows, shown_walked, same_config, went_on, went_nowhere, no_true, split_at}
use Rattle.cw_audit_check.proofs.walk.shows.Goals as goal

pub loop-by-init : goal.loop-by-init
loop-by-init c =
    let g = game_of c.args.game.now in
    let none : All (IsWait g) [] = search rules in
    record {
      walk = record {
        pos = c.skipped.ensures.within;
        state = c.start.ensures.within.1;
        waits = subst (All (IsWait g)) (sym c.new.ensures.items) none;
      };
      walked = subst (Walked g []) (same_config (skipped g (g.entry g.main)) c.skipped.result.0 g.states.start c.start.result.1.0 [] (rets_of c.new.result.items)
          (sym (c.skipped.ensures.is ∙ ap (skipped g) c.start.ensures.position)) (sym c.start.ensures.state) (sym (ap rets_of c.new.ensures.items))) (begin_walk g);
    }

pub returns-then-not-branch : goal.returns-then-not-branch
returns-then-not-branch c =
    let g = game_of c.args.game.now in
    let moves = c.args.table.now.moves.items in
    let n = c.loop-by.by-index in
    let lt = rw c.deref-by-items.ensures.value at c.loop-by-test.true in
    let went = rw c.deref-by-items.ensures.value at c.in_ok-step.ensures.went in
    let none = went_nowhere g (config_of c.loop-by.walk) (config_of c.step.new.walk) (get_or moves n Skip) c.in_ok-step.field-0 c.if-not-branch.true went in (
      λ h. absurd (no_true h),
      λ shown.
          let s = (shown c.in-Some.distance c.in-Some.is).1 in
          absurd (no_walk g (take n moves) (drop (n + 1) moves) (config_of c.loop-by.walk) s.0 (get_or moves n Skip) c.loop-by.invariant.walked none
          (subst (λ l. Goes g (start_at g) l s.0) (split_at moves n Skip lt) s.1)),
    )

pub loop-by-preserved : goal.loop-by-preserved
loop-by-preserved c =
    let g = game_of c.args.game.now in
    let moves = c.args.table.now.moves.items in
    let n = c.loop-by.by-index in
    let lt = rw c.deref-by-items.ensures.value at c.loop-by-test.true in
    let went = rw c.deref-by-items.ensures.value at c.in_ok-step.ensures.went in
    record {
      walk = c.in_ok-step.ensures.walk;
      walked = subst (λ l. Walked g l (config_of c.step.new.walk)) (sym (take_more moves n Skip lt))
          (walk_on g (take n moves) (config_of c.loop-by.walk) (config_of c.step.new.walk) (get_or moves n Skip) c.loop-by.invariant.walked
          (went_on g (config_of c.loop-by.walk) (config_of c.step.new.walk) (get_or moves n Skip) c.in_ok-step.field-0 c.if-not-branch.false went));
    }

pub returns : goal.returns
returns c =
    let g = game_of c.args.game.now in
    let t = audit_of c.args.table.now in
    let moves = c.args.table.now.moves.items in
    let n = c.loop-by.by-index in
    let le = rw c.deref-by-items.ensures.value at c.loop-by-test.false in
    let walked = subst (λ l. Walked g l (config_of c.loop-by.walk)) (take_all n moves le) c.loop-by.invariant.walked in
    let many : length moves ≡ c.in-Some.distance = omega (arith, c.len.ensures, c.if-len-distance.false, c.args.table.now.moves.ok.0) in (
      λ h. walked_shows g t c.in-Some.distance (config_of c.loop-by.walk) c.in-Some.is many walked (sym c.bad.ensures ∙ h),
      λ shown. c.bad.ensures ∙ shown_walked g t c.in-Some.distance (config_of c.loop-by.walk) c.in-Some.is walked shown,
    )

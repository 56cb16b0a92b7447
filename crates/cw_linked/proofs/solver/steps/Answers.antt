use Rattle.std.proofs.Common.{length, subst, sym, arith}
use Rattle.std.specs.Prelude.{None}
use Rattle.cw_product.specs.Product.{game_of}
use Rattle.cw_solve.specs.declared.table.Blocks.{Blocks}
use Rattle.cw_linked.specs.declared.links.Stepped.{Stepped}
use Rattle.cw_linked.specs.declared.work.Work.{Work}
use Rattle.cw_linked.specs.Homes.{IsHome}
use Rattle.cw_linked.specs.Links.{TakesLink}
use Rattle.cw_linked.specs.Listed.{HasListed}
use Rattle.cw_linked.specs.Solving.{Ends}
use Rattle.cw_linked.specs.Works.{Known, known_of}
use Rattle.cw_linked.proofs.Alike.{alike}
use Rattle.cw_linked.proofs.Linking.{is_freed, freed_known}
use Rattle.cw_linked.proofs.Solving.{ended, finished_less, linked_less, linked_beyond}
use Rattle.cw_linked.proofs.Takings.{is_known, is_taken}
use Rattle.cw_linked.proofs.solver.steps.Goals as goal

pub returns-in-Nothing : goal.returns-in-Nothing
returns-in-Nothing c =
    let g = game_of c.args.game.now in
    let w = c.steps.work in
    let last = ended g (length c.args.game.now.graph.parts.items) c.requires.routed (alike c.args.game.now) w c.steps.invariant.work c.in-Nothing.ensures.0 in
    subst (λ (v : Work). Ends g (known_of v) None) (sym c.in-Nothing.ensures.1) (c.steps.invariant.work.known, last)

pub finish_at-requires-clause-known : goal.finish_at-requires-clause-known
finish_at-requires-clause-known c =
    is_known (game_of c.args.game.now) (length c.args.game.now.graph.parts.items) c.requires.routed
    (alike c.args.game.now) c.steps.work c.pop.new.work c.steps.invariant.work c.in-Cell.index c.in-Cell.height c.in-Cell.ensures

pub finish_at-requires-clause-taken : goal.finish_at-requires-clause-taken
finish_at-requires-clause-taken c cell at =
    is_taken (game_of c.args.game.now) (length c.args.game.now.graph.parts.items) c.requires.routed
    (alike c.args.game.now) c.steps.work c.pop.new.work c.steps.invariant.work c.in-Cell.index c.in-Cell.height c.in-Cell.ensures cell at

pub finish_at-requires-clause-home : goal.finish_at-requires-clause-home
finish_at-requires-clause-home c = subst (λ (b : Blocks). IsHome (game_of c.args.game.now) b.contexts.items c.steps.home) (sym c.in-Cell.ensures.blocks) c.steps.invariant.home

pub no_home-home-requires-clause-blocks : goal.no_home-home-requires-clause-blocks
no_home-home-requires-clause-blocks c = c.requires.work.known.blocks

pub steps-init : goal.steps-init
steps-init c = record { work = c.requires.work; listed = c.requires.listed; home = λ lt. absurd (omega (arith, lt, c.no_home-home.ensures)) }

pub steps-preserved-in-Continue-1 : goal.steps-preserved-in-Continue-1
steps-preserved-in-Continue-1 c =
    let ends = c.in_ok-finish_at-in-Cell.ensures.finishes in
    record {
      work = ends.kept;
      listed = subst (λ (t : Known). HasListed c.steps.indices t.blocks.contexts.items) (sym ends.known)
          (subst (λ (b : Blocks). HasListed c.steps.indices b.contexts.items) (sym c.in-Cell.ensures.blocks) c.steps.invariant.listed);
      home = subst (λ (t : Known). IsHome (game_of c.args.game.now) t.blocks.contexts.items c.finish_at.new.home) (sym ends.known) c.finish_at.ensures.home;
    }

pub steps-smaller-in-Continue-1 : goal.steps-smaller-in-Continue-1
steps-smaller-in-Continue-1 c =
    finished_less (game_of c.args.game.now) (length c.args.game.now.graph.parts.items) c.requires.routed
    (alike c.args.game.now) c.steps.work c.pop.new.work c.finish_at.new.work c.steps.invariant.work c.in-Cell.index c.in-Cell.height c.in-Cell.ensures c.in_ok-finish_at-in-Cell.ensures.finishes

pub tie_at-requires-clause-known : goal.tie_at-requires-clause-known
tie_at-requires-clause-known c =
    freed_known (game_of c.args.game.now) (length c.args.game.now.graph.parts.items) c.requires.routed
    (alike c.args.game.now) c.steps.work c.pop.new.work c.steps.invariant.work c.in-Link.index c.in-Link.moves c.in-Link.ensures

pub tie_at-requires-clause-freed : goal.tie_at-requires-clause-freed
tie_at-requires-clause-freed c link at =
    is_freed (game_of c.args.game.now) (length c.args.game.now.graph.parts.items) c.requires.routed
    (alike c.args.game.now) c.steps.work c.pop.new.work c.steps.invariant.work c.in-Link.index c.in-Link.moves c.in-Link.ensures link at

pub tie_at-requires-clause-listed : goal.tie_at-requires-clause-listed
tie_at-requires-clause-listed c = subst (λ (t : Known). HasListed c.steps.indices t.blocks.contexts.items) (sym c.in-Link.ensures.others.known) c.steps.invariant.listed

pub steps-preserved : goal.steps-preserved
steps-preserved c =
    let g = game_of c.args.game.now in
    let takes = subst (λ (s : Stepped). TakesLink g c.pop.new.work c.tie_at.new.work s c.tie_at.new.wanted) c.in-More.is c.in_ok-tie_at-in-Link.ensures.takes in
    record { work = takes.0; listed = c.in_ok-tie_at-in-Link.ensures.listed; home = λ lt. absurd (omega (arith, lt, c.tie_at.ensures.home)) }

pub steps-smaller : goal.steps-smaller
steps-smaller c =
    let g = game_of c.args.game.now in
    let takes = subst (λ (s : Stepped). TakesLink g c.pop.new.work c.tie_at.new.work s c.tie_at.new.wanted) c.in-More.is c.in_ok-tie_at-in-Link.ensures.takes in
    linked_less g (length c.args.game.now.graph.parts.items) c.requires.routed (alike c.args.game.now)
    c.steps.work c.pop.new.work c.tie_at.new.work c.in-Link.index c.in-Link.moves c.in-Link.ensures takes.1

pub returns-in-TooMany : goal.returns-in-TooMany
returns-in-TooMany c =
    let g = game_of c.args.game.now in
    let takes = subst (λ (s : Stepped). TakesLink g c.pop.new.work c.tie_at.new.work s c.tie_at.new.wanted) c.in-TooMany.is c.in_ok-tie_at-in-Link.ensures.takes in
    linked_beyond g (length c.args.game.now.graph.parts.items) c.requires.routed (alike c.args.game.now)
    c.steps.work c.pop.new.work c.tie_at.new.work c.steps.invariant.work c.in-Link.index c.in-Link.moves c.in-Link.ensures c.tie_at.new.wanted takes

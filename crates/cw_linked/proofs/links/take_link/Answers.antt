use Rattle.std.proofs.Common.{ℕ, ◌+◌, List, Option, length, sym, subst}
use Rattle.std.specs.Prelude.{slice_set}
use Rattle.cw_product.specs.Product.{game_of}
use Rattle.cw_solve.specs.declared.contexts.Context.{Context}
use Rattle.cw_solve.specs.Tabled.{Tabled}
use Rattle.cw_solve.specs.Contexts.{context}
use Rattle.cw_solve.proofs.Tabling.{same_tabled}
use Rattle.cw_linked.specs.Links.{IsNumbered, NumbersContext}
use Rattle.cw_linked.specs.Listed.{HasListed}
use Rattle.cw_linked.specs.Popped.{Finishes}
use Rattle.cw_linked.specs.Tied.{IsTieable}
use Rattle.cw_linked.specs.Works.{Known}
use Rattle.cw_linked.proofs.Takings.{few_number}
use Rattle.cw_linked.proofs.Targets.{call_here, back_here, read_here, is_needed, is_tieable, is_less}
use Rattle.cw_linked.proofs.links.take_link.Goals as goal

pub promise_of-requires-clause-cell : goal.promise_of-requires-clause-cell
promise_of-requires-clause-cell c =
    let g = game_of c.args.game.now in
    let functions = length c.args.game.now.graph.parts.items in
    let w = c.args.work.now in
    let link = c.args.link.now in
    let call = call_here g functions c.requires.routed w link c.args.index c.args.moves c.requires.freed c.in-Call.callee c.in-Call.split c.in-Call.back c.in-Call.ensures in
    back_here g functions c.requires.routed w link c.args.index c.args.moves c.requires.freed call.0 call.1 c.in-Call.back.0 call.4

pub number_of-requires-clause-needed : goal.number_of-requires-clause-needed
number_of-requires-clause-needed c =
    let g = game_of c.args.game.now in
    let functions = length c.args.game.now.graph.parts.items in
    let w = c.args.work.now in
    let link = c.args.link.now in
    let call = call_here g functions c.requires.routed w link c.args.index c.args.moves c.requires.freed c.in-Call.callee c.in-Call.split c.in-Call.back c.in-Call.ensures in
    let to : Context = context c.in-Call.callee c.promise_of.new.set in
    let read = read_here g functions c.requires.routed w link c.args.index c.args.moves c.requires.freed call.0 c.in-Call.split c.in-Call.back.0 c.promise_of.new.set call.2
    call.4 c.promise_of.ensures in
    is_needed g functions c.requires.routed w link c.args.index c.args.moves c.requires.freed call.0 call.1 to call.3 read

pub numbered-to-requires : goal.numbered-to-requires
numbered-to-requires c =
    let g = game_of c.args.game.now in
    let functions = length c.args.game.now.graph.parts.items in
    let w = c.args.work.now in
    let link = c.args.link.now in
    let call = call_here g functions c.requires.routed w link c.args.index c.args.moves c.requires.freed c.in-Call.callee c.in-Call.split c.in-Call.back c.in-Call.ensures in
    let to : Context = context c.in-Call.callee c.promise_of.new.set in
    let read = read_here g functions c.requires.routed w link c.args.index c.args.moves c.requires.freed call.0 c.in-Call.split c.in-Call.back.0 c.promise_of.new.set call.2
    call.4 c.promise_of.ensures in
    let numbered : IsNumbered g w c.number_of.new.work to c.in-Some.number = subst (λ (o : Option ℕ). NumbersContext g w c.number_of.new.work to o) c.in-Some.is c.in_ok-number.ensures.number in
    let tieable = is_tieable g functions c.requires.routed w link c.args.index c.args.moves c.requires.freed call.0 call.1 to call.3 read c.number_of.new.work c.in-Some.number numbered in
    record {
      routed = c.requires.routed;
      blocks = tieable.firm.known.blocks;
      within = few_number c.number_of.new.work.blocks.contexts.items c.in-Some.number to numbered.there;
    }

pub tie_link-requires-clause-tieable : goal.tie_link-requires-clause-tieable
tie_link-requires-clause-tieable c =
    let g = game_of c.args.game.now in
    let functions = length c.args.game.now.graph.parts.items in
    let w = c.args.work.now in
    let link = c.args.link.now in
    let call = call_here g functions c.requires.routed w link c.args.index c.args.moves c.requires.freed c.in-Call.callee c.in-Call.split c.in-Call.back c.in-Call.ensures in
    let to : Context = context c.in-Call.callee c.promise_of.new.set in
    let read = read_here g functions c.requires.routed w link c.args.index c.args.moves c.requires.freed call.0 c.in-Call.split c.in-Call.back.0 c.promise_of.new.set call.2
    call.4 c.promise_of.ensures in
    let numbered : IsNumbered g w c.number_of.new.work to c.in-Some.number = subst (λ (o : Option ℕ). NumbersContext g w c.number_of.new.work to o) c.in-Some.is c.in_ok-number.ensures.number in
    let same = same_tabled c.number_of.new.work.blocks c.numbered-to.result c.in-Some.number to c.numbered-to.ensures.number c.numbered-to.ensures.there numbered.there in
    subst (λ (a : Tabled). IsTieable g c.number_of.new.work link c.args.index c.args.moves a.number c.in-Call.back.0 a.context) (sym same)
    (subst (λ (b : ℕ). IsTieable g c.number_of.new.work link c.args.index c.args.moves c.in-Some.number b to) call.4
    (is_tieable g functions c.requires.routed w link c.args.index c.args.moves c.requires.freed call.0 call.1 to call.3 read c.number_of.new.work c.in-Some.number numbered))

pub returns-clause-takes : goal.returns-clause-takes
returns-clause-takes c =
    let g = game_of c.args.game.now in
    let functions = length c.args.game.now.graph.parts.items in
    let w = c.args.work.now in
    let link = c.args.link.now in
    let call = call_here g functions c.requires.routed w link c.args.index c.args.moves c.requires.freed c.in-Call.callee c.in-Call.split c.in-Call.back c.in-Call.ensures in
    let to : Context = context c.in-Call.callee c.promise_of.new.set in
    let read = read_here g functions c.requires.routed w link c.args.index c.args.moves c.requires.freed call.0 c.in-Call.split c.in-Call.back.0 c.promise_of.new.set call.2
    call.4 c.promise_of.ensures in
    let numbered : IsNumbered g w c.number_of.new.work to c.in-Some.number = subst (λ (o : Option ℕ). NumbersContext g w c.number_of.new.work to o) c.in-Some.is c.in_ok-number.ensures.number in
    let to_number : ℕ → List ℕ = λ n. slice_set c.number_of.new.work.store.to c.args.index (n + 1) in
    let finishes = subst (λ (n : ℕ). Finishes g c.number_of.new.work c.tie_link.new.work (to_number n)) c.numbered-to.ensures.number c.in_ok-tie_link.ensures in (
      finishes.kept,
      is_less g functions c.requires.routed w link c.args.index c.args.moves c.requires.freed call.0 call.1 to call.3 read c.number_of.new.work c.in-Some.number numbered
          c.requires.some c.tie_link.new.work
          finishes,
    )

pub returns-clause-listed : goal.returns-clause-listed
returns-clause-listed c = subst (λ (t : Known). HasListed c.number_of.new.indices t.blocks.contexts.items) (sym c.in_ok-tie_link.ensures.known) c.in_ok-number.ensures.listed

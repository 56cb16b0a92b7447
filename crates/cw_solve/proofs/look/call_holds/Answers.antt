use Rattle.std.proofs.Common.{◌≡◌, ℕ, ◌&&◌, nat_eq, Some, length, sym, ap, ap₂, ◌∙◌}
use Rattle.std.specs.Prelude.{position}
use Rattle.cw_game.specs.Games.{Holds}
use Rattle.cw_game.specs.Pairs.{has}
use Rattle.cw_product.specs.Product.{game_of}
use Rattle.cw_solve.specs.declared.contexts.Context.{Context}
use Rattle.cw_solve.specs.Contexts.{context}
use Rattle.cw_solve.proofs.Calling.{back_cell, callee_there, callee_cell, call_missing, call_asked, call_holds, index_is, index_none}
use Rattle.cw_solve.proofs.Tabling.{same_context}
use Rattle.cw_solve.proofs.look.call_holds.Goals as goal

pub promised-promise-requires-clause-cell : goal.promised-promise-requires-clause-cell
promised-promise-requires-clause-cell c =
    let g = game_of c.args.game.now in
    let functions = length c.args.game.now.graph.parts.items in
    let b = c.args.table.now.blocks in
    back_cell g functions c.requires.routed b c.requires.table.blocks c.args.at.now c.args.pos.0 c.args.state.0 c.args.function c.args.back.0 c.args.split c.requires.cell c.requires.call

pub entry-requires : goal.entry-requires
entry-requires c =
    let g = game_of c.args.game.now in
    let functions = length c.args.game.now.graph.parts.items in
    let b = c.args.table.now.blocks in
    (callee_there g functions c.requires.routed b c.requires.table.blocks c.args.pos.0 c.args.function c.args.back.0 c.args.split c.requires.call).below

pub holds-requires-clause-cell : goal.holds-requires-clause-cell
holds-requires-clause-cell c =
    let g = game_of c.args.game.now in
    let functions = length c.args.game.now.graph.parts.items in
    let b = c.args.table.now.blocks in
    let contexts = b.contexts.items in
    let f = c.args.function in
    let set = c.promised-promise.result in
    let i = c.in-Some.number in
    let found : position (λ (x : Context). nat_eq x.function f && nat_eq x.promise set) contexts ≡ Some i
    = sym (c.in-Some.ensures.index ∙ ap (position (λ (x : Context). nat_eq x.function f && nat_eq x.promise set)) c.deref.ensures.value) in
    let at = index_is contexts f set i found in
    let callee = c.numbered-callee.result in
    let same = same_context b callee i (context f set) c.numbered-callee.ensures.number c.numbered-callee.ensures.there at in
    rw c.entry.ensures.is (callee_cell g functions c.requires.routed b c.requires.table.blocks c.args.pos.0 c.args.state.0 f c.args.back.0 c.args.split callee
    c.requires.cell.state c.requires.call
    c.numbered-callee.ensures.there (ap (λ (x : Context). x.function) same))

pub returns-in-None-clause-missing : goal.returns-in-None-clause-missing
returns-in-None-clause-missing c =
    let g = game_of c.args.game.now in
    let functions = length c.args.game.now.graph.parts.items in
    let b = c.args.table.now.blocks in
    let contexts = b.contexts.items in
    let f = c.args.function in
    let set = c.promised-promise.result in
    call_missing g functions c.requires.routed b c.requires.table.blocks c.args.at.now c.args.n c.args.pos.0 c.args.state.0 f c.args.back.0 set c.args.split c.requires.cell c.requires.call
    c.promised-promise.ensures
    (index_none contexts f set (sym (c.in-None.ensures.index ∙ ap (position (λ (x : Context). nat_eq x.function f && nat_eq x.promise set)) c.deref.ensures.value)))

pub returns-in-Some-clause-holds : goal.returns-in-Some-clause-holds
returns-in-Some-clause-holds c =
    let g = game_of c.args.game.now in
    let functions = length c.args.game.now.graph.parts.items in
    let b = c.args.table.now.blocks in
    let contexts = b.contexts.items in
    let f = c.args.function in
    let set = c.promised-promise.result in
    let i = c.in-Some.number in
    let found : position (λ (x : Context). nat_eq x.function f && nat_eq x.promise set) contexts ≡ Some i
    = sym (c.in-Some.ensures.index ∙ ap (position (λ (x : Context). nat_eq x.function f && nat_eq x.promise set)) c.deref.ensures.value) in
    let at = index_is contexts f set i found in
    let same = same_context b c.numbered-callee.result i (context f set) c.numbered-callee.ensures.number c.numbered-callee.ensures.there at in
    c.holds.ensures ∙ ap₂ (λ (p : ℕ) (x : Context). Holds g c.args.n p c.args.state.0 (has x.promise)) c.entry.ensures.is same
    ∙ call_holds g functions c.requires.routed b c.requires.table.blocks c.args.at.now c.args.n c.args.pos.0 c.args.state.0 f c.args.back.0 set c.args.split c.requires.cell c.requires.call
    c.promised-promise.ensures

pub returns-in-Some-clause-asked : goal.returns-in-Some-clause-asked
returns-in-Some-clause-asked c =
    let g = game_of c.args.game.now in
    let functions = length c.args.game.now.graph.parts.items in
    let b = c.args.table.now.blocks in
    let contexts = b.contexts.items in
    let f = c.args.function in
    let set = c.promised-promise.result in
    let i = c.in-Some.number in
    let found : position (λ (x : Context). nat_eq x.function f && nat_eq x.promise set) contexts ≡ Some i
    = sym (c.in-Some.ensures.index ∙ ap (position (λ (x : Context). nat_eq x.function f && nat_eq x.promise set)) c.deref.ensures.value) in
    call_asked g functions c.requires.routed b c.requires.table.blocks c.args.at.now c.args.n c.args.pos.0 c.args.state.0 f c.args.back.0 set i c.args.split c.requires.call
    c.promised-promise.ensures (index_is contexts f set i found)

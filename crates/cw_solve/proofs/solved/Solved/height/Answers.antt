use Rattle.std.proofs.Common.{◌<◌, ◌∙◌, length, get_or, ap, arith}
use Rattle.std.proofs.lemmas.List.{get_or_default}
use Rattle.cw_solve.proofs.Keeping.{number_within, read_cell, seen_height}
use Rattle.cw_solve.proofs.solved.Solved.height.Goals as goal

pub numbered-at-requires : goal.numbered-at-requires
numbered-at-requires c = record {
  routed = c.self.invariant.routed;
  blocks = c.self.invariant.table.blocks;
  within = number_within c.self.inside.game.now c.self.inside.table c.args.self.now c.self.view_is c.args.number c.args.pos.0 c.args.state.0 c.requires.cell;
}

pub slot-requires : goal.slot-requires
slot-requires c = record {
  routed = c.self.invariant.routed;
  blocks = c.self.invariant.table.blocks;
  cell = read_cell c.self.inside.game.now c.self.inside.table c.args.self.now c.self.view_is c.args.number c.args.pos.0 c.args.state.0 c.requires.cell c.numbered-at.result
      c.numbered-at.ensures.number c.numbered-at.ensures.there;
}

pub returns : goal.returns
returns c =
    let t = c.self.inside.table in
    let k = c.index.result.now in
    let within : c.slot.result < length t.heights.items = omega (arith, c.slot.ensures.within, c.self.invariant.table.cells) in
    let value = c.index.ensures ∙ get_or_default t.heights.items c.slot.result k 0 within ∙ ap (λ y. get_or t.heights.items y 0) c.slot.ensures.is in
    seen_height c.self.inside.game.now t c.args.self.now c.self.view_is c.self.invariant c.args.number c.args.pos.0 c.args.state.0 k c.numbered-at.result c.requires.cell c.numbered-at.ensures.number
    c.numbered-at.ensures.there value c.height_in.result c.height_in.ensures

use Rattle.cw_links.proofs.FlatRows.{flat_still, row_within, row_read}
use Rattle.cw_links.proofs.rows.Rows.row.Goals as goal

pub row_in-requires-clause-flat : goal.row_in-requires-clause-flat
row_in-requires-clause-flat g c =
    let s = c.self.inside in
    flat_still s.values.items _ s.firsts.items _ _ c.args.number c.deref.ensures.value c.deref-2.ensures.value c.self.view_is c.self.invariant

pub row_in-requires-clause-within : goal.row_in-requires-clause-within
row_in-requires-clause-within g c =
    let s = c.self.inside in
    row_within s.values.items _ s.firsts.items _ _ c.args.number c.deref.ensures.value c.deref-2.ensures.value c.self.view_is c.requires

pub returns : goal.returns
returns g c =
    let s = c.self.inside in
    row_read s.values.items _ s.firsts.items _ _ c.args.number c.deref.ensures.value c.deref-2.ensures.value c.self.view_is c.requires _ c.row_in.ensures

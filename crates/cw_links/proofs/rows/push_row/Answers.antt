use Rattle.std.proofs.Common.{◌≡◌, length, arith}
use Rattle.cw_links.proofs.FlatRows.{row_more}
use Rattle.cw_links.proofs.rows.push_row.Goals as goal

pub returns : goal.returns
returns g c =
    let values = c.push_list.new.values in
    let long : c.len-end.result ≡ length values.items = omega (arith, c.len-end.ensures, values.ok.0) in
    row_more c.args.trails.now c.args.values.now.items values.items c.args.firsts.now.items c.push.new.self.items c.args.list c.len-end.result c.requires.list c.requires.before c.in_ok-push_list.ensures
    long c.in_ok-push.ensures.items

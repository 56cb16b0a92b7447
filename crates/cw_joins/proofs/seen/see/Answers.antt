use Rattle.std.proofs.lemmas.Option.{slice_get_within}
use Rattle.cw_joins.proofs.Hints.{adds_put, adds_none, put_hint, put_among, adds_among}
use Rattle.cw_joins.proofs.Entries.{named_in}
use Rattle.cw_joins.proofs.seen.see.Goals as goal

pub put_hinted-requires : goal.put_hinted-requires
put_hinted-requires g c = record { within = slice_get_within c.args.seen.now.hints.items c.index_of-at.result 1 c.in-New.ensures }

pub returns-in_ok-put_hinted-in-New : goal.returns-in_ok-put_hinted-in-New
returns-in_ok-put_hinted-in-New g c =
    let s = c.args.seen.now in
    let n = c.put_hinted.new.seen in
    record {
      more = adds_put s.keys.items n.keys.items c.args.key c.in_ok-put_hinted-in-New.ensures.keys;
      same = put_hint g.K.Ord.cmp g.met.K.Ord.total c.requires.exact (g.I.Indices.index c.args.indices.now) s.keys.items s.hints.items c.args.key c.index_of-at.result c.index_of-at.ensures
          n.keys.items n.hints.items s.others.keys n.others.keys c.requires.seen c.in-New.ensures c.in_ok-put_hinted-in-New.ensures.keys c.in_ok-put_hinted-in-New.ensures.hints c.in_ok-put_hinted-in-New.ensures.others;
    }

pub returns-in-Old : goal.returns-in-Old
returns-in-Old g c =
    let s = c.args.seen.now in
    let h = c.in-Old.ensures in
    record { more = adds_none s.keys.items c.args.key (named_in s.keys.items h.0 c.args.key h.2); same = c.requires.seen }

pub returns-in_ok-put_other-in-Nothing : goal.returns-in_ok-put_other-in-Nothing
returns-in_ok-put_other-in-Nothing g c =
    let s = c.args.seen.now in
    let n = c.put_other.new.seen in
    let p = c.in_ok-put_other-in-Nothing.ensures in
    let i = g.I.Indices.index c.args.indices.now in
    record {
      more = adds_among g.K.Ord.cmp g.met.K.Ord.total c.requires.exact i s.keys.items s.hints.items c.args.key c.index_of-at.result c.index_of-at.ensures n.keys.items n.hints.items
          s.others n.others c.requires.seen c.in-Nothing.ensures p.others p.new p.old;
      same = put_among g.K.Ord.cmp g.met.K.Ord.total c.requires.exact i s.keys.items s.hints.items c.args.key c.index_of-at.result c.index_of-at.ensures n.keys.items n.hints.items
          s.others n.others c.requires.seen c.in-Nothing.ensures p.others p.new p.old p.hints;
    }

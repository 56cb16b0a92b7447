use Rattle.std.proofs.Common.{◌≡◌, ℕ, ◌<◌, Some, List, length, slice_get, sym, ap, ◌∙◌, arith, vec_len}
use Rattle.std.specs.Prelude.{get_or, slice_index}
use Rattle.std.proofs.lemmas.List.{get_or_default}
use Rattle.std.proofs.lemmas.Option.{slice_get-get_or}
use Rattle.cw_certs.specs.Strategies.{Row, Strategy, how_of}
use Rattle.cw_lemmas.proofs.Lists.{get_contains}
use Rattle.cw_least_strategy.proofs.Parts.{as_long, row_of_number}
use Rattle.cw_least_strategy.proofs.strategy.LeastStrategy.row.Goals as goal

-- what is read at an index stands there
read : {A : Type 0} (xs : List A) (i : ℕ) (x : A) → i < length xs → x ≡ get_or xs i x → slice_get xs i ≡ Some x
read {A} xs i x lt is = slice_get-get_or xs i x lt ∙ ap (λ (y : A). Some y) (sym is)

pub index-key-requires : goal.index-key-requires
index-key-requires c =
    let s = c.self.inside in
    let long = as_long c.args.self.now s.states s.aims.items s.keys.items s.hows.items c.self.view_is c.self.invariant.long in
    let lt = c.requires.within in
    let ok : vec_len s.keys ≡ length s.keys.items = s.keys.ok.0 in
    omega (arith, long, lt, ok)

pub index-requires : goal.index-requires
index-requires c =
    let s = c.self.inside in
    let long = as_long c.args.self.now s.states s.aims.items s.keys.items s.hows.items c.self.view_is c.self.invariant.long in
    let lt = c.requires.within in
    let key = c.index-key.result.now in
    let at = read s.keys.items c.args.number key (omega (arith, long, lt)) c.index-key.ensures in
    let below = c.self.invariant.within key (get_contains s.keys.items c.args.number key at) in
    let ok : vec_len s.aims ≡ length s.aims.items = s.aims.ok.0 in
    omega (arith, below, ok)

pub index-requires-2 : goal.index-requires-2
index-requires-2 c =
    let s = c.self.inside in
    let long = as_long c.args.self.now s.states s.aims.items s.keys.items s.hows.items c.self.view_is c.self.invariant.long in
    let same = c.self.invariant.long in
    let lt = c.requires.within in
    let ok : vec_len s.hows ≡ length s.hows.items = s.hows.ok.0 in
    omega (arith, long, same, lt, ok)

pub returns : goal.returns
returns c =
    let s = c.self.inside in
    let long = as_long c.args.self.now s.states s.aims.items s.keys.items s.hows.items c.self.view_is c.self.invariant.long in
    let same = c.self.invariant.long in
    let lt = c.requires.within in
    let key = c.index-key.result.now in
    let how = c.index-2.result.now in
    let at = read s.keys.items c.args.number key (omega (arith, long, lt)) c.index-key.ensures in
    let done = read s.hows.items c.args.number how (omega (arith, long, same, lt)) c.index-2.ensures in
    let below = c.self.invariant.within key (get_contains s.keys.items c.args.number key at) in
    let aim : c.index.result.now ≡ slice_index s.aims.items key.aim = c.index.ensures ∙ get_or_default s.aims.items key.aim c.index.result.now 0 below in
    ap (λ (x : Strategy). slice_get x.rows c.args.number) (sym c.self.view_is) ∙ row_of_number s.aims.items s.keys.items s.hows.items c.args.number key how at done
    ∙ ap (λ (a : ℕ). let r : Row = record { pos = key.pos; state = key.state; aim = a; how = how_of how } in Some r) (sym aim)

use Rattle.std.proofs.Common.{◌≡◌, ◌<◌, ℕ, length, map, set, subst, arith}
use Rattle.std.proofs.lemmas.List.{length-map}
use Rattle.cw_links.specs.Rows.{lists_of}
use Rattle.cw_links.specs.Lists.{with_front}
use Rattle.cw_links.proofs.Trailing.{pushed_trails, pushed_lists}
use Rattle.cw_links.proofs.trails.Trails.push_front.Goals as goal

pub invariant_of-self-2 : goal.invariant_of-self-2
invariant_of-self-2 g c =
    let s = c.self.inside in
    let next = map (λ x. x.after) s.cells.items in
    let within : c.args.list < length (lists_of s.first.items next) = rw (← c.self.view_is) at c.requires.list in
    let known : length (map (λ x. x.value) s.cells.items) < 4294967295 = rw (← c.self.view_is) at c.requires.few in
    let few : length s.cells.items < 4294967295 = omega (arith, known, length-map s.cells.items (λ x. x.value)) in
    let number : c.len-cell.result ≡ length s.cells.items = omega (arith, s.cells.ok.0, c.len-cell.ensures) in
    pushed_trails (λ x. x.after) s.first.items s.cells.items c.push.new.self.items (record { value = c.args.value; after = c.index.result.now }) c.args.list c.len-cell.result c.self.invariant
    within few number c.in_ok-push.ensures.items c.index.ensures

pub returns-clause-lists : goal.returns-clause-lists
returns-clause-lists g c =
    let s = c.self.inside in
    let next = map (λ x. x.after) s.cells.items in
    let lists = lists_of s.first.items next in
    let new = map (λ x. x.after) c.push.new.self.items in
    let within : c.args.list < length lists = rw (← c.self.view_is) at c.requires.list in
    let known : length (map (λ x. x.value) s.cells.items) < 4294967295 = rw (← c.self.view_is) at c.requires.few in
    let few : length s.cells.items < 4294967295 = omega (arith, known, length-map s.cells.items (λ x. x.value)) in
    let number : c.len-cell.result ≡ length s.cells.items = omega (arith, s.cells.ok.0, c.len-cell.ensures) in
    let last : c.len-cell.result ≡ length (map (λ x. x.value) s.cells.items) = omega (arith, number, length-map s.cells.items (λ x. x.value)) in
    let pushed =
    pushed_lists (λ x. x.after) s.first.items s.cells.items c.push.new.self.items (record { value = c.args.value; after = c.index.result.now }) c.args.list c.len-cell.result
    c.self.invariant within few number c.in_ok-push.ensures.items c.index.ensures in
    rw (← c.self.view_is) (subst (λ (k : ℕ). lists_of (set s.first.items c.args.list c.len-cell.result) new ≡ with_front lists c.args.list k) last pushed)

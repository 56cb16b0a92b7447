use Rattle.std.proofs.Common.{◌≡◌, ℕ, ◌-◌, ◌++◌, [], List, length, replicate, arith, ◌≤◌, take, ◌∙◌, refl}
use Rattle.std.proofs.lemmas.List.{take_all}
use Rattle.cw_links.specs.Rows.{lists_of, AreLinks}
use Rattle.cw_links.proofs.Moves.{reaches, linked, lists_are}
use Rattle.cw_links.proofs.links.Links.reach.Goals as goal

grown : (xs : List ℕ) (n len : ℕ) → len ≡ length xs → len ≤ n → take n xs ++ replicate (n - len) 4294967295 ≡ xs ++ replicate (n - length xs) 4294967295
grown xs n len e l = rw (take_all n xs (omega arith), e) refl

reached : (c : goal.In_ok-resize) → AreLinks c.resize.new.self.items c.self.inside.next.items c.self.inside.before.items (lists_of c.self.inside.first.items c.self.inside.next.items ++ replicate (c.args.lists - length c.self.inside.first.items) [])
reached c =
    let s = c.self.inside in
    let long : s.first.len ≡ length s.first.items = s.first.ok.0 in
    let lists : length s.first.items ≡ length (lists_of s.first.items s.next.items) = c.self.invariant.heads in
    let items : c.resize.new.self.items ≡ s.first.items ++ replicate (c.args.lists - length s.first.items) 4294967295 =
    c.in_ok-resize.ensures.items ∙ grown s.first.items c.args.lists s.first.len long (omega (arith, c.if-len-lists.true, c.len.ensures)) in
    rw items (reaches s.first.items s.next.items s.before.items (lists_of s.first.items s.next.items) (c.args.lists - length s.first.items) c.self.invariant (omega (arith, c.requires, c.if-len-lists.true, c.len.ensures)))

pub invariant_of-self : goal.invariant_of-self
invariant_of-self c = linked _ _ _ _ (reached c)

pub returns-in_ok-resize-clause-lists : goal.returns-in_ok-resize-clause-lists
returns-in_ok-resize-clause-lists c =
    let s = c.self.inside in
    rw (← c.self.view_is, ← c.self.invariant.heads) (lists_are _ _ _ _ (reached c))

use Rattle.std.proofs.Common.{◌≡◌, ℕ, ◌<◌, ◌-◌, ◌++◌, List, length, take, drop, reverse, sym, ap, ◌∙◌, subst, arith}
use Rattle.std.proofs.lemmas.List.{take_at, length-drop}
use Rattle.cw_links.specs.Lists.{list_at}
use Rattle.cw_links.proofs.nearest.move_aside.Goals as goal

-- the first so many elements go
left_of : (xs : List ℕ) (many left : ℕ) → left ≡ length xs - many → take left (drop many xs ++ take many xs) ≡ drop many xs
left_of xs many left e = take_at (drop many xs) (take many xs) left (length-drop many xs ∙ sym e)

pub put_all-requires : goal.put_all-requires
put_all-requires c = subst (λ (xs : List ℕ). 0 < length xs → 0 < c.args.key) (sym c.as_slice.ensures.value) c.requires

pub returns-in-Ok-clause-here : goal.returns-in-Ok-clause-here
returns-in-Ok-clause-here c =
    ap (λ (xs : List ℕ). reverse xs ++ list_at c.put_all.new.later c.args.key) c.clear.ensures.items ∙ c.in-Ok.ensures.all
    ∙ ap (λ (xs : List ℕ). reverse xs ++ list_at c.args.later.now c.args.key) c.as_slice.ensures.value

pub returns-in-Ok-clause-fewer : goal.returns-in-Ok-clause-fewer
returns-in-Ok-clause-fewer c = let none = ap (λ (xs : List ℕ). length xs) c.clear.ensures.items in omega (arith, none)

pub returns-in-Ok-clause-none : goal.returns-in-Ok-clause-none
returns-in-Ok-clause-none c = ap (λ (xs : List ℕ). length xs) c.clear.ensures.items

-- what is left
left : (xs slice moved new : List ℕ) (many count : ℕ) → slice ≡ xs → moved ≡ drop many xs ++ take many xs → new ≡ take (count - many) moved → count ≡ length xs → new ≡ drop many slice
left xs slice moved new many count is moves takes counts =
    takes ∙ ap (λ (ys : List ℕ). take (count - many) ys) moves ∙ left_of xs many (count - many) (ap (λ (n : ℕ). n - many) counts) ∙ ap (λ (ys : List ℕ). drop many ys) (sym is)

pub returns-in-Err-clause-here : goal.returns-in-Err-clause-here
returns-in-Err-clause-here c =
    let xs = c.args.elements.now.items in
    ap (λ (ys : List ℕ). reverse ys ++ list_at c.put_all.new.later c.args.key)
    (left xs c.as_slice.result.now c.rotate_left.new.self.items c.truncate.new.self.items c.in-Err.many c.len.result c.as_slice.ensures.value c.rotate_left.ensures.items
    c.truncate.ensures.items (c.len.ensures ∙ c.args.elements.now.ok.0))
    ∙ c.in-Err.ensures.some ∙ ap (λ (ys : List ℕ). reverse ys ++ list_at c.args.later.now c.args.key) c.as_slice.ensures.value

pub returns-in-Err-clause-fewer : goal.returns-in-Err-clause-fewer
returns-in-Err-clause-fewer c =
    let xs = c.args.elements.now.items in
    let is = left xs c.as_slice.result.now c.rotate_left.new.self.items c.truncate.new.self.items c.in-Err.many c.len.result c.as_slice.ensures.value c.rotate_left.ensures.items
    c.truncate.ensures.items (c.len.ensures ∙ c.args.elements.now.ok.0) in
    let long = ap (λ (ys : List ℕ). length ys) is in
    let slice = ap (λ (ys : List ℕ). length ys) c.as_slice.ensures.value in
    omega (arith, long, slice, length-drop c.in-Err.many c.as_slice.result.now)

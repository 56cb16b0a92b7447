use Rattle.std.proofs.Common.{rules, ◌≡◌, ◌+◌, ◌-◌, ◌<◌, ◌≤◌, ◌&&◌, true, false, ◌∷◌, take, drop, length, length-take, length-drop, ap, ap₂, sym, ◌∙◌, subst, arith}
use Rattle.std.proofs.lemmas.List.{take_all}
use Rattle.cw_rights.specs.Trees.{tree_of, seq_of, alt_of}
use Rattle.cw_rights.specs.Plain.{plain, some_below, chain, cost}
use Rattle.cw_rights.proofs.Rows.{cat_of, or_of}
use Rattle.cw_rights.proofs.Along.{drop_item}
use Rattle.cw_rights.proofs.Plainly.{cost_rises, star_factor, star_rest, star_ends, star_finds, cat_finds, if_some}
use Rattle.cw_rights.proofs.plain.+plain.Goals as goal

pub plain-plain_cat-requires : goal.plain-plain_cat-requires
plain-plain_cat-requires t c =
    let e : cost (tree_of c.args.r.now) (length c.args.word.now) ≡ cost (seq_of c.deref.result.now) (length c.args.word.now) =
    ap (λ s. cost s (length c.args.word.now)) (cat_of c.args.r.now c.in-Cat.parts c.deref.result.now c.in-Cat.is c.deref.ensures.value) in
    (omega (arith, c.decreases), tt)

pub plain-plain_or-requires : goal.plain-plain_or-requires
plain-plain_or-requires t c =
    let e : cost (tree_of c.args.r.now) (length c.args.word.now) ≡ cost (alt_of c.deref-in-Or.result.now) (length c.args.word.now) =
    ap (λ s. cost s (length c.args.word.now)) (or_of c.args.r.now c.in-Or.parts c.deref-in-Or.result.now c.in-Or.is c.deref-in-Or.ensures.value) in
    (omega (arith, c.decreases), tt)

pub plain-returns-else-is_empty : goal.plain-returns-else-is_empty
plain-returns-else-is_empty t c =
    let z : 0 < length c.args.word.now = search rules in
    c.plain_star-else-is_empty.ensures ∙ ap (λ x. chain (plain (tree_of x)) (length c.args.word.now) c.args.word.now) c.deref-else-is_empty.ensures
    ∙ sym (ap (λ x. plain (tree_of x) c.args.word.now) c.in-Plus.is ∙ if_some c.args.word.now (plain (tree_of c.in-Plus.body.value) c.args.word.now)
    (chain (plain (tree_of c.in-Plus.body.value)) (length c.args.word.now) c.args.word.now) z)

pub plain_cat-plain-requires : goal.plain_cat-plain-requires
plain_cat-plain-requires t c =
    let cut : c.args.parts.now ≡ c.first-item.result ∷ drop 1 c.args.parts.now = drop_item c.args.parts.now 0 c.first-item.result (search rules) (search rules) in
    let e = ap (λ l. cost (seq_of l) (length c.args.word.now)) cut in
    let le : length (take c.loop-i.i c.args.word.now) ≤ length c.args.word.now = grind (arith, length-take) in
    let r = cost_rises (tree_of c.first-item.result) _ _ le in
    (omega (arith, c.decreases), tt)

pub plain_cat-plain_cat-requires : goal.plain_cat-plain_cat-requires
plain_cat-plain_cat-requires t c =
    let cut : c.args.parts.now ≡ c.first-item.result ∷ drop 1 c.args.parts.now = drop_item c.args.parts.now 0 c.first-item.result (search rules) (search rules) in
    let e = ap (λ l. cost (seq_of l) (length c.args.word.now)) cut in
    let m = length (take (length c.args.word.now - c.loop-i.i) (drop c.loop-i.i c.args.word.now)) in
    let le : m ≤ length c.args.word.now = grind (arith, length-take, length-drop) in
    let rest : take (length c.args.parts.now - 1) (drop 1 c.args.parts.now) ≡ drop 1 c.args.parts.now = take_all _ _ (grind (arith, length-drop)) in
    let f = ap (λ l. cost (seq_of l) m) rest in
    let r = cost_rises (seq_of (drop 1 c.args.parts.now)) m (length c.args.word.now) le in
    (omega (arith, c.decreases), tt)

pub plain_cat-returns-then-plain_cat : goal.plain_cat-returns-then-plain_cat
plain_cat-returns-then-plain_cat t c =
    let cut : c.args.parts.now ≡ c.first-item.result ∷ drop 1 c.args.parts.now = drop_item c.args.parts.now 0 c.first-item.result (search rules) (search rules) in
    let one : plain (tree_of c.first-item.result) (take c.loop-i.i c.args.word.now) ≡ true = search rules in
    let rest : take (length c.args.parts.now - 1) (drop 1 c.args.parts.now) ≡ drop 1 c.args.parts.now = take_all _ _ (grind (arith, length-drop)) in
    let tail : take (length c.args.word.now - c.loop-i.i) (drop c.loop-i.i c.args.word.now) ≡ drop c.loop-i.i c.args.word.now = take_all _ _ (grind (arith, length-drop)) in
    let raw : plain (seq_of (take (length c.args.parts.now - 1) (drop 1 c.args.parts.now))) (take (length c.args.word.now - c.loop-i.i) (drop c.loop-i.i c.args.word.now)) ≡ true = search rules in
    let two = ap₂ (λ l v. plain (seq_of l) v) (sym rest) (sym tail) ∙ raw in
    sym (ap (λ l. plain (seq_of l) c.args.word.now) cut ∙ cat_finds (tree_of c.first-item.result) (seq_of (drop 1 c.args.parts.now)) c.args.word.now c.loop-i.i (search rules) one two)

pub plain_star-plain-requires : goal.plain_star-plain-requires
plain_star-plain-requires t c =
    let le : length (take (c.loop-i.i + 1) c.args.word.now) ≤ length c.args.word.now = grind (arith, length-take) in
    let r = star_factor (tree_of c.args.body.now) _ _ le in
    (omega (arith, c.decreases, r), tt)

pub plain_star-plain_star-requires : goal.plain_star-plain_star-requires
plain_star-plain_star-requires t c =
    let lt : c.loop-i.i < length c.args.word.now = search rules in
    let m = length (take (length c.args.word.now - (c.loop-i.i + 1)) (drop (c.loop-i.i + 1) c.args.word.now)) in
    let le : m < length c.args.word.now = grind (arith, length-take, length-drop) in
    let r = star_rest (tree_of c.args.body.now) m (length c.args.word.now) le in
    (omega (arith, c.decreases, r), tt)

pub plain_star-returns-then-plain_star : goal.plain_star-returns-then-plain_star
plain_star-returns-then-plain_star t c =
    let lt : c.loop-i.i < length c.args.word.now = search rules in
    let one : plain (tree_of c.args.body.now) (take (c.loop-i.i + 1) c.args.word.now) ≡ true = search rules in
    let tail : take (length c.args.word.now - (c.loop-i.i + 1)) (drop (c.loop-i.i + 1) c.args.word.now) ≡ drop (c.loop-i.i + 1) c.args.word.now = take_all _ _ (grind (arith, length-drop)) in
    let raw : chain (plain (tree_of c.args.body.now)) (length (take (length c.args.word.now - (c.loop-i.i + 1)) (drop (c.loop-i.i + 1) c.args.word.now)))
    (take (length c.args.word.now - (c.loop-i.i + 1)) (drop (c.loop-i.i + 1) c.args.word.now)) ≡ true = search rules in
    let two = ap (λ v. chain (plain (tree_of c.args.body.now)) (length v) v) (sym tail) ∙ raw in
    star_finds (plain (tree_of c.args.body.now)) c.args.word.now c.loop-i.i lt one two

pub plain_star-returns : goal.plain_star-returns
plain_star-returns t c =
    let z : 0 < length c.args.word.now = search rules in
    let e : c.loop-i.i ≡ length c.args.word.now = search rules in
    star_ends (plain (tree_of c.args.body.now)) c.args.word.now z
    (subst (λ n. some_below n (λ i. plain (tree_of c.args.body.now) (take (i + 1) c.args.word.now) && chain (plain (tree_of c.args.body.now)) (length (drop (i + 1) c.args.word.now))
    (drop (i + 1) c.args.word.now)) ≡ false) e c.loop-i.invariant)

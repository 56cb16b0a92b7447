use Rattle.std.proofs.Common.{rules, ◌≡◌, ◌+◌, ◌≤◌, length, ap, ◌∷◌, ◌<◌, get_or, drop, subst}
use Rattle.cw_rights.specs.declared.words.Regex.{the_lemmas}
use Rattle.cw_rights.specs.Trees.{seq, nothing, tree_of, seq_of}
use Rattle.cw_dfa.specs.Tables.{picks}
use Rattle.cw_dfa.proofs.Rows.{row_count}
use Rattle.cw_rights.proofs.Along.{drop_item}
use Rattle.std.proofs.lemmas.List.{drop_all}
use Rattle.cw_dfa.proofs.Along.{picked_step, picked_end}
use Rattle.cw_dfa.proofs.matching.+picked.Goals as goal

pub picked-picked_row-requires : goal.picked-picked_row-requires
picked-picked_row-requires t c =
    (search (rules, the_lemmas), subst (λ n. c.args.k + n ≤ 64) (row_count c.args.r.now c.in-Cat.parts c.deref-in-Cat.result.now c.in-Cat.is c.deref-in-Cat.ensures.value) c.requires)

pub picked_row-loop-part-preserved : goal.picked_row-loop-part-preserved
picked_row-loop-part-preserved t c =
    let part = tree_of c.part-item.result in
    let rest = seq_of (drop (c.loop-part.part-index + 1) c.args.parts.now) in
    let lt : c.loop-part.part-index < length c.args.parts.now = search rules in
    let at : get_or c.args.parts.now c.loop-part.part-index c.part-item.result ≡ c.part-item.result = search rules in
    let cut : drop c.loop-part.part-index c.args.parts.now ≡ c.part-item.result ∷ drop (c.loop-part.part-index + 1) c.args.parts.now =
    drop_item c.args.parts.now c.loop-part.part-index c.part-item.result lt at in
    let whole : seq_of (drop c.loop-part.part-index c.args.parts.now) ≡ seq part rest = ap seq_of cut in
    record {
      room = search rules;
      so_far = picked_step (picks c.args.sought) _ part rest c.loop-part.set c.loop-part.next _ _ _ whole c.picked-found.ensures.set c.picked-found.ensures.next c.loop-part.invariant.so_far;
    }

pub picked_row-returns-clause-set : goal.picked_row-returns-clause-set
picked_row-returns-clause-set t c =
    let far : length c.args.parts.now ≤ c.loop-part.part-index = search rules in
    let whole : seq_of (drop c.loop-part.part-index c.args.parts.now) ≡ nothing = ap seq_of (drop_all c.loop-part.part-index c.args.parts.now far) in
    picked_end (picks c.args.sought) _ c.loop-part.set c.loop-part.next _ whole c.loop-part.invariant.so_far

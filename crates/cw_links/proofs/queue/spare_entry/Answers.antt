use Rattle.std.proofs.Common.{◌≡◌, ◌<◌, List, ℕ, [], ◌∷◌, ◌++◌, length, sym, ap, ◌∙◌, arith}
use Rattle.std.specs.List.{concat}
use Rattle.std.proofs.lemmas.Bool.{cond-true}
use Rattle.cw_links.specs.Lists.{without, list_at}
use Rattle.cw_links.specs.Rows.{has}
use Rattle.cw_links.specs.Queues.{stacks_of}
use Rattle.cw_links.proofs.Entries.{others_of_first, others_of_new}
use Rattle.cw_links.proofs.Stacks.{spare_unkeyed, new_unkeyed, spare_more}
use Rattle.cw_links.proofs.queue.spare_entry.Goals as goal

pub returns-in-Some-clause-unkeyed : goal.returns-in-Some-clause-unkeyed
returns-in-Some-clause-unkeyed c =
    spare_unkeyed c.args.links.now.lists c.args.links.now.cells c.in-Some.entry c.first.ensures.apart (sym c.in-Some.ensures.first)

pub returns-clause-unkeyed : goal.returns-clause-unkeyed
returns-clause-unkeyed c key some =
    let entry = c.len-entry.result in
    let is : entry ≡ c.reserve.new.self.cells = omega (arith, c.len-entry.ensures, c.reserve-2.ensures.len, c.args.elements.now.ok.0, c.requires.known, c.reserve.ensures.cells) in
    let out : without c.add_cell.new.self.lists entry ≡ c.add_cell.new.self.lists
    = ap (λ (n : ℕ). without c.add_cell.new.self.lists n) is ∙ ap (λ (ms : List (List ℕ)). without ms c.reserve.new.self.cells) c.add_cell.ensures.lists
    ∙ c.add_cell.ensures.unlinked ∙ sym c.add_cell.ensures.lists in
    ap (λ (ms : List (List ℕ)). has (list_at ms key) entry) c.put_front.ensures.lists ∙ new_unkeyed c.add_cell.new.self.lists entry out key some

pub returns-in-Some-clause-others : goal.returns-in-Some-clause-others
returns-in-Some-clause-others c =
    others_of_first c.args.links.now.lists c.args.links.now.cells 0 c.in-Some.entry c.first.ensures.apart (sym c.in-Some.ensures.first) ∙ c.requires.filled

pub returns-clause-others : goal.returns-clause-others
returns-clause-others c =
    let entry = c.len-entry.result in
    let before = c.add_cell.new.self.lists in
    let same : before ≡ c.args.links.now.lists = c.add_cell.ensures.lists ∙ c.reserve.ensures.lists in
    let long : length before ≡ length c.args.links.now.lists = ap (λ (ms : List (List ℕ)). length ms) same in
    let some : 0 < length before = omega (arith, long, c.requires.some) in
    let is : entry ≡ c.reserve.new.self.cells = omega (arith, c.len-entry.ensures, c.reserve-2.ensures.len, c.args.elements.now.ok.0, c.requires.known, c.reserve.ensures.cells) in
    let out : without before entry ≡ before
    = ap (λ (n : ℕ). without before n) is ∙ ap (λ (ms : List (List ℕ)). without ms c.reserve.new.self.cells) c.add_cell.ensures.lists ∙ c.add_cell.ensures.unlinked ∙ sym c.add_cell.ensures.lists in
    let others : length (concat (without c.put_front.new.self.lists entry)) ≡ length (concat c.args.links.now.lists)
    = ap (λ (ms : List (List ℕ)). length (concat (without ms entry))) c.put_front.ensures.lists ∙ others_of_new before entry some out ∙ ap (λ (ms : List (List ℕ)). length (concat ms)) same in
    omega (arith, others, c.requires.filled, c.put_front.ensures.cells, c.add_cell.ensures.cells, c.reserve.ensures.cells)

pub returns-clause-kept : goal.returns-clause-kept
returns-clause-kept c =
    let before = c.add_cell.new.self.lists in
    let same : before ≡ c.args.links.now.lists = c.add_cell.ensures.lists ∙ c.reserve.ensures.lists in
    let long : length before ≡ length c.args.links.now.lists = ap (λ (ms : List (List ℕ)). length ms) same in
    let some : 0 < length before = omega (arith, long, c.requires.some) in
    let items : c.push.new.self.items ≡ c.args.elements.now.items ++ 0 ∷ []
    = c.push.ensures.items ∙ cond-true _ _ _ (c.push.ensures.succeeds (omega (arith, c.in_ok-reserve-2.ensures.ok))) ∙ ap (λ (es : List ℕ). es ++ 0 ∷ []) c.reserve-2.ensures.items in
    ap (λ (es : List ℕ). stacks_of es c.put_front.new.self.lists) items
    ∙ ap (λ (ms : List (List ℕ)). stacks_of (c.args.elements.now.items ++ 0 ∷ []) ms) c.put_front.ensures.lists
    ∙ spare_more c.args.elements.now.items before c.len-entry.result some
    ∙ ap (λ (ms : List (List ℕ)). stacks_of c.args.elements.now.items ms) same

use Rattle.std.proofs.Common.{List, ℕ, Bor, sym, ◌∙◌}
use Rattle.std.specs.Str.{bytes_eq}
use Rattle.indexmap.proofs.CallerLemmas.{insert_entry-new}
use Rattle.cw_lemmas.proofs.Options.{none_by_test}
use Rattle.cw_slots.proofs.Numbered.{put_found}
use Rattle.cw_slots.proofs.numbers.put.Goals as goal

pub returns-in_ok-insert : goal.returns-in_ok-insert
returns-in_ok-insert c =
    let old = c.args.numbers.now in
    let absent = sym c.find.ensures ∙ none_by_test c.find.result c.is_none.result c.is_none.ensures c.if-is_none.true in
    put_found old.entries c.insert.new.self.entries c.args.text c.args.kept
    (c.in_ok-insert.ensures.entries ∙ insert_entry-new (λ (a b : Bor (List ℕ)). bytes_eq a.now b.now) old c.args.text c.args.kept absent)

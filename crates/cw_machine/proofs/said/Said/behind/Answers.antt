use Rattle.std.proofs.Common.{◌≡◌, ◌<◌, ◌∙◌, Some, ap, arith, drop, find, length, map, refl, slice_get, sym}
use Rattle.std.proofs.lemmas.List.{take_rest}
use Rattle.std.proofs.lemmas.Option.{slice_get_read}
use Rattle.cw_value.specs.Deeds.{begins_at}
use Rattle.cw_slots.specs.Texts.{statement_at}
use Rattle.cw_machine.proofs.Behind.{behind}
use Rattle.cw_machine.proofs.said.Said.behind.Goals as goal

pub returns-in-Some : goal.returns-in-Some
returns-in-Some c =
    let at = c.args.at in
    let n = c.guess-number.result in
    let items = c.self.inside.statements.items in
    let s = c.in-Some.statement.now in
    let first = c.deref.ensures.value in
    let second = c.deref-in-Some.ensures.value in
    let found = c.in-Some.ensures.lookup in
    let before = c.deref.result.now in
    let within : n < length before = omega arith in
    let is : slice_get items n ≡ Some s = ap (λ l. slice_get l n) (sym first) ∙ slice_get_read before (length before) n s refl within found.1 in
    let here = c.if-statement-at.true in
    let same : s.now.from ≡ at = omega (arith, here) in
    let d = c.deref-in-Some.result.now in
    record {
      found =
          ap (λ l. find (begins_at at) (map statement_at l)) (take_rest d n)
          ∙ ap (λ l. find (begins_at at) (map statement_at (drop n l))) second
          ∙ behind items n at s (c.self.invariant c.if-self.true) is same
          ∙ ap (λ l. find (begins_at at) (map statement_at l)) c.self.view_is;
    }

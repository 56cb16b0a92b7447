use Rattle.std.proofs.Common.{sym, ap, ◌++◌, ◌∙◌, map, subst, ◌≡◌, None, w64, to_z, of_z}
use Rattle.std.specs.List.{All}
use Rattle.std.specs.List.Sorted.{IsStrictlySortedBy}
use Rattle.std.proofs.lemmas.List.Elements.{All-nil}
use Rattle.cw_text_lines.specs.Lines.{whole_lines}
use Rattle.cw_answers.specs.AnswerLines.{line_fields, FitsLine}
use Rattle.cw_answers.specs.AnswersText.{name_line}
use Rattle.cw_answers.specs.Reading.{name_of, by_name, is_behind, last_of}
use Rattle.cw_answers.proofs.Behind.{no_name, names_more, names_fit, names_ascend}
use Rattle.cw_answers.proofs.Fields.{stored}
use Rattle.cw_answers.proofs.reading.read_names.Goals as goal

pub names-init : goal.names-init
unfolding IsStrictlySortedBy
names-init c =
    let none = c.new-names.ensures.items in
    record {
      text = ap (λ ns. whole_lines line_fields (map name_line (map name_of ns)) ++ c.args.text.now) (sym none);
      fits = subst (λ ns. All FitsLine (map name_line (map name_of ns))) (sym none) (All-nil FitsLine);
      ascend = subst (λ ns. IsStrictlySortedBy by_name (map name_of ns)) (sym none) tt;
    }

pub returns-then-not-stands_behind-clause-stops : goal.returns-then-not-stands_behind-clause-stops
returns-then-not-stands_behind-clause-stops c =
    no_name (map name_of c.names.names.items) c.names.rest.now c.in-Some.more.now c.in-Some.name.now c.in-Some.value c.in-Some.ensures.some
    (ap (λ ns. is_behind (last_of None (map name_of ns)) c.in-Some.name.now) (sym c.deref.ensures.value) ∙ sym c.stands_behind.ensures ∙ c.if-not-stands_behind.true)

pub names-preserved : goal.names-preserved
names-preserved c =
    let value = to_z w64 (of_z w64 c.in-Some.value) in
    let same : value ≡ c.in-Some.value = stored c.in-Some.value c.in-Some.ensures.some.fits.1 in
    let bytes : c.in_ok-to_vec.field-0.items ≡ c.in-Some.name.now = c.in_ok-to_vec.ensures.items_if_clones_equal (λ x y e. e) in
    record {
      text = names_more c.args.text.now c.names.rest.now c.in-Some.more.now c.names.names.items c.push.new.self.items (c.in_ok-to_vec.field-0, value) c.in-Some.name.now c.in-Some.value c.in_ok-push.ensures.items
          bytes same c.names.invariant.text c.in-Some.ensures.some;
      fits = names_fit c.names.names.items c.push.new.self.items (c.in_ok-to_vec.field-0, value) c.in-Some.name.now c.in-Some.value c.in_ok-push.ensures.items bytes same c.names.invariant.fits
          c.in-Some.ensures.some.fits;
      ascend = names_ascend c.names.names.items c.push.new.self.items (c.in_ok-to_vec.field-0, value) c.in-Some.name.now c.in_ok-push.ensures.items bytes c.names.invariant.ascend
          (ap (λ ns. is_behind (last_of None (map name_of ns)) c.in-Some.name.now) (sym c.deref.ensures.value) ∙ sym c.stands_behind.ensures
          ∙ c.if-not-stands_behind.false);
    }

use Rattle.std.proofs.Common.{◌∙◌, sym, refl, [], append-nil}
use Rattle.std.proofs.lemmas.Bool.{false≢true}
use Rattle.std.proofs.lemmas.Option.{none-some, some_pair_parts}
use Rattle.cw_core.specs.Numerals.{hexadecimal}
use Rattle.cw_core.proofs.SetTexts.{spelled_as_mask, spelled_as_runs}
use Rattle.cw_core.proofs.Spellings.{set_at_text}
use Rattle.cw_core.proofs.reading_ranges.set_of.Goals as goal

pub returns-in_err-set : goal.returns-in_err-set
returns-in_err-set c = record {
  found = λ set below e.
      let whole = spelled_as_mask set c.args.spelling.now below e (c.if-has_prefix.ensures.prefix.0 refl) in
      absurd (none-some _ (c.in_err-set.ensures.found set (set_at_text c.args.spelling.now 0 set [] below (whole ∙ sym (append-nil (hexadecimal set))) refl)));
}

pub returns-in_ok-set : goal.returns-in_ok-set
returns-in_ok-set c = record {
  found = λ set below e.
      let whole = spelled_as_mask set c.args.spelling.now below e (c.if-has_prefix.ensures.prefix.0 refl) in
      let found = c.in_ok-set.ensures.found set (set_at_text c.args.spelling.now 0 set [] below (whole ∙ sym (append-nil (hexadecimal set))) refl) in
      rw (some_pair_parts _ _ _ _ found).0 refl;
}

pub returns-else-has_prefix : goal.returns-else-has_prefix
returns-else-has_prefix c = record {
  found = λ set below e.
      let p = spelled_as_runs set c.args.spelling.now below e (λ prefix. false≢true (c.if-has_prefix.ensures.prefix.1 prefix)) in
      c.set_of_runs.ensures.found set below p.0 p.1;
}

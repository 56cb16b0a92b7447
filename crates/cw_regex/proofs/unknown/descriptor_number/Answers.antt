use Rattle.std.proofs.Common.{rules, ◌≡◌, ◌<◌, ◌≤◌, ◌+◌, true, length, drop, get_or, sym, ◌∙◌}
use Rattle.std.specs.Str.{bytes_eq}
use Rattle.std.proofs.lemmas.List.{drop_all}
use Rattle.cw_regex.specs.Meaning.{names_of}
use Rattle.cw_regex.proofs.Numbers.{number_is, found_here, found_none}
use Rattle.cw_rights.proofs.Along.{drop_item}
use Rattle.cw_regex.proofs.unknown.descriptor_number.Goals as goal

pub returns-then-eq : goal.returns-then-eq
returns-then-eq c =
    let ds = c.args.descriptors.now in
    let lt : c.loop-i.i < length ds = search rules in
    let at : get_or ds c.loop-i.i c.index-descriptors-i.result ≡ c.index-descriptors-i.result = search rules in
    let cut = drop_item ds c.loop-i.i c.index-descriptors-i.result lt at in
    let is : bytes_eq c.args.identifier.now c.index-descriptors-i.result.name.items ≡ true = search rules in
    found_here (drop c.loop-i.i ds) c.index-descriptors-i.result (drop (c.loop-i.i + 1) ds) c.args.identifier.now c.loop-i.i cut is _ c.loop-i.invariant ∙ sym (number_is (names_of ds) c.args.identifier.now)

pub returns : goal.returns
returns c =
    let ds = c.args.descriptors.now in
    let far : length ds ≤ c.loop-i.i = search rules in
    found_none (drop c.loop-i.i ds) c.args.identifier.now c.loop-i.i (drop_all c.loop-i.i ds far) _ c.loop-i.invariant ∙ sym (number_is (names_of ds) c.args.identifier.now)

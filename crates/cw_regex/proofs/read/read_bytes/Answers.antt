use Rattle.cw_regex.specs.Labels.{names_in}
use Rattle.cw_regex.specs.Meaning.{names_of}
use Rattle.cw_rights.specs.Trees.{tree_of}
use Rattle.cw_regex.proofs.Kept.{labels_named, labels_distinct}
use Rattle.cw_regex.proofs.Nested.{nests}
use Rattle.cw_regex.proofs.Within.{regex_within}
use Rattle.cw_regex.proofs.read.read_bytes.Goals as goal

pub returns-clause-within : goal.returns-clause-within
returns-clause-within c = regex_within c.args.format c.args.descriptors.now c.args.labels.now.keys c.named.new.labels.keys c.args.text.now (tree_of c.in_ok-regex.regex)
    c.in_ok-sound.ensures.is c.in_ok-sound.ensures.known (λ e s. c.in_ok-named.ensures.labels e s.parts) (λ e s. c.in_ok-regex.ensures.means e s.parts)

pub returns-clause-nesting : goal.returns-clause-nesting
returns-clause-nesting c = nests c.args.format (names_in c.named.new.labels.keys) (names_of c.args.descriptors.now) c.args.text.now (tree_of c.in_ok-regex.regex) c.in_ok-sound.ensures.is
    c.in_ok-sound.ensures.shallow (λ e s. c.in_ok-regex.ensures.means e s.parts)

pub returns-clause-names : goal.returns-clause-names
returns-clause-names c = labels_named c.args.text.now (names_in c.args.labels.now.keys) (names_in c.named.new.labels.keys) c.in_ok-sound.ensures.is (λ e s. c.in_ok-named.ensures.labels e s.parts)

pub returns-clause-distinct : goal.returns-clause-distinct
returns-clause-distinct c = labels_distinct c.args.text.now (names_in c.args.labels.now.keys) (names_in c.named.new.labels.keys) c.in_ok-sound.ensures.is
    (λ e s. c.in_ok-named.ensures.labels e s.parts)

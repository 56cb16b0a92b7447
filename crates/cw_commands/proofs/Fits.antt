-- Arguments at which no step of a parse fails are taken.
use Rattle.std.proofs.Common.{◌≡◌, ℕ, ◌≤◌, ◌&&◌, ◌||◌, zero, suc, Bool, true, false, not, List, [], ◌∷◌, length, Option, Some, None, is_some, refl, arith}
use Rattle.std.specs.Prelude.{if◌then◌else◌, nat_lt, nat_le, ◌==◌, drop, slice_get, encode_utf8}
use Rattle.std.specs.List.{list_all, list_any}
use Rattle.std.specs.Option.{option_map_or}
use Rattle.std.specs.Str.{bytes_eq, chars}
use Rattle.std.proofs.lemmas.Bool.{eqb-true, le-leb, ltb-false}
use Rattle.clap.specs.Lexer.{long_of, short_of}
use Rattle.clap.specs.Facts.{parser_of_value, unwrap_or_range}
use Rattle.clap.specs.ValueTests.{accepts}
use Rattle.clap.specs.Values.{refused_kind}
use Rattle.clap.specs.Walk.{Held, Row, Rule, Step, Text, Waiting, Walk, action_of, idle, option, positional, next, trailing, subcommand, value}
use Rattle.clap.specs.Walk.{arg_by_id, arg_by_index, arg_by_long, arg_by_short, finished, has_row, is_pending, most_values, settled, takes_several, values_or_missing, nothing_held}
use Rattle.clap.specs.Walk.{walk, walk_from, walked, word_met}
use Rattle.clap.specs.Simple.{Shape}
use Rattle.clap.specs.Takes.{action_passes, bundle_step_passes, default_passes, flag_word_passes, flags_pass, is_given, is_valid, level_passes, other_passes, positional_passes}
use Rattle.clap.specs.Takes.{set_passes, settle_passes, step_passes, turn_passes, use_passes, values_pass, walk_passes, word_passes}
use Rattle.clap.specs.Faults.{action_fault, bundle_step_fault, check_fault, defaults_fault, flag_word_fault, flags_fault, level_fault, other_fault, positional_fault, repeat_fault}
use Rattle.clap.specs.Faults.{set_fault, settle_fault, step_fault, stray_fault, turn_fault, use_fault, values_fault, walk_fault, word_fault}
use Rattle.clap.specs.Kinds.{Kinds, or_else, range_kinds, value_kinds, values_kinds}
use Rattle.clap.specs.declared.builder.action.ArgAction.{ArgAction}
use Rattle.clap.specs.declared.builder.action.ArgAction.TheVariants.{Set, Append, SetTrue, SetFalse, Count, Help, HelpShort, HelpLong, Version}
use Rattle.clap.specs.declared.builder.value_parser.ValueParser.{ValueParser}
use Rattle.clap.specs.declared.error.kind.ErrorKind.{ErrorKind}
use Rattle.std.proofs.lemmas.Bool.{and_from as and_true}

both_nil : (a b : Kinds) → or_else a b ≡ [] → (a ≡ []) × (b ≡ [])
both_nil [] b e = (refl, e)
both_nil (k ∷ ks) b e = absurd cc

-- ---- values

value_ok : (ic : Bool) (p : ValueParser) (v : Text) → value_kinds ic p v ≡ [] → accepts ic p v ≡ true
value_ok ic p v e = by (accepts ic p v) e
  where
    by : (b : Bool) → (if b then [] else refused_kind p ∷ []) ≡ [] → b ≡ true
    by true e = refl
    by false e = absurd cc

values_ok : (ic : Bool) (p : ValueParser) (vs : List Text) → values_kinds ic p vs ≡ [] → list_all (accepts ic p) vs ≡ true
values_ok ic p [] e = refl
values_ok ic p (v ∷ vs) e =
    let b = both_nil (value_kinds ic p v) (values_kinds ic p vs) e in
    and_true (accepts ic p v) (list_all (accepts ic p) vs) (value_ok ic p v b.0) (values_ok ic p vs b.1)

range_ok : (lo hi n : ℕ) → range_kinds lo hi n ≡ [] → (nat_le lo n ≡ true) × (nat_le n hi ≡ true)
range_ok lo hi n e = by (nat_lt 0 lo && n == 0) (lo == hi) (lo == n) (nat_lt n lo) (nat_lt hi n) refl refl refl refl e
  where
    within : lo ≤ n → n ≤ hi → (nat_le lo n ≡ true) × (nat_le n hi ≡ true)
    within l h = (le-leb lo n l, le-leb n hi h)

    by : (a b d f g : Bool) → (lo == hi) ≡ b → (lo == n) ≡ d → nat_lt n lo ≡ f → nat_lt hi n ≡ g
        → (if a then ErrorKind.InvalidValue ∷ [] else (if b then (if d then [] else ErrorKind.WrongNumberOfValues ∷ [])
        else (if f then ErrorKind.TooFewValues ∷ [] else (if g then ErrorKind.TooManyValues ∷ [] else [])))) ≡ []
        → (nat_le lo n ≡ true) × (nat_le n hi ≡ true)
    by true b d f g eb ed ef eg e = absurd cc
    by false true true f g eb ed ef eg e = let s = eqb-true lo hi eb in let t = eqb-true lo n ed in within (omega (arith, t)) (omega (arith, s, t))
    by false true false f g eb ed ef eg e = absurd cc
    by false false d true g eb ed ef eg e = absurd cc
    by false false d false true eb ed ef eg e = absurd cc
    by false false d false false eb ed ef eg e = within (ltb-false n lo ef) (ltb-false hi n eg)

-- ---- one use of an argument

set_ok : (again : Bool) (a : Rule) (vs : List Text) (rows : List Row) → set_fault again a vs rows ≡ [] → set_passes again a vs rows ≡ true
set_ok again a vs rows e =
    let b = both_nil (repeat_fault again a.id rows) (values_fault a vs) e in
    and_true (not (has_row a.id rows) || again) (values_pass a vs) (once (has_row a.id rows) again b.0) (values_ok a.ignore_case (parser_of_value a.parser) vs b.1)
  where
    once : (has again : Bool) → (if has && not again then ErrorKind.ArgumentConflict ∷ [] else []) ≡ [] → (not has || again) ≡ true
    once true true e = refl
    once true false e = absurd cc
    once false again e = refl

action_ok : (x : ArgAction) (again : Bool) (a : Rule) (vs : List Text) (rows : List Row) → action_fault x again a vs rows ≡ [] → action_passes x again a vs rows ≡ true
action_ok Set again a vs rows e = set_ok again a vs rows e
action_ok SetTrue again a vs rows e = set_ok again a vs rows e
action_ok SetFalse again a vs rows e = set_ok again a vs rows e
action_ok Append again a vs rows e = values_ok a.ignore_case (parser_of_value a.parser) vs e
action_ok Count again a [] rows e = value_ok a.ignore_case (parser_of_value a.parser) _ e
action_ok Count again a (v ∷ vs) rows e = values_ok a.ignore_case (parser_of_value a.parser) (v ∷ vs) e
action_ok Help again a vs rows e = absurd cc
action_ok HelpShort again a vs rows e = absurd cc
action_ok HelpLong again a vs rows e = absurd cc
action_ok Version again a vs rows e = absurd cc

use_ok : (again : Bool) (a : Rule) (vs : List Text) (rows : List Row) → use_fault again a vs rows ≡ [] → use_passes again a vs rows ≡ true
use_ok again a vs rows e =
    let lo = (unwrap_or_range a.range).start_inclusive in
    let b = both_nil (range_kinds lo (most_values a) (length vs)) (action_fault (action_of a) again a (values_or_missing a vs) rows) e in
    let r = range_ok lo (most_values a) (length vs) b.0 in
    let acts = action_ok (action_of a) again a (values_or_missing a vs) rows b.1 in
    and_true (nat_le lo (length vs)) _ r.0 (and_true (nat_le (length vs) (most_values a)) _ r.1 acts)

settle_by : (again : Bool) (vs : List Text) (rows : List Row) (o : Option Rule) → option_map_or (λ a. use_fault again a vs rows) o [] ≡ []
    → option_map_or (λ a. use_passes again a vs rows) o true ≡ true
settle_by again vs rows None e = refl
settle_by again vs rows (Some a) e = use_ok again a vs rows e

settle_ok : (c : List Rule) (again : Bool) (h : Held) → settle_fault c again h ≡ [] → settle_passes c again h ≡ true
settle_ok c again h e = by h.pending e
  where
    by : (o : Option (Text × List Text)) → option_map_or (λ p. option_map_or (λ a. use_fault again a p.1 h.rows) (arg_by_id c p.0) []) o [] ≡ []
        → option_map_or (λ p. option_map_or (λ a. use_passes again a p.1 h.rows) (arg_by_id c p.0) true) o true ≡ true
    by None e = refl
    by (Some p) e = settle_by again p.1 h.rows (arg_by_id c p.0) e

-- ---- the walk, of a command whose arguments have no names

module _ (c : List Rule) (again : Bool) (no_short : (x : ℕ) → arg_by_short c x ≡ None) where
  bundle_step_ok : (o : Option ℕ) (flags : Text) (skip : ℕ) (h : Held) (faults : Text → ℕ → Held → Kinds) (passes : Text → ℕ → Held → Bool)
      → ((t : Text) (n : ℕ) (g : Held) → faults t n g ≡ [] → passes t n g ≡ true)
      → bundle_step_fault c again o flags skip h faults ≡ [] → bundle_step_passes c again o flags skip h passes ≡ true
  bundle_step_ok None flags skip h faults passes go e = refl
  bundle_step_ok (Some x) flags zero h faults passes go e = let bad = rw (no_short x) at e in absurd cc
  bundle_step_ok (Some x) flags (suc skip) h faults passes go e = go (drop (length (encode_utf8 x)) flags) skip h e

  flags_ok : (k : ℕ) (flags : Text) (skip : ℕ) (h : Held) → flags_fault c again k flags skip h ≡ [] → flags_pass c again k flags skip h ≡ true
  unfolding flags_fault flags_pass
  flags_ok zero flags skip h e = refl
  flags_ok (suc k) flags skip h e =
      bundle_step_ok (slice_get (chars flags) 0) flags skip h (flags_fault c again k) (flags_pass c again k) (λ t n g. flags_ok k t n g) e

  module _ (no_long : (name : Text) → arg_by_long c name ≡ None) where
    short_by : (h : Held) (o : Option Text) → option_map_or (λ flags. flags_fault c again (length flags) flags h.skip (record h { skip = 0 })) o [] ≡ []
        → option_map_or (λ flags. flags_pass c again (length flags) flags h.skip (record h { skip = 0 })) o true ≡ true
    short_by h None e = refl
    short_by h (Some flags) e = flags_ok (length flags) flags h.skip (record h { skip = 0 }) e

    flag_argument_ok : (o : Option (Text × Option Text)) (argument : Text) (h : Held) → flag_word_fault c again o argument h ≡ [] → flag_word_passes c again o argument h ≡ true
    flag_argument_ok (Some p) argument h e = let bad = rw (no_long p.0) at e in absurd cc
    flag_argument_ok None argument h e = short_by h (short_of argument) e

module _ (s : Shape) (no_short : (x : ℕ) → arg_by_short s.rules x ≡ None) (no_long : (name : Text) → arg_by_long s.rules name ≡ None) where
  other_ok : (argument : Text) (h : Held) → other_fault s None argument h ≡ [] → other_passes s None argument h ≡ true
  other_ok argument h e = by (bytes_eq argument (45 ∷ 45 ∷ [])) e
    where
      by : (b : Bool) → (if b then [] else flag_word_fault s.rules s.args_override_self (long_of argument) argument h) ≡ []
          → (b || flag_word_passes s.rules s.args_override_self (long_of argument) argument h) ≡ true
      by true e = refl
      by false e = flag_argument_ok s.rules s.args_override_self no_short no_long (long_of argument) argument h e

  argument_ok : (is_trailing : Bool) (waiting : Waiting) (argument : Text) (h : Held) → word_fault s [] is_trailing waiting argument h ≡ [] → word_passes s [] is_trailing waiting argument h ≡ true
  argument_ok true waiting argument h e = refl
  argument_ok false idle argument h e = other_ok argument h e
  argument_ok false (option t) argument h e = other_ok argument h e
  argument_ok false positional argument h e = other_ok argument h e

  positional_ok : (a : Rule) (h : Held) → positional_fault s.rules s.args_override_self a h ≡ [] → positional_passes s.rules s.args_override_self a h ≡ true
  positional_ok a h e = by (is_pending a h.pending && takes_several a) e
    where
      by : (b : Bool) → (if b then [] else settle_fault s.rules s.args_override_self h) ≡ [] → (b || settle_passes s.rules s.args_override_self h) ≡ true
      by true e = refl
      by false e = settle_ok s.rules s.args_override_self h e

  stray : (b : Bool) → (if b then ErrorKind.UnknownArgument ∷ [] else ErrorKind.UnknownArgument ∷ (ErrorKind.InvalidSubcommand ∷ [])) ≡ [] → ⊥
  stray true e = cc
  stray false e = cc

  step_ok : (position : ℕ) (h : Held) (step : Step) → step_fault s position h step ≡ [] → step_passes s position h step ≡ true
  step_ok position h (next w) e = refl
  step_ok position h (trailing n) e = refl
  step_ok position h (subcommand t) e = refl
  step_ok position h value e = by (arg_by_index s.rules position) e
    where
      by : (o : Option Rule) → option_map_or (λ a. positional_fault s.rules s.args_override_self a h) o (stray_fault s) ≡ []
          → option_map_or (λ a. positional_passes s.rules s.args_override_self a h) o false ≡ true
      by None e = absurd (stray s.is_leaf e)
      by (Some a) e = positional_ok a h e

  abbrev met_of : Walk → Text → Held × Step
  met_of w argument = word_met s.rules [] w.is_trailing w.waiting w.position argument w.held

  turn_ok : (w : Walk) (argument : Text) → turn_fault s [] w argument ≡ [] → turn_passes s [] w argument ≡ true
  turn_ok w argument e = by (is_some w.stopped) e
    where
      by : (b : Bool) → (if b then [] else or_else (word_fault s [] w.is_trailing w.waiting argument w.held) (step_fault s w.position (met_of w argument).0 (met_of w argument).1)) ≡ []
          → (b || (word_passes s [] w.is_trailing w.waiting argument w.held && step_passes s w.position (met_of w argument).0 (met_of w argument).1)) ≡ true
      by true e = refl
      by false e =
          let b = both_nil (word_fault s [] w.is_trailing w.waiting argument w.held) (step_fault s w.position (met_of w argument).0 (met_of w argument).1) e in
          and_true _ _ (argument_ok w.is_trailing w.waiting argument w.held b.0) (step_ok w.position (met_of w argument).0 (met_of w argument).1 b.1)

  walk_ok : (w : Walk) (arguments : List Text) → walk_fault s [] w arguments ≡ [] → walk_passes s [] w arguments ≡ true
  unfolding walk_fault walk_passes
  walk_ok w [] e = refl
  walk_ok w (argument ∷ rest) e =
      let b = both_nil (turn_fault s [] w argument) (walk_fault s [] (walked s.rules [] w argument) rest) e in
      and_true _ _ (turn_ok w argument b.0) (walk_ok (walked s.rules [] w argument) rest b.1)

-- ---- after the walk

required_ok : (rows : List Row) (rules : List Rule) → list_any (λ a. a.required && not (is_given a.id rows)) rules ≡ false → list_all (λ a. not a.required || is_given a.id rows) rules ≡ true
required_ok rows [] e = refl
required_ok rows (a ∷ rest) e = by a.required (is_given a.id rows) (list_any (λ r. r.required && not (is_given r.id rows)) rest) (required_ok rows rest) e
  where
    by : (needed given more : Bool) → (more ≡ false → list_all (λ r. not r.required || is_given r.id rows) rest ≡ true)
        → ((needed && not given) || more) ≡ false → ((not needed || given) && list_all (λ r. not r.required || is_given r.id rows) rest) ≡ true
    by true true more go e = go e
    by true false more go e = absurd cc
    by false given more go e = go e

checks_ok : (b : Bool) → (if b then ErrorKind.MissingRequiredArgument ∷ [] else []) ≡ [] → b ≡ false
checks_ok true e = absurd cc
checks_ok false e = refl

module _ (s : Shape) (no_short : (x : ℕ) → arg_by_short s.rules x ≡ None) (no_long : (name : Text) → arg_by_long s.rules name ≡ None)
    (defaults : list_all default_passes s.rules ≡ true) (frees : list_all (λ a. a.is_free) s.rules ≡ true)
    (no_help : s.arg_required_else_help ≡ false) (no_sub : s.subcommand_required ≡ false) (no_neg : s.subcommand_negates_reqs ≡ false) where
  valid_ok : (rows : List Row) → check_fault s rows false ≡ [] → is_valid s rows false ≡ true
  valid_ok rows e =
      let f = rw (no_help, no_sub, no_neg) at e in
      let all = required_ok rows s.rules (checks_ok _ f) in
      rw (no_help, no_sub, no_neg, frees) all

  pub level_ok : (arguments : List Text) → level_fault s [] nothing_held arguments false [] ≡ [] → level_passes s [] nothing_held arguments false ≡ true
  level_ok arguments e =
      let end = (walk s.rules [] nothing_held arguments).held in
      let a = both_nil (walk_fault s [] (walk_from nothing_held) arguments) _ e in
      let b = both_nil (settle_fault s.rules s.args_override_self end) _ a.1 in
      let d = both_nil (defaults_fault (settled s.rules end).rows s.rules) (check_fault s (finished s.rules end) false) b.1 in
      and_true _ _ (walk_ok s no_short no_long (walk_from nothing_held) arguments a.0)
      (and_true _ _ (settle_ok s.rules s.args_override_self end b.0) (and_true _ _ defaults (valid_ok (finished s.rules end) d.1)))

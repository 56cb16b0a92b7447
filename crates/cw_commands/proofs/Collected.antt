-- Values that are found one after the other.
use Rattle.std.proofs.Common.{◌≡◌, ℕ, ◌+◌, ◌<◌, List, [], ◌∷◌, ◌++◌, length, map, take, drop, get_or, Option, Some, None, Bool, true, false, refl, sym, ap, ap₂, ◌∙◌, append_assoc}
use Rattle.std.specs.Prelude.{option_map, if◌then◌else◌}
use Rattle.std.specs.Borrow.{Bor}
use Rattle.std.proofs.lemmas.List.{drop_more, map-append, take_more}
use Rattle.clap.specs.Words.{App, Row, Rule, Text, fault_of, first_of, matches_of, takes, with_rule}
use Rattle.cw_commands.specs.Lines.{line_app, taken, values, with_first, argument_rule}
use Rattle.cw_commands.proofs.Placed.{fits}

-- what was found before, and the rest behind it
abbrev pub behind : List Text → Option (List Text) → Option (List Text)
behind found rest = option_map (λ arguments. found ++ arguments) rest

-- one more
pub one_behind : (found : List Text) (argument : Text) (rest : Option (List Text)) → behind found (with_first (Some argument) rest) ≡ behind (found ++ (argument ∷ [])) rest
one_behind found argument None = refl
one_behind found argument (Some arguments) = ap Some (sym (append_assoc found (argument ∷ []) arguments))

line_more : (operands : List Text) (operand : Text) → with_rule (line_app operands) (argument_rule operand) ≡ line_app (operands ++ (operand ∷ []))
line_more operands operand = ap (λ rules. record (line_app operands) { top = record (line_app operands).top { rules = rules } }) (sym (map-append argument_rule operands (operand ∷ [])))

-- an operand, by its number
abbrev pub operand_at : List (Bor Text) → ℕ → Bor Text
operand_at operands k = get_or operands k (record { ref_ptr = (0, 0); now = [] })

-- a command line with one operand more
pub next_line : (operands : List (Bor Text)) (k : ℕ) (old new : App) (rule : Rule) → k < length operands
    → old ≡ line_app (map (λ operand. operand.now) (take k operands)) → rule ≡ argument_rule (operand_at operands k).now → new ≡ with_rule old rule
    → new ≡ line_app (map (λ operand. operand.now) (take (k + 1) operands))
next_line operands k old new rule lt is ruled e =
    let more = take_more operands k (record { ref_ptr = (0, 0); now = [] }) lt in
    e ∙ ap₂ with_rule is ruled ∙ line_more (map (λ operand. operand.now) (take k operands)) (operand_at operands k).now
    ∙ ap line_app (sym (ap (map (λ (operand : Bor Text). operand.now)) more ∙ map-append (λ (operand : Bor Text). operand.now) (take k operands) (operand_at operands k ∷ [])))

module _ (rows : List Row) (operands : List (Bor Text)) (k : ℕ) (lt : k < length operands) where
  abbrev rest : Option (List Text)
  rest = values (map (λ operand. operand.now) (drop (k + 1) operands)) rows

  left : values (map (λ operand. operand.now) (drop k operands)) rows ≡ with_first (first_of (operand_at operands k).now rows) rest
  left = ap (λ (xs : List (Bor Text)). values (map (λ operand. operand.now) xs) rows) (drop_more operands k (record { ref_ptr = (0, 0); now = [] }) lt)

  -- an operand that has no value
  pub none_found : (before : List Text) (all : Option (List Text)) → None ≡ first_of (operand_at operands k).now rows
      → all ≡ behind before (values (map (λ operand. operand.now) (drop k operands)) rows) → None ≡ all
  none_found before all none is = sym (is ∙ ap (behind before) (left ∙ ap (λ o. with_first o rest) (sym none)))

  -- an operand that has one
  pub one_found : (before after : List Text) (all : Option (List Text)) (argument : Text) → after ≡ before ++ (argument ∷ []) → Some argument ≡ first_of (operand_at operands k).now rows
      → all ≡ behind before (values (map (λ operand. operand.now) (drop k operands)) rows)
      → all ≡ behind after (values (map (λ operand. operand.now) (drop (k + 1) operands)) rows)
  one_found before after all argument grown some is =
      is ∙ ap (behind before) (left ∙ ap (λ o. with_first o rest) (sym some)) ∙ one_behind before argument rest ∙ ap (λ found. behind found rest) (sym grown)

-- what a parse that succeeds or fails tells
pub taken_is : (operands arguments : List Text) (rows : List Row) (found : Option (List Text)) → fault_of (line_app operands) arguments ≡ [] → rows ≡ matches_of (line_app operands) arguments
    → found ≡ values operands rows → found ≡ taken operands arguments
taken_is operands arguments rows found none is e =
    let fit = fits operands arguments none in
    rw fit (e ∙ ap (values operands) is)

pub none_taken : (operands arguments : List Text) → (takes (line_app operands) arguments ≡ true → ⊥) → None ≡ taken operands arguments
none_taken operands arguments never = by (takes (line_app operands) arguments) never
  where
    by : (b : Bool) → (b ≡ true → ⊥) → None ≡ (if b then values operands (matches_of (line_app operands) arguments) else None)
    by true never = absurd (never refl)
    by false never = refl

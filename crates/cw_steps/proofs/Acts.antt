-- A step's fields tell it.
use Rattle.std.proofs.Common.{◌≡◌, ◌⊎◌, ℕ, ◌^◌, ◌<◌, cond, List, [], ◌∷◌, length, get_or, Bool, true, false, None, refl, sym, ap, ap₂, ◌∙◌, inl, inr, arith}
use Rattle.std.specs.Prelude.{codes, bytes_eq}
use Rattle.std.specs.List.{All}
use Rattle.std.specs.Fmt.{decimal}
use Rattle.std.specs.Str.Parse.{digits_value}
use Rattle.std.proofs.lemmas.Fmt.{decimal_is_IsNumeral}
use Rattle.cw_certs.specs.declared.moves.Move.{Move}
use Rattle.cw_certs.specs.declared.moves.Move.TheVariants.{Skip, Try, Grant, Refuse, On, Left, Right, Opened, Failed, Stop}
use Rattle.cw_text.specs.Lines.{IsFree, Reads}
use Rattle.cw_text.proofs.Names.{move_of}
use Rattle.cw_text_lines.specs.Lines.{Tell, AreDecided}
use Rattle.cw_text_lines.proofs.Separated.{Separates, space, lf, name_free, number_free, move_free, one_free, more_free}
use Rattle.cw_text_lines.proofs.Telling.{fields_or_not, below_or_not, same_by, decided_by}
use Rattle.cw_steps.specs.declared.step.Step.{Step}
use Rattle.cw_steps.specs.Steps.{act_field, FitsAct, step_fields, FitsStep}
use Rattle.cw_text.proofs.SomeAnswer.{environments_or_not}

-- ---- fields without a separator

act_free : (separator : ℕ) → Separates separator → (fork : Bool) (by : Move) → FitsAct fork by → IsFree separator (act_field fork by)
act_free separator s true by fits = name_free separator s (codes "fork") refl
act_free separator s false by fits = move_free separator s by fits

step_free : (separator : ℕ) → Separates separator → (s : Step) → FitsStep s → All (IsFree separator) (step_fields s)
step_free separator separates s fits =
    more_free separator (decimal s.process) (act_field s.fork s.by ∷ []) (number_free separator separates s.process fits.process)
    (one_free separator (act_field s.fork s.by) (act_free separator separates s.fork s.by fits.act))

-- ---- a step from its fields

act_of : List ℕ → Bool × Move
act_of w = cond (bytes_eq w (codes "fork")) (true, On) (false, move_of w)

act_back : (fork : Bool) (by : Move) → FitsAct fork by → act_of (act_field fork by) ≡ (fork, by)
unfolding act_of move_of
act_back true by fits = ap (λ (m : Move). (true, m)) (sym fits)
act_back false Grant fits = refl
act_back false Refuse fits = refl
act_back false On fits = refl
act_back false Left fits = refl
act_back false Right fits = refl
act_back false Opened fits = refl
act_back false Failed fits = refl
act_back false Skip fits = absurd fits
act_back false Try fits = absurd fits
act_back false Stop fits = absurd fits

step_of : List (List ℕ) → Step
step_of fields = let act = act_of (get_or fields 1 []) in record { process = digits_value 10 (get_or fields 0 []); fork = act.0; by = act.1 }

step_back : (s : Step) → FitsStep s → step_of (step_fields s) ≡ s
unfolding step_of
step_back s fits = ap₂ (λ (n : ℕ) (act : Bool × Move). record { process = n; fork = act.0; by = act.1 })
    (decimal_is_IsNumeral s.process (let small = fits.process in omega (arith, small))).1 (act_back s.fork s.by fits.act)

-- ---- whether a step fits

act_or_not : (fork : Bool) (by : Move) → FitsAct fork by ⊎ (FitsAct fork by → ⊥)
act_or_not true by = go by
  where
    go : (by : Move) → FitsAct true by ⊎ (FitsAct true by → ⊥)
    go On = inl refl
    go Skip = inr (λ e. absurd (cc))
    go Try = inr (λ e. absurd (cc))
    go Grant = inr (λ e. absurd (cc))
    go Refuse = inr (λ e. absurd (cc))
    go Left = inr (λ e. absurd (cc))
    go Right = inr (λ e. absurd (cc))
    go Opened = inr (λ e. absurd (cc))
    go Failed = inr (λ e. absurd (cc))
    go Stop = inr (λ e. absurd (cc))
act_or_not false by = environments_or_not by

step_or_not : (s : Step) → FitsStep s ⊎ (FitsStep s → ⊥)
step_or_not s = go (below_or_not s.process (2 ^ 32)) (act_or_not s.fork s.by)
  where
    go : (s.process < 2 ^ 32) ⊎ (s.process < 2 ^ 32 → ⊥) → FitsAct s.fork s.by ⊎ (FitsAct s.fork s.by → ⊥) → FitsStep s ⊎ (FitsStep s → ⊥)
    go (inl small) (inl act) = inl (record { process = small; act = act })
    go (inr large) act = inr (λ f. large f.process)
    go (inl small) (inr never) = inr (λ f. never f.act)

pub tell : Tell FitsStep step_fields
tell = record {
  some = λ s e. omega (arith, ap length e);
  spaceless = step_free 32 space;
  one_line = step_free 10 lf;
  same = same_by FitsStep step_fields step_of step_back;
}

pub decided : AreDecided FitsStep step_fields
decided = decided_by FitsStep step_fields step_of step_back fields_or_not step_or_not

-- a second field that says no act
pub no_act : (fields later rest : List (List ℕ)) (process : ℕ) (field : List ℕ) → fields ≡ decimal process ∷ later → later ≡ field ∷ rest
    → Reads (λ (act : Bool × Move). FitsAct act.0 act.1) (λ act. act_field act.0 act.1) field None → Reads FitsStep step_fields fields None
no_act fields later rest process field e h reads = record {
  some = tt;
  none = λ s fits is. reads.none (s.fork, s.by) fits.act (ap (λ (ws : List (List ℕ)). get_or ws 1 []) (is ∙ e ∙ ap (λ ws. decimal process ∷ ws) h));
}

-- A text read line by line.
use Rattle.std.proofs.Common.{◌≡◌, ◌≢◌, ℕ, suc, ◌+◌, ◌-◌, ◌^◌, ◌<◌, ◌≤◌, ℤ, List, [], ◌∷◌, ◌++◌, length, map, Bool, true, false, Some, None, refl, sym, ap, ◌∙◌, subst, arith, append-nil}
use Rattle.std.proofs.Common.{length-append}
use Rattle.std.specs.Prelude.{slice_get}
use Rattle.std.specs.Global.{Vec}
use Rattle.std.specs.List.{All}
use Rattle.std.specs.List.Sorted.{IsStrictlySortedBy}
use Rattle.std.proofs.lemmas.Bool.{false≢true}
use Rattle.std.proofs.lemmas.Option.{none-some, same_Some}
use Rattle.std.proofs.lemmas.List.{map-append, length-map}
use Rattle.std.proofs.lemmas.List.Elements.{All-nil, All-cons, All-head, All-tail, All-push, All-append}
use Rattle.cw_certs.specs.declared.moves.Move.{Move}
use Rattle.cw_text_lines.specs.Lines.{whole_line, whole_lines, StartsWith}
use Rattle.cw_text_lines.proofs.Starts.{one_start}
use Rattle.cw_text_lines.proofs.Fronts.{line_more, lines_behind, lines_short, next_fits}
use Rattle.cw_value.specs.Shown.{Answers, IsAnswer, AreInOrder}
use Rattle.cw_answers.specs.AnswerLines.{AnswerLine, Head, Name, Try, Call, End, line_fields, FitsLine}
use Rattle.cw_answers.specs.AnswersText.{name_line, lines_of, Fits, Spells}
use Rattle.cw_answers.specs.Faults.{AreAnswers, IsFault}
use Rattle.cw_answers.specs.Reading.{name_of, by_name, is_behind, last_of, NoName, NoTry, NoCall}
use Rattle.cw_answers.proofs.Fields.{tell}
use Rattle.cw_answers.proofs.Stages.{Names, body, lines-body, lines_fit, may_follow, nothing_follows, begins_so, not_whole, not_empty, body_front, whole_front, empty_front, sorted_push, stage_of}
use Rattle.cw_answers.proofs.Stages.{after, lost, stage_in, head_never}

abbrev NameData : Type 0
NameData = Vec ℕ × ℤ

abbrev Lines : List AnswerLine → List ℕ
Lines ls = whole_lines line_fields ls

-- ---- the last of the names that were read

pub last_is : (names : List NameData) (n : NameData) → slice_get names (length names - 1) ≡ Some n → last_of None (map name_of names) ≡ Some n.0.items
last_is [] n e = absurd (none-some n e)
last_is (m ∷ []) n e = ap (λ (x : NameData). Some x.0.items) (same_Some m n e)
last_is (m ∷ k ∷ names) n e =
    let long : length (m ∷ k ∷ names) - 1 ≡ suc (length names) = omega arith in
    let short : length (k ∷ names) - 1 ≡ length names = omega arith in
    last_is (k ∷ names) n (ap (slice_get (k ∷ names)) short ∙ sym (ap (slice_get (m ∷ k ∷ names)) long) ∙ e)

-- ---- names

names_push : (old new : List NameData) (n : NameData) → new ≡ old ++ n ∷ [] → map name_of new ≡ map name_of old ++ name_of n ∷ []
names_push old new n e = ap (map name_of) e ∙ map-append name_of old (n ∷ [])

lines_push : (old new : List NameData) (n : NameData) → new ≡ old ++ n ∷ [] → map name_line (map name_of new) ≡ map name_line (map name_of old) ++ name_line (name_of n) ∷ []
lines_push old new n e = ap (map name_line) (names_push old new n e) ∙ map-append name_line (map name_of old) (name_of n ∷ [])

pub names_more : (text rest more : List ℕ) (old new : List NameData) (n : NameData) (name : List ℕ) (value : ℤ) → new ≡ old ++ n ∷ [] → n.0.items ≡ name → n.1 ≡ value
    → text ≡ Lines (map name_line (map name_of old)) ++ rest
    → StartsWith FitsLine line_fields rest (Name name value) more → text ≡ Lines (map name_line (map name_of new)) ++ more
names_more text rest more old new n name value e is same h s =
    let there = subst (λ x. StartsWith FitsLine line_fields rest (Name x n.1) more) (sym is) (subst (λ z. StartsWith FitsLine line_fields rest (Name name z) more) (sym same) s) in
    line_more FitsLine line_fields tell text rest more (map name_line (map name_of old)) (name_line (name_of n)) h there ∙ ap (λ ls. Lines ls ++ more) (sym (lines_push old new n e))

pub names_fit : (old new : List NameData) (n : NameData) (name : List ℕ) (value : ℤ) → new ≡ old ++ n ∷ [] → n.0.items ≡ name → n.1 ≡ value → All FitsLine (map name_line (map name_of old))
    → FitsLine (Name name value)
    → All FitsLine (map name_line (map name_of new))
names_fit old new n name value e is same h f =
    subst (All FitsLine) (sym (lines_push old new n e)) (All-push FitsLine (map name_line (map name_of old)) (name_line (name_of n)) h
    (subst (λ x. FitsLine (Name x n.1)) (sym is) (subst (λ z. FitsLine (Name name z)) (sym same) f)))

pub names_ascend : (old new : List NameData) (n : NameData) (name : List ℕ) → new ≡ old ++ n ∷ [] → n.0.items ≡ name → IsStrictlySortedBy by_name (map name_of old)
    → is_behind (last_of None (map name_of old)) name ≡ true
    → IsStrictlySortedBy by_name (map name_of new)
names_ascend old new n name e is h b =
    subst (IsStrictlySortedBy by_name) (sym (names_push old new n e)) (sorted_push (map name_of old) (name_of n) h (ap (is_behind (last_of None (map name_of old))) is ∙ b))

pub no_name : (names : Names) (text rest : List ℕ) (name : List ℕ) (value : ℤ) → StartsWith FitsLine line_fields text (Name name value) rest → is_behind (last_of None names) name ≡ false
    → NoName names text
no_name names text rest name value s never other z more b t =
    false≢true (sym never ∙ ap (is_behind (last_of None names)) (ap name_in (one_start FitsLine line_fields tell text rest more (Name name value) (Name other z) s t).0) ∙ b)
  where
    name_in : AnswerLine → List ℕ
    name_in (Name n v) = n
    name_in Head = []
    name_in (Try by) = []
    name_in (Call v) = []
    name_in End = []

-- ---- the whole text

answers_in : (ts : List Move) → All FitsLine (map Try ts) → All IsAnswer ts
answers_in [] all = All-nil IsAnswer
answers_in (t ∷ ts) all = All-cons IsAnswer t ts (All-head FitsLine (Try t) (map Try ts) all) (answers_in ts (All-tail FitsLine (Try t) (map Try ts) all))

pub no_head : (text : List ℕ) → ((more : List ℕ) → StartsWith FitsLine line_fields text Head more → ⊥) → IsFault text 1
no_head text none = record {
  before = [];
  rest = text;
  front = empty_front;
  stands = refl;
  counted = refl;
  other = λ next more front e.
      let head = begins_so next front in
      none more (record { fits = tt; spelled = e ∙ ap (λ l. whole_line line_fields l ++ more) head });
  goes_on = λ w. absurd (not_empty w);
}

module _ (text first second third last : List ℕ) (names : Names) (tries : List Move) (calls : List ℤ) (head : StartsWith FitsLine line_fields text Head first)
    (named : first ≡ Lines (map name_line names) ++ second) (names_fit : All FitsLine (map name_line names)) (ascend : IsStrictlySortedBy by_name names)
    (tried : second ≡ Lines (map Try tries) ++ third) (tries_fit : All FitsLine (map Try tries)) (called : third ≡ Lines (map Call calls) ++ last) (calls_fit : All FitsLine (map Call calls)) where
  abbrev the_answers : Answers
  the_answers = record { names = names; tries = tries; calls = calls }

  begun : text ≡ Lines (body the_answers) ++ last
  begun =
      lines_behind FitsLine line_fields tell text first last (Head ∷ []) (map name_line names ++ (map Try tries ++ map Call calls))
      (head.spelled ∙ ap (λ t. t ++ first) (sym (append-nil (whole_line line_fields Head))))
      (lines_behind FitsLine line_fields tell first second last (map name_line names) (map Try tries ++ map Call calls) named
      (lines_behind FitsLine line_fields tell second third last (map Try tries) (map Call calls) tried called))

  pub in_order : AreInOrder the_answers
  in_order = record { ascend = ascend; answer = answers_in tries tries_fit }

  fits : Fits the_answers
  fits = record {
    in_order = in_order;
    lines = All-cons FitsLine Head (map name_line names ++ (map Try tries ++ (map Call calls ++ End ∷ []))) tt
        (All-append FitsLine (map name_line names) (map Try tries ++ (map Call calls ++ End ∷ [])) names_fit
        (All-append FitsLine (map Try tries) (map Call calls ++ End ∷ []) tries_fit (All-push FitsLine (map Call calls) End calls_fit tt)));
  }

  many : length (body the_answers) ≡ length names + length tries + length calls + 1
  many =
      let a = length-append (map name_line names) (map Try tries ++ map Call calls) in
      let b = length-append (map Try tries) (map Call calls) in
      let d = length-map names name_line in
      let e = length-map tries Try in
      let f = length-map calls Call in
      omega (arith, a, b, d, e, f)

  pub few : length text ≤ 33554432 → length names + length tries + length calls + 3 < 2 ^ 32
  few small = let a = lines_short FitsLine line_fields tell (body the_answers) last in let b = ap length begun in let d = many in omega (arith, small, a, b, d)

  pub spelled_end : (rest : List ℕ) → StartsWith FitsLine line_fields last End rest → rest ≡ [] → Spells text the_answers
  spelled_end rest s e = record {
    fits = fits;
    spelled =
        line_more FitsLine line_fields tell text last rest (body the_answers) End begun s
        ∙ ap (λ t. Lines (body the_answers ++ End ∷ []) ++ t) e ∙ append-nil (Lines (body the_answers ++ End ∷ [])) ∙ ap Lines (sym (lines-body the_answers));
  }

  pub fault_end : (rest : List ℕ) → StartsWith FitsLine line_fields last End rest → rest ≢ [] → IsFault text (length names + length tries + length calls + 3)
  fault_end rest s some = record {
    before = lines_of the_answers;
    rest = rest;
    front = whole_front the_answers fits;
    stands = line_more FitsLine line_fields tell text last rest (body the_answers) End begun s ∙ ap (λ ls. Lines ls ++ rest) (sym (lines-body the_answers));
    counted = let a = many in let b = ap length (lines-body the_answers) ∙ length-append (body the_answers) (End ∷ []) in omega (arith, a, b);
    other = λ next more front e. nothing_follows the_answers in_order next front;
    goes_on = λ w. some;
  }

  -- no line that may follow does
  follows_none : NoName names second → NoTry third → NoCall last → ((more : List ℕ) → StartsWith FitsLine line_fields last End more → ⊥) → (next : AnswerLine) (more : List ℕ)
      → after (stage_of the_answers) next ≢ lost → StartsWith FitsLine line_fields last next more → ⊥
  follows_none not_named not_tried not_called over next more may s = by names tries calls next tried called may not_named s
    where
      named_next : (ns : Names) (n : List ℕ) (v : ℤ) (t : Bool) → is_behind (last_of None ns) n ≡ t → after (stage_in (last_of None ns) [] []) (Name n v) ≢ lost → NoName ns last
          → StartsWith FitsLine line_fields last (Name n v) more → ⊥
      named_next ns n v true is may none s = none n v more is s
      named_next ns n v false is may none s = may (rw is refl)

      by : (ns : Names) (ts : List Move) (cs : List ℤ) (next : AnswerLine) → second ≡ Lines (map Try ts) ++ third → third ≡ Lines (map Call cs) ++ last
          → after (stage_in (last_of None ns) ts cs) next ≢ lost
          → NoName ns second → StartsWith FitsLine line_fields last next more → ⊥
      by ns ts cs Head t c may none s = may (head_never (last_of None ns) ts cs)
      by ns ts cs End t c may none s = over more s
      by ns ts cs (Call v) t c may none s = not_called v more s
      by ns ts [] (Try m) t c may none s = not_tried m more (subst (λ r. StartsWith FitsLine line_fields r (Try m) more) (sym c) s)
      by ns ts (k ∷ cs) (Try m) t c may none s = may refl
      by ns [] [] (Name n v) t c may none s = named_next ns n v (is_behind (last_of None ns) n) refl may (subst (NoName ns) (t ∙ c) none) s
      by ns (m ∷ ts) [] (Name n v) t c may none s = may refl
      by ns ts (k ∷ cs) (Name n v) t c may none s = may refl

  pub fault_line : NoName names second → NoTry third → NoCall last → ((more : List ℕ) → StartsWith FitsLine line_fields last End more → ⊥)
      → IsFault text (length names + length tries + length calls + 2)
  fault_line not_named not_tried not_called over = record {
    before = body the_answers;
    rest = last;
    front = body_front the_answers fits;
    stands = begun;
    counted = let a = many in omega (arith, a);
    other = λ next more front e. follows_none not_named not_tried not_called over next more (may_follow the_answers in_order next front)
        (record { fits = next_fits FitsLine line_fields tell AreAnswers lines_fit (body the_answers) next front; spelled = e });
    goes_on = λ w. absurd (not_whole the_answers in_order w);
  }

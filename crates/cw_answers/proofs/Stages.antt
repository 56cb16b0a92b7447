-- Which lines may come next, by what came before.
use Rattle.std.proofs.Common.{◌≡◌, ◌≢◌, ◌⊎◌, ℕ, cond, ℤ, List, [], ◌∷◌, ◌++◌, map, length, Bool, true, false, Option, Some, None, refl, sym, ap, ◌∙◌, subst, inl, inr, arith, append_assoc, append-nil}
use Rattle.std.specs.Cmp.{IsTotalOrder}
use Rattle.std.specs.Cmp.Lexicographic.{on_texts}
use Rattle.std.specs.List.{All}
use Rattle.std.specs.List.Sorted.{IsStrictlySortedBy}
use Rattle.std.specs.Ordering.{is_lt}
use Rattle.std.specs.declared.cmp.Ordering.TheVariants.{Less}
use Rattle.std.proofs.lemmas.List.{map-append}
use Rattle.std.proofs.lemmas.List.Elements.{All-nil, All-cons, All-head, All-tail, All-push}
use Rattle.cw_lemmas.proofs.Lists.{all_push}
use Rattle.cw_lemmas.proofs.Orders.{lt_less}
use Rattle.cw_certs.specs.declared.moves.Move.{Move}
use Rattle.cw_text_lines.specs.Lines.{IsFront}
use Rattle.cw_text_lines.proofs.Fronts.{front_fits}
use Rattle.cw_value.specs.Shown.{Answers, IsAnswer, AreInOrder}
use Rattle.cw_answers.specs.AnswerLines.{AnswerLine, Head, Name, Try, Call, End, line_fields, FitsLine}
use Rattle.cw_answers.specs.AnswersText.{name_line, lines_of, Fits}
use Rattle.cw_answers.specs.Faults.{AreAnswers}
use Rattle.cw_answers.specs.Reading.{by_name, is_behind, last_of}
use Rattle.cw_answers.proofs.Fields.{tell}

-- ---- names that ascend

abbrev pub Names : Type 0
Names = List (List ℕ × ℤ)

order : IsTotalOrder by_name
order = on_texts (λ p. p.0)

below_new : (x : List ℕ × ℤ) (ns : Names) (r : List ℕ × ℤ) → IsStrictlySortedBy by_name (x ∷ ns) → is_behind (last_of (Some x.0) ns) r.0 ≡ true → by_name x r ≡ Less
unfolding IsStrictlySortedBy
below_new x [] r s b = lt_less (by_name x r) b
below_new x (y ∷ ns) r s b = order.trans x y r s.0.0 (below_new y ns r s.1 b)

pub sorted_push : (ns : Names) (r : List ℕ × ℤ) → IsStrictlySortedBy by_name ns → is_behind (last_of None ns) r.0 ≡ true → IsStrictlySortedBy by_name (ns ++ r ∷ [])
unfolding IsStrictlySortedBy
sorted_push [] r s b = (tt, tt)
sorted_push (x ∷ []) r s b = ((lt_less (by_name x r) b, tt), (tt, tt))
sorted_push (x ∷ y ∷ ns) r s b = (all_push (λ z. by_name x z ≡ Less) (y ∷ ns) r s.0 (below_new x (y ∷ ns) r s b), sorted_push (y ∷ ns) r s.1 b)

-- ---- stages of a text

pub data Stage : Type 0 where
  begins : Stage
  named : Option (List ℕ) → Stage
  tried : Stage
  called : Stage
  over : Stage
  lost : Stage

abbrev pub after : Stage → AnswerLine → Stage
after begins Head = named None
after begins (Name n v) = lost
after begins (Try by) = lost
after begins (Call v) = lost
after begins End = lost
after (named last) Head = lost
after (named last) (Name n v) = cond (is_behind last n) (named (Some n)) lost
after (named last) (Try by) = tried
after (named last) (Call v) = called
after (named last) End = over
after tried Head = lost
after tried (Name n v) = lost
after tried (Try by) = tried
after tried (Call v) = called
after tried End = over
after called Head = lost
after called (Name n v) = lost
after called (Try by) = lost
after called (Call v) = called
after called End = over
after over l = lost
after lost l = lost

abbrev run : Stage → List AnswerLine → Stage
run s [] = s
run s (l ∷ ls) = run (after s l) ls

run-append : (s : Stage) (xs ys : List AnswerLine) → run s (xs ++ ys) ≡ run (run s xs) ys
run-append s [] ys = refl
run-append s (x ∷ xs) ys = run-append (after s x) xs ys

lost_stays : (ls : List AnswerLine) → run lost ls ≡ lost
lost_stays [] = refl
lost_stays (l ∷ ls) = lost_stays ls

code_of : Stage → ℕ
code_of lost = 0
code_of over = 1
code_of begins = 2
code_of (named last) = 3
code_of tried = 4
code_of called = 5

lost_or_not : (s : Stage) → (s ≡ lost) ⊎ (s ≢ lost)
unfolding code_of
lost_or_not lost = inl refl
lost_or_not over = inr (λ e. omega (arith, ap code_of e))
lost_or_not begins = inr (λ e. omega (arith, ap code_of e))
lost_or_not (named last) = inr (λ e. omega (arith, ap code_of e))
lost_or_not tried = inr (λ e. omega (arith, ap code_of e))
lost_or_not called = inr (λ e. omega (arith, ap code_of e))

over_lost : over ≡ lost → ⊥
unfolding code_of
over_lost e = omega (arith, ap code_of e)

-- ---- the stage behind answers without their end

abbrev pub body : Answers → List AnswerLine
body a = Head ∷ (map name_line a.names ++ (map Try a.tries ++ map Call a.calls))

abbrev pub by_tries : Stage → List Move → Stage
by_tries s [] = s
by_tries s (t ∷ ts) = tried

abbrev pub by_calls : Stage → List ℤ → Stage
by_calls s [] = s
by_calls s (c ∷ cs) = called

abbrev pub stage_in : Option (List ℕ) → List Move → List ℤ → Stage
stage_in last ts cs = by_calls (by_tries (named last) ts) cs

abbrev pub stage_of : Answers → Stage
stage_of a = stage_in (last_of None a.names) a.tries a.calls

abbrev FirstBehind : Option (List ℕ) → Names → Type 0
FirstBehind last [] = Unit {0}
FirstBehind last (n ∷ ns) = is_behind last n.0 ≡ true

next_behind : (n : List ℕ × ℤ) (ns : Names) → IsStrictlySortedBy by_name (n ∷ ns) → FirstBehind (Some n.0) ns
unfolding IsStrictlySortedBy
next_behind n [] s = tt
next_behind n (m ∷ ns) s = ap is_lt s.0.0

names_run : (last : Option (List ℕ)) (ns : Names) (rest : List AnswerLine) → IsStrictlySortedBy by_name ns → FirstBehind last ns
    → run (named last) (map name_line ns ++ rest) ≡ run (named (last_of last ns)) rest
unfolding IsStrictlySortedBy
names_run last [] rest s b = refl
names_run last (n ∷ ns) rest s b = ap (λ t. run (cond t (named (Some n.0)) lost) (map name_line ns ++ rest)) b ∙ names_run (Some n.0) ns rest s.1 (next_behind n ns s)

tried_run : (ts : List Move) (rest : List AnswerLine) → run tried (map Try ts ++ rest) ≡ run tried rest
tried_run [] rest = refl
tried_run (t ∷ ts) rest = tried_run ts rest

tries_run : (last : Option (List ℕ)) (ts : List Move) (rest : List AnswerLine) → run (named last) (map Try ts ++ rest) ≡ run (by_tries (named last) ts) rest
tries_run last [] rest = refl
tries_run last (t ∷ ts) rest = tried_run ts rest

called_run : (cs : List ℤ) → run called (map Call cs) ≡ called
called_run [] = refl
called_run (c ∷ cs) = called_run cs

calls_run : (last : Option (List ℕ)) (ts : List Move) (cs : List ℤ) → run (by_tries (named last) ts) (map Call cs) ≡ stage_in last ts cs
calls_run last ts [] = refl
calls_run last [] (c ∷ cs) = called_run cs
calls_run last (t ∷ ts) (c ∷ cs) = called_run cs

body_run : (a : Answers) → AreInOrder a → run begins (body a) ≡ stage_of a
body_run a h =
    names_run None a.names (map Try a.tries ++ map Call a.calls) h.ascend (first a.names) ∙ tries_run (last_of None a.names) a.tries (map Call a.calls)
    ∙ calls_run (last_of None a.names) a.tries a.calls
  where
    first : (ns : Names) → FirstBehind None ns
    first [] = tt
    first (n ∷ ns) = refl

end_next : (last : Option (List ℕ)) (ts : List Move) (cs : List ℤ) → after (stage_in last ts cs) End ≡ over
end_next last [] [] = refl
end_next last (t ∷ ts) [] = refl
end_next last ts (c ∷ cs) = refl

not_over : (last : Option (List ℕ)) (ts : List Move) (cs : List ℤ) → stage_in last ts cs ≢ over
unfolding code_of
not_over last [] [] e = omega (arith, ap code_of e)
not_over last (t ∷ ts) [] e = omega (arith, ap code_of e)
not_over last ts (c ∷ cs) e = omega (arith, ap code_of e)

pub lines-body : (a : Answers) → lines_of a ≡ body a ++ End ∷ []
lines-body a =
    ap (λ ls. Head ∷ (map name_line a.names ++ ls)) (sym (append_assoc (map Try a.tries) (map Call a.calls) (End ∷ [])))
    ∙ ap (λ ls. Head ∷ ls) (sym (append_assoc (map name_line a.names) (map Try a.tries ++ map Call a.calls) (End ∷ [])))

whole_run : (a : Answers) → AreInOrder a → run begins (lines_of a) ≡ over
whole_run a h =
    ap (run begins) (lines-body a) ∙ run-append begins (body a) (End ∷ []) ∙ ap (λ s. after s End) (body_run a h) ∙ end_next (last_of None a.names) a.tries a.calls

-- ---- fronts are never lost

front_run : (before : List AnswerLine) → IsFront AreAnswers before → run begins before ≢ lost
front_run before h is =
    let a = h.1.0 in
    over_lost (sym (whole_run a h.1.1.in_order) ∙ ap (run begins) (sym h.1.2) ∙ run-append begins before h.0 ∙ ap (λ s. run s h.0) is ∙ lost_stays h.0)

pub may_follow : (a : Answers) → AreInOrder a → (next : AnswerLine) → IsFront AreAnswers (body a ++ next ∷ []) → after (stage_of a) next ≢ lost
may_follow a h next front is = front_run (body a ++ next ∷ []) front (run-append begins (body a) (next ∷ []) ∙ ap (λ s. after s next) (body_run a h) ∙ is)

pub nothing_follows : (a : Answers) → AreInOrder a → (next : AnswerLine) → IsFront AreAnswers (lines_of a ++ next ∷ []) → ⊥
nothing_follows a h next front = front_run (lines_of a ++ next ∷ []) front (run-append begins (lines_of a) (next ∷ []) ∙ ap (λ s. after s next) (whole_run a h))

pub begins_so : (next : AnswerLine) → IsFront AreAnswers (next ∷ []) → next ≡ Head
begins_so Head front = refl
begins_so (Name n v) front = absurd (front_run (Name n v ∷ []) front refl)
begins_so (Try by) front = absurd (front_run (Try by ∷ []) front refl)
begins_so (Call v) front = absurd (front_run (Call v ∷ []) front refl)
begins_so End front = absurd (front_run (End ∷ []) front refl)

pub not_whole : (a : Answers) → AreInOrder a → AreAnswers (body a) → ⊥
not_whole a h w = not_over (last_of None a.names) a.tries a.calls (sym (body_run a h) ∙ ap (run begins) w.2 ∙ whole_run w.0 w.1.in_order)

pub not_empty : AreAnswers [] → ⊥
not_empty w = omega (arith, ap length w.2)

-- ---- what may follow, by cases

-- the answers with one line more
record Longer (a : Answers) (next : AnswerLine) (b : Answers) : Type 0 where
  fits : Fits b
  lines : body b ≡ body a ++ next ∷ []
  stage : stage_of b ≡ after (stage_of a) next

last-push : (last : Option (List ℕ)) (ns : Names) (n : List ℕ × ℤ) → last_of last (ns ++ n ∷ []) ≡ Some n.0
last-push last [] n = refl
last-push last (m ∷ ns) n = last-push (Some m.0) ns n

longer_fits : (a : Answers) → Fits a → (next : AnswerLine) → FitsLine next → (b : Answers) → AreInOrder b → body b ≡ body a ++ next ∷ [] → Fits b
longer_fits a fits next f b h e = record {
  in_order = h;
  lines =
      subst (All FitsLine) (sym (lines-body b ∙ ap (λ ls. ls ++ End ∷ []) e))
      (All-push FitsLine (body a ++ next ∷ []) End (All-push FitsLine (body a) next (front (body a) (subst (All FitsLine) (lines-body a) fits.lines)) f) tt);
}
  where
    front : (ls : List AnswerLine) → All FitsLine (ls ++ End ∷ []) → All FitsLine ls
    front [] all = All-nil FitsLine
    front (l ∷ ls) all = All-cons FitsLine l ls (All-head FitsLine l (ls ++ End ∷ []) all) (front ls (All-tail FitsLine l (ls ++ End ∷ []) all))

abbrev Next : Answers → AnswerLine → Type 0
Next a next = (next ≡ End) ⊎ ((b : Answers) × Longer a next b)

abbrev with_call : Answers → ℤ → Answers
with_call a v = record { names = a.names; tries = a.tries; calls = a.calls ++ v ∷ [] }

abbrev up_to_tries : Names → List Move → Answers
up_to_tries names ts = record { names = names; tries = ts; calls = [] }

call_more : (a : Answers) → Fits a → (v : ℤ) → FitsLine (Call v) → Next a (Call v)
call_more a fits v f =
    inr (
      with_call a v,
      record {
        fits = longer_fits a fits (Call v) f (with_call a v) (record { ascend = fits.in_order.ascend; answer = fits.in_order.answer }) lines;
        lines = lines;
        stage = stage a.tries a.calls;
      },
    )
  where
    lines : body (with_call a v) ≡ body a ++ Call v ∷ []
    lines =
        ap (λ ls. Head ∷ (map name_line a.names ++ (map Try a.tries ++ ls))) (map-append Call a.calls (v ∷ []))
        ∙ ap (λ ls. Head ∷ (map name_line a.names ++ ls)) (sym (append_assoc (map Try a.tries) (map Call a.calls) (Call v ∷ [])))
        ∙ ap (λ ls. Head ∷ ls) (sym (append_assoc (map name_line a.names) (map Try a.tries ++ map Call a.calls) (Call v ∷ [])))

    stage : (ts : List Move) (cs : List ℤ) → stage_in (last_of None a.names) ts (cs ++ v ∷ []) ≡ after (stage_in (last_of None a.names) ts cs) (Call v)
    stage [] [] = refl
    stage (t ∷ ts) [] = refl
    stage ts (c ∷ cs) = refl

try_more : (names : Names) (ts : List Move) (cs : List ℤ) → Fits (record { names = names; tries = ts; calls = cs }) → (by : Move) → FitsLine (Try by)
    → after (stage_in (last_of None names) ts cs) (Try by) ≢ lost
    → Next (record { names = names; tries = ts; calls = cs }) (Try by)
try_more names ts (c ∷ cs) fits by f may = absurd (may refl)
try_more names ts [] fits by f may = inr (
  up_to_tries names (ts ++ by ∷ []),
  record {
    fits =
        longer_fits (up_to_tries names ts) fits (Try by) f (up_to_tries names (ts ++ by ∷ []))
        (record { ascend = fits.in_order.ascend; answer = All-push IsAnswer ts by fits.in_order.answer f }) lines;
    lines = lines;
    stage = stage ts;
  },
)
  where
    lines : body (up_to_tries names (ts ++ by ∷ [])) ≡ body (up_to_tries names ts) ++ Try by ∷ []
    lines =
        ap (λ ls. Head ∷ (map name_line names ++ ls)) (append-nil (map Try (ts ++ by ∷ [])) ∙ map-append Try ts (by ∷ []) ∙ ap (λ ls. ls ++ Try by ∷ []) (sym (append-nil (map Try ts))))
        ∙ ap (λ ls. Head ∷ ls) (sym (append_assoc (map name_line names) (map Try ts ++ []) (Try by ∷ [])))

    stage : (ts : List Move) → stage_in (last_of None names) (ts ++ by ∷ []) [] ≡ after (stage_in (last_of None names) ts []) (Try by)
    stage [] = refl
    stage (t ∷ ts) = refl

name_more : (names : Names) (ts : List Move) (cs : List ℤ) → Fits (record { names = names; tries = ts; calls = cs }) → (n : List ℕ) (v : ℤ) → FitsLine (Name n v)
    → after (stage_in (last_of None names) ts cs) (Name n v) ≢ lost → Next (record { names = names; tries = ts; calls = cs }) (Name n v)
name_more names ts (c ∷ cs) fits n v f may = absurd (may refl)
name_more names (t ∷ ts) [] fits n v f may = absurd (may refl)
name_more names [] [] fits n v f may = by (is_behind (last_of None names) n) refl
  where
    lines : body (up_to_tries (names ++ (n, v) ∷ []) []) ≡ body (up_to_tries names []) ++ Name n v ∷ []
    lines =
        ap (λ ls. Head ∷ ls) (append-nil (map name_line (names ++ (n, v) ∷ [])) ∙ map-append name_line names ((n, v) ∷ []) ∙ ap (λ ls. ls ++ Name n v ∷ []) (sym (append-nil (map name_line names))))

    by : (t : Bool) → is_behind (last_of None names) n ≡ t → Next (up_to_tries names []) (Name n v)
    by false is = absurd (may (ap (λ t. cond t (named (Some n)) lost) is))
    by true is = inr (
      up_to_tries (names ++ (n, v) ∷ []) [],
      record {
        fits =
            longer_fits (up_to_tries names []) fits (Name n v) f (up_to_tries (names ++ (n, v) ∷ []) [])
            (record { ascend = sorted_push names (n, v) fits.in_order.ascend is; answer = fits.in_order.answer }) lines;
        lines = lines;
        stage = ap (λ l. named l) (last-push None names (n, v)) ∙ sym (ap (λ t. cond t (named (Some n)) lost) is);
      },
    )

-- no head may follow
pub head_never : (last : Option (List ℕ)) (ts : List Move) (cs : List ℤ) → after (stage_in last ts cs) Head ≡ lost
head_never last [] [] = refl
head_never last (t ∷ ts) [] = refl
head_never last ts (c ∷ cs) = refl

follows : (a : Answers) → Fits a → (next : AnswerLine) → FitsLine next → after (stage_of a) next ≢ lost → Next a next
follows a fits Head f may = absurd (may (head_never (last_of None a.names) a.tries a.calls))
follows a fits (Name n v) f may = name_more a.names a.tries a.calls fits n v f may
follows a fits (Try by) f may = try_more a.names a.tries a.calls fits by f may
follows a fits (Call v) f may = call_more a fits v f
follows a fits End f may = inl refl

-- ---- the shape of a front

abbrev Shape : List AnswerLine → Type 0
Shape before = (before ≡ []) ⊎ (((b : Answers) × Fits b × (before ≡ body b)) ⊎ ((b : Answers) × Fits b × (before ≡ lines_of b)))

shape : (ls : List AnswerLine) (a : Answers) → Fits a → All FitsLine ls → run (stage_of a) ls ≢ lost → Shape (body a ++ ls)
shape [] a fits all may = inr (inl (a, fits, append-nil (body a)))
shape (l ∷ ls) a fits all may = by (follows a fits l (All-head FitsLine l ls all) (λ is. may (ap (λ s. run s ls) is ∙ lost_stays ls))) (shape ls) (All-tail FitsLine l ls all) may
  where
    at_end : (ls : List AnswerLine) → l ≡ End → run (after (stage_of a) l) ls ≢ lost → Shape (body a ++ l ∷ ls)
    at_end [] e may = inr (inr (a, fits, ap (λ l. body a ++ l ∷ []) e ∙ sym (lines-body a)))
    at_end (k ∷ ls) e may = absurd (may (ap (λ l. run (after (stage_of a) l) (k ∷ ls)) e ∙ ap (λ s. run s (k ∷ ls)) (end_next (last_of None a.names) a.tries a.calls) ∙ lost_stays ls))

    by : Next a l → ((b : Answers) → Fits b → All FitsLine ls → run (stage_of b) ls ≢ lost → Shape (body b ++ ls)) → All FitsLine ls → run (after (stage_of a) l) ls ≢ lost → Shape (body a ++ l ∷ ls)
    by (inl e) rest all may = at_end ls e may
    by (inr (b, h)) rest all may = subst Shape (ap (λ xs. xs ++ ls) h.lines ∙ append_assoc (body a) (l ∷ []) ls) (rest b h.fits all (λ is. may (ap (λ s. run s ls) (sym h.stage) ∙ is)))

abbrev pub nothing : Answers
nothing = record { names = []; tries = []; calls = [] }

pub nothing_fits : Fits nothing
unfolding IsStrictlySortedBy
nothing_fits = record {
  in_order = record { ascend = tt; answer = All-nil IsAnswer };
  lines = All-cons FitsLine Head (End ∷ []) tt (All-cons FitsLine End [] tt (All-nil FitsLine));
}

pub lines_fit : (ls : List AnswerLine) → AreAnswers ls → All FitsLine ls
lines_fit ls w = subst (All FitsLine) (sym w.2) w.1.lines

front_shape : (before : List AnswerLine) → IsFront AreAnswers before → Shape before
front_shape [] front = inl refl
front_shape (l ∷ ls) front = by (front_fits FitsLine line_fields tell AreAnswers lines_fit (l ∷ ls) front) (front_run (l ∷ ls) front)
  where
    at : (l : AnswerLine) → All FitsLine ls → run (after begins l) ls ≢ lost → Shape (l ∷ ls)
    at Head all may = shape ls nothing nothing_fits all may
    at (Name n v) all may = absurd (may (lost_stays ls))
    at (Try by) all may = absurd (may (lost_stays ls))
    at (Call v) all may = absurd (may (lost_stays ls))
    at End all may = absurd (may (lost_stays ls))

    by : All FitsLine (l ∷ ls) → run (after begins l) ls ≢ lost → Shape (l ∷ ls)
    by all may = at l (All-tail FitsLine l ls all) may

-- ---- what can be told of a front

pub body_front : (a : Answers) → Fits a → IsFront AreAnswers (body a)
body_front a fits = (End ∷ [], (a, fits, sym (lines-body a)))

pub whole_front : (a : Answers) → Fits a → IsFront AreAnswers (lines_of a)
whole_front a fits = ([], (a, fits, append-nil (lines_of a)))

pub empty_front : IsFront AreAnswers []
empty_front = (lines_of nothing, (nothing, nothing_fits, refl))

abbrev IsDecided : AnswerLine → List AnswerLine → Type 0
IsDecided next before = IsFront AreAnswers (before ++ next ∷ []) ⊎ (IsFront AreAnswers (before ++ next ∷ []) → ⊥)

pub goes : (before : List AnswerLine) (next : AnswerLine) → IsFront AreAnswers before → FitsLine next → IsFront AreAnswers (before ++ next ∷ []) ⊎ (IsFront AreAnswers (before ++ next ∷ []) → ⊥)
goes before next front f = by (front_shape before front)
  where
    first : (l : AnswerLine) → IsFront AreAnswers (l ∷ []) ⊎ (IsFront AreAnswers (l ∷ []) → ⊥)
    first Head = inl (body_front nothing nothing_fits)
    first (Name n v) = inr (λ h. front_run (Name n v ∷ []) h refl)
    first (Try m) = inr (λ h. front_run (Try m ∷ []) h refl)
    first (Call v) = inr (λ h. front_run (Call v ∷ []) h refl)
    first End = inr (λ h. front_run (End ∷ []) h refl)

    on : (b : Answers) → Fits b → Next b next → IsDecided next (body b)
    on b fits (inl e) = inl (subst (λ l. IsFront AreAnswers (body b ++ l ∷ [])) (sym e) (subst (IsFront AreAnswers) (lines-body b) (whole_front b fits)))
    on b fits (inr (d, h)) = inl (subst (IsFront AreAnswers) h.lines (body_front d h.fits))

    body_decided : (b : Answers) → Fits b → (after (stage_of b) next ≡ lost) ⊎ (after (stage_of b) next ≢ lost) → IsDecided next (body b)
    body_decided b fits (inl is) = inr (λ h. may_follow b fits.in_order next h is)
    body_decided b fits (inr may) = on b fits (follows b fits next f may)

    by : Shape before → IsDecided next before
    by (inl e) = subst (IsDecided next) (sym e) (first next)
    by (inr (inl (b, fits, e))) = subst (IsDecided next) (sym e) (body_decided b fits (lost_or_not (after (stage_of b) next)))
    by (inr (inr (b, fits, e))) = subst (IsDecided next) (sym e) (inr (nothing_follows b fits.in_order next))

pub ends : (before : List AnswerLine) → IsFront AreAnswers before → AreAnswers before ⊎ (AreAnswers before → ⊥)
ends before front = by (front_shape before front)
  where
    by : Shape before → AreAnswers before ⊎ (AreAnswers before → ⊥)
    by (inl e) = inr (λ w. not_empty (subst AreAnswers e w))
    by (inr (inl (b, fits, e))) = inr (λ w. not_whole b fits.in_order (subst AreAnswers e w))
    by (inr (inr (b, fits, e))) = inl (b, fits, e)

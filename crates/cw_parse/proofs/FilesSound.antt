-- What is read as a file is one.
use Rattle.std.proofs.Common.{◌≡◌, ℕ, zero, suc, ◌<◌, Bool, true, false, cond, is_some, List, [], ◌∷◌, ◌++◌, length, Option, Some, None, Result, Ok, Err, refl, sym, ap, subst, ◌∙◌}
use Rattle.std.proofs.Common.{arith, length-append}
use Rattle.std.specs.Prelude.{IfOk, ◌≢◌}
use Rattle.std.proofs.lemmas.Bool.{false≢true}
use Rattle.std.proofs.lemmas.Result.{IfOk-at_ok}
use Rattle.std.proofs.lemmas.List.{append-nil}
use Rattle.cw_syntax.specs.declared.program.Name.{Name}
use Rattle.cw_syntax.specs.declared.program.Param.{Param}
use Rattle.cw_syntax.specs.Trees.{Prototype, File}
use Rattle.cw_grammar.specs.declared.terminals.Lexeme.{Lexeme}
use Rattle.cw_grammar.specs.declared.terminals.Terminal.TheVariants as w
use Rattle.cw_grammar.specs.Lexemes.{AreAll}
use Rattle.cw_grammar.specs.Expressions.{nesting_limit}
use Rattle.cw_grammar.specs.Files.{AreNamed, Part, Declares, Holds, Defines, IsPart, file_of, IsFile}
use Rattle.cw_expressions.specs.declared.refusal.Refusal.{Refusal}
use Rattle.cw_expressions.specs.Cursor.{begins, after, expect, repeat}
use Rattle.cw_expressions.proofs.Steps.{if_bind, if_cond, expect_takes, begins_takes}
use Rattle.cw_expressions.proofs.Repeat.{Shortens, repeat_keeps}
use Rattle.cw_parse.specs.Lists.{Read, rest_after, many}
use Rattle.cw_parse.specs.DeclarationReading.{declaration, header, begins_header}
use Rattle.cw_parse.proofs.BothWays.{Took, joined}
use Rattle.cw_parse.proofs.Listed.{all_more}
use Rattle.cw_parse.proofs.Parting.{part_parted}
use Rattle.cw_parse.proofs.DeclarationsSound.{HasHeader, declaration_sound, header_sound}
use Rattle.cw_parse.specs.StatementReading.{goes_on, read_statement, all_named, body, headed, held, parted, part, some_left, added, one_part, parts, no_parts, file}
use Rattle.cw_parse.proofs.StatementsSound.{all_sound, declaration_some}

by_name : (name : Option Name) (others : Bool) → cond (is_some name) others false ≡ true → (name ≢ None) × (others ≡ true)
by_name None others f = absurd (false≢true f)
by_name (Some x) others f = (λ s. absurd (cc), f)

pub named_sound : (ps : List Param) → all_named ps ≡ true → AreNamed ps
named_sound [] e = tt
named_sound (p ∷ ps) e = let h = by_name p.name (all_named ps) e in (h.0, named_sound ps h.1)

-- a part of a file, with a token
abbrev pub SomePart : List Lexeme → Part → Type 0
SomePart ts p = (0 < length ts) × IsPart nesting_limit ts p

body_sound : (a : List Lexeme) (p : Prototype) (ts : List Lexeme) → HasHeader a p → IfOk (body p ts) (Took SomePart (a ++ ts))
unfolding body
body_sound a p ts h =
    if_cond (all_named p.params) _ _ _
    (λ named.
    if_bind (expect w.OpenBrace ts) _ _ _ (expect_takes w.OpenBrace refl ts) (λ o q.
    if_bind (many (read_statement nesting_limit true) goes_on ([], o.1)) _ _ _ (all_sound nesting_limit o.1) (λ ss f.
    if_bind (expect w.CloseBrace ss.1) _ _ _ (expect_takes w.CloseBrace refl ss.1) (λ c r.
    let last : List Lexeme = o.0 ∷ f.0 ++ c.0 ∷ [] in
    let behind : ts ≡ last ++ c.1 = q.0 ∙ ap (λ (z : List Lexeme). o.0 ∷ z) (joined o.1 f.0 ss.1 (c.0 ∷ []) c.1 f.1 r.0) in (
      a ++ last,
      joined (a ++ ts) a ts last c.1 refl behind,
      (omega (arith, length-append a last), (a, o.0, f.0, c.0, ss.0, refl, h, named_sound p.params named, q.1, refl, f.2, refl, r.1)),
    )))))
    (λ e. tt)

headed_sound : (ts : List Lexeme) → IfOk (headed ts) (Took SomePart ts)
unfolding headed
headed_sound ts =
    if_bind (header ts) _ _ _ (header_sound ts) (λ p f.
    if_cond (begins w.Semicolon p.1) _ _ _
    (λ e.
    let s = begins_takes w.Semicolon refl p.1 e in (
      f.0 ++ s.0 ∷ [],
      joined ts f.0 p.1 (s.0 ∷ []) (after p.1) f.1 s.1,
      (omega (arith, length-append f.0 (s.0 ∷ [])), (f.0, s.0, refl, f.2, s.2)),
    ))
    (λ e. by_parts (body p.0 p.1) (body_sound f.0 p.0 p.1 f.2) f.1)) where
      by_parts : {z : List Lexeme} (r : Read Part) → IfOk r (Took SomePart z) → ts ≡ z → IfOk r (Took SomePart ts)
      by_parts r h e = rw e h

held_sound : (ts : List Lexeme) → IfOk (held ts) (Took SomePart ts)
unfolding held
held_sound ts = if_bind (declaration ts) _ _ _ (declaration_sound ts) (λ d f. (f.0, f.1, (declaration_some f.0 d.0 f.2, f.2)))

anything : {A : Type 0} (r : Result A Refusal) → IfOk r (λ x. Unit {0})
anything (Ok x) = tt
anything (Err e) = tt

parted_sound : (ts : List Lexeme) → IfOk (parted ts) (Took SomePart ts)
unfolding parted
parted_sound ts =
    if_bind (begins_header ts) _ _ _ (anything (begins_header ts)) (λ b u.
    if_cond b _ _ _ (λ e. headed_sound ts) (λ e. held_sound ts))

pub part_sound : (ts : List Lexeme) → IfOk (part ts) (Took SomePart ts)
part_sound ts = subst (λ (r : Read Part). IfOk r (Took SomePart ts)) (sym (part_parted ts)) (parted_sound ts)

part_shorter : (s : File × List Lexeme) → IfOk (one_part s) (λ y. length y.1 < length s.1)
unfolding one_part
part_shorter s = if_bind (part s.1) _ _ _ (part_sound s.1) (λ x f. let some = f.2.0 in omega (arith, some, ap length f.1, length-append f.0 x.1))

pub parts_shorten : Shortens rest_after some_left one_part
parts_shorten x y go e = IfOk-at_ok (λ (z : File × List Lexeme). length z.1 < length x.1) e (part_shorter x)

-- ---- a part more

abbrev front : Part → File → File
front (Declares p) f = record { protos = p ∷ f.protos; globals = f.globals; functions = f.functions }
front (Holds d) f = record { protos = f.protos; globals = d ∷ f.globals; functions = f.functions }
front (Defines g) f = record { protos = f.protos; globals = f.globals; functions = g ∷ f.functions }

file_front : (x : Part) (xs : List Part) → file_of (x ∷ xs) ≡ front x (file_of xs)
file_front (Declares p) xs = refl
file_front (Holds d) xs = refl
file_front (Defines g) xs = refl

front_added : (x y : Part) (f : File) → front x (added f y) ≡ added (front x f) y
front_added (Declares p) (Declares q) f = refl
front_added (Declares p) (Holds q) f = refl
front_added (Declares p) (Defines q) f = refl
front_added (Holds p) (Declares q) f = refl
front_added (Holds p) (Holds q) f = refl
front_added (Holds p) (Defines q) f = refl
front_added (Defines p) (Declares q) f = refl
front_added (Defines p) (Holds q) f = refl
front_added (Defines p) (Defines q) f = refl

first_added : (y : Part) → file_of (y ∷ []) ≡ added no_parts y
first_added (Declares q) = refl
first_added (Holds q) = refl
first_added (Defines q) = refl

pub file_added : (xs : List Part) (y : Part) → file_of (xs ++ y ∷ []) ≡ added (file_of xs) y
file_added [] y = first_added y
file_added (x ∷ xs) y = file_front x (xs ++ y ∷ []) ∙ ap (front x) (file_added xs y) ∙ front_added x y (file_of xs) ∙ ap (λ (z : File). added z y) (sym (file_front x xs))

-- ---- all parts

-- what was read so far
abbrev SoFar : List Lexeme → File × List Lexeme → Type 0
SoFar ts s = (ps : List Part) × (a : List Lexeme) × (ts ≡ a ++ s.1) × AreAll (IsPart nesting_limit) a ps × (s.0 ≡ file_of ps)

one_keeps : (ts : List Lexeme) (s : File × List Lexeme) → some_left s.1 ≡ true → SoFar ts s → IfOk (one_part s) (SoFar ts)
unfolding one_part
one_keeps ts s go (ps, a, parts, h, e) = if_bind (part s.1) _ _ _ (part_sound s.1) (λ x f.
    (ps ++ x.0 ∷ [], a ++ f.0, joined ts a s.1 f.0 x.1 parts f.1, all_more (IsPart nesting_limit) ps a f.0 x.0 h f.2.1, ap (λ (z : File). added z x.0) e ∙ sym (file_added ps x.0)))

ends_there : (k : ℕ) (s : File × List Lexeme) → IfOk (repeat rest_after some_left one_part k s) (λ y. some_left y.1 ≡ false)
unfolding repeat
ends_there zero s = tt
ends_there (suc k) s =
    if_cond (some_left s.1) _ _ _
    (λ go. if_bind (one_part s) _ _ _ (anything (one_part s)) (λ y u. ends_there k y))
    (λ stay. stay)

none_left : (ts : List Lexeme) → some_left ts ≡ false → ts ≡ []
none_left [] e = refl
none_left (t ∷ ts) e = absurd (false≢true (sym e))

both : {A : Type 0} (r : Result A Refusal) (P Q : A → Type 0) → IfOk r P → IfOk r Q → IfOk r (λ x. P x × Q x)
both (Ok x) P Q p q = (p, q)
both (Err e) P Q p q = tt

parts_sound : (ts : List Lexeme) → IfOk (parts (no_parts, ts)) (λ s. SoFar ts s × (some_left s.1 ≡ false))
unfolding parts
parts_sound ts =
    both (repeat rest_after some_left one_part (suc (length ts)) (no_parts, ts)) _ _
    (repeat_keeps rest_after some_left one_part (SoFar ts) (one_keeps ts) (suc (length ts)) (no_parts, ts) ([], [], refl, refl, refl))
    (ends_there (suc (length ts)) (no_parts, ts))

pub file_sound : (ts : List Lexeme) → IfOk (file ts) (λ f. IsFile nesting_limit ts f)
unfolding file
file_sound ts = if_bind (parts (no_parts, ts)) _ _ _ (parts_sound ts) (λ s h.
    (h.0.0, subst (λ (z : List Lexeme). AreAll (IsPart nesting_limit) z h.0.0) (sym (h.0.2 ∙ ap (λ (z : List Lexeme). h.0.1 ++ z) (none_left s.1 h.1) ∙ append-nil h.0.1)) h.0.3, h.0.4))

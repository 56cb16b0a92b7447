-- Files are read as what they are, or nest too deep.
use Rattle.std.proofs.Common.{◌≡◌, ℕ, ◌<◌, true, false, cond, is_some, List, [], ◌∷◌, ◌++◌, length, Option, Some, None, Result, Ok, Err, refl, sym, ap, subst, ◌∙◌, append_assoc}
use Rattle.std.proofs.Common.{arith, length-append, inl, inr}
use Rattle.std.specs.Prelude.{◌⊎◌, ◌≢◌, IfOk}
use Rattle.std.proofs.lemmas.List.{append-nil}
use Rattle.cw_syntax.specs.declared.program.Name.{Name}
use Rattle.cw_syntax.specs.declared.program.CType.{CType}
use Rattle.cw_syntax.specs.declared.program.Param.{Param}
use Rattle.cw_syntax.specs.Trees.{Statement, Statements, Prototype, Definition, File}
use Rattle.cw_grammar.specs.declared.terminals.Lexeme.{Lexeme}
use Rattle.cw_grammar.specs.declared.terminals.Terminal.TheVariants as w
use Rattle.cw_grammar.specs.Lexemes.{Is, AreAll, statements}
use Rattle.cw_grammar.specs.Expressions.{nesting_limit}
use Rattle.cw_grammar.specs.Files.{AreNamed, Part, Declares, Holds, Defines, IsPart, file_of, IsFile, IsProgram, IsOfGrammar}
use Rattle.cw_grammar.specs.Statements.{InBlock, IsStatement}
use Rattle.cw_expressions.specs.declared.refusal.Refusal.{Refusal}
use Rattle.cw_expressions.specs.declared.refusal.Refusal.TheVariants as refusal
use Rattle.cw_expressions.specs.Cursor.{begins, expect}
use Rattle.cw_expressions.proofs.Steps.{begins_again}
use Rattle.cw_expressions.proofs.Repeat.{repeat_ends, repeat_fails, repeat_further}
use Rattle.cw_parse.specs.Lists.{Read, rest_after, many}
use Rattle.cw_parse.specs.DeclarationReading.{declaration, header, begins_header}
use Rattle.cw_parse.proofs.BothWays.{Reads, reads_bind, reads_then, reads_else, reads_of, reads_expect}
use Rattle.cw_parse.proofs.DeclarationsComplete.{declaration_again}
use Rattle.cw_parse.proofs.HeadersComplete.{header_again, header_next, declaration_next}
use Rattle.cw_parse.specs.StatementReading.{goes_on, read_statement, all_named, body, headed, held, parted, part, some_left, added, one_part, parts, no_parts, file}
use Rattle.cw_parse.proofs.StatementsSound.{read_shortens}
use Rattle.cw_parse.proofs.StatementsComplete.{statements_again, read_statement_again}
use Rattle.cw_parse.proofs.Parting.{part_parted}
use Rattle.cw_parse.proofs.FilesSound.{file_added, parts_shorten, file_sound}

named_again : (ps : List Param) → AreNamed ps → all_named ps ≡ true
named_again [] h = refl
named_again (p ∷ ps) h = by_name p.name h.0 (named_again ps h.1) where
  by_name : (name : Option Name) → name ≢ None → all_named ps ≡ true → cond (is_some name) (all_named ps) false ≡ true
  by_name None never e = absurd (never refl)
  by_name (Some x) never e = e

abbrev ok_part : Part → List Lexeme → Read Part
ok_part p rest = Ok (p, rest)

abbrev made : Name → CType → List Param → ℕ → Statements → Definition
made name result params brace body = record { name = name; result = result; params = params; brace = brace; body = body }

abbrev seen : Definition → Prototype
seen f = record { name = f.name; result = f.result; params = f.params }

module _ (n : ℕ) where
  abbrev Deep : Type 0
  Deep = nesting_limit < n

  body_again : (f : Definition) (o : Lexeme) (b : List Lexeme) (c : Lexeme) (ss : List Statement) (rest : List Lexeme) → AreNamed f.params → Is w.OpenBrace o → f.brace ≡ o.to
      → AreAll (IsStatement n n InBlock) b ss → f.body ≡ statements ss → Is w.CloseBrace c → Reads Deep (body (seen f) (o ∷ (b ++ (c ∷ rest)))) (Defines f, rest)
  unfolding body
  body_again f o b c ss rest named opens brace h same_body closes =
      reads_then Deep (all_named f.params) _ _ _ (named_again f.params named)
      (reads_bind Deep (expect w.OpenBrace (o ∷ (b ++ (c ∷ rest)))) _ (o, b ++ (c ∷ rest)) _ (reads_expect Deep w.OpenBrace o (b ++ (c ∷ rest)) opens)
      (reads_bind Deep (many (read_statement nesting_limit true) goes_on ([], b ++ (c ∷ rest))) _ (ss, c ∷ rest) _
      (statements_again n Deep (λ lt. lt) (read_statement nesting_limit) n (read_shortens nesting_limit) (read_statement_again n Deep (λ lt. lt) nesting_limit n (λ lt. lt)) ss b c rest h closes)
      (reads_bind Deep (expect w.CloseBrace (c ∷ rest)) _ (c, rest) _ (reads_expect Deep w.CloseBrace c rest closes)
      (inl (last f o.to (statements ss) brace same_body))))) where
        last : (g : Definition) (to : ℕ) (s : Statements) → g.brace ≡ to → g.body ≡ s → ok_part (Defines (made g.name g.result g.params to s)) rest ≡ ok_part (Defines g) rest
        last g to s p q = rw (← p, ← q) refl

  parted_again : (ts : List Lexeme) (x : Part) (rest : List Lexeme) → IsPart n ts x → Reads Deep (parted (ts ++ rest)) (x, rest)
  unfolding parted headed held
  parted_again ts (Declares p) rest (h, s, whole, hh, semi) =
      let e : ts ++ rest ≡ h ++ (s ∷ rest) = ap (λ (z : List Lexeme). z ++ rest) whole ∙ append_assoc h (s ∷ []) rest in
      reads_of Deep parted (ts ++ rest) (h ++ (s ∷ rest)) _ e
      (reads_bind Deep (begins_header (h ++ (s ∷ rest))) _ true _ (inl (header_next h p (s ∷ rest) hh))
      (reads_bind Deep (header (h ++ (s ∷ rest))) _ (p, s ∷ rest) _ (header_again Deep h p (s ∷ rest) hh)
      (reads_then Deep (begins w.Semicolon (s ∷ rest)) _ _ _ (begins_again w.Semicolon s rest semi) (inl refl))))
  parted_again ts (Holds d) rest h =
      reads_bind Deep (begins_header (ts ++ rest)) _ false _ (inl (declaration_next n ts d rest h))
      (reads_bind Deep (declaration (ts ++ rest)) _ (d, rest) _ (declaration_again n ts d rest h) (inl refl))
  parted_again ts (Defines f) rest (a, o, b, c, ss, whole, hh, named, opens, brace, h, same_body, closes) =
      let e : ts ++ rest ≡ a ++ (o ∷ (b ++ (c ∷ rest))) = ap (λ (z : List Lexeme). z ++ rest) whole ∙ append_assoc a (o ∷ b ++ c ∷ []) rest
      ∙ ap (λ (z : List Lexeme). a ++ (o ∷ z)) (append_assoc b (c ∷ []) rest) in
      reads_of Deep parted (ts ++ rest) (a ++ (o ∷ (b ++ (c ∷ rest)))) _ e
      (reads_bind Deep (begins_header (a ++ (o ∷ (b ++ (c ∷ rest))))) _ true _ (inl (header_next a (seen f) (o ∷ (b ++ (c ∷ rest))) hh))
      (reads_bind Deep (header (a ++ (o ∷ (b ++ (c ∷ rest))))) _ (seen f, o ∷ (b ++ (c ∷ rest))) _ (header_again Deep a (seen f) (o ∷ (b ++ (c ∷ rest))) hh)
      (reads_else Deep (begins w.Semicolon (o ∷ (b ++ (c ∷ rest)))) _ _ _ (rw opens refl) (body_again f o b c ss rest named opens brace h same_body closes))))

  part_again : (ts : List Lexeme) (x : Part) (rest : List Lexeme) → IsPart n ts x → Reads Deep (part (ts ++ rest)) (x, rest)
  part_again ts x rest h = subst (λ (r : Read Part). Reads Deep r (x, rest)) (sym (part_parted (ts ++ rest))) (parted_again ts x rest h)

  -- ---- all parts

  some_by : (ts : List Lexeme) → 0 < length ts → some_left ts ≡ true
  some_by [] lt = absurd (omega arith)
  some_by (t ∷ ts) lt = refl

  part_some : (ts : List Lexeme) (x : Part) → IsPart n ts x → 0 < length ts
  part_some ts (Declares p) (h, s, whole, hh, semi) = omega (arith, ap length whole, length-append h (s ∷ []))
  part_some ts (Holds d) (a, b, specs, whole, hs, e1, e2, e3, some, (inner, s, closed, semi, hitems), from, to) =
      omega (arith, ap length whole, ap length closed, length-append a b, length-append inner (s ∷ []))
  part_some ts (Defines f) (a, o, b, c, ss, whole, hh, named, opens, brace, h, same_body, closes) = omega (arith, ap length whole, length-append a (o ∷ b ++ c ∷ []))

  one_again : (f : File) (a : List Lexeme) (x : Part) (rest : List Lexeme) → IsPart n a x → Reads Deep (one_part (f, a ++ rest)) (added f x, rest)
  unfolding one_part
  one_again f a x rest h = reads_bind Deep (part (a ++ rest)) _ (x, rest) _ (part_again a x rest h) (inl refl)

  step : (s y z : File × List Lexeme) → some_left s.1 ≡ true → Reads Deep (one_part s) y → Reads Deep (parts y) z → Reads Deep (parts s) z
  unfolding parts
  step s y z go (inl e) h = let g = repeat_further rest_after some_left one_part parts_shorten s y go e in subst (λ (r : Read File). Reads Deep r z) g h
  step s y z go (inr e) h = inr (e.0, repeat_fails rest_after some_left one_part refusal.TooDeep (length s.1) s go e.1)

  ends_now : (f : File) → Reads Deep (parts (f, [])) (f, [])
  unfolding parts
  ends_now f = inl (repeat_ends rest_after some_left one_part 0 (f, []) refl)

  parts_again : (ps before : List Part) (a : List Lexeme) → AreAll (IsPart n) a ps → Reads Deep (parts (file_of before, a)) (file_of (before ++ ps), [])
  parts_again [] before a h = rw (h, append-nil before) (ends_now (file_of before))
  parts_again (x ∷ ps) before a (b, c, whole, p, h) =
      let go : some_left (b ++ c) ≡ true = some_by (b ++ c) (let some = part_some b x p in omega (arith, some, length-append b c)) in
      let next : Reads Deep (parts (file_of (before ++ x ∷ []), c)) (file_of ((before ++ x ∷ []) ++ ps), []) = parts_again ps (before ++ x ∷ []) c h in
      let one : Reads Deep (one_part (file_of before, b ++ c)) (file_of (before ++ x ∷ []), c) =
      subst (λ (z : File). Reads Deep (one_part (file_of before, b ++ c)) (z, c)) (sym (file_added before x)) (one_again (file_of before) b x c p) in
      let all : Reads Deep (parts (file_of before, b ++ c)) (file_of ((before ++ x ∷ []) ++ ps), []) =
      step (file_of before, b ++ c) (file_of (before ++ x ∷ []), c) (file_of ((before ++ x ∷ []) ++ ps), []) go one next in
      reads_of Deep (λ (z : List Lexeme). parts (file_of before, z)) a (b ++ c) (file_of (before ++ x ∷ ps), []) whole
      (subst (λ (z : List Part). Reads Deep (parts (file_of before, b ++ c)) (file_of z, [])) (append_assoc before (x ∷ []) ps) all)

  pub file_again : (ts : List Lexeme) (f : File) → IsFile n ts f → Reads Deep (file ts) f
  unfolding file
  file_again ts f (ps, h, e) = reads_bind Deep (parts (no_parts, ts)) _ (file_of ps, []) _ (parts_again ps [] ts h) (inl (ap (λ (z : File). ok_file z) (sym e))) where
    ok_file : File → Result File Refusal
    ok_file z = Ok z

-- ---- what a call says

sure : {A : Type 0} (D : Type 0) (r : Result A Refusal) (x : A) → ¬ D → Reads D r x → r ≡ Ok x
sure D r x never (inl e) = e
sure D r x never (inr e) = absurd (never e.0)

pub program_is_read : (ts : List Lexeme) (f : File) → IsProgram ts f → file ts ≡ Ok f
unfolding IsProgram
program_is_read ts f h = sure (nesting_limit < nesting_limit) (file ts) f (λ lt. absurd (omega (arith, lt))) (file_again nesting_limit ts f h)

abbrev given : File → Result File Refusal
given f = Ok f

pub one_program : (ts : List Lexeme) (f g : File) → IsProgram ts f → IsProgram ts g → f ≡ g
one_program ts f g p q = let e : given f ≡ given g = sym (program_is_read ts f p) ∙ program_is_read ts g q in cc

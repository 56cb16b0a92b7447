-- The recogniser reads what derives an expression.
use Rattle.std.proofs.Common.{◌≡◌, ℕ, zero, suc, true, false, List, [], ◌∷◌, ◌++◌, refl, ap, subst, ◌∙◌, append_assoc, inl, inr, Some, None}
use Rattle.std.specs.Prelude.{is_some}
use Rattle.cw_syntax.specs.Trees.{Tree}
use Rattle.cw_grammar.specs.declared.terminals.Terminal.{Terminal}
use Rattle.cw_grammar.specs.declared.terminals.Terminal.TheVariants as w
use Rattle.cw_grammar.specs.declared.terminals.Lexeme.{Lexeme}
use Rattle.cw_grammar.specs.declared.rules.Rule.TheVariants.{Expression, Level, Unary, Postfix}
use Rattle.cw_grammar.specs.Lexemes.{Is, AreSeparated}
use Rattle.cw_grammar.specs.Expressions.{loosest, AreStrings, IsPrimary, IsPostfix, IsUnary, IsOperand, IsLevel, IsDerived}
use Rattle.cw_recogniser.specs.declared.kinds.TerminalKind.{TerminalKind}
use Rattle.cw_recogniser.specs.declared.kinds.TerminalKind.TheVariants as k
use Rattle.cw_recogniser.specs.declared.symbols.Symbol.{Symbol}
use Rattle.cw_recogniser.specs.declared.symbols.Symbol.TheVariants as s
use Rattle.cw_recogniser.specs.Kinds.{kind_of_terminal}
use Rattle.cw_recogniser.specs.Machine.{onto, either, after, unary, expression, qualified, type_name}
use Rattle.cw_recogniser.proofs.Accepting.{Accepts, step, step_kind, skip, pass, instead}
use Rattle.cw_recogniser.proofs.TerminalKinds.{sign_begins, step_begins, suffix_is, is_between, binary_goes_on, binary_may_assign, binary_between, assign_goes_on, assign_between}
use Rattle.cw_recogniser.proofs.Heads.{head, head_is, untaken, head_wider, is_end, is_halt, is_follower, end_halts, halt_follows, no_tail, no_suffix, no_call, no_text}
use Rattle.cw_recogniser.proofs.TypesRead.{reads_type_name}

-- ---- symbols that begin as others do

after_open_type : (kind : TerminalKind) → is_some (qualified kind) ≡ true → after s.AfterOpen kind ≡ onto (qualified kind) (s.TwoStars ∷ s.Close ∷ s.Operand ∷ s.Tail false ∷ [])
after_open_type k.Const e = refl
after_open_type k.Void e = refl
after_open_type k.Char e = refl
after_open_type k.Int e = refl
after_open_type k.Long e = refl
after_open_type k.Unsigned e = refl
after_open_type _ e = absurd cc

after_open_operand_type : (kind : TerminalKind) → is_some (qualified kind) ≡ true → after s.AfterOpenOperand kind ≡ onto (qualified kind) (s.TwoStars ∷ s.Close ∷ s.Operand ∷ [])
after_open_operand_type k.Const e = refl
after_open_operand_type k.Void e = refl
after_open_operand_type k.Char e = refl
after_open_operand_type k.Int e = refl
after_open_operand_type k.Long e = refl
after_open_operand_type k.Unsigned e = refl
after_open_operand_type _ e = absurd cc

after_open_measured_type : (kind : TerminalKind) → is_some (qualified kind) ≡ true → after s.AfterOpenMeasured kind ≡ onto (qualified kind) (s.TwoStars ∷ s.Close ∷ [])
after_open_measured_type k.Const e = refl
after_open_measured_type k.Void e = refl
after_open_measured_type k.Char e = refl
after_open_measured_type k.Int e = refl
after_open_measured_type k.Long e = refl
after_open_measured_type k.Unsigned e = refl
after_open_measured_type _ e = absurd cc

-- no expression begins as a type
no_type : (kind : TerminalKind) → is_some (expression kind) ≡ true → type_name kind ≡ None
no_type k.Const e = absurd cc
no_type k.Void e = absurd cc
no_type k.Char e = absurd cc
no_type k.Int e = absurd cc
no_type k.Long e = absurd cc
no_type k.Unsigned e = absurd cc
no_type _ e = refl

after_open_expression : (kind : TerminalKind) → is_some (expression kind) ≡ true → after s.AfterOpen kind ≡ onto (expression kind) (s.Close ∷ s.Suffixes ∷ s.Tail true ∷ [])
after_open_expression kind e = ap (λ z. either (onto z (s.Close ∷ s.Operand ∷ s.Tail false ∷ [])) (onto (expression kind) (s.Close ∷ s.Suffixes ∷ s.Tail true ∷ []))) (no_type kind e)

after_open_operand_expression : (kind : TerminalKind) → is_some (expression kind) ≡ true → after s.AfterOpenOperand kind ≡ onto (expression kind) (s.Close ∷ s.Suffixes ∷ [])
after_open_operand_expression kind e = ap (λ z. either (onto z (s.Close ∷ s.Operand ∷ [])) (onto (expression kind) (s.Close ∷ s.Suffixes ∷ []))) (no_type kind e)

after_open_measured_expression : (kind : TerminalKind) → is_some (expression kind) ≡ true → after s.AfterOpenMeasured kind ≡ onto (expression kind) (s.Close ∷ s.Suffixes ∷ [])
after_open_measured_expression kind e = ap (λ z. either (onto z (s.Close ∷ [])) (onto (expression kind) (s.Close ∷ s.Suffixes ∷ []))) (no_type kind e)

-- A symbol that begins as a unary does, with more behind it.
pub record Starts (symbol : Symbol) (more : List Symbol) : Type 0 where
  pub begins : (kind : TerminalKind) → is_some (unary kind) ≡ true → after symbol kind ≡ onto (unary kind) more
  pub opens : (o : Lexeme) (ts : List Lexeme) (below : List Symbol) → Is w.Open o → Accepts (s.Expression ∷ s.Close ∷ s.Suffixes ∷ (more ++ below)) ts → Accepts (symbol ∷ below) (o ∷ ts)

expression_begins : (kind : TerminalKind) → is_some (unary kind) ≡ true → after s.Expression kind ≡ onto (unary kind) (s.Tail true ∷ [])
expression_begins k.Open e = absurd cc
expression_begins _ e = refl

operand_begins : (kind : TerminalKind) → is_some (unary kind) ≡ true → after s.Operand kind ≡ onto (unary kind) []
operand_begins k.Name e = refl
operand_begins k.Constant e = refl
operand_begins k.Text e = refl
operand_begins k.SizeOf e = refl
operand_begins k.Sign e = refl
operand_begins k.Both e = refl
operand_begins k.Star e = refl
operand_begins k.Step e = refl
operand_begins _ e = absurd cc

unary_begins : (kind : TerminalKind) → is_some (unary kind) ≡ true → after s.Unary kind ≡ onto (unary kind) []
unary_begins k.Name e = refl
unary_begins k.Constant e = refl
unary_begins k.Text e = refl
unary_begins k.SizeOf e = refl
unary_begins k.Sign e = refl
unary_begins k.Both e = refl
unary_begins k.Star e = refl
unary_begins k.Step e = refl
unary_begins _ e = absurd cc

measured_begins : (kind : TerminalKind) → is_some (unary kind) ≡ true → after s.Measured kind ≡ onto (unary kind) []
measured_begins k.Name e = refl
measured_begins k.Constant e = refl
measured_begins k.Text e = refl
measured_begins k.SizeOf e = refl
measured_begins k.Sign e = refl
measured_begins k.Both e = refl
measured_begins k.Star e = refl
measured_begins k.Step e = refl
measured_begins _ e = absurd cc

expression_starts : Starts s.Expression (s.Tail true ∷ [])
expression_starts = record {
  begins = expression_begins;
  opens = λ o ts below is h. step is refl (instead {first = s.Expression} {symbol = s.AfterOpen} (s.Close ∷ s.Suffixes ∷ s.Tail true ∷ []) refl after_open_expression h);
}

operand_starts : Starts s.Operand []
operand_starts = record {
  begins = operand_begins;
  opens = λ o ts below is h. step is refl (instead {first = s.Expression} {symbol = s.AfterOpenOperand} (s.Close ∷ s.Suffixes ∷ []) refl after_open_operand_expression h);
}

unary_starts : Starts s.Unary []
unary_starts = record { begins = unary_begins; opens = λ o ts below is h. step is refl h }

measured_starts : Starts s.Measured []
measured_starts = record {
  begins = measured_begins;
  opens = λ o ts below is h. step is refl (instead {first = s.Expression} {symbol = s.AfterOpenMeasured} (s.Close ∷ s.Suffixes ∷ []) refl after_open_measured_expression h);
}

-- ---- what is read of what nests at most n deep

pub record Reads (n : ℕ) : Type 0 where
  pub expression : (a : List Lexeme) (x : Tree) (rest : List Lexeme) (below : List Symbol) → IsDerived n Expression a x → head is_end rest ≡ true → Accepts below rest
      → Accepts (s.Expression ∷ below) (a ++ rest)
  pub first : (l : ℕ) (a : List Lexeme) (x : Tree) (rest : List Lexeme) (below : List Symbol) → IsDerived n (Level l) a x → head is_halt rest ≡ true
      → Accepts (s.Tail true ∷ below) rest → Accepts (s.Tail false ∷ below) rest → Accepts (s.Expression ∷ below) (a ++ rest)
  pub chain : (l : ℕ) (a : List Lexeme) (x : Tree) (rest : List Lexeme) (below : List Symbol) → IsDerived n (Level l) a x → head is_halt rest ≡ true
      → Accepts (s.Tail false ∷ below) rest → Accepts (s.Operand ∷ s.Tail false ∷ below) (a ++ rest)
  pub operand : (a : List Lexeme) (x : Tree) (rest : List Lexeme) (below : List Symbol) → IsDerived n (Level 0) a x → head is_halt rest ≡ true → Accepts below rest
      → Accepts (s.Operand ∷ below) (a ++ rest)
  pub unary : (symbol : Symbol) (more : List Symbol) → Starts symbol more → (a : List Lexeme) (x : Tree) (rest : List Lexeme) (below : List Symbol) → IsDerived n Unary a x
      → head is_halt rest ≡ true → Accepts (more ++ below) rest → Accepts (symbol ∷ below) (a ++ rest)
  pub postfix : (symbol : Symbol) (more : List Symbol) → Starts symbol more → (a : List Lexeme) (x : Tree) (rest : List Lexeme) (below : List Symbol) → IsDerived n Postfix a x
      → head is_follower rest ≡ true → Accepts (s.Suffixes ∷ (more ++ below)) rest → Accepts (symbol ∷ below) (a ++ rest)

between_halts : (kind : TerminalKind) → is_between kind ≡ true → is_halt kind ≡ true
between_halts k.Star e = refl
between_halts k.Both e = refl
between_halts k.Binary e = refl
between_halts k.Assign e = refl
between_halts k.Update e = refl
between_halts _ e = absurd cc

arguments_begin : (kind : TerminalKind) → is_some (expression kind) ≡ true → after s.Arguments kind ≡ onto (expression kind) (s.MoreArguments ∷ [])
arguments_begin kind e = refl

module _ (n : ℕ) (r : Reads n) where
  -- ---- arguments

  reads_listed : (xs : List Tree) (x : Tree) (ts : List Lexeme) (c : Lexeme) (rest : List Lexeme) (below : List Symbol) → AreSeparated (IsDerived n Expression) ts (x ∷ xs)
      → Is w.Close c → Accepts below (c ∷ rest) → Accepts (s.Expression ∷ s.MoreArguments ∷ below) (ts ++ (c ∷ rest))
  reads_listed [] x ts c rest below d is h = r.expression ts x (c ∷ rest) (s.MoreArguments ∷ below) d (head_is is_end w.Close c rest is refl) (pass is refl refl h)
  reads_listed (y ∷ ys) x ts c rest below (a, m, b, e, comma, p, q) is h =
      rw (e, append_assoc) (r.expression a x (m ∷ (b ++ (c ∷ rest))) (s.MoreArguments ∷ below) p (head_is is_end w.Comma m (b ++ (c ∷ rest)) comma refl)
      (step comma refl (reads_listed ys y b c rest below q is h)))

  pub reads_arguments : (xs : List Tree) (ts : List Lexeme) (c : Lexeme) (rest : List Lexeme) (below : List Symbol) → AreSeparated (IsDerived n Expression) ts xs → Is w.Close c
      → Accepts below (c ∷ rest) → Accepts (s.Arguments ∷ below) (ts ++ (c ∷ rest))
  reads_arguments [] ts c rest below d is h = rw d (pass is refl refl h)
  reads_arguments (x ∷ xs) ts c rest below d is h = instead {first = s.Expression} {symbol = s.Arguments} (s.MoreArguments ∷ []) refl arguments_begin (reads_listed xs x ts c rest below d is h)

  -- ---- postfix

  reads_strings : (ts rest : List Lexeme) (below : List Symbol) → AreStrings ts → head is_follower rest ≡ true → Accepts below rest → Accepts (s.Texts ∷ below) (ts ++ rest)
  reads_strings [] rest below d f h = skip refl (untaken s.Texts is_follower no_text rest f) h
  reads_strings (t ∷ ts) rest below d f h = step d.0 refl (reads_strings ts rest below d.1 f h)

  module _ (symbol : Symbol) (more : List Symbol) (starts : Starts symbol more) (rest : List Lexeme) (below : List Symbol) (f : head is_follower rest ≡ true)
      (h : Accepts (s.Suffixes ∷ (more ++ below)) rest) where
    begun : (terminal : Terminal) (t : Lexeme) → Is terminal t → is_some (unary (kind_of_terminal terminal)) ≡ true
        → after symbol (kind_of_terminal t.terminal) ≡ onto (unary (kind_of_terminal terminal)) more
    begun terminal t is e = ap (λ (v : Terminal). after symbol (kind_of_terminal v)) is ∙ starts.begins (kind_of_terminal terminal) e

    reads_call : (m t c : Lexeme) (inner : List Lexeme) (xs : List Tree) → Is w.Name m → Is w.Open t → Is w.Close c → AreSeparated (IsDerived n Expression) inner xs
        → Accepts (symbol ∷ below) (m ∷ t ∷ (inner ++ (c ∷ rest)))
    reads_call m t c inner xs p q z d = step_kind (begun w.Name m p refl) (step q refl (reads_arguments xs inner c rest (s.Close ∷ s.Suffixes ∷ (more ++ below)) d z (step z refl h)))

    reads_primary : (a : List Lexeme) (x : Tree) → IsPrimary (IsDerived n) a x → Accepts (symbol ∷ below) (a ++ rest)
    reads_primary a x (inl (t, e, is, _)) = rw e (step_kind (begun w.Name t is refl) (skip refl (untaken s.Call is_follower no_call rest f) h))
    reads_primary a x (inr (inl (m, b, xs, e, is, (o, inner, c, e2, p, q, d), _))) = rw (e, e2, append_assoc) (reads_call m o c inner xs is p q d)
    reads_primary a x (inr (inr (inl (t, value, e, is, _)))) = rw e (step_kind (begun (w.Number value) t is refl) h)
    reads_primary a x (inr (inr (inr (inl (t, value, e, is, _))))) = rw e (step_kind (begun (w.Character value) t is refl) h)
    reads_primary a x (inr (inr (inr (inr (inl (t, others, e, d, _)))))) = let q : AreStrings (t ∷ others) = subst (λ (z : List Lexeme). AreStrings z) e d in
        rw e (step_kind (begun w.Text t q.0 refl) (reads_strings others rest (s.Suffixes ∷ (more ++ below)) q.1 f h))
    reads_primary a x (inr (inr (inr (inr (inr (o, inner, c, e, p, q, d)))))) =
        rw (e, append_assoc) (starts.opens o (inner ++ (c ∷ rest)) below p
        (r.expression inner x (c ∷ rest) (s.Close ∷ s.Suffixes ∷ (more ++ below)) d (head_is is_end w.Close c rest q refl) (step q refl h)))

    reads_postfix : (a : List Lexeme) (x : Tree) → IsPostfix (IsDerived n) a x → Accepts (symbol ∷ below) (a ++ rest)
    reads_postfix a x (inl d) = reads_primary a x d
    reads_postfix a x (inr (inl (b, c, y, z, e, d, (o, inner, l, e2, p, q, i), _))) =
        rw (e, e2, append_assoc, append_assoc) (r.postfix symbol more starts b y (o ∷ (inner ++ (l ∷ rest))) below d
        (head_is is_follower w.OpenBracket o (inner ++ (l ∷ rest)) p refl)
        (step p refl (r.expression inner z (l ∷ rest) (s.CloseBracket ∷ s.Suffixes ∷ (more ++ below)) i (head_is is_end w.CloseBracket l rest q refl) (step q refl h))))
    reads_postfix a x (inr (inr (b, t, number, y, e, op, d, _))) =
        let kind = suffix_is t.terminal number op in
        rw (e, append_assoc) (r.postfix symbol more starts b y (t ∷ rest) below d (rw kind refl) (step_kind (ap (after s.Suffixes) kind) h))

  -- ---- unary

  module _ (symbol : Symbol) (more : List Symbol) (starts : Starts symbol more) (rest : List Lexeme) (below : List Symbol) (f : head is_halt rest ≡ true) (h : Accepts (more ++ below) rest) where
    begun_as : (t : Lexeme) (new : List Symbol) → unary (kind_of_terminal t.terminal) ≡ Some new → after symbol (kind_of_terminal t.terminal) ≡ Some (new ++ more)
    begun_as t new e = starts.begins (kind_of_terminal t.terminal) (rw e refl) ∙ ap (λ z. onto z more) e

    reads_unary : (a : List Lexeme) (x : Tree) → IsUnary (IsDerived n) a x → Accepts (symbol ∷ below) (a ++ rest)
    reads_unary a x (inl (t, b, number, y, e, op, d, _)) = rw e (step_kind (begun_as t (s.Operand ∷ []) (sign_begins t.terminal number op)) (r.operand b y rest (more ++ below) d f h))
    reads_unary a x (inr (inl (t, b, number, y, e, op, d, _))) =
        rw e (step_kind (begun_as t (s.Unary ∷ []) (step_begins t.terminal number op)) (r.unary s.Unary [] unary_starts b y rest (more ++ below) d f h))
    reads_unary a x (inr (inr (inl (t, b, y, e, is, d, _)))) =
        rw e (step_kind (begun_as t (s.Measured ∷ []) (ap (λ (v : Terminal). unary (kind_of_terminal v)) is)) (r.unary s.Measured [] measured_starts b y rest (more ++ below) d f h))
    reads_unary a x (inr (inr (inr (inl (t, b, kind, e, is, (o, inner, c, e2, p, q, d), _))))) =
        rw (e, e2, append_assoc) (step_kind (begun_as t (s.Measured ∷ []) (ap (λ (v : Terminal). unary (kind_of_terminal v)) is))
        (step p refl (instead {first = s.Qualified} {symbol = s.AfterOpenMeasured} (s.TwoStars ∷ s.Close ∷ []) refl after_open_measured_type
        (reads_type_name inner (c ∷ rest) kind (s.Close ∷ (more ++ below)) d (rw q refl) (rw q refl) (step q refl h)))))
    reads_unary a x (inr (inr (inr (inr d)))) = reads_postfix symbol more starts rest below (head_wider is_halt is_follower halt_follows rest f)
        (skip refl (untaken s.Suffixes is_halt no_suffix rest f) h) a x d

  -- ---- operands

  reads_operand : (a : List Lexeme) (x : Tree) (rest : List Lexeme) (below : List Symbol) → IsOperand (IsDerived n) a x → head is_halt rest ≡ true → Accepts below rest
      → Accepts (s.Operand ∷ below) (a ++ rest)
  reads_operand a x rest below (inl (b, c, kind, y, e, (o, inner, l, e2, p, q, t), d, _)) f h =
      rw (e, e2, append_assoc, append_assoc) (step p refl (instead {first = s.Qualified} {symbol = s.AfterOpenOperand} (s.TwoStars ∷ s.Close ∷ s.Operand ∷ []) refl after_open_operand_type
      (reads_type_name inner (l ∷ (c ++ rest)) kind (s.Close ∷ s.Operand ∷ below) t (rw q refl) (rw q refl) (step q refl (r.operand c y rest below d f h)))))
  reads_operand a x rest below (inr d) f h = reads_unary s.Operand [] operand_starts rest below f h a x d

  first_operand : (a : List Lexeme) (x : Tree) (rest : List Lexeme) (below : List Symbol) → IsOperand (IsDerived n) a x → head is_halt rest ≡ true
      → Accepts (s.Tail true ∷ below) rest → Accepts (s.Tail false ∷ below) rest → Accepts (s.Expression ∷ below) (a ++ rest)
  first_operand a x rest below (inl (b, c, kind, y, e, (o, inner, l, e2, p, q, t), d, _)) f g h =
      rw (e, e2, append_assoc, append_assoc) (step p refl (instead {first = s.Qualified} {symbol = s.AfterOpen} (s.TwoStars ∷ s.Close ∷ s.Operand ∷ s.Tail false ∷ []) refl after_open_type
      (reads_type_name inner (l ∷ (c ++ rest)) kind (s.Close ∷ s.Operand ∷ s.Tail false ∷ below) t (rw q refl) (rw q refl) (step q refl (r.operand c y rest (s.Tail false ∷ below) d f h)))))
  first_operand a x rest below (inr d) f g h = reads_unary s.Expression (s.Tail true ∷ []) expression_starts rest below f g a x d

  -- ---- levels

  between : (t : Lexeme) (ts : List Lexeme) → is_between (kind_of_terminal t.terminal) ≡ true → head is_halt (t ∷ ts) ≡ true
  between t ts e = between_halts (kind_of_terminal t.terminal) e

  reads_chain : (l : ℕ) (a : List Lexeme) (x : Tree) (rest : List Lexeme) (below : List Symbol) → IsLevel (IsDerived n) l a x → head is_halt rest ≡ true
      → Accepts (s.Tail false ∷ below) rest → Accepts (s.Operand ∷ s.Tail false ∷ below) (a ++ rest)
  reads_chain zero a x rest below d f h = reads_operand a x rest (s.Tail false ∷ below) d f h
  reads_chain (suc l) a x rest below (inl d) f h = reads_chain l a x rest below d f h
  reads_chain (suc l) a x rest below (inr (b, t, c, number, y, z, e, op, p, q, _)) f h =
      rw (e, append_assoc) (r.chain (suc l) b y (t ∷ (c ++ rest)) below p (between t (c ++ rest) (binary_between t.terminal number (suc l) op))
      (step_kind (binary_goes_on t.terminal number (suc l) op) (r.chain l c z rest below q f h)))

  reads_first : (l : ℕ) (a : List Lexeme) (x : Tree) (rest : List Lexeme) (below : List Symbol) → IsLevel (IsDerived n) l a x → head is_halt rest ≡ true
      → Accepts (s.Tail true ∷ below) rest → Accepts (s.Tail false ∷ below) rest → Accepts (s.Expression ∷ below) (a ++ rest)
  reads_first zero a x rest below d f g h = first_operand a x rest below d f g h
  reads_first (suc l) a x rest below (inl d) f g h = reads_first l a x rest below d f g h
  reads_first (suc l) a x rest below (inr (b, t, c, number, y, z, e, op, p, q, _)) f g h =
      rw (e, append_assoc) (
      r.first (suc l) b y (t ∷ (c ++ rest)) below p (between t (c ++ rest) (binary_between t.terminal number (suc l) op))
      (step_kind (binary_may_assign t.terminal number (suc l) op) (r.chain l c z rest below q f h))
      (step_kind (binary_goes_on t.terminal number (suc l) op) (r.chain l c z rest below q f h))
      )

  -- ---- expressions

  reads_rule : (a : List Lexeme) (x : Tree) (rest : List Lexeme) (below : List Symbol) → IsDerived (suc n) Expression a x → head is_end rest ≡ true → Accepts below rest
      → Accepts (s.Expression ∷ below) (a ++ rest)
  reads_rule a x rest below (inl d) f h =
      reads_first loosest a x rest below d (head_wider is_end is_halt end_halts rest f) (skip refl (untaken (s.Tail true) is_end (no_tail true) rest f) h)
      (skip refl (untaken (s.Tail false) is_end (no_tail false) rest f) h)
  reads_rule a x rest below (inr (b, t, c, number, y, z, e, op, p, q, _)) f h =
      rw (e, append_assoc) (r.unary s.Expression (s.Tail true ∷ []) expression_starts b y (t ∷ (c ++ rest)) below p (between t (c ++ rest) (assign_between t.terminal number op))
      (step_kind (assign_goes_on t.terminal number op) (r.expression c z rest below q f h)))

  deeper : Reads (suc n)
  deeper = record {
    expression = reads_rule;
    first = reads_first;
    chain = reads_chain;
    operand = reads_operand;
    unary = λ symbol more starts a x rest below d f h. reads_unary symbol more starts rest below f h a x d;
    postfix = λ symbol more starts a x rest below d f h. reads_postfix symbol more starts rest below f h a x d;
  }

pub reads : (n : ℕ) → Reads n
reads zero = record {
  expression = λ a x rest below d f h. absurd d;
  first = λ l a x rest below d f g h. absurd d;
  chain = λ l a x rest below d f h. absurd d;
  operand = λ a x rest below d f h. absurd d;
  unary = λ symbol more starts a x rest below d f h. absurd d;
  postfix = λ symbol more starts a x rest below d f h. absurd d;
}
reads (suc n) = deeper n (reads n)

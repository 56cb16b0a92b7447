-- A source is read as one program, or has one fault.
use Rattle.std.proofs.Common.{◌≡◌, ◌≢◌, ℕ, List, Some, None, refl, ap, subst}
use Rattle.cw_syntax.specs.Trees.{File}
use Rattle.cw_lex.specs.declared.lexer.LexFault.{LexFault}
use Rattle.cw_lex.specs.declared.tokens.Token.{Token}
use Rattle.cw_lex.specs.Tokens.{AreTokens, IsFault as IsLexFault}
use Rattle.cw_lex.proofs.Listing as lexer
use Rattle.cw_grammar.specs.Spelling.{lexemes_of}
use Rattle.cw_parse.specs.declared.fault.ParseFault.{ParseFault}
use Rattle.cw_parse.specs.declared.fault.ParseFault.TheVariants as parse
use Rattle.cw_parse.specs.Faults.{IsParsed, IsParseFault}
use Rattle.cw_parse.proofs.FilesComplete as parser
use Rattle.cw_parse.proofs.OneAnswer as parser_answer
use Rattle.cw_scope.specs.declared.faults.ScopeFault.{ScopeFault}
use Rattle.cw_scope.specs.Faults.{scope_fault}
use Rattle.cw_source.specs.declared.fault.SourceFault.{SourceFault}
use Rattle.cw_source.specs.declared.fault.SourceFault.TheVariants.{Lex, Syntax, TooDeep, Scope, NoMemory}
use Rattle.cw_source.specs.Read.{Derives, DerivesNone, ReadsAs, IsFaultOf}

module _ (source : List ℕ) where
  derives_one : (file other : File) → Derives source file → Derives source other → file ≡ other
  derives_one file other (tokens, t, p) (others, u, q) =
      let same : others ≡ tokens = lexer.one_list source others tokens u t in
      parser.one_program (lexemes_of source tokens) file other p (subst (λ (z : List Token). IsParsed source z other) same q)

  one_parse_fault : (fault another : ParseFault) → fault ≢ parse.NoMemory → another ≢ parse.NoMemory → DerivesNone source fault → DerivesNone source another → fault ≡ another
  one_parse_fault fault another h k (tokens, t, p) (others, u, q) =
      let same : others ≡ tokens = lexer.one_list source others tokens u t in
      parser_answer.one_fault (lexemes_of source tokens) source fault another h k p (subst (λ (z : List Token). IsParseFault source z another) same q)

  never_derived : (file : File) (fault : ParseFault) → fault ≢ parse.NoMemory → Derives source file → DerivesNone source fault → ⊥
  never_derived file fault h (tokens, t, p) (others, u, q) =
      let same : others ≡ tokens = lexer.one_list source others tokens u t in
      parser_answer.never_both (lexemes_of source tokens) source file fault h p (subst (λ (z : List Token). IsParseFault source z fault) same q)

  -- tokens and no tokens
  unlexed : (fault : LexFault) (tokens : List Token) → IsLexFault source fault → AreTokens source tokens → ⊥
  unlexed fault tokens f t = lexer.never_both source tokens fault t f

  syntax_other : (at : ℕ) → parse.Syntax at ≢ parse.NoMemory
  syntax_other at e = absurd (cc)

  deep_other : parse.TooDeep ≢ parse.NoMemory
  deep_other e = absurd (cc)

  -- a scope rule is broken by one program
  one_scope_fault : (fault another : ScopeFault) (file other : File) → Derives source file → Derives source other → scope_fault source file ≡ Some fault
      → scope_fault source other ≡ Some another → fault ≡ another
  one_scope_fault fault another file other d e f g =
      let same : other ≡ file = derives_one other file e d in
      let told : scope_fault source file ≡ Some another = subst (λ (z : File). scope_fault source z ≡ Some another) same g in
      cc

  derived : (file : File) → ReadsAs source file → Derives source file
  derived file h = (h.tokens, h.lexed, h.derived)

  pub one_program : (file other : File) → ReadsAs source file → ReadsAs source other → file ≡ other
  one_program file other h k = derives_one file other (derived file h) (derived other k)

  pub one_fault : (fault another : SourceFault) → fault ≢ NoMemory → another ≢ NoMemory → IsFaultOf source fault → IsFaultOf source another → fault ≡ another
  one_fault (Lex f) (Lex g) h k p q = ap (λ (z : LexFault). Lex z) (lexer.one_fault source f g p q)
  one_fault (Lex f) (Syntax at) h k p q = absurd (unlexed f q.0 p q.1)
  one_fault (Lex f) TooDeep h k p q = absurd (unlexed f q.0 p q.1)
  one_fault (Lex f) (Scope g) h k p q = absurd (unlexed f q.1.0 p q.1.1)
  one_fault (Syntax at) (Lex g) h k p q = absurd (unlexed g p.0 q p.1)
  one_fault (Syntax at) (Syntax to) h k p q = let same = one_parse_fault (parse.Syntax at) (parse.Syntax to) (syntax_other at) (syntax_other to) p q in cc
  one_fault (Syntax at) TooDeep h k p q = let same = one_parse_fault (parse.Syntax at) parse.TooDeep (syntax_other at) deep_other p q in absurd (cc)
  one_fault (Syntax at) (Scope g) h k p q = absurd (never_derived q.0 (parse.Syntax at) (syntax_other at) q.1 p)
  one_fault TooDeep (Lex g) h k p q = absurd (unlexed g p.0 q p.1)
  one_fault TooDeep (Syntax to) h k p q = let same = one_parse_fault parse.TooDeep (parse.Syntax to) deep_other (syntax_other to) p q in absurd (cc)
  one_fault TooDeep TooDeep h k p q = refl
  one_fault TooDeep (Scope g) h k p q = absurd (never_derived q.0 parse.TooDeep deep_other q.1 p)
  one_fault (Scope f) (Lex g) h k p q = absurd (unlexed g p.1.0 q p.1.1)
  one_fault (Scope f) (Syntax to) h k p q = absurd (never_derived p.0 (parse.Syntax to) (syntax_other to) p.1 q)
  one_fault (Scope f) TooDeep h k p q = absurd (never_derived p.0 parse.TooDeep deep_other p.1 q)
  one_fault (Scope f) (Scope g) h k p q = ap (λ (z : ScopeFault). Scope z) (one_scope_fault f g p.0 q.0 p.1 q.1 p.2 q.2)
  one_fault NoMemory another h k p q = absurd (h refl)
  one_fault (Lex f) NoMemory h k p q = absurd (k refl)
  one_fault (Syntax at) NoMemory h k p q = absurd (k refl)
  one_fault TooDeep NoMemory h k p q = absurd (k refl)
  one_fault (Scope f) NoMemory h k p q = absurd (k refl)

  kept_or_not : (file other : File) (fault : ScopeFault) → other ≡ file → scope_fault source file ≡ None → scope_fault source other ≡ Some fault → ⊥
  kept_or_not file other fault same h g = let told : scope_fault source file ≡ Some fault = subst (λ (z : File). scope_fault source z ≡ Some fault) same g in absurd (cc)

  pub never_both : (file : File) (fault : SourceFault) → fault ≢ NoMemory → ReadsAs source file → IsFaultOf source fault → ⊥
  never_both file (Lex f) other h p = unlexed f h.tokens p h.lexed
  never_both file (Syntax at) other h p = never_derived file (parse.Syntax at) (syntax_other at) (derived file h) p
  never_both file TooDeep other h p = never_derived file parse.TooDeep deep_other (derived file h) p
  never_both file (Scope f) other h p = kept_or_not file p.0 f (derives_one p.0 file p.1 (derived file h)) h.scoped p.2
  never_both file NoMemory other h p = other refl

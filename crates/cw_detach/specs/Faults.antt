-- Why a source has no form under a policy. Public source: ISO/IEC 9899:2011, 6.4.2 (names), 6.8, 6.9, and fork(2) and _exit(2).
use Rattle.std.specs.Prelude.{◌≡◌, ◌⊎◌, ℕ, List, length, Bool, cond, not, ◌&&◌, ◌||◌, nat_le, nat_lt, Option, Some, None, is_some, slice_get, codes}
use Rattle.std.specs.List.{filter_map, find, list_all, position_from}
use Rattle.std.specs.Option.{option_map, option_or}
use Rattle.std.specs.Str.{bytes_eq}
use Rattle.cw_core.specs.declared.quantity.Quantity.TheVariants.{SourceBytes, Nesting}
use Rattle.cw_core.specs.Quantities.{limit_of}
use Rattle.cw_syntax.specs.Names.{slice, number_in}
use Rattle.cw_syntax.specs.Plans.{function_names}
use Rattle.cw_syntax.specs.Trees.{File}
use Rattle.cw_rights.specs.Policies.{PlainPolicy}
use Rattle.cw_lex.specs.declared.tokens.Token.{Token}
use Rattle.cw_lex.specs.Tokens.{AreTokens}
use Rattle.cw_scope.specs.Rules.{is_main}
use Rattle.cw_scope.specs.Walks.{every_statement}
use Rattle.cw_detach.specs.declared.faults.ProcFault.{ProcFault}
use Rattle.cw_detach.specs.declared.faults.ProcFault.TheVariants.{NoFunction, Both, Taken, Result, Limit, NoMemory}
use Rattle.cw_detach.specs.Form.{is_among, form_of, result_in, nesting_all}

-- the name is that of a function which the source defines, and not `main`
abbrev pub is_function : List ℕ → File → List ℕ → Bool
is_function source file name = is_some (number_in (function_names source file) name) && not (is_main name)

-- Each rule by the fault that is due where it is broken. The first detached name that is no function.
unfoldable pub no_function : List ℕ → File → List (List ℕ) → Option ProcFault
no_function source file detached = option_map NoFunction (position_from (λ name. not (is_function source file name)) 0 detached)

-- The first detached name that is also split.
unfoldable pub both : List (List ℕ) → List (List ℕ) → Option ProcFault
both split detached = option_map Both (position_from (λ name. is_among split name) 0 detached)

-- The first token that is a name which the form brings in.
abbrev pub is_taken : List ℕ → Token → Bool
is_taken source t = bytes_eq (slice source t.from t.to) (codes "fork") || bytes_eq (slice source t.from t.to) (codes "_exit")

unfoldable pub taken : List ℕ → List Token → Option ProcFault
taken source tokens = option_map (λ t. Taken t.from) (find (is_taken source) tokens)

-- The first call of a detached function whose result a statement takes.
unfoldable pub result_taken : List ℕ → File → List (List ℕ) → Option ProcFault
result_taken source file detached = option_map Result (slice_get (filter_map (λ p. result_in source detached p.statement) (every_statement file)) 0)

-- The form has more bytes than a source may have; its statements nest deeper than those of a source may.
unfoldable pub long : List ℕ → Option ProcFault
long form = cond (nat_lt (limit_of SourceBytes) (length form)) (Some (Limit SourceBytes)) None

abbrev pub is_shallow : List ℕ → File → List (List ℕ) → Bool
is_shallow source file detached = list_all (λ f. nat_le (nesting_all source detached f.body) (limit_of Nesting)) file.functions

unfoldable pub deep : List ℕ → File → List (List ℕ) → Option ProcFault
deep source file detached = cond (is_shallow source file detached) None (Some (Limit Nesting))

infixl 10 ◌or_else◌
abbrev pub ◌or_else◌ : Option ProcFault → Option ProcFault → Option ProcFault
rule or_else other = option_or rule other

-- The rules in their order: those on names, and those on the text, of a source with these tokens. The fault of the first that is broken,
-- and None where all are kept.
abbrev pub name_fault : List ℕ → File → PlainPolicy → Option ProcFault
name_fault source file policy = no_function source file policy.detached or_else both policy.split policy.detached

abbrev pub text_fault : List ℕ → List Token → File → List (List ℕ) → Option ProcFault
text_fault source tokens file detached =
    taken source tokens
    or_else result_taken source file detached
    or_else long (form_of source detached file)
    or_else deep source file detached

abbrev pub IsTextFault : List ℕ → File → List (List ℕ) → Option ProcFault → Type 0
IsTextFault source file detached fault = (tokens : List Token) × AreTokens source tokens × (fault ≡ text_fault source tokens file detached)

abbrev pub IsFirstFault : List ℕ → File → PlainPolicy → Option ProcFault → Type 0
IsFirstFault source file policy fault =
    (tokens : List Token) × AreTokens source tokens × (fault ≡ (name_fault source file policy or_else text_fault source tokens file policy.detached))

-- A fault that is answered is the first, or want of memory.
abbrev pub IsDetachFault : List ℕ → File → PlainPolicy → ProcFault → Type 0
IsDetachFault source file policy fault = (fault ≡ NoMemory) ⊎ IsFirstFault source file policy (Some fault)

-- What holds of the names among some tokens holds of the names to which an expression of these tokens assigns.
use Rattle.std.proofs.Common.{◌≡◌, ℕ, zero, suc, List, [], ◌∷◌, ◌++◌, sym, ap, ◌∙◌, subst, inl, inr}
use Rattle.std.specs.Prelude.{IsTrue}
use Rattle.std.proofs.lemmas.Option.{none-some, same_Some}
use Rattle.cw_syntax.specs.declared.program.Name.{Name}
use Rattle.cw_syntax.specs.declared.program.Op.TheVariants as op
use Rattle.cw_syntax.specs.Names.{slice, text}
use Rattle.cw_syntax.specs.Trees.{Tree, Node, Trees, none, more}
use Rattle.cw_grammar.specs.declared.terminals.Terminal.TheVariants as w
use Rattle.cw_grammar.specs.declared.terminals.Lexeme.{Lexeme}
use Rattle.cw_grammar.specs.declared.rules.Rule.{Rule}
use Rattle.cw_grammar.specs.declared.rules.Rule.TheVariants.{Expression, Level, Unary, Postfix}
use Rattle.cw_grammar.specs.Lexemes.{name_of, from_of, to_of, trees}
use Rattle.cw_grammar.specs.Expressions.{Derives, IsPrimary, IsPostfix, IsUnary, IsOperand, IsLevel, IsRule, IsDerived, IsExpression, loosest}
use Rattle.cw_rights.specs.Valid.{is_name}
use Rattle.cw_source_laws.specs.Marked.{AssignsName}
use Rattle.cw_source_laws.proofs.Lexed.{EachNamed}

pub each_two : (source : List ℕ) (a b : List Lexeme) → EachNamed source (a ++ b) → EachNamed source a × EachNamed source b
each_two source [] b h = (tt, h)
each_two source (t ∷ a) b h = let r = each_two source a b h.1 in ((h.0, r.0), r.1)

pub each_at : (source : List ℕ) (ts xs : List Lexeme) → ts ≡ xs → EachNamed source ts → EachNamed source xs
each_at source ts xs e h = subst (EachNamed source) e h

-- the tree, where it is a name, is a C name; where it is an assignment to a name, that does
abbrev NameIsOne : List ℕ → Tree → Type 0
NameIsOne source (Node op.Name parts from to) = IsTrue (is_name (slice source from to))
NameIsOne source _ = Unit {0}

abbrev FirstIsOne : List ℕ → Trees → Type 0
FirstIsOne source none = Unit {0}
FirstIsOne source (more x rest) = NameIsOne source x

abbrev pub Named : List ℕ → Tree → Type 0
Named source (Node op.Name parts from to) = IsTrue (is_name (slice source from to))
Named source (Node (op.Assign n) parts from to) = FirstIsOne source parts
Named source _ = Unit {0}

name_of_named : (source : List ℕ) (e : Tree) → Named source e → NameIsOne source e
name_of_named source (Node op.Name parts from to) h = h
name_of_named source (Node _ parts from to) h = tt

module _ (source : List ℕ) (D : Derives) (rec : (rule : Rule) (ts : List Lexeme) (e : Tree) → EachNamed source ts → D rule ts e → Named source e)
  where
    of_tree : (e x : Tree) → e ≡ x → Named source x → Named source e
    of_tree e x is h = subst (Named source) (sym is) h

    between : (ts inner : List Lexeme) (o c : Lexeme) → ts ≡ o ∷ inner ++ c ∷ [] → EachNamed source ts → EachNamed source inner
    between ts inner o c whole h = (each_two source inner (c ∷ []) (each_at source ts (o ∷ inner ++ c ∷ []) whole h).1).0

    named : (ts : List Lexeme) (e : Tree) (n : Lexeme) → EachNamed source ts → ts ≡ n ∷ [] → n.terminal ≡ w.Name
        → e ≡ Node op.Name none (from_of ts) (to_of ts) → Named source e
    named ts e n h whole terminal is =
        let k = each_at source ts (n ∷ []) whole h in
        let one : Node op.Name none (from_of ts) (to_of ts) ≡ Node op.Name none n.from n.to = ap (λ l. Node op.Name none (from_of l) (to_of l)) whole in
        of_tree e (Node op.Name none n.from n.to) (is ∙ one) (k.0 terminal)

    primary : (ts : List Lexeme) (e : Tree) → EachNamed source ts → IsPrimary D ts e → Named source e
    primary ts e h (inl (n, whole, terminal, is)) = named ts e n h whole terminal is
    primary ts e h (inr (inl (n, b, arguments, whole, terminal, args, is))) =
        of_tree e (Node (op.Call (name_of n)) (trees arguments) (from_of ts) (to_of ts)) is tt
    primary ts e h (inr (inr (inl (n, value, whole, terminal, is)))) = of_tree e (Node (op.Number value) none (from_of ts) (to_of ts)) is tt
    primary ts e h (inr (inr (inr (inl (n, value, whole, terminal, is))))) = of_tree e (Node (op.Char value) none (from_of ts) (to_of ts)) is tt
    primary ts e h (inr (inr (inr (inr (inl (t, rest, whole, strings, is)))))) = of_tree e (Node op.Text none (from_of ts) (to_of ts)) is tt
    primary ts e h (inr (inr (inr (inr (inr (o, inner, c, whole, opens, closes, d)))))) = rec Expression inner e (between ts inner o c whole h) d

    postfix : (ts : List Lexeme) (e : Tree) → EachNamed source ts → IsPostfix D ts e → Named source e
    postfix ts e h (inl p) = primary ts e h p
    postfix ts e h (inr (inl (a, b, x, y, whole, first, index, is))) = of_tree e (Node op.Index (more x (more y none)) (from_of ts) (to_of ts)) is tt
    postfix ts e h (inr (inr (a, t, number, x, whole, suffix, first, is))) =
        of_tree e (Node (op.Suffix number) (more x none) (from_of ts) (to_of ts)) is tt

    unary : (ts : List Lexeme) (e : Tree) → EachNamed source ts → IsUnary D ts e → Named source e
    unary ts e h (inl (t, b, number, x, whole, sign, operand, is)) = of_tree e (Node (op.Prefix number) (more x none) (from_of ts) (to_of ts)) is tt
    unary ts e h (inr (inl (t, b, number, x, whole, step, operand, is))) =
        of_tree e (Node (op.Prefix number) (more x none) (from_of ts) (to_of ts)) is tt
    unary ts e h (inr (inr (inl (t, b, x, whole, terminal, operand, is)))) = of_tree e (Node op.SizeOf (more x none) (from_of ts) (to_of ts)) is tt
    unary ts e h (inr (inr (inr (inl (t, b, kind, whole, terminal, type, is))))) = of_tree e (Node (op.SizeOfType kind) none (from_of ts) (to_of ts)) is tt
    unary ts e h (inr (inr (inr (inr p)))) = postfix ts e h p

    operand : (ts : List Lexeme) (e : Tree) → EachNamed source ts → IsOperand D ts e → Named source e
    operand ts e h (inl (a, b, kind, x, whole, type, inner, is)) = of_tree e (Node (op.Cast kind) (more x none) (from_of ts) (to_of ts)) is tt
    operand ts e h (inr p) = unary ts e h p

    level : (l : ℕ) (ts : List Lexeme) (e : Tree) → EachNamed source ts → IsLevel D l ts e → Named source e
    level zero ts e h p = operand ts e h p
    level (suc l) ts e h (inl p) = level l ts e h p
    level (suc l) ts e h (inr (a, t, b, number, x, y, whole, binary, first, second, is)) =
        of_tree e (Node (op.Binary number) (more x (more y none)) (from_of ts) (to_of ts)) is tt

    rules : (rule : Rule) (ts : List Lexeme) (e : Tree) → EachNamed source ts → IsRule D rule ts e → Named source e
    rules Expression ts e h (inl p) = level loosest ts e h p
    rules Expression ts e h (inr (a, t, b, number, x, y, whole, assign, first, second, is)) =
        let own = (each_two source a (t ∷ b) (each_at source ts (a ++ t ∷ b) whole h)).0 in
        of_tree e (Node (op.Assign number) (more x (more y none)) (from_of ts) (to_of ts)) is (name_of_named source x (rec Unary a x own first))
    rules (Level l) ts e h p = level l ts e h p
    rules Unary ts e h p = unary ts e h p
    rules Postfix ts e h p = postfix ts e h p

derived : (source : List ℕ) (n : ℕ) (rule : Rule) (ts : List Lexeme) (e : Tree) → EachNamed source ts → IsDerived n rule ts e → Named source e
derived source zero rule ts e h d = absurd d
derived source (suc n) rule ts e h d = rules source (IsDerived n) (derived source n) rule ts e h d

-- an expression that assigns the result of a call to a name
assigns : (source : List ℕ) (e : Tree) → Named source e → AssignsName source e
assigns source (Node (op.Assign zero) (more (Node op.Name parts at end) (more (Node (op.Call f) arguments at' end') none)) from to) h x is =
    subst (λ (k : Name). IsTrue (is_name (text source k))) (same_Some (record { from = at; to = end }) x is) h
assigns source _ h x is = absurd (none-some x is)

pub expression_assigns : (source : List ℕ) (n : ℕ) (ts : List Lexeme) (e : Tree) → EachNamed source ts → IsExpression n ts e → AssignsName source e
expression_assigns source n ts e h d = assigns source e (derived source n Expression ts e h d)

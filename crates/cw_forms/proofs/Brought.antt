-- The statements that stand for a call are of the grammar.
use Rattle.std.proofs.Common.{◌≡◌, ◌≢◌, ℕ, zero, suc, ◌+◌, ◌≤◌, List, [], ◌∷◌, ◌++◌, None, refl, sym, ap, subst, ◌∙◌, inl, inr}
use Rattle.std.proofs.lemmas.List.{append-nil, append_assoc}
use Rattle.cw_syntax.specs.declared.program.Op.TheVariants as op
use Rattle.cw_syntax.specs.Trees.{Tree, Statement, Stated, Form, Block, Evaluates, Empties, Chooses, Fors, nothing}
use Rattle.cw_grammar.specs.declared.terminals.Terminal.TheVariants as w
use Rattle.cw_grammar.specs.declared.terminals.Lexeme.{Lexeme}
use Rattle.cw_grammar.specs.declared.rules.Rule.TheVariants.{Expression, Level}
use Rattle.cw_grammar.specs.Lexemes.{Is, name_of, from_of, to_of, statements}
use Rattle.cw_grammar.specs.Expressions.{loosest, Derives, node, IsLevel, IsDerived, IsExpression}
use Rattle.cw_grammar.specs.Statements.{Setting, InBlock, BeforeElse, Elsewhere, IsStatement}
use Rattle.cw_grammar.proofs.Deeper.{expression_deeper}
use Rattle.cw_forms.specs.Stretches.{opening, closed}

up : (P : Derives) (l : ℕ) (ts : List Lexeme) (e : Tree) → IsLevel P 0 ts e → IsLevel P l ts e
up P zero ts e h = h
up P (suc l) ts e h = inl (up P l ts e h)

-- `fork()`, `!fork()`, `0` and `_exit(0)`
fork_call : (f o c : Lexeme) → Is w.Name f → Is w.Open o → Is w.Close c → IsDerived 1 (Level 0) (f ∷ o ∷ c ∷ []) (node (op.Call (name_of f)) [] (f ∷ o ∷ c ∷ []))
fork_call f o c p q r = inr (inr (inr (inr (inr (inl (inr (inl (f, o ∷ c ∷ [], [], refl, p, (o, [], c, refl, q, r, refl), refl))))))))

pub fork_test : (x f o c : Lexeme) → Is w.Exclamation x → Is w.Name f → Is w.Open o → Is w.Close c
    → IsExpression 2 (x ∷ f ∷ o ∷ c ∷ []) (node (op.Prefix 2) (node (op.Call (name_of f)) [] (f ∷ o ∷ c ∷ []) ∷ []) (x ∷ f ∷ o ∷ c ∷ []))
fork_test x f o c n p q r =
    inl (up (IsDerived 1) loosest (x ∷ f ∷ o ∷ c ∷ []) _ (inr (inl (x, f ∷ o ∷ c ∷ [], 2, node (op.Call (name_of f)) [] (f ∷ o ∷ c ∷ []), refl, (rw n refl), fork_call f o c p q r, refl))))

zero_there : (z : Lexeme) → Is (w.Number 0) z → IsDerived 1 Expression (z ∷ []) (node (op.Number 0) [] (z ∷ []))
zero_there z p = inl (up (IsDerived 0) loosest (z ∷ []) _ (inr (inr (inr (inr (inr (inl (inr (inr (inl (z, 0, refl, p, refl)))))))))))

pub exit_call : (f o z c : Lexeme) → Is w.Name f → Is w.Open o → Is (w.Number 0) z → Is w.Close c
    → IsExpression 2 (f ∷ o ∷ z ∷ c ∷ []) (node (op.Call (name_of f)) (node (op.Number 0) [] (z ∷ []) ∷ []) (f ∷ o ∷ z ∷ c ∷ []))
exit_call f o z c p q n r =
    inl (up (IsDerived 1) loosest (f ∷ o ∷ z ∷ c ∷ []) _
    (inr (inr (inr (inr (inr (inl (inr (inl (f, o ∷ z ∷ c ∷ [], node (op.Number 0) [] (z ∷ []) ∷ [], refl, p, (o, z ∷ [], c, refl, q, r, zero_there z n), refl))))))))))

-- some tokens as a statement of such a form
abbrev pub stated : Form → List Lexeme → Statement
stated f ts = Stated f (from_of ts) (to_of ts)

module _ (limit : ℕ) (enough : 2 ≤ limit) where
  exits : (f o z c s : Lexeme) → Is w.Name f → Is w.Open o → Is (w.Number 0) z → Is w.Close c → Is w.Semicolon s → (n : ℕ)
      → IsStatement limit (suc n) InBlock (f ∷ o ∷ z ∷ c ∷ s ∷ [])
      (stated (Evaluates (node (op.Call (name_of f)) (node (op.Number 0) [] (z ∷ []) ∷ []) (f ∷ o ∷ z ∷ c ∷ []))) (f ∷ o ∷ z ∷ c ∷ s ∷ []))
  exits f o z c s p q n r e k = (refl, refl, (f ∷ o ∷ z ∷ c ∷ [], s, refl, e, expression_deeper 2 limit enough _ _ (exit_call f o z c p q n r)))

  loops : (f o s t c e : Lexeme) → Is w.For f → Is w.Open o → Is w.Semicolon s → Is w.Semicolon t → Is w.Close c → Is w.Semicolon e → (n : ℕ)
      → IsStatement limit (suc (suc n)) InBlock (f ∷ o ∷ s ∷ t ∷ c ∷ e ∷ []) (stated (Fors nothing None None (stated Empties (e ∷ []))) (f ∷ o ∷ s ∷ t ∷ c ∷ e ∷ []))
  loops f o s t c e p q r u v x n =
      (refl, refl, (f, o, s ∷ [], t ∷ [], c ∷ [], e ∷ [], refl, p, q, (rw r refl), ([], t, refl, u, refl), ([], c, refl, v, refl), (refl, refl, (rw x refl))))

  -- at these two places, with these tokens between that are the call
  module _ (p q : ℕ) (us : List Lexeme) (first : Statement) (first_is : IsStatement limit 2 InBlock us first) where
    abbrev b1 : Lexeme
    b1 = record { terminal = w.OpenBrace; from = p; to = p + 1 }

    abbrev i : Lexeme
    i = record { terminal = w.If; from = p + 1; to = p + 1 + 2 }

    abbrev o1 : Lexeme
    o1 = record { terminal = w.Open; from = p + 1 + 2; to = p + 1 + 2 + 1 }

    abbrev x : Lexeme
    x = record { terminal = w.Exclamation; from = p + 1 + 2 + 1; to = p + 1 + 2 + 1 + 1 }

    abbrev f : Lexeme
    f = record { terminal = w.Name; from = p + 1 + 2 + 1 + 1; to = p + 1 + 2 + 1 + 1 + 4 }

    abbrev o2 : Lexeme
    o2 = record { terminal = w.Open; from = p + 1 + 2 + 1 + 1 + 4; to = p + 1 + 2 + 1 + 1 + 4 + 1 }

    abbrev c2 : Lexeme
    c2 = record { terminal = w.Close; from = p + 1 + 2 + 1 + 1 + 4 + 1; to = p + 1 + 2 + 1 + 1 + 4 + 1 + 1 }

    abbrev c1 : Lexeme
    c1 = record { terminal = w.Close; from = p + 1 + 2 + 1 + 1 + 4 + 1 + 1; to = p + 1 + 2 + 1 + 1 + 4 + 1 + 1 + 1 }

    abbrev b2 : Lexeme
    b2 = record { terminal = w.OpenBrace; from = p + 1 + 2 + 1 + 1 + 4 + 1 + 1 + 1; to = p + 1 + 2 + 1 + 1 + 4 + 1 + 1 + 1 + 1 }

    abbrev g : Lexeme
    g = record { terminal = w.Name; from = q; to = q + 5 }

    abbrev p1 : Lexeme
    p1 = record { terminal = w.Open; from = q + 5; to = q + 5 + 1 }

    abbrev z : Lexeme
    z = record { terminal = w.Number 0; from = q + 5 + 1; to = q + 5 + 1 + 1 }

    abbrev q1 : Lexeme
    q1 = record { terminal = w.Close; from = q + 5 + 1 + 1; to = q + 5 + 1 + 1 + 1 }

    abbrev s1 : Lexeme
    s1 = record { terminal = w.Semicolon; from = q + 5 + 1 + 1 + 1; to = q + 5 + 1 + 1 + 1 + 1 }

    abbrev l : Lexeme
    l = record { terminal = w.For; from = q + 5 + 1 + 1 + 1 + 1; to = q + 5 + 1 + 1 + 1 + 1 + 3 }

    abbrev p2 : Lexeme
    p2 = record { terminal = w.Open; from = q + 5 + 1 + 1 + 1 + 1 + 3; to = q + 5 + 1 + 1 + 1 + 1 + 3 + 1 }

    abbrev s2 : Lexeme
    s2 = record { terminal = w.Semicolon; from = q + 5 + 1 + 1 + 1 + 1 + 3 + 1; to = q + 5 + 1 + 1 + 1 + 1 + 3 + 1 + 1 }

    abbrev s3 : Lexeme
    s3 = record { terminal = w.Semicolon; from = q + 5 + 1 + 1 + 1 + 1 + 3 + 1 + 1; to = q + 5 + 1 + 1 + 1 + 1 + 3 + 1 + 1 + 1 }

    abbrev q2 : Lexeme
    q2 = record { terminal = w.Close; from = q + 5 + 1 + 1 + 1 + 1 + 3 + 1 + 1 + 1; to = q + 5 + 1 + 1 + 1 + 1 + 3 + 1 + 1 + 1 + 1 }

    abbrev s4 : Lexeme
    s4 = record { terminal = w.Semicolon; from = q + 5 + 1 + 1 + 1 + 1 + 3 + 1 + 1 + 1 + 1; to = q + 5 + 1 + 1 + 1 + 1 + 3 + 1 + 1 + 1 + 1 + 1 }

    abbrev d1 : Lexeme
    d1 = record { terminal = w.CloseBrace; from = q + 5 + 1 + 1 + 1 + 1 + 3 + 1 + 1 + 1 + 1 + 1; to = q + 5 + 1 + 1 + 1 + 1 + 3 + 1 + 1 + 1 + 1 + 1 + 1 }

    abbrev d2 : Lexeme
    d2 = record { terminal = w.CloseBrace; from = q + 5 + 1 + 1 + 1 + 1 + 3 + 1 + 1 + 1 + 1 + 1 + 1; to = q + 5 + 1 + 1 + 1 + 1 + 3 + 1 + 1 + 1 + 1 + 1 + 1 + 1 }

    abbrev exit_tokens : List Lexeme
    exit_tokens = g ∷ p1 ∷ z ∷ q1 ∷ s1 ∷ []

    abbrev loop_tokens : List Lexeme
    loop_tokens = l ∷ p2 ∷ s2 ∷ s3 ∷ q2 ∷ s4 ∷ []

    abbrev pub exit : Tree
    exit = node (op.Call (name_of g)) (node (op.Number 0) [] (z ∷ []) ∷ []) (g ∷ p1 ∷ z ∷ q1 ∷ [])

    abbrev pub test : Tree
    test = node (op.Prefix 2) (node (op.Call (name_of f)) [] (f ∷ o2 ∷ c2 ∷ []) ∷ []) (x ∷ f ∷ o2 ∷ c2 ∷ [])

    abbrev pub loop : Statement
    loop = stated (Fors nothing None None (stated Empties (s4 ∷ []))) loop_tokens

    abbrev within : List Lexeme
    within = us ++ (exit_tokens ++ loop_tokens)

    abbrev arm_tokens : List Lexeme
    arm_tokens = b2 ∷ within ++ d1 ∷ []

    abbrev choice_tokens : List Lexeme
    choice_tokens = i ∷ (o1 ∷ x ∷ f ∷ o2 ∷ c2 ∷ c1 ∷ []) ++ arm_tokens

    abbrev all_tokens : List Lexeme
    all_tokens = b1 ∷ choice_tokens ++ d2 ∷ []

    abbrev arm : Statement
    arm = stated (Block (statements (first ∷ stated (Evaluates exit) exit_tokens ∷ loop ∷ []))) arm_tokens

    abbrev choice : Statement
    choice = stated (Chooses test arm nothing) choice_tokens

    abbrev pub whole : Statement
    whole = stated (Block (statements (choice ∷ []))) all_tokens

    arm_is : IsStatement limit 3 Elsewhere arm_tokens arm
    arm_is = (
      refl,
      refl,
      (
        first ∷ stated (Evaluates exit) exit_tokens ∷ loop ∷ [],
        refl,
        (
          b2,
          within,
          d1,
          refl,
          refl,
          refl,
          (
            us,
            exit_tokens ++ loop_tokens,
            refl,
            first_is,
            (exit_tokens, loop_tokens, refl, exits g p1 z q1 s1 refl refl refl refl refl 1, (loop_tokens, [], refl, loops l p2 s2 s3 q2 s4 refl refl refl refl refl refl 0, refl)),
          ),
        ),
      ),
    )

    elsewhere : InBlock ≢ BeforeElse
    elsewhere e = cc

    choice_is : IsStatement limit 4 InBlock choice_tokens choice
    choice_is = (
      refl,
      refl,
      (
        i,
        o1 ∷ x ∷ f ∷ o2 ∷ c2 ∷ c1 ∷ [],
        arm_tokens,
        refl,
        elsewhere,
        refl,
        (o1, x ∷ f ∷ o2 ∷ c2 ∷ [], c1, refl, refl, refl, expression_deeper 2 limit enough _ _ (fork_test x f o2 c2 refl refl refl refl)),
        arm_is,
      ),
    )

    whole_is : (setting : Setting) → IsStatement limit 5 setting all_tokens whole
    whole_is setting =
        (refl, refl, (choice ∷ [], refl, (b1, choice_tokens, d2, refl, refl, refl, (choice_tokens, [], sym (append-nil choice_tokens), choice_is, refl))))

    tokens_are : all_tokens ≡ opening p ++ (us ++ (closed q ++ []))
    tokens_are =
        let e = exit_tokens ++ loop_tokens in
        ap (λ (k : List Lexeme). b1 ∷ i ∷ o1 ∷ x ∷ f ∷ o2 ∷ c2 ∷ c1 ∷ b2 ∷ k) (append_assoc (us ++ e) (d1 ∷ []) (d2 ∷ []) ∙ append_assoc us e (d1 ∷ d2 ∷ []))

    pub brought_is : (setting : Setting) → IsStatement limit 5 setting (opening p ++ (us ++ (closed q ++ []))) whole
    brought_is setting = subst (λ (k : List Lexeme). IsStatement limit 5 setting k whole) tokens_are (whole_is setting)

-- What an item does leads to one of its ways.
use Rattle.std.proofs.Common.{◌≡◌, ◌⊎◌, ℤ, pos, negsuc, Bool, true, false, Option, Some, None, refl, inl, inr}
use Rattle.cw_syntax.specs.Trees.{Tree, Trees, Block, Declares, Evaluates, Empties, Labels, Chooses, Whiles, Does, Fors, Breaks, Continues, Returns, Form, Definition}
use Rattle.cw_syntax.specs.Plans.{Stm, Plain, Break, Continue, Return, Open, Close, Call, Group, Label, If, While, Do, For}
use Rattle.cw_syntax.specs.Frames.{Item, Entry, Todo, Test, After, LoopEnd, End, Way, On, Left, Right, Opened, Failed}
use Rattle.cw_figures.specs.Figures.{is_zero}
use Rattle.cw_value.specs.Expressions.{Scope, Memory, Outcome, gives, stops, ◌and◌}
use Rattle.cw_value.specs.Declarations.{declares}
use Rattle.cw_value.specs.Deeds.{Computes, Decides, Opens, Calls, Answers, plain_if, statement_deed, deed_of, Passing}
use Rattle.cw_value.specs.Deeds.{side, decided_by, opened_by, form_at, tree_at, returned, evaluated, condition, next_turn, arguments_if, values, value_if, does}

-- the kinds of ways: on, by a condition, by success
pub data StepKind : Type 0 where
  straight : StepKind
  forked : StepKind
  tried : StepKind

abbrev kind_if : Bool → StepKind
kind_if true = forked
kind_if false = straight

abbrev kind_in : Stm → StepKind
kind_in (Open at j d) = tried
kind_in (If at s t) = forked
kind_in _ = straight

abbrev pub kind_of : Item → StepKind
kind_of (Todo s) = kind_in s
kind_of (Test at d u s) = kind_if d
kind_of _ = straight

abbrev pub IsWay : StepKind → Way → Type 0
IsWay straight way = way ≡ On
IsWay forked way = (way ≡ Left) ⊎ (way ≡ Right)
IsWay tried way = (way ≡ Opened) ⊎ (way ≡ Failed)

abbrev pub GoesBy : StepKind → Outcome Passing → Type 0
GoesBy kind (gives p m) = IsWay kind p.way
GoesBy kind (stops x m) = Unit {0}

then_goes : {A : Type 0} (kind : StepKind) (o : Outcome A) (f : A → Memory → Outcome Passing) → ((a : A) (k : Memory) → GoesBy kind (f a k)) → GoesBy kind (o and f)
then_goes kind (gives a m) f h = h a m
then_goes kind (stops x m) f h = tt

side_way : (b : Bool) → IsWay forked (side b)
side_way true = inr refl
side_way false = inl refl

decided_way : (o : Option ℤ) → IsWay forked (decided_by o)
decided_way None = inl refl
decided_way (Some z) = side_way (is_zero z)

opened_way : (o : Option ℤ) → IsWay tried (opened_by o)
opened_way None = inl refl
opened_way (Some (pos n)) = inl refl
opened_way (Some (negsuc n)) = inr refl

module _ (s : Scope) where
  computes : (e : Option Tree) (m : Memory) → GoesBy straight (does s (Computes e) m)
  computes e m = then_goes straight (value_if s e m) _ (λ z k. refl)

  decides : (e : Option Tree) (m : Memory) → GoesBy forked (does s (Decides e) m)
  decides e m = then_goes forked (value_if s e m) _ (λ z k. decided_way z)

  opens : (e : Option Tree) (m : Memory) → GoesBy tried (does s (Opens e) m)
  opens e m = then_goes tried (value_if s e m) _ (λ z k. opened_way z)

  calls : (es : Trees) (m : Memory) → GoesBy straight (does s (Calls es) m)
  calls es m = then_goes straight (values s es m) _ (λ z k. refl)

  answers : (e : Option Tree) (m : Memory) → GoesBy straight (does s (Answers e) m)
  answers e m = then_goes straight (value_if s e m) _ (λ z k. refl)

  plain : (o : Option Form) (m : Memory) → GoesBy straight (does s (plain_if o) m)
  plain None m = refl
  plain (Some (Evaluates e)) m = computes (Some e) m
  plain (Some (Declares d)) m = then_goes straight (declares s d m) _ (λ z k. refl)
  plain (Some (Block ss)) m = refl
  plain (Some Empties) m = refl
  plain (Some (Labels n k b)) m = refl
  plain (Some (Chooses e a b)) m = refl
  plain (Some (Whiles e a)) m = refl
  plain (Some (Does a e)) m = refl
  plain (Some (Fors i t u a)) m = refl
  plain (Some Breaks) m = refl
  plain (Some Continues) m = refl
  plain (Some (Returns e)) m = refl

  statement_way : (f : Definition) (b : Stm) (m : Memory) → GoesBy (kind_in b) (does s (statement_deed f b) m)
  statement_way f (Plain at) m = plain (form_at f at) m
  statement_way f (Break at) m = refl
  statement_way f (Continue at) m = refl
  statement_way f (Return at) m = answers (tree_at f returned at) m
  statement_way f (Open at j d) m = opens (tree_at f evaluated at) m
  statement_way f (Close at j d) m = computes (tree_at f evaluated at) m
  statement_way f (Call at j callee) m = calls (arguments_if (tree_at f evaluated at)) m
  statement_way f (Group ss) m = refl
  statement_way f (Label at mark j l b) m = refl
  statement_way f (If at a b) m = decides (tree_at f condition at) m
  statement_way f (While at b) m = refl
  statement_way f (Do at b) m = refl
  statement_way f (For at init d u b) m = refl

  -- so the program's way is always a move where jumps stand in loops
  pub deed_way : (f : Definition) (i : Item) (m : Memory) → GoesBy (kind_of i) (does s (deed_of f i) m)
  deed_way f (Entry g j) m = refl
  deed_way f (Todo b) m = statement_way f b m
  deed_way f (Test at true u b) m = decides (tree_at f condition at) m
  deed_way f (Test at false u b) m = refl
  deed_way f (After at) m = computes (tree_at f next_turn at) m
  deed_way f LoopEnd m = refl
  deed_way f (End g) m = refl

-- Games that differ in their policies alone have the same audits.
use Rattle.std.proofs.Common.{Bool, false, ◌≡◌, ℕ, List, [], ◌∷◌, true, Option, Some, None, refl, sym, ◌∙◌}
use Rattle.std.specs.Prelude.{slice_get}
use Rattle.cw_rights.specs.Policies.{PlainPolicy}
use Rattle.cw_certs.specs.declared.moves.Move.{Move}
use Rattle.cw_certs.specs.declared.moves.Move.TheVariants.{Skip, Try, Grant, Refuse, On, Left, Right, Opened, Failed}
use Rattle.cw_game.specs.declared.spots.Spot.{Spot}
use Rattle.cw_game.specs.declared.spots.Spot.TheVariants.{Visit, Asked, Step, Branch, Label, Open, Close, Call, SplitCall, Exit}
use Rattle.cw_game.specs.Games.{Game, Ret, Config, leads_in}
use Rattle.cw_audit_table.specs.Runs.{is_step, Goes, here, skips, goes, IsEntered, at_start, by_call, IsWithin, IsHit, IsCutLeast, IsShortest, start_at}
use Rattle.cw_audit_table.specs.Stated.{IsStated}
use Rattle.cw_audit_table.specs.Tables.{Audit}
use Rattle.cw_audit_laws.specs.Refusing.{ruled_by, AreAuditedAlike}

-- the moves of which a policy decides
abbrev is_ruled : Move → Bool
is_ruled Grant = true
is_ruled Refuse = true
is_ruled _ = false

step_unruled : (by : Move) → is_step by ≡ true → is_ruled by ≡ false
step_unruled On e = refl
step_unruled Left e = refl
step_unruled Right e = refl
step_unruled Opened e = refl
step_unruled Failed e = refl
step_unruled _ e = cc

module _ (g : Game) (policy : PlainPolicy) where
  -- any other leads to the same pair
  leads_same : (p q : ℕ) (rets : List Ret) (s : Option Spot) (by : Move) → is_ruled by ≡ false → leads_in (ruled_by g policy) p q rets s by ≡ leads_in g p q rets s by
  leads_same p q rets None by e = refl
  leads_same p q rets (Some (Visit j i a)) Skip e = refl
  leads_same p q rets (Some (Visit j i a)) Try e = refl
  leads_same p q rets (Some (Visit j i a)) _ e = refl
  leads_same p q rets (Some (Asked j i a)) Grant e = cc
  leads_same p q rets (Some (Asked j i a)) Refuse e = cc
  leads_same p q rets (Some (Asked j i a)) _ e = refl
  leads_same p q rets (Some (Step n)) On e = refl
  leads_same p q rets (Some (Step n)) _ e = refl
  leads_same p q rets (Some (Branch m n)) Left e = refl
  leads_same p q rets (Some (Branch m n)) Right e = refl
  leads_same p q rets (Some (Branch m n)) _ e = refl
  leads_same p q rets (Some (Label j l n)) On e = refl
  leads_same p q rets (Some (Label j l n)) _ e = refl
  leads_same p q rets (Some (Open j d n)) Opened e = refl
  leads_same p q rets (Some (Open j d n)) Failed e = refl
  leads_same p q rets (Some (Open j d n)) _ e = refl
  leads_same p q rets (Some (Close j d n)) On e = refl
  leads_same p q rets (Some (Close j d n)) _ e = refl
  leads_same p q rets (Some (Call j f n)) On e = refl
  leads_same p q rets (Some (Call j f n)) _ e = refl
  leads_same p q rets (Some (SplitCall j f n)) On e = refl
  leads_same p q rets (Some (SplitCall j f n)) _ e = refl
  leads_same p q [] (Some (Exit f)) by e = refl
  leads_same p q (r ∷ rets) (Some (Exit f)) On e = refl
  leads_same p q (r ∷ rets) (Some (Exit f)) _ e = refl

  forth : (c d : Config) (ms : List Move) → Goes g c ms d → Goes (ruled_by g policy) c ms d
  forth c _ [] here = here
  forth c e ms (skips _ x _ k l) = skips ms x e (forth c x ms k) (leads_same x.pos x.state x.rets (slice_get g.spots x.pos) Skip refl ∙ l)
  forth c e _ (goes ns x _ by k good step l) = goes ns x e by (forth c x ns k) good step (leads_same x.pos x.state x.rets (slice_get g.spots x.pos) by (step_unruled by step) ∙ l)

  back : (c d : Config) (ms : List Move) → Goes (ruled_by g policy) c ms d → Goes g c ms d
  back c _ [] here = here
  back c e ms (skips _ x _ k l) = skips ms x e (back c x ms k) (sym (leads_same x.pos x.state x.rets (slice_get g.spots x.pos) Skip refl) ∙ l)
  back c e _ (goes ns x _ by k good step l) = goes ns x e by (back c x ns k) good step (sym (leads_same x.pos x.state x.rets (slice_get g.spots x.pos) by (step_unruled by step)) ∙ l)

  hit_forth : (n : ℕ) → IsHit g n → IsHit (ruled_by g policy) n
  hit_forth n (ms, many, (c, run, bad)) = (ms, many, (c, forth (start_at g) c ms run, bad))

  hit_back : (n : ℕ) → IsHit (ruled_by g policy) n → IsHit g n
  hit_back n (ms, many, (c, run, bad)) = (ms, many, (c, back (start_at g) c ms run, bad))

  entered_forth : (f q n : ℕ) → IsEntered g f q n → IsEntered (ruled_by g policy) f q n
  entered_forth _ _ _ at_start = at_start
  entered_forth _ _ _ (by_call ms c j f k run spot) = by_call ms c j f k (forth (start_at g) c ms run) spot

  entered_back : (f q n : ℕ) → IsEntered (ruled_by g policy) f q n → IsEntered g f q n
  entered_back _ _ _ at_start = at_start
  entered_back _ _ _ (by_call ms c j f k run spot) = by_call ms c j f k (back (start_at g) c ms run) spot

  within_forth : (f q p x n : ℕ) → IsWithin g f q p x n → IsWithin (ruled_by g policy) f q p x n
  within_forth f q p x n (ms, many, run, free, good) = (ms, many, forth _ _ ms run, free, good)

  within_back : (f q p x n : ℕ) → IsWithin (ruled_by g policy) f q p x n → IsWithin g f q p x n
  within_back f q p x n (ms, many, run, free, good) = (ms, many, back _ _ ms run, free, good)

  shortest_forth : (D : Option ℕ) → IsShortest g D → IsShortest (ruled_by g policy) D
  shortest_forth None none = λ n hit. none n (hit_back n hit)
  shortest_forth (Some T) (hit, least) = (hit_forth T hit, λ n other. least n (hit_back n other))

  shortest_back : (D : Option ℕ) → IsShortest (ruled_by g policy) D → IsShortest g D
  shortest_back None none = λ n hit. none n (hit_forth n hit)
  shortest_back (Some T) (hit, least) = (hit_back T hit, λ n other. least n (hit_forth n other))

-- what is the least of the one is that of the other
least_moved : (P Q : ℕ → Type 0) (v : ℕ) → ((n : ℕ) → P n → Q n) → ((n : ℕ) → Q n → P n) → IsCutLeast P v → IsCutLeast Q v
least_moved P Q v to from ((n, is, e), least) = ((n, to n is, e), λ m other. least m (from m other))

module _ (g : Game) (policy : PlainPolicy) (t : Audit) where
  stated_forth : IsStated g t → IsStated (ruled_by g policy) t
  stated_forth s = record {
    states = s.states;
    verdict = shortest_forth g policy t.distance s.verdict;
    reached = λ f q grp e. least_moved (IsEntered g f q) (IsEntered (ruled_by g policy) f q) grp.reach (entered_forth g policy f q) (entered_back g policy f q) (s.reached f q grp e);
    within = λ f q p x a grp e i. least_moved (IsWithin g f q p x) (IsWithin (ruled_by g policy) f q p x) a (within_forth g policy f q p x) (within_back g policy f q p x) (s.within f q p x a grp e i);
    kept = s.kept;
    whole = λ f q p x n m entered within. s.whole f q p x n m (entered_back g policy f q n entered) (within_back g policy f q p x m within);
  }

  stated_back : IsStated (ruled_by g policy) t → IsStated g t
  stated_back s = record {
    states = s.states;
    verdict = shortest_back g policy t.distance s.verdict;
    reached = λ f q grp e. least_moved (IsEntered (ruled_by g policy) f q) (IsEntered g f q) grp.reach (entered_back g policy f q) (entered_forth g policy f q) (s.reached f q grp e);
    within = λ f q p x a grp e i. least_moved (IsWithin (ruled_by g policy) f q p x) (IsWithin g f q p x) a (within_back g policy f q p x) (within_forth g policy f q p x) (s.within f q p x a grp e i);
    kept = s.kept;
    whole = λ f q p x n m entered within. s.whole f q p x n m (entered_forth g policy f q n entered) (within_forth g policy f q p x m within);
  }

pub audited_alike : (g : Game) (policy : PlainPolicy) → AreAuditedAlike g (ruled_by g policy)
audited_alike g policy = record {
  hits = λ n. (hit_forth g policy n, hit_back g policy n);
  distance = λ D. (shortest_forth g policy D, shortest_back g policy D);
  table = λ t. (stated_forth g policy t, stated_back g policy t);
}

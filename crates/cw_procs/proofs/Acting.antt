-- The lists of links and of processes, as the program changes them.
use Rattle.std.proofs.Common.{◌≡◌, ℕ, zero, suc, List, [], ◌∷◌, ◌++◌, map, set, length, Bool, true, false, not, Option, Some, option_map, refl, sym, ap, ap₂, ◌∙◌, subst}
use Rattle.std.specs.Prelude.{slice_get}
use Rattle.std.proofs.lemmas.Option.{slice_get-map}
use Rattle.std.specs.List.{All}
use Rattle.std.proofs.lemmas.List.{map-append, length-map}
use Rattle.std.proofs.lemmas.List.Elements.{All-same, All-set, All-push}
use Rattle.cw_lemmas.proofs.Lists.{get_front, get_last}
use Rattle.cw_rights.specs.declared.capabilities.Caps.{Caps}
use Rattle.cw_certs.specs.declared.moves.Move.{Move}
use Rattle.cw_certs.specs.Tables.{Table}
use Rattle.cw_game.specs.Games.{Game}
use Rattle.cw_trace.specs.Traces.{Names}
use Rattle.cw_run.specs.Walks.{Here, Wait, wait_of}
use Rattle.cw_run.specs.declared.walk.Wait.{Wait as WaitData}
use Rattle.cw_procs.specs.declared.stacks.Link.{Link as LinkData}
use Rattle.cw_procs.specs.Walks.{Link, link_of, links_of, Stack, empty, on, AreKept, Process, MovesBy, ForksBy, IsNone, other, IsStep, moves, forks}

pub map_set : {A B : Type 0} (f : A → B) (xs : List A) (i : ℕ) (y : A) → map f (set xs i y) ≡ set (map f xs) i (f y)
map_set f [] i y = refl
map_set f (x ∷ xs) zero y = refl
map_set f (x ∷ xs) (suc i) y = ap (λ l. f x ∷ l) (map_set f xs i y)

pub mapped_get : {A B : Type 0} (f : A → B) (xs : List A) (i : ℕ) (x : A) → slice_get xs i ≡ Some x → slice_get (map f xs) i ≡ Some (f x)
mapped_get f xs i x e = slice_get-map f xs i ∙ ap (option_map f) e

-- An append keeps every stack.
pub kept_more : (links more : List Link) → AreKept links (links ++ more)
kept_more links more _ _ empty = empty
kept_more links more _ _ (on i l ws e st) = on i l ws (get_front links more i l e) (kept_more links more l.below ws st)

pub kept_items : (old new : List LinkData) (l : LinkData) → new ≡ old ++ l ∷ [] → AreKept (links_of old) (links_of new)
kept_items old new l e = subst (λ z. AreKept (links_of old) z) (sym (ap links_of e ∙ map-append link_of old (l ∷ []))) (kept_more (links_of old) (link_of l ∷ []))

-- and a push is an append
pub pushed : (old new : List LinkData) (calls : Option ℕ) (wait : WaitData) (landing : ℕ) (waits : List Wait) → new ≡ old ++ record { wait = wait; below = calls } ∷ [] → landing ≡ length old
    → Stack (links_of old) calls waits → Stack (links_of new) (Some landing) (wait_of wait ∷ waits)
pushed old new calls wait landing waits e at st =
    let l : LinkData = record { wait = wait; below = calls } in
    let is : links_of new ≡ links_of old ++ link_of l ∷ [] = ap links_of e ∙ map-append link_of old (l ∷ []) in
    let here : slice_get (links_of new) landing ≡ Some (link_of l) =
    ap₂ (λ (z : List Link) (i : ℕ). slice_get z i) is (at ∙ sym (length-map old link_of)) ∙ get_last (links_of old) (link_of l) in
    on landing (link_of l) waits here (kept_items old new l e calls waits st)

-- A step that the program has found is one of the world.
module _ (names : Names) (g : Game) (t : Table) (held : ℕ → Caps) (Flag : Here → Bool → Type 0) (i : ℕ) (fork : Bool) (by : Move) (ps : List Process) (links : List Link) (p : Process) (h : Here)
    (there : slice_get ps i ≡ Some p) (at : p.landing ≡ Some h) where
  pub is_other : (b : Bool) → Flag h b → b ≡ not fork → IsNone g t Flag i fork by ps links
  is_other b flag e = other p h there at (subst (λ x. Flag h x) e flag)

  pub has_moved : (ps2 : List Process) (links2 : List Link) (old new : List ℕ) (q : Process) → Flag h false → fork ≡ false
      → MovesBy names g t held i h p.calls by (Some q) links links2 old new → ps2 ≡ set ps i q → IsStep names g t held Flag i fork by ps ps2 links links2 old new
  has_moved ps2 links2 old new q flag ef m e = moves p q h m.0 there at flag ef m.1 m.2 m.3 e

  pub has_forked : (ps2 : List Process) (links2 : List Link) (old new : List ℕ) (q r : Process) (child : ℕ) → Flag h true → fork ≡ true → child ≡ length ps
      → ForksBy names g t held i child h p.calls (Some (q, r)) links links2 old new → ps2 ≡ set ps i q ++ r ∷ [] → IsStep names g t held Flag i fork by ps ps2 links links2 old new
  has_forked ps2 links2 old new q r child flag ef ec m e =
      let k = subst (λ c. ForksBy names g t held i c h p.calls (Some (q, r)) links links2 old new) ec m in
      forks k.4.mid k.4.half p q r h k.0 k.1 there at flag ef k.2 k.3 k.4.kept k.4.kept_on k.4.parent k.4.forked e

pub flag_not : (fork : Bool) → not fork ≡ true → true ≡ not fork
flag_not fork e = sym e

pub not_of : (fork : Bool) → fork ≡ true → false ≡ not fork
not_of fork e = sym (ap not e)

pub parted : {A B : Type 0} (f : A → B) (items new : List A) (i : ℕ) (a b : A) → new ≡ set items i a ++ b ∷ [] → map f new ≡ set (map f items) i (f a) ++ f b ∷ []
parted f items new i a b e = ap (map f) e ∙ map-append f (set items i a) (b ∷ []) ∙ ap (λ l. l ++ f b ∷ []) (map_set f items i a)

pub all_parted : {A : Type 0} (P : A → Type 0) (items new : List A) (i : ℕ) (a b : A) → new ≡ set items i a ++ b ∷ [] → All P items → P a → P b → All P new
all_parted P items new i a b e all pa pb = All-same P new (set items i a ++ b ∷ []) e (All-push P (set items i a) b (All-set P items i a pa all) pb)

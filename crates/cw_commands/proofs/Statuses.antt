-- Where no count rose no file went unread and nothing unwritten.
use Rattle.std.proofs.Common.{◌≡◌, ◌≢◌, ◌⊎◌, ℕ, List, [], Option, refl, sym, ap, inl, inr, subst}
use Rattle.std.specs.Prelude.{Contains}
use Rattle.cw_lemmas.proofs.Lists.{get_contains}
use Rattle.cw_core.specs.declared.quantity.Quantity.{Quantity}
use Rattle.cw_io.specs.Files.{FilesByName}
use Rattle.cw_io.proofs.Counts.{never_rose}
use Rattle.cw_commands.specs.declared.ending.Ending.{Ending}
use Rattle.cw_commands.specs.declared.ending.Ending.TheVariants.{Put, Refused as RefusedEnd, TooLong, Unread, Unwritten, Memory}
use Rattle.cw_commands.specs.declared.outcome.Reply.{Reply}
use Rattle.cw_commands.specs.declared.outcome.Reply.TheVariants.{Yes, No}
use Rattle.cw_commands.specs.declared.outcome.Cause.TheVariants.{Source, Policy, Limit, Grammar}
use Rattle.cw_commands.specs.Endings.{status_of}
use Rattle.cw_commands.specs.Files.{HaveBytes, IsFileFault, IsUnread, first}
use Rattle.cw_commands.specs.Outcomes.{Due, Told, Refused, reply_status}
use Rattle.cw_commands.specs.Runs.{Delivered, Ends}
use Rattle.cw_commands.specs.Statuses.{NoneRose, IsText, Accepts, NeverFails, EndsWell, NeverFailsForSure}

module _ {N : Type 0} (IsDue : List (List ℕ) → Due → Type 0) (files : Option FilesByName) (counts counts' : List ℕ → ℕ) (old new : Option (List ℕ)) (faults faults' : ℕ)
    (quantities : List Quantity) (names : List (List ℕ)) (none : NoneRose counts counts' names faults faults') where
  unread_fails : (policy : List ℕ) (quantity : Quantity) (name : List ℕ) (ending : Ending N) → Contains names name → IsFileFault files counts counts' policy quantity name ending
      → (status_of ending ≢ 6) × (status_of ending ≢ 7)
  unread_fails policy quantity name (TooLong told) c f = ((λ e. cc), (λ e. cc))
  unread_fails policy quantity name (Unread told) c f = absurd (none.files name c f.1)
  unread_fails policy quantity name (Put reply) c f = absurd f
  unread_fails policy quantity name (RefusedEnd cause arguments) c f = absurd f
  unread_fails policy quantity name Unwritten c f = absurd f
  unread_fails policy quantity name Memory c f = absurd f

  delivered_fails : (due : Due) (ending : Ending N) → Delivered old new faults faults' due ending → (status_of ending ≢ 6) × (status_of ending ≢ 7)
  delivered_fails (Told reply text) (Put Yes) d = ((λ e. cc), (λ e. cc))
  delivered_fails (Told reply text) (Put No) d = ((λ e. cc), (λ e. cc))
  delivered_fails (Told reply text) Unwritten d = absurd (none.output d.1)
  delivered_fails (Told reply text) Memory d = ((λ e. cc), (λ e. cc))
  delivered_fails (Told reply text) (RefusedEnd cause arguments) d = absurd d
  delivered_fails (Told reply text) (TooLong told) d = absurd d
  delivered_fails (Told reply text) (Unread told) d = absurd d
  delivered_fails (Refused cause line) (RefusedEnd Source arguments) d = ((λ e. cc), (λ e. cc))
  delivered_fails (Refused cause line) (RefusedEnd Policy arguments) d = ((λ e. cc), (λ e. cc))
  delivered_fails (Refused cause line) (RefusedEnd Limit arguments) d = ((λ e. cc), (λ e. cc))
  delivered_fails (Refused cause line) (RefusedEnd Grammar arguments) d = ((λ e. cc), (λ e. cc))
  delivered_fails (Refused cause line) (Put reply) d = absurd d
  delivered_fails (Refused cause line) Unwritten d = absurd d
  delivered_fails (Refused cause line) Memory d = absurd d
  delivered_fails (Refused cause line) (TooLong told) d = absurd d
  delivered_fails (Refused cause line) (Unread told) d = absurd d

  never : (ending : Ending N) → Ends IsDue files counts counts' old new faults faults' quantities names ending → (status_of ending ≢ 6) × (status_of ending ≢ 7)
  never ending (inl m) = subst (λ (x : Ending N). (status_of x ≢ 6) × (status_of x ≢ 7)) (sym m.0) ((λ e. cc), (λ e. cc))
  never ending (inr (inl u)) = let w = u.0 in unread_fails (first w.before) w.quantity w.name ending (get_contains names w.index w.name w.is_name) w.fault
  never ending (inr (inr d)) = delivered_fails d.1 ending d.4

  -- it has the status of a text that is due for what the files hold, or of want of memory
  abbrev EndsTold : Ending N → Type 0
  EndsTold ending =
      (status_of ending ≡ 8)
      ⊎ ((bytes : List (List ℕ)) × (reply : Reply) × (text : List ℕ) × HaveBytes files [] quantities names bytes × IsDue bytes (Told reply text) × (status_of ending ≡ reply_status reply))

  module _ (accepts : Accepts IsDue files quantities names) where
    unread_told : (ending : Ending N) → IsUnread files counts counts' quantities names ending → EndsTold ending
    unread_told (TooLong told) w = absurd (accepts.short (record {
      index = w.index;
      quantity = w.quantity;
      name = w.name;
      before = w.before;
      is_quantity = w.is_quantity;
      is_name = w.is_name;
      read = w.read;
      longer = w.fault.1;
    }))
    unread_told (Unread told) w = absurd (none.files w.name (get_contains names w.index w.name w.is_name) w.fault.1)
    unread_told (Put reply) w = absurd w.fault
    unread_told (RefusedEnd cause arguments) w = absurd w.fault
    unread_told Unwritten w = absurd w.fault
    unread_told Memory w = absurd w.fault

    delivered_told : (bytes : List (List ℕ)) (due : Due) (ending : Ending N) → HaveBytes files [] quantities names bytes → IsDue bytes due → IsText due → Delivered old new faults faults' due ending
        → EndsTold ending
    delivered_told bytes (Refused cause line) ending have is t d = absurd t
    delivered_told bytes (Told reply text) (Put told) have is t d = inr (bytes, reply, text, have, is, ap reply_status d.0)
    delivered_told bytes (Told reply text) Unwritten have is t d = absurd (none.output d.1)
    delivered_told bytes (Told reply text) Memory have is t d = inl refl
    delivered_told bytes (Told reply text) (RefusedEnd cause arguments) have is t d = absurd d
    delivered_told bytes (Told reply text) (TooLong told) have is t d = absurd d
    delivered_told bytes (Told reply text) (Unread told) have is t d = absurd d

    pub told : (ending : Ending N) → Ends IsDue files counts counts' old new faults faults' quantities names ending → EndsTold ending
    told ending (inl m) = inl (ap status_of m.0)
    told ending (inr (inl u)) = unread_told ending u.0
    told ending (inr (inr d)) = delivered_told d.0 d.1 ending d.2 d.3 (accepts.told d.0 d.1 d.2 d.3) d.4

    well : (ending : Ending N) → EndsTold ending → (status_of ending ≡ 0) ⊎ ((status_of ending ≡ 1) ⊎ (status_of ending ≡ 8))
    well ending (inl e) = inr (inr e)
    well ending (inr (bytes, Yes, text, have, is, e)) = inl e
    well ending (inr (bytes, No, text, have, is, e)) = inr (inl e)

pub never_fails : (N : Type 0) (IsDue : List (List ℕ) → Due → Type 0) → NeverFails N IsDue
never_fails N IsDue files counts counts' old new faults faults' quantities names ending ends none = never IsDue files counts counts' old new faults faults' quantities names none ending ends

pub ends_well : (N : Type 0) (IsDue : List (List ℕ) → Due → Type 0) → EndsWell N IsDue
ends_well N IsDue files counts counts' old new faults faults' quantities names ending ends none accepts =
    well IsDue files counts counts' old new faults faults' quantities names none accepts ending
    (told IsDue files counts counts' old new faults faults' quantities names none accepts ending ends)

pub never_for_sure : (N : Type 0) (IsDue : List (List ℕ) → Due → Type 0) → NeverFailsForSure N IsDue
never_for_sure N IsDue files old new quantities names ending ends =
    never IsDue files (λ name. 0) (λ name. 0) old new 0 0 quantities names (record { files = λ name c h. never_rose h; output = never_rose }) ending ends

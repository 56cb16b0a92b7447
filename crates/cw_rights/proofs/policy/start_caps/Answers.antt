use Rattle.std.proofs.Common.{ℕ, true, List, ap, sym, ◌∙◌, arith, slice_get, map}
use Rattle.std.proofs.lemmas.Option.{slice_get-map}
use Rattle.std.proofs.lemmas.List.FromFn.{fill_by_all}
use Rattle.cw_rights.specs.declared.capabilities.Hold.{Hold}
use Rattle.cw_rights.specs.declared.capabilities.Hold.TheVariants.{Closed}
use Rattle.cw_rights.specs.declared.capabilities.Caps.{Caps}
use Rattle.cw_rights.specs.Policies.{start_hold, descriptor_of}
use Rattle.cw_rights.proofs.policy.start_caps.Goals as goal

pub returns : goal.returns
returns c =
    let descriptors = c.args.policy.now.descriptors.items in
    let f = λ (k : ℕ). start_hold (slice_get (map descriptor_of descriptors) k) in
    ap (λ (hs : List Hold). let all : Caps = record { amb = true; holds = hs } in all) (fill_by_all f c.loop-i.holds 8 Closed c.loop-i.invariant.all
    (λ k h. c.loop-i.invariant.set k (omega arith) ∙ ap start_hold (sym (slice_get-map descriptor_of descriptors k))))

use Rattle.std.proofs.Common.{◌≡◌, ◌++◌, map, drop}
use Rattle.std.specs.List.{filter_map}
use Rattle.cw_starts.specs.Owning.{own_in, param_own}
use Rattle.cw_starts.proofs.owns.put_params.Given as goal

abbrev pub invariant-loop-param : goal.invariant-loop-param
invariant-loop-param l = map own_in l.out.items ++ map param_own (filter_map (λ p. p.name) (drop l.param-index l.params)) ≡ map own_in l.initial.out.items
    ++ map param_own (filter_map (λ p. p.name) l.params)

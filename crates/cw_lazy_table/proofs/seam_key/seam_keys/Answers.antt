use Rattle.std.proofs.Common.{List, subst}
use Rattle.std.specs.Prelude.{Contains}
use Rattle.cw_fixpoint.specs.Closures.{Exactly}
use Rattle.cw_lazy_table.specs.declared.seam_key.SeamKey.{SeamKey}
use Rattle.cw_lazy_table.specs.SeamKeys.{seam_key_cmp}
use Rattle.cw_lazy_table.proofs.seam_key.seam_keys.Goals as goal

pub returns : goal.returns
returns c =
    let come = c.in_ok-lists.ensures in
    record {
      asked = subst (λ (l : List SeamKey). Exactly seam_key_cmp (Contains l) c.in_ok-asked.asked.items) come.asked c.in_ok-asked.ensures;
      labels = subst (λ (l : List SeamKey). Exactly seam_key_cmp (Contains l) c.in_ok-labels.labels.items) come.labels c.in_ok-labels.ensures;
      opens = subst (λ (l : List SeamKey). Exactly seam_key_cmp (Contains l) c.in_ok-opens.opens.items) come.opens c.in_ok-opens.ensures;
      closes = subst (λ (l : List SeamKey). Exactly seam_key_cmp (Contains l) c.in_ok-closes.closes.items) come.closes c.in_ok-closes.ensures;
      calls = subst (λ (l : List SeamKey). Exactly seam_key_cmp (Contains l) c.in_ok-calls.calls.items) come.calls c.in_ok-calls.ensures;
    }

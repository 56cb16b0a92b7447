-- The orders of a table's lists are total.
use Rattle.std.specs.Cmp.{IsTotalOrder, bool_cmp_total}
use Rattle.std.proofs.lemmas.Cmp.{nat_cmp_total, on_total, then_total}
use Rattle.cw_certs.specs.Ascending.{mem_cmp, live_cmp, try_cmp, at_cmp, open_cmp, into_cmp, back_cmp}

pub mem_total : IsTotalOrder mem_cmp
mem_total = then_total (on_total (λ r. r.0.0) nat_cmp_total) (on_total (λ r. r.1) nat_cmp_total)

pub live_total : IsTotalOrder live_cmp
live_total = then_total (on_total (λ r. r.0.0) nat_cmp_total) (on_total (λ r. r.1.0) nat_cmp_total)

pub try_total : IsTotalOrder try_cmp
try_total = then_total (on_total (λ r. r.seam.0) nat_cmp_total) (then_total (on_total (λ r. r.stage) nat_cmp_total) (on_total (λ r. r.mem.0) nat_cmp_total))

pub at_total : IsTotalOrder at_cmp
at_total = then_total (on_total (λ r. r.seam.0) nat_cmp_total) (on_total (λ r. r.mem.0) nat_cmp_total)

pub open_total : IsTotalOrder open_cmp
open_total = then_total (on_total (λ r. r.seam.0) nat_cmp_total) (on_total (λ r. r.mem.0) nat_cmp_total)

pub into_total : IsTotalOrder into_cmp
into_total = then_total (on_total (λ r. r.seam.0) nat_cmp_total) (then_total (on_total (λ r. r.split) bool_cmp_total) (on_total (λ r. r.mem.0) nat_cmp_total))

pub back_total : IsTotalOrder back_cmp
back_total =
    then_total (on_total (λ r. r.seam.0) nat_cmp_total)
    (then_total (on_total (λ r. r.split) bool_cmp_total) (then_total (on_total (λ r. r.mem.0) nat_cmp_total) (on_total (λ r. r.exit.0) nat_cmp_total)))

-- The line of a policy's limits: cap_rights_limit(2).
use Rattle.std.specs.Prelude.{ℕ, List, [], ◌∷◌, ◌++◌, Option, None, Some, slice_get, codes}
use Rattle.std.specs.Fmt.{decimal}
use Rattle.cw_core.specs.Numerals.{hexadecimal}
use Rattle.cw_rights.specs.declared.capabilities.Limit.{Limit}
use Rattle.cw_rights.specs.Policies.{PlainDescriptor, PlainPolicy}
use Rattle.cw_text.specs.RowLines.{with_fields, numbered}
use Rattle.cw_text.specs.Lines.{line}

abbrev pub name_if : Option PlainDescriptor → List ℕ
name_if None = []
name_if (Some d) = d.name

-- the name of a descriptor of the policy; one that the policy doesn't have, none
abbrev pub descriptor_name : PlainPolicy → ℕ → List ℕ
descriptor_name policy descriptor = name_if (slice_get policy.descriptors descriptor)

-- ` X(INDEX,DESCRIPTOR,MASK)`
abbrev pub limit_text : PlainPolicy → ℕ → Limit → List ℕ
limit_text policy index limit = codes " " ++ with_fields (codes "X") (decimal index ∷ descriptor_name policy limit.descriptor ∷ hexadecimal limit.keep.0 ∷ [])

unfoldable pub limits_line : PlainPolicy → List ℕ
limits_line policy = line (codes "#define CW_LIMITS(X)" ++ numbered (limit_text policy) policy.limits)

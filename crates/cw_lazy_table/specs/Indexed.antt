-- Working definitions: the indices of keys, of pairs of keys and of groups.
use Rattle.std.specs.Prelude.{ℕ, ◌+◌, ◌*◌, ◌/◌, ◌%◌, ◌^◌, bit_and}
use Rattle.cw_lazy_table.specs.declared.key.Key.{Key}

-- by position, then by state, then by promise, in 64 bits
abbrev pub key_index : (states promises : ℕ) → Key → ℕ
key_index states promises k = ((((((k.pos * states) % 2 ^ 64) + k.state) % 2 ^ 64) * promises) % 2 ^ 64 + k.promise) % 2 ^ 64

-- those of both keys, mixed, below a number of ones
abbrev pub pair_index : (states promises last : ℕ) → Key × Key → ℕ
pair_index states promises last ab =
    bit_and (((((((key_index states promises ab.0 * 1048573) % 2 ^ 64) + key_index states promises ab.1) % 2 ^ 64) * 11400714819323198485) % 2 ^ 64) / 2 ^ 32) last

-- by position, then by promise, below a number of ones
abbrev pub group_index : (promises last : ℕ) → ℕ × ℕ → ℕ
group_index promises last g = bit_and ((((g.0 * promises) % 2 ^ 64) + g.1) % 2 ^ 64) last

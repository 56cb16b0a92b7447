-- The names of rights in policies, each with the set that it stands for.
use Rattle.std.specs.Prelude.{ℕ, List, [], ◌∷◌, ◌++◌, codes, cond, nat_eq, Option, Some, None}
use Rattle.std.specs.Str.{bytes_eq}

-- all twelve rights
abbrev pub all_rights : ℕ
all_rights = 0xfff

-- names of rights(4): the right of the nth is bit n
abbrev pub single_rights : List (List ℕ × ℕ)
single_rights =
    (codes "CAP_READ", 0x1) ∷ (codes "CAP_WRITE", 0x2) ∷ (codes "CAP_SEEK", 0x4) ∷ (codes "CAP_FSTAT", 0x8)
    ∷ (codes "CAP_FTRUNCATE", 0x10) ∷ (codes "CAP_FSYNC", 0x20) ∷ (codes "CAP_FCNTL", 0x40) ∷ (codes "CAP_IOCTL", 0x80)
    ∷ (codes "CAP_EVENT", 0x100) ∷ (codes "CAP_ACCEPT", 0x200) ∷ (codes "CAP_LISTEN", 0x400) ∷ (codes "CAP_LOOKUP", 0x800) ∷ []

-- abbreviations of this project: CAP_SEEK with CAP_READ, and CAP_SEEK with CAP_WRITE
abbrev pub joint_rights : List (List ℕ × ℕ)
joint_rights = (codes "CAP_PREAD", 0x5) ∷ (codes "CAP_PWRITE", 0x6) ∷ []

-- the names in a policy of this format
abbrev pub rights_in : ℕ → List (List ℕ × ℕ)
rights_in format = single_rights ++ cond (nat_eq format 2) joint_rights []

abbrev pub mask_in : List (List ℕ × ℕ) → List ℕ → Option ℕ
mask_in [] name = None
mask_in (r ∷ rest) name = cond (bytes_eq name r.0) (Some r.1) (mask_in rest name)

-- the set of rights that a name stands for
abbrev pub right_mask : ℕ → List ℕ → Option ℕ
right_mask format name = mask_in (rights_in format) name

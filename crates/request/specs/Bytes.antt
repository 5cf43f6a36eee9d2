-- Little-endian numbers in a list of bytes.
use Rattle.std.specs.Prelude.{ℕ, zero, suc, ◌+◌, ◌*◌, ◌/◌, List, [], ◌∷◌, ◌++◌, length, get_or}

abbrev pub u16_at : List ℕ → ℕ → ℕ
u16_at l i = get_or l i 0 + 256 * get_or l (i + 1) 0

abbrev pub u32_at : List ℕ → ℕ → ℕ
u32_at l i = u16_at l i + 65536 * u16_at l (i + 2)

abbrev pub u64_at : List ℕ → ℕ → ℕ
u64_at l i = u32_at l i + 4294967296 * u32_at l (i + 4)

-- the first n u32 numbers of a list
abbrev pub u32s_to : ℕ → List ℕ → List ℕ
u32s_to zero l = []
u32s_to (suc n) l = u32s_to n l ++ (u32_at l (4 * n) ∷ [])

-- all of them
abbrev pub u32s : List ℕ → List ℕ
u32s l = u32s_to (length l / 4) l

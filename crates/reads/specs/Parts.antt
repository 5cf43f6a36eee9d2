-- Where an atom's bytes lie: within the byte store, and in which memory the part that atom hands back is.
use Rattle.std.specs.Prelude.{ℕ, ◌+◌, ◌-◌, ◌≤◌, ◌<◌, ◌≡◌, length}
use Rattle.rules.specs.declared.Allocator.{Allocator}
use Rattle.rules.specs.Small.{len_for}
use Rattle.rules.specs.Said.{Said, says, refuses}
use Rattle.rules.specs.State.{AtomSlots}
use Rattle.rules.specs.Lent.{Ref}
use Rattle.rules.specs.Reads.{Atom, range, value, atom}

-- the memory block of the part, from those of the byte store and of the scratch; a refusal's empty part is of the byte store
abbrev pub block_of : ℕ → ℕ → Said Atom → ℕ
block_of bytes scratch (says (range start end)) = bytes
block_of bytes scratch (says (value v)) = scratch
block_of bytes scratch (refuses code node) = bytes

-- where the part starts in its block: the range's start, or the last bytes of the scratch's four
abbrev pub offset_of : ℕ → ℕ → Said Atom → ℕ
offset_of bytes scratch (says (range start end)) = bytes + start
offset_of bytes scratch (says (value v)) = scratch + (4 - len_for v)
offset_of bytes scratch (refuses code node) = bytes

-- document 01's atom, of what is lent to the two calls
abbrev pub atom_lent : Allocator → Ref → AtomSlots → Ref → ℕ → Said Atom
atom_lent a bytes t scratch n = atom a bytes t n (length scratch)

-- what an atom has that atom finds beside a byte store and a scratch of these lengths: its range lies in the store, or its value has 26 bits and
-- the scratch four bytes
abbrev pub PartIn : ℕ → ℕ → Said Atom → Type 0
PartIn bytes scratch (says (range start end)) = (start ≤ end) × (end ≤ bytes)
PartIn bytes scratch (says (value v)) = (v < 67108864) × (scratch ≡ 4)
PartIn bytes scratch (refuses code node) = 0 ≤ 0

-- The cases that document 01 marks P ("Both sides of each line"), as one table proved at once by computing. Assumes nothing.
use Prim.Native.Nat.{ℕ}
use mathlib.Core.Path.{◌≡◌, refl}
use mathlib.Core.List.{List, [], ◌∷◌, ◌++◌}
use mathlib.Core.Option.{Option, none, some}
use lib.IntN.{negsuc}
use lib.ListN.{replicate}
use lib.Seq.{slice}
use Rattle.rules.specs.Node.{view, view_of, nil, small_node}
use Rattle.rules.specs.Small.{big, be, unfit, fits, len_for}
use Rattle.rules.specs.Integer.{count_from, count_of}
use Rattle.rules.specs.Said.{Said, says, refuses, need, Out}
use Rattle.rules.specs.State.{Store, store, atom_slots, start_at, end_at, limits_sound}
use Rattle.rules.specs.Reads.{arg_of}
use Rattle.rules.specs.Creates.{store_atom, atom_tests, new_i64, substr_tests, new_substr, concat_tests, scan, joined, new_concat}
use Rattle.rules.specs.Record.{fresh}

-- fits_in_small_atom: no answer is no number
abbrev pub fitting : List ℕ → List ℕ
fitting v = shown (fits v)
  where
    shown : Option ℕ → List ℕ
    shown (some n) = n ∷ []
    shown none = []

-- a fresh record with room for four bytes and two atoms
abbrev pub room : Store
room = store (replicate 4 0) (atom_slots (replicate 2 0) (replicate 2 0))

-- what a creating call made: its code, its node, and the bytes of its first slot
abbrev pub making : Out ℕ Store → List ℕ
making o = answered o.said ++ slice (start_at o.lent.atoms 0) (end_at o.lent.atoms 0) o.lent.bytes
  where
    answered : Said ℕ → List ℕ
    answered (says n) = 0 ∷ n ∷ []
    answered (refuses code node) = code ∷ node ∷ []

-- 67108864 is the first Bytes node
pub cases :
    fitting [] ∷ fitting (0x00 ∷ []) ∷ fitting (0x7f ∷ []) ∷ fitting (0x80 ∷ []) ∷ fitting (0x00 ∷ 0x7f ∷ [])
    ∷ fitting (0x00 ∷ 0x80 ∷ []) ∷ fitting (0x03 ∷ 0xff ∷ 0xff ∷ 0xff ∷ []) ∷ fitting (0x04 ∷ 0x00 ∷ 0x00 ∷ 0x00 ∷ [])
    ∷ making (new_i64 (fresh 1000) (negsuc 127) room) ∷ making (new_i64 (fresh 1000) (negsuc 128) room)
    ∷ making (new_substr (fresh 1000) (small_node 128) 1 2 room)
    ∷ making (new_concat (fresh 1000) 0 (nil ∷ nil ∷ []) room)
    ∷ []
    ≡ (0 ∷ []) ∷ [] ∷ (127 ∷ []) ∷ [] ∷ []
    ∷ (128 ∷ []) ∷ (67108863 ∷ []) ∷ []
    ∷ (0 ∷ 67108864 ∷ 0x80 ∷ []) ∷ (0 ∷ 67108864 ∷ 0xff ∷ 0x7f ∷ [])
    ∷ (0 ∷ 67108864 ∷ 0x80 ∷ [])
    ∷ (0 ∷ 67108864 ∷ [])
    ∷ []
unfolding view view_of big be unfit fits len_for count_from count_of need limits_sound arg_of store_atom atom_tests substr_tests concat_tests scan joined
cases = refl

-- Facts on lists that the byte store asks for. Assumes nothing.
use Prim.Native.Nat.{ℕ, zero, suc, ◌-◌, ◌≤◌}
use mathlib.Core.Path.{◌≡◌}
use mathlib.Core.List.{List, [], ◌∷◌}
use native.Mathlib.Omega.{arith}
use lib.ListN.{take, drop}
use lib.Seq.{slice, take-nil}

-- a part of a slice, as the code takes it, is the range of the list
pub part_slice : (s e : ℕ) (l : List ℕ) → s ≤ e → take (e - s) (drop s l) ≡ slice s e l
part_slice zero e l h = let z : e - 0 ≡ e = omega arith in rw z
part_slice (suc s) zero l h = absurd (omega arith)
part_slice (suc s) (suc e) [] h = take-nil (suc e - suc s)
part_slice (suc s) (suc e) (x ∷ l) h = let z : suc e - suc s ≡ e - s = omega arith in rw z (part_slice s e l (omega arith))

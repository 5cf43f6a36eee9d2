-- Laws of the byte count: a walk that stops at the first width whose half range holds the number. Assumes nothing.
use mathlib.Core.Path.{◌≡◌, refl, ap}
use Prim.Native.Nat.{ℕ, zero, suc, ◌+◌, ◌*◌, ◌^◌, ◌≤◌, ◌<◌}
use native.Mathlib.Nat.{add-suc, add-zero, le_refl}
use native.Mathlib.Omega.{arith}
use lib.IntN.{ℤ, pos, negsuc}
use lib.Signed.{mag}
use borrow.Author.Tests.{ne_eqb}
use Rattle.rules.specs.Integer.{count_from, count_of}
use Rattle.integer.proofs.Bytes.{mono256}

-- ---- a walk from n bytes on, f more at most

-- it ends between n and n + f
from_le : (f n m : ℕ) → count_from f n m ≤ n + f
unfolding count_from
from_le zero n m = omega arith
from_le (suc f) n m = grind (arith, from_le f (suc n) m)

from_ge : (f n m : ℕ) → n ≤ count_from f n m
unfolding count_from
from_ge zero n m = le_refl n
from_ge (suc f) n m = grind (arith, from_ge f (suc n) m)

-- where the last width holds m, so does the one found
from_holds : (f n m : ℕ) → m * 2 < 256 ^ (n + f) → m * 2 < 256 ^ count_from f n m
unfolding count_from
from_holds zero n m h = rw add-zero at h
from_holds (suc f) n m h = grind (arith, add-suc, from_holds f (suc n) m)

-- a width that holds m, and is not below n, is not below the walk's
from-least : (f n m j : ℕ) → n ≤ j → m * 2 < 256 ^ j → count_from f n m ≤ j
unfolding count_from
from-least zero n m j h g = h
from-least (suc f) n m j h g = grind (arith, mono256, from-least f (suc n) m j)

-- ---- the count of a number

pub count_zero : (z : ℤ) → z ≡ pos 0 → count_of z ≡ 0
unfolding count_of
count_zero z e = rw e

-- any other number takes what the walk finds
pub count-some : (z : ℤ) → (z ≡ pos 0 → ⊥) → count_of z ≡ count_from 8 1 (mag z)
unfolding count_of
count-some (pos x) h = rw (ne_eqb x 0 (λ e. h (ap pos e)))
count-some (negsuc m) h = refl

-- at most nine bytes
pub count_le : (z : ℤ) → count_of z ≤ 9
unfolding count_of
count_le (pos x) = grind (arith, from_le 8 1 x)
count_le (negsuc m) = from_le 8 1 m

-- the half range of that many bytes holds the number
pub count_holds : (z : ℤ) → mag z < 18446744073709551616 → mag z * 2 < 256 ^ count_of z
unfolding count_of
count_holds (pos x) h = grind (arith, from_holds 8 1 x (omega arith))
count_holds (negsuc m) h = from_holds 8 1 m (omega arith)

-- a half range that holds the number is of no fewer bytes
pub count-least : (z : ℤ) (j : ℕ) → 1 ≤ j → mag z * 2 < 256 ^ j → count_of z ≤ j
unfolding count_of
count-least (pos x) j p h = grind (arith, from-least 8 1 x j p h)
count-least (negsuc m) j p h = from-least 8 1 m j p h

-- a negative number takes at least one
pub count_neg : (m : ℕ) → 1 ≤ count_of (negsuc m)
unfolding count_of
count_neg m = from_ge 8 1 m

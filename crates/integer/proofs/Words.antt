-- Laws of the numbers of 64 bits, and of those bits. Assumes nothing.
use mathlib.Core.Path.{◌≡◌, refl, sym, ap, ◌∙◌}
use Prim.Native.Nat.{ℕ, zero, suc, ◌+◌, ◌-◌, ◌*◌, ◌%◌, ◌^◌, ◌≤◌, ◌<◌}
use native.Mathlib.Nat.{mul-suc, mul-add-mod_self_left, mod-eq_of_lt, not-suc-le-zero}
use native.Mathlib.Omega.{arith}
use lib.IntN.{ℤ, pos, negsuc}
use lib.Pow.{pow-add}
use lib.Signed.{mag}
use Rattle.std.specs.Int.{w64, cast_unsigned}
use Rattle.rules.specs.Small.{be}
use Rattle.rules.specs.Integer.{count_of, int_bytes}
use Rattle.integer.specs.Word.{IsWord}
use Rattle.rules.proofs.Bytes.{pos256}
use Rattle.integer.proofs.Bytes.{same-be}
use Rattle.integer.proofs.Counts.{count_holds, count-least}

pub word_mag : (z : ℤ) → IsWord z → mag z < 18446744073709551616
word_mag (pos x) h = h
word_mag (negsuc m) h = omega arith

-- only zero has no bits
pub bits_zero : (z : ℤ) → IsWord z → cast_unsigned w64 z ≡ 0 → z ≡ pos 0
bits_zero (pos n) h e = ap pos e
bits_zero (negsuc m) h e = absurd (omega arith)

-- ---- the low bytes of the bits

-- the low part of t * q less suc m
neg_mod : (t q m : ℕ) → m < t → zero < q → (t * q - suc m) % t ≡ t - suc m
neg_mod t zero m h p = absurd (not-suc-le-zero p)
neg_mod t (suc q) m h p =
    ap (λ (k : ℕ). k % t) (let e : t * suc q - suc m ≡ t * q + (t - suc m) = omega (arith, mul-suc t q) in e)
    ∙ mul-add-mod_self_left t q (t - suc m)
    ∙ mod-eq_of_lt (let g : t - suc m < t = omega arith in g)

split64 : (n : ℕ) → n ≤ 8 → 2 ^ 64 ≡ 256 ^ n * 256 ^ (8 - n)
split64 n h = ap (λ (k : ℕ). 256 ^ k) (let e : 8 ≡ n + (8 - n) = omega arith in e) ∙ pow-add 256 n (8 - n)

-- the range of 64 bits may stand for that of n bytes
neg_bits : (n m : ℕ) → n ≤ 8 → m * 2 < 256 ^ n → be n (2 ^ 64 - suc m) ≡ be n (256 ^ n - suc m)
neg_bits n m h g =
    same-be n (2 ^ 64 - suc m) (256 ^ n - suc m)
    (ap (λ (w : ℕ). (w - suc m) % 256 ^ n) (split64 n h)
    ∙ neg_mod (256 ^ n) (256 ^ (8 - n)) m (omega arith) (pos256 (8 - n))
    ∙ sym (mod-eq_of_lt (let k : 256 ^ n - suc m < 256 ^ n = omega arith in k)))

-- as many low bytes of the 64 bits as the number takes are the number's
pub bits_int : (z : ℤ) → IsWord z → be (count_of z) (cast_unsigned w64 z) ≡ int_bytes z
bits_int (pos x) h = refl
bits_int (negsuc m) h =
    neg_bits (count_of (negsuc m)) m (count-least (negsuc m) 8 (omega arith) (omega arith))
    (count_holds (negsuc m) (omega arith))

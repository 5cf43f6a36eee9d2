-- Laws of a test of every index below a count. Assumes nothing.
use Prim.Native.Nat.{ℕ, zero, suc, ◌+◌, ◌<◌}
use mathlib.Core.Path.{◌≡◌, refl}
use mathlib.Core.Bool.{Bool, true, false, ◌&&◌, and-false}
use native.Mathlib.Numerals.{add-one}
use native.Mathlib.Omega.{arith}
use native.Mathlib.Decide.{dec_lt}
use Rattle.rules.specs.State.{all}
use Rattle.rules.proofs.Tests.{both}

pub all_none : (p : ℕ → Bool) → all p 0 ≡ true
unfolding all
all_none p = refl

pub all_more : (p : ℕ → Bool) (i : ℕ) → all p i ≡ true → p i ≡ true → all p (i + 1) ≡ true
unfolding all
all_more p i h k = rw (add-one, h, k)

pub all_false : (p : ℕ → Bool) (n i : ℕ) → i < n → p i ≡ false → all p n ≡ false
unfolding all
all_false p zero i h k = absurd (omega arith)
all_false p (suc n) i h k = last (λ l. all_false p n i l k) (dec_lt i n)
  where
    last : (i < n → all p n ≡ false) → Dec (i < n) → (all p n && p n) ≡ false
    last f (yes l) = rw (f l)
    last f (no l) = let e : i ≡ n = omega arith in rw (← e, k, and-false)

pub all-at : (p : ℕ → Bool) (n i : ℕ) → all p n ≡ true → i < n → p i ≡ true
unfolding all
all-at p zero i h k = absurd (omega arith)
all-at p (suc n) i h k = last (all-at p n i (both _ _ h).0) (dec_lt i n)
  where
    last : (i < n → p i ≡ true) → Dec (i < n) → p i ≡ true
    last f (yes l) = f l
    last f (no l) = let e : i ≡ n = omega arith in rw e (both (all p n) (p n) h).1

-- what holds of each index holds of all
pub all_hold : (p : ℕ → Bool) (n : ℕ) → ((i : ℕ) → i < n → p i ≡ true) → all p n ≡ true
unfolding all
all_hold p zero h = refl
all_hold p (suc n) h = rw (all_hold p n (λ i l. h i (omega arith)), h n (omega arith))

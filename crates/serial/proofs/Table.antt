-- The table of prefixes: bases grow, a base's room is its limit, and the search finds the first bound above a number.
-- Assumes nothing.
use Prim.Native.Nat.{ℕ, zero, suc, ◌+◌, ◌-◌, ◌*◌, ◌^◌, ◌≤◌, ◌<◌}
use mathlib.Core.Path.{◌≡◌, refl}
use mathlib.Core.Bool.{true, false}
use native.Mathlib.Decide.{dec_lt}
use native.Mathlib.Omega.{arith}
use lib.Dec.{ltb, eqb}
use lib.Pow.{pow_mono}
use borrow.Author.Tests.{ltb-true, ltb-false, eqb-true}
use Rattle.rules.specs.State.{all}
use Rattle.rules.specs.Serial.{base_of, limit_of, first_below, extra_for, extra}
use Rattle.rules.proofs.Alls.{all-at}
use Rattle.rules.proofs.Tests.{choice}
use Rattle.serial.specs.Forms.{First}

-- ---- bases and limits

pub bases_grow : {i j : ℕ} → i ≤ j → base_of i ≤ base_of j
unfolding base_of
bases_grow {i} {j} h = let p : 2 ^ (7 - j) ≤ 2 ^ (7 - i) = pow_mono (omega arith) in omega arith

-- the first bytes that are the prefixes' of k + 1 bytes, times what the others write, are the lengths below the limit
pub base_room : (k : ℕ) → k ≤ 4 → (base_of (suc k) - base_of k) * 256 ^ k ≡ limit_of k
unfolding base_of limit_of all
base_room k h =
    eqb-true ((base_of (suc k) - base_of k) * 256 ^ k) (limit_of k)
    (all-at (λ i. eqb ((base_of (suc i) - base_of i) * 256 ^ i) (limit_of i)) 5 k refl (omega arith))

-- the ends of the table
pub first_base : base_of 0 ≡ 0x80
unfolding base_of
first_base = refl

pub last_base : base_of 5 ≡ 0xfc
unfolding base_of
last_base = refl

-- ---- the first bound above a number

pub first_below_lem : (bound : ℕ → ℕ) (n k x : ℕ) → First bound n k x (first_below bound n k x)
unfolding first_below
first_below_lem bound zero k x = record { low = omega arith; high = omega arith; past = λ j p q. absurd (omega arith); found = λ p. absurd (omega arith) }
first_below_lem bound (suc n) k x = choice (First bound (suc n) k x) (ltb x (bound k)) _ _ here (later _ (first_below_lem bound n (suc k) x))
  where
    here : ltb x (bound k) ≡ true → First bound (suc n) k x k
    here t = record { low = omega arith; high = omega arith; past = λ j p q. absurd (omega arith); found = λ p. ltb-true x (bound k) t }

    after : (r : ℕ) → First bound n (suc k) x r → bound k ≤ x → (j : ℕ) → k ≤ j → j < r → Dec (k < j) → bound j ≤ x
    after r c b j p q (yes l) = c.past j l q
    after r c b j p q (no l) = let e : j ≡ k = omega arith in rw e b

    later : (r : ℕ) → First bound n (suc k) x r → ltb x (bound k) ≡ false → First bound (suc n) k x r
    later r c t = record {
      low = omega (arith, c.low);
      high = omega (arith, c.high);
      past = λ j p q. after r c (ltb-false x (bound k) t) j p q (dec_lt k j);
      found = λ p. c.found (omega arith);
    }

-- no bound above x stands before it
pub first_least : (bound : ℕ → ℕ) (n k x j : ℕ) → k ≤ j → x < bound j → first_below bound n k x ≤ j
first_least bound n k x j h b = least (dec_lt j (first_below bound n k x))
  where
    least : Dec (j < first_below bound n k x) → first_below bound n k x ≤ j
    least (yes l) = absurd (omega (arith, (first_below_lem bound n k x).past j h l))
    least (no l) = omega arith

-- where the last bound is above x, the one found is
pub first_above : (bound : ℕ → ℕ) (n k x : ℕ) → x < bound (k + n) → x < bound (first_below bound n k x)
first_above bound n k x h = above (dec_lt (first_below bound n k x) (k + n))
  where
    above : Dec (first_below bound n k x < k + n) → x < bound (first_below bound n k x)
    above (yes l) = (first_below_lem bound n k x).found l
    above (no l) = let e : first_below bound n k x ≡ k + n = omega (arith, (first_below_lem bound n k x).high) in rw e h

-- there is one first only
pub first_only : {bound : ℕ → ℕ} {n k x r s : ℕ} → First bound n k x r → First bound n k x s → r ≡ s
first_only {r} {s} c d = only (dec_lt r s) (dec_lt s r)
  where
    only : Dec (r < s) → Dec (s < r) → r ≡ s
    only (yes l) b = absurd (omega (arith, d.past r c.low l, c.found (omega (arith, d.high))))
    only (no l) (yes m) = absurd (omega (arith, c.past s d.low m, d.found (omega (arith, c.high))))
    only (no l) (no m) = omega arith

-- ---- the table searched: by a first byte, and by a length

pub extra-is : (b k : ℕ) → k ≤ 4 → base_of k ≤ b → b < base_of (suc k) → extra b ≡ k
extra-is b k h p q = first_only (first_below_lem (λ i. base_of (suc i)) 4 0 b) (record {
  low = omega arith;
  high = omega arith;
  past = λ j u v. omega (arith, bases_grow {i = suc j} {j = k} v);
  found = λ u. q;
})

pub record Extra (b k : ℕ) : Type 0 where
  pub listed : k ≤ 4
  pub from : base_of k ≤ b
  pub below : b < base_of (suc k)

pub extra_in : (b : ℕ) → 0x80 ≤ b → b < 0xfc → Extra b (extra b)
extra_in b h l =
    let c = first_below_lem (λ i. base_of (suc i)) 4 0 b in
    record {
      listed = omega (arith, c.high);
      from = reached (extra b) c.past;
      below = first_above (λ i. base_of (suc i)) 4 0 b (rw last_base l);
    }
  where
    reached : (k : ℕ) → ((j : ℕ) → 0 ≤ j → j < k → base_of (suc j) ≤ b) → base_of k ≤ b
    reached zero g = rw first_base h
    reached (suc k) g = g k (omega arith) (omega arith)

pub extra-for : (len : ℕ) → len < limit_of 4 → (extra_for len ≤ 4) × (len < limit_of (extra_for len))
extra-for len h = (omega (arith, (first_below_lem limit_of 4 0 len).high), first_above limit_of 4 0 len h)

pub extra-least : (len k : ℕ) → len < limit_of k → extra_for len ≤ k
extra-least len k h = first_least limit_of 4 0 len k (omega arith) h

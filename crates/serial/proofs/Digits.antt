-- The length in a prefix: what is written is read back, and what is read is what would be written. Assumes nothing.
use Prim.Native.Nat.{ℕ, suc, ◌+◌, ◌-◌, ◌*◌, ◌/◌, ◌^◌, ◌≤◌, ◌<◌}
use mathlib.Core.Path.{◌≡◌, ap, ap₂, ◌∙◌}
use mathlib.Core.List.{List, ◌∷◌}
use native.Mathlib.Nat.{div-lt_iff_lt-mul, div-add-mod'}
use native.Mathlib.Omega.{arith}
use lib.Arith.{digits_lt, digits_div}
use lib.ListN.{length}
use Rattle.rules.specs.Small.{big, be, Octets}
use Rattle.rules.specs.Serial.{base_of, limit_of, prefix}
use Rattle.rules.proofs.Bytes.{pos256, big_lt, be-big}
use Rattle.rules.proofs.Smalls.{length-be, be-value}
use Rattle.serial.proofs.Table.{base_room}

-- ---- written

-- the first byte lies between two bases
pub written_first : (k len : ℕ) → k ≤ 4 → len < limit_of k → base_of k + len / 256 ^ k < base_of (suc k)
written_first k len h l =
    let p : len / 256 ^ k < base_of (suc k) - base_of k = (div-lt_iff_lt-mul (pos256 k)).1 (rw (base_room k h) l) in
    omega arith

pub written_read : (k len : ℕ) → big ((base_of k + len / 256 ^ k - base_of k) ∷ be k len) ≡ len
unfolding big
written_read k len =
    let e : base_of k + len / 256 ^ k - base_of k ≡ len / 256 ^ k = omega arith in
    rw (e, length-be, be-value) (div-add-mod' len (256 ^ k))

-- ---- read

-- a first byte between two bases and k bytes: their length is below the limit, and they are its prefix
module _ (k b : ℕ) (l : List ℕ) (h : k ≤ 4) (p : base_of k ≤ b) (q : b < base_of (suc k)) (n : length l ≡ k) (o : Octets l) where
  rest_lt : big l < 256 ^ k
  rest_lt = rw n at (big_lt l o)

  pub read-limit : big ((b - base_of k) ∷ l) < limit_of k
  unfolding big
  read-limit =
      let d : b - base_of k < base_of (suc k) - base_of k = omega arith in
      rw (n, ← base_room k h) (digits_lt d rest_lt)

  pub read-written : prefix k (big ((b - base_of k) ∷ l)) ≡ b ∷ l
  unfolding big
  read-written =
      let e : base_of k + (b - base_of k) ≡ b = omega arith in
      let r : be k ((b - base_of k) * 256 ^ k + big l) ≡ l = rw n at (be-big l o (b - base_of k)) in
      rw n (ap₂ ◌∷◌ (ap (λ (m : ℕ). base_of k + m) (digits_div (b - base_of k) rest_lt) ∙ e) r)

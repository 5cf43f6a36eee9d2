-- The bytes of an integer are the shortest that mean it, and no other bytes of their length do: one proof over the byte count,
-- for both signs. Assumes nothing.
use mathlib.Core.Path.{◌≡◌, sym, ap, ◌∙◌, subst}
use mathlib.Core.List.{List, [], ◌∷◌}
use Prim.Native.Nat.{ℕ, zero, suc, ◌*◌, ◌^◌, ◌≤◌, ◌<◌, zero-le}
use native.Mathlib.Nat.{pow-succ', mod-eq_of_lt, not-suc-le-zero}
use native.Mathlib.Omega.{arith}
use lib.IntN.{ℤ, pos, negsuc}
use lib.ListN.{length}
use lib.Signed.{mag}
use Rattle.rules.specs.Small.{big, be, Octets}
use Rattle.rules.specs.Integer.{signed, twos, residue, count_of, int_bytes, Shortest}
use Rattle.rules.proofs.Smalls.{length-be, be-octets, be-value}
use Rattle.rules.proofs.Bytes.{pos256, big_lt}
use Rattle.integer.proofs.Bytes.{same-big}
use Rattle.integer.proofs.Counts.{count_holds, count-least, count_neg, count_zero}

-- ---- a number below the range, and what it means

-- the meaning gives the number back
residue-signed : (b range : ℕ) → b < range → residue (signed b range) range ≡ b
residue-signed b range h = grind arith

-- half of the range holds the meaning
mag_signed : (b range : ℕ) → zero < range → mag (signed b range) * 2 < range
mag_signed b range p = grind arith

-- the range of some bytes has two halves
even : (n : ℕ) → 1 ≤ n → (h : ℕ) × (256 ^ n ≡ h * 2)
even zero p = absurd (not-suc-le-zero p)
even (suc n) p = (128 * 256 ^ n, omega (arith, pow-succ' 256 n))

-- a number is what its residue means; a negative one takes a byte, for the range of none has no negative half
signed-residue : (z : ℤ) → mag z < 18446744073709551616 → signed (residue z (256 ^ count_of z)) (256 ^ count_of z) ≡ z
signed-residue (pos x) h = grind (arith, count_holds (pos x) h)
signed-residue (negsuc m) h = grind (arith, count_holds (negsuc m) h, (even (count_of (negsuc m)) (count_neg m)).1)

residue_lt : (z : ℤ) (range : ℕ) → mag z * 2 < range → residue z range < range
residue_lt (pos x) range h = omega arith
residue_lt (negsuc m) range h = omega arith

-- ---- bytes, and what they mean

-- so bytes give their number back from what they mean
big-twos : (l : List ℕ) → Octets l → big l ≡ residue (twos l) (256 ^ length l)
big-twos l o = sym (residue-signed (big l) (256 ^ length l) (big_lt l o))

-- bytes of one length are told apart by what they mean
pub same-twos : (k l : List ℕ) → Octets k → Octets l → length k ≡ length l → twos k ≡ twos l → k ≡ l
same-twos k l o p s e =
    same-big k l o p s (big-twos k o ∙ ap (λ (z : ℤ). residue z (256 ^ length k)) e ∙ ap (λ (n : ℕ). residue (twos l) (256 ^ n)) s ∙ sym (big-twos l p))

-- fewer bytes do not mean z
least : (z : ℤ) (l : List ℕ) → twos l ≡ z → count_of z ≤ length l
unfolding big
least z [] e = rw (count_zero z (sym e)) zero-le
least z (b ∷ l) e =
    count-least z (length (b ∷ l)) (omega arith)
    (subst (λ (y : ℤ). mag y * 2 < 256 ^ length (b ∷ l)) e (mag_signed (big (b ∷ l)) (256 ^ length (b ∷ l)) (pos256 (length (b ∷ l)))))

pub length_int : (z : ℤ) → length (int_bytes z) ≡ count_of z
length_int z = length-be (count_of z) (residue z (256 ^ count_of z))

twos_int : (z : ℤ) → mag z < 18446744073709551616 → twos (int_bytes z) ≡ z
twos_int z h =
    let n : ℕ = count_of z in
    let r : ℕ = residue z (256 ^ n) in
    ap (λ (k : ℕ). signed (big (be n r)) (256 ^ k)) (length-be n r)
    ∙ ap (λ (b : ℕ). signed b (256 ^ n)) (be-value n r ∙ mod-eq_of_lt (residue_lt z (256 ^ n) (count_holds z h)))
    ∙ signed-residue z h

pub shortest-bytes : (z : ℤ) → mag z < 18446744073709551616 → Shortest z (int_bytes z)
shortest-bytes z h =
    let octets : Octets (int_bytes z) = be-octets (count_of z) (residue z (256 ^ count_of z)) in
    let means : twos (int_bytes z) ≡ z = twos_int z h in
    record {
      bytes = octets;
      means = means;
      least = λ l e. rw (length_int z) (least z l e);
      only = λ l o e s. same-twos l (int_bytes z) o octets s (e ∙ sym means);
    }

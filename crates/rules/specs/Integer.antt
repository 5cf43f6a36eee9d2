-- Integers as bytes: big-endian two's complement, as the public CLVM documentation has it (document 01: new_u64, new_i64).
use Rattle.std.specs.Prelude.{ℕ, zero, suc, ◌-◌, ◌*◌, ◌^◌, ◌≤◌, Bool, false, cond, List, ◌≡◌, ltb, eqb, ℤ, pos, negsuc, length}
use Rattle.std.specs.Int.Signed.{mag}
use Rattle.rules.specs.Small.{big, be, Octets}

-- below half of the range bytes mean themselves; from there on they count down from its end
abbrev pub signed : ℕ → ℕ → ℤ
signed b range = cond (ltb (b * 2) range) (pos b) (negsuc (range - suc b))

-- what bytes mean: big-endian two's complement, empty is zero
abbrev pub twos : List ℕ → ℤ
twos l = signed (big l) (256 ^ length l)

-- the number that two's complement bytes of a number are, unsigned, in a range
abbrev pub residue : ℤ → ℕ → ℕ
residue (pos x) range = x
residue (negsuc m) range = range - suc m

-- the first of n, n + 1, .. bytes, at most f more, whose half range holds m; m is x for x and for -1 - x
unfoldable pub count_from : ℕ → ℕ → ℕ → ℕ
count_from zero n m = n
count_from (suc f) n m = let more = count_from f (suc n) m in cond (ltb (m * 2) (256 ^ n)) n more

-- how many bytes a number of 64 bits takes: none for zero, else 1 to 9
unfoldable pub count_of : ℤ → ℕ
count_of z = let some = count_from 8 1 (mag z) in cond (is_zero z) 0 some
  where
    is_zero : ℤ → Bool
    is_zero (pos x) = eqb x 0
    is_zero (negsuc m) = false

-- the bytes that new_u64 and new_i64 hand to new_atom
abbrev pub int_bytes : ℤ → List ℕ
int_bytes z = be (count_of z) (residue z (256 ^ count_of z))

-- l is the shortest byte string that means z: no shorter one does, and no other of its length
pub record Shortest (z : ℤ) (l : List ℕ) : Type 0 where
  pub bytes : Octets l
  pub means : twos l ≡ z
  pub least : (k : List ℕ) → twos k ≡ z → length l ≤ length k
  pub only : (k : List ℕ) → Octets k → twos k ≡ z → length k ≡ length l → k ≡ l

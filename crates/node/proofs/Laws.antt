-- Laws of reading and writing the bytes of a number one at a time. Assumes nothing.
use Prim.Native.Nat.{ℕ, zero, suc, ◌+◌, ◌*◌, ◌/◌, ◌%◌, ◌^◌, ◌≤◌, ◌<◌}
use mathlib.Core.Path.{◌≡◌, ap₂}
use mathlib.Core.List.{List, ◌∷◌, [], ◌++◌, append_assoc}
use native.Mathlib.Nat.{pow-suc, pow-succ', pow-le-pow_right, div-one, div-div-eq-div-mul}
use native.Mathlib.Numerals.{add-one}
use native.Mathlib.Omega.{arith}
use lib.Dec.{lit<}
use lib.ListN.{length, take, drop, set, length-append, length-take}
use Rattle.std.proofs.lemmas.List.{drop-set}
use Rattle.rules.specs.Small.{big, be, Octets}
use Rattle.rules.proofs.Bytes.{big_lt, octets-take}

-- ---- a turn of the loop that reads

-- one digit more
pub big-more : (l : List ℕ) (b : ℕ) → big (l ++ (b ∷ [])) ≡ big l * 256 + b
unfolding big
big-more [] b = omega arith
big-more (a ∷ l) b = rw (big-more l b, length-append l (b ∷ []), add-one, pow-suc) (omega arith)

-- after a first digit and at most six bytes there is room for one more
pub big-room : (first : ℕ) (v : List ℕ) (i : ℕ) → first < 256 → Octets v → i ≤ 6 → big (first ∷ take i v) < 72057594037927936
big-room first v i f o h =
    let k : suc (length (take i v)) ≤ 7 = omega (arith, length-take i v) in
    let g : 256 ^ suc (length (take i v)) ≤ 72057594037927936 = pow-le-pow_right (lit< tt) k in
    omega (arith, big_lt (first ∷ take i v) bytes)
  where
    bytes : Octets (first ∷ take i v)
    bytes zero = f
    bytes (suc k) = octets-take i v o k

-- a first digit 0 adds nothing; what at most four bytes write takes 32 bits
pub big_zero : (v : List ℕ) → big (0 ∷ v) ≡ big v
unfolding big
big_zero v = omega arith

pub big_four : (v : List ℕ) → Octets v → length v ≤ 4 → big v < 4294967296
big_four v o h = let g : 256 ^ length v ≤ 4294967296 = pow-le-pow_right (lit< tt) h in omega (arith, big_lt v o)

-- ---- a turn of the loop that writes

-- the last of the low bytes
be-last : (n v : ℕ) → be (suc n) v ≡ be n (v / 256) ++ (v % 256 ∷ [])
unfolding be
be-last zero v = rw div-one
be-last (suc n) v = ap₂ (λ (k : ℕ) (l : List ℕ). k % 256 ∷ l) (rw (pow-succ' 256 n, div-div-eq-div-mul)) (be-last n v)

pub be-turn : (b : List ℕ) (v i : ℕ) → i < length b → be i (v / 256) ++ drop i (set b i (v % 256)) ≡ be (i + 1) v ++ drop (i + 1) b
be-turn b v i h = rw (drop-set b i (v % 256), add-one, be-last, append_assoc)

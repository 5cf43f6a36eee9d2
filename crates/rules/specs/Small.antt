-- Bytes as numbers, and small atoms (document 01: fits_in_small_atom, len_for_value).
use Rattle.std.specs.Prelude.{ℕ, zero, suc, ◌+◌, ◌*◌, ◌/◌, ◌%◌, ◌^◌, ◌<◌, Bool, cond, ◌&&◌, ◌||◌, List, [], ◌∷◌, leb, ltb, eqb, length, get_or}
use Rattle.std.proofs.Math.Option.{Option, none, some}

-- the number that big-endian bytes write, unsigned
unfoldable pub big : List ℕ → ℕ
big [] = 0
big (b ∷ bs) = b * 256 ^ length bs + big bs

-- the low n bytes of v, big-endian
unfoldable pub be : ℕ → ℕ → List ℕ
be zero v = []
be (suc n) v = v / 256 ^ n % 256 ∷ be n v

-- over 4 bytes, or [00], or first byte ≥ 80, or first 00 with second < 80, or 4 bytes with first > 03
unfoldable pub unfit : List ℕ → Bool
unfit v =
    ltb 4 (length v)
    || (eqb (length v) 1 && eqb (get_or v 0 0) 0)
    || leb 0x80 (get_or v 0 0)
    || (eqb (get_or v 0 0) 0 && ltb (get_or v 1 0) 0x80)
    || (eqb (length v) 4 && ltb 0x03 (get_or v 0 0))

-- fits_in_small_atom: empty gives 0
unfoldable pub fits : List ℕ → Option ℕ
fits v = cond (eqb (length v) 0) (some 0) (cond (unfit v) none (some (big v)))

-- len_for_value
unfoldable pub len_for : ℕ → ℕ
len_for v =
    cond (eqb v 0) 0
    (cond (ltb v 0x80) 1
    (cond (ltb v 0x8000) 2
    (cond (ltb v 0x800000) 3
    (cond (ltb v 0x80000000) 4
    5))))

-- the bytes of a small value
abbrev pub small_bytes : ℕ → List ℕ
small_bytes v = be (len_for v) v

-- the numbers of a list are bytes: what the type of a byte slice says of its list
abbrev pub Octets : List ℕ → Type 0
Octets l = (i : ℕ) → get_or l i 0 < 256

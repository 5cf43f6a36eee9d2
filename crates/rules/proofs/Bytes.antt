-- Laws of lists of bytes: their number, unsigned and big-endian, and that parts of them are bytes. Assumes nothing.
use Prim.Native.Nat.{ℕ, zero, suc, ◌+◌, ◌*◌, ◌/◌, ◌%◌, ◌^◌, ◌<◌}
use mathlib.Core.Path.{◌≡◌, refl, ap, ap₂, ◌∙◌}
use mathlib.Core.List.{List, [], ◌∷◌, ◌++◌}
use native.Mathlib.Nat.{pow-succ', one-le-pow, add-mul, mul_assoc, add_assoc}
use native.Mathlib.Omega.{arith}
use lib.Arith.{digits_lt, digits_div, digits_mod}
use lib.Dec.{lit<}
use lib.ListN.{length, take, drop}
use lib.Seq.{slice}
use Rattle.rules.specs.Small.{big, be, Octets}

pub pos256 : (k : ℕ) → zero < 256 ^ k
pos256 k = one-le-pow k 256 (lit< tt)

pub big_lt : (l : List ℕ) → Octets l → big l < 256 ^ length l
unfolding big
big_lt [] o = lit< tt
big_lt (b ∷ l) o = rw (pow-succ' 256 (length l)) (digits_lt (o 0) (big_lt l (λ i. o (suc i))))

-- the low bytes of a number whose remainder they write
pub be-big : (l : List ℕ) → Octets l → (q : ℕ) → be (length l) (q * 256 ^ length l + big l) ≡ l
unfolding be big
be-big [] o q = refl
be-big (b ∷ l) o q = rw regroup (ap₂ ◌∷◌ first (be-big l (λ i. o (suc i)) (q * 256 + b)))
  where
    t : ℕ
    t = 256 ^ length l

    regroup : q * 256 ^ suc (length l) + (b * t + big l) ≡ (q * 256 + b) * t + big l
    regroup = simp (pow-succ' 256 (length l), add-mul, mul_assoc, add_assoc)

    first : ((q * 256 + b) * t + big l) / t % 256 ≡ b
    first = ap (λ (n : ℕ). n % 256) (digits_div (q * 256 + b) (big_lt l (λ i. o (suc i)))) ∙ digits_mod q (o 0)

-- ---- parts of bytes are bytes

pub octets-++ : (a b : List ℕ) → Octets a → Octets b → Octets (a ++ b)
octets-++ [] b f g i = g i
octets-++ (x ∷ xs) b f g zero = f zero
octets-++ (x ∷ xs) b f g (suc i) = octets-++ xs b (λ j. f (suc j)) g i

pub octets-take : (n : ℕ) (l : List ℕ) → Octets l → Octets (take n l)
octets-take zero l f i = omega arith
octets-take (suc n) [] f i = f i
octets-take (suc n) (x ∷ xs) f zero = f zero
octets-take (suc n) (x ∷ xs) f (suc i) = octets-take n xs (λ j. f (suc j)) i

pub octets-drop : (n : ℕ) (l : List ℕ) → Octets l → Octets (drop n l)
octets-drop zero l f i = f i
octets-drop (suc n) [] f i = f i
octets-drop (suc n) (x ∷ xs) f i = octets-drop n xs (λ j. f (suc j)) i

pub octets-slice : (a e : ℕ) (l : List ℕ) → Octets l → Octets (slice a e l)
octets-slice a e l f = octets-drop a (take e l) (octets-take e l f)

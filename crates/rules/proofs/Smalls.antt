-- Laws of small atoms: a byte string that fits is read back from its value, the value has 26 bits, and every such value's bytes fit.
-- Assumes nothing.
use Prim.Native.Nat.{ℕ, zero, suc, ◌+◌, ◌-◌, ◌*◌, ◌/◌, ◌%◌, ◌^◌, ◌≤◌, ◌<◌}
use mathlib.Core.Path.{◌≡◌, refl, sym, ap, ◌∙◌}
use mathlib.Core.Bool.{Bool, true, false, cond, ◌&&◌, ◌||◌, false≢true}
use mathlib.Core.List.{List, [], ◌∷◌, ◌++◌}
use mathlib.Core.Option.{none, some}
use native.Mathlib.Decide.{dec_lt}
use native.Mathlib.Nat.{zero-add, suc-add, mod-one, mod-eq_of_lt, one-le-pow, pow-succ'}
use native.Mathlib.Omega.{arith}
use lib.Arith.{mod-mul}
use lib.Dec.{ltb, eqb, lit<}
use lib.ListN.{length, get_or, take, drop}
use lib.Seq.{slice, take-length, drop-append-le, take_at}
use borrow.Author.Tests.{lt-ltb, le-ltb, lt-leb, eq-eqb, ne_eqb, ltb-false, leb-false}
use Rattle.rules.proofs.Bytes.{be-big}
use Rattle.rules.specs.Small.{big, be, unfit, fits, len_for, small_bytes, Octets}

-- ---- the low bytes of a number

pub length-be : (n v : ℕ) → length (be n v) ≡ n
unfolding be
length-be zero v = refl
length-be (suc n) v = ap suc (length-be n v)

pub be-octets : (n v : ℕ) → Octets (be n v)
unfolding be
be-octets zero v i = omega arith
be-octets (suc n) v zero = omega arith
be-octets (suc n) v (suc i) = be-octets n v i

pub be-low : (m k v : ℕ) → drop k (be (k + m) v) ≡ be m v
unfolding be
be-low m zero v = rw zero-add
be-low m (suc k) v = rw suc-add (be-low m k v)

-- what they write
pub be-value : (n v : ℕ) → big (be n v) ≡ v % 256 ^ n
unfolding be big
be-value zero v = sym (mod-one v)
be-value (suc n) v =
    ap (λ (k : ℕ). v / 256 ^ n % 256 * 256 ^ k + big (be n v)) (length-be n v)
    ∙ ap (λ (k : ℕ). v / 256 ^ n % 256 * 256 ^ n + k) (be-value n v)
    ∙ sym (mod-mul v {m = 256} {c = 256 ^ n} (lit< tt) (one-le-pow n 256 (lit< tt)))
    ∙ ap (λ (k : ℕ). v % k) (sym (pow-succ' 256 n))

-- the bytes of what bytes write are those bytes
digits : (l : List ℕ) → Octets l → be (length l) (big l) ≡ l
digits l o = let z : 0 * 256 ^ length l + big l ≡ big l = omega arith in rw z at (be-big l o 0)

-- ---- how many bytes a value takes

len_1 : (v : ℕ) → 0 < v → v < 128 → len_for v ≡ 1
unfolding len_for
len_1 v h k = rw (ne_eqb v 0 (omega arith), lt-ltb v 128 k)

len_2 : (v : ℕ) → 128 ≤ v → v < 32768 → len_for v ≡ 2
unfolding len_for
len_2 v h k = rw (ne_eqb v 0 (omega arith), le-ltb v 128 h, lt-ltb v 32768 k)

len_3 : (v : ℕ) → 32768 ≤ v → v < 8388608 → len_for v ≡ 3
unfolding len_for
len_3 v h k = rw (ne_eqb v 0 (omega arith), le-ltb v 128 (omega arith), le-ltb v 32768 h, lt-ltb v 8388608 k)

len_4 : (v : ℕ) → 8388608 ≤ v → v < 67108864 → len_for v ≡ 4
unfolding len_for
len_4 v h k =
    rw (ne_eqb v 0 (omega arith), le-ltb v 128 (omega arith), le-ltb v 32768 (omega arith), le-ltb v 8388608 h, lt-ltb v 2147483648 (omega arith))

-- ---- what a byte string that fits has, as facts about numbers

record Fit (l : List ℕ) : Type 0 where
  short : length l ≤ 4
  plain : get_or l 0 0 < 128
  shortest : 128 ≤ get_or l 0 0 * 256 + get_or l 1 0
  low : length l ≡ 4 → get_or l 0 0 ≤ 3

neither : (x y : Bool) → (x || y) ≡ false → (x ≡ false) × (y ≡ false)
neither false y h = (refl, h)
neither true y h = absurd (false≢true (sym h))

-- of two tests that do not both hold, the second fails where the first holds
second : (x y : Bool) → (x && y) ≡ false → x ≡ true → y ≡ false
second true y h k = h
second false y h k = absurd (false≢true k)

fit : (l : List ℕ) → unfit l ≡ false → Fit l
unfolding unfit
fit l h =
    let h4 = neither _ _ h in
    let h3 = neither _ _ h4.0 in
    let h2 = neither _ _ h3.0 in
    let h1 = neither _ _ h2.0 in
    record {
      short = ltb-false _ _ h1.0;
      plain = leb-false _ _ h2.1;
      shortest = elim (dec_lt 0 (get_or l 0 0)) [
        | yes p ↦ omega arith
        | no p ↦ (let e : get_or l 0 0 ≡ 0 = omega arith in omega (arith, ltb-false (get_or l 1 0) 128 (second _ _ h3.1 (eq-eqb (get_or l 0 0) 0 e))))
      ];
      low = λ e. ltb-false 3 (get_or l 0 0) (second _ _ h4.1 (eq-eqb (length l) 4 e));
    }

-- and the other way: the first byte is no padding
padded : (a b : ℕ) → 128 ≤ a * 256 + b → (eqb a 0 && ltb b 128) ≡ false
padded zero b h = le-ltb b 128 (omega arith)
padded (suc a) b h = rw (ne_eqb (suc a) 0 (omega arith))

fits-from : (l : List ℕ) → Fit l → fits l ≡ some (big l)
unfolding fits unfit
fits-from [] f = absurd (omega (arith, f.shortest))
fits-from (a ∷ []) f = simp (lt-leb 128 a f.plain, ne_eqb a 0 (omega (arith, f.shortest)))
fits-from (a ∷ b ∷ []) f = simp (lt-leb 128 a f.plain, padded a b f.shortest)
fits-from (a ∷ b ∷ c ∷ []) f = simp (lt-leb 128 a f.plain, padded a b f.shortest)
fits-from (a ∷ b ∷ c ∷ d ∷ []) f = simp (lt-leb 128 a f.plain, padded a b f.shortest, le-ltb 3 a (f.low refl))
fits-from (a ∷ b ∷ c ∷ d ∷ e ∷ l) f = absurd (omega (arith, f.short))

-- the value of what fits
len_big : (l : List ℕ) → Octets l → Fit l → (big l < 67108864) × (len_for (big l) ≡ length l)
unfolding big
len_big [] o f = absurd (omega (arith, f.shortest))
len_big (a ∷ []) o f = (omega (arith, f.plain), len_1 (a * 1 + 0) (omega (arith, f.shortest)) (omega (arith, f.plain)))
len_big (a ∷ b ∷ []) o f = (omega (arith, f.plain, o 1), len_2 (a * 256 + (b * 1 + 0)) (omega (arith, f.shortest)) (omega (arith, f.plain, o 1)))
len_big (a ∷ b ∷ c ∷ []) o f = (
  omega (arith, f.plain, o 1, o 2),
  len_3 (a * 65536 + (b * 256 + (c * 1 + 0))) (omega (arith, f.shortest)) (omega (arith, f.plain, o 1, o 2)),
)
len_big (a ∷ b ∷ c ∷ d ∷ []) o f = (
  omega (arith, f.low refl, o 1, o 2, o 3),
  len_4 (a * 16777216 + (b * 65536 + (c * 256 + (d * 1 + 0)))) (omega (arith, f.shortest)) (omega (arith, f.low refl, o 1, o 2, o 3)),
)
len_big (a ∷ b ∷ c ∷ d ∷ e ∷ l) o f = absurd (omega (arith, f.short))

-- ---- the laws

record Small (l : List ℕ) (v : ℕ) : Type 0 where
  bits : v < 67108864
  long : len_for v ≡ length l
  bytes : small_bytes v ≡ l

small : (l : List ℕ) (v : ℕ) → Octets l → fits l ≡ some v → Small l v
unfolding fits len_for be
small [] v o e = let z : 0 ≡ v = cc in rw (← z) (record { bits = omega arith; long = refl; bytes = refl })
small (x ∷ r) v o e = read (unfit (x ∷ r)) refl (rw (ne_eqb (suc (length r)) 0 (omega arith)) at e)
  where
    read : (b : Bool) → unfit (x ∷ r) ≡ b → cond b none (some (big (x ∷ r))) ≡ some v → Small (x ∷ r) v
    read true u q = let z : ◌≡◌ {A = ℕ} 0 1 = cc in absurd (omega arith)
    read false u q =
        let f = fit (x ∷ r) u in
        let n = len_big (x ∷ r) o f in
        let z : big (x ∷ r) ≡ v = cc in
        rw (← z) (record {
          bits = n.0;
          long = n.1;
          bytes = rw n.1 (digits (x ∷ r) o);
        })

pub fits-value : (l : List ℕ) (v : ℕ) → Octets l → fits l ≡ some v → v < 67108864
fits-value l v o e = (small l v o e).bits

pub fits-bytes : (l : List ℕ) (v : ℕ) → Octets l → fits l ≡ some v → small_bytes v ≡ l
fits-bytes l v o e = (small l v o e).bytes

-- a value of 26 bits, by how many bytes it takes
cases : (P : ℕ → Type 0) (v : ℕ) → v < 67108864
    → (v ≡ 0 → P 0) → (0 < v → v < 128 → P 1) → (128 ≤ v → v < 32768 → P 2) → (32768 ≤ v → v < 8388608 → P 3) → (8388608 ≤ v → P 4) → P (len_for v)
unfolding len_for
cases P v h f₀ f₁ f₂ f₃ f₄ = elim (dec_lt v 1) [
  | yes p ↦ (let e : v ≡ 0 = omega arith in rw e (f₀ e))
  | no p ↦ elim (dec_lt v 128) [
    | yes q ↦ rw (len_1 v (omega arith) q) (f₁ (omega arith) q)
    | no q ↦ elim (dec_lt v 32768) [
      | yes r ↦ rw (len_2 v (omega arith) r) (f₂ (omega arith) r)
      | no r ↦ elim (dec_lt v 8388608) [
        | yes t ↦ rw (len_3 v (omega arith) t) (f₃ (omega arith) t)
        | no t ↦ rw (len_4 v (omega arith) h) (f₄ (omega arith))
      ]
    ]
  ]
]

pub small-length : (v : ℕ) → v < 67108864 → len_for v ≤ 4
small-length v h = cases (λ n. n ≤ 4) v h (λ e. omega arith) (λ p q. omega arith) (λ p q. omega arith) (λ p q. omega arith) (λ p. omega arith)

pub fits-small_bytes : (v : ℕ) → v < 67108864 → fits (small_bytes v) ≡ some v
unfolding be fits
fits-small_bytes v h = cases (λ n. fits (be n v) ≡ some v) v h
    (λ e. ap some (sym e))
    (λ p q. of 1 (record { short = omega arith; plain = omega arith; shortest = omega arith; low = λ e. omega arith }) (omega arith))
    (λ p q. of 2 (record { short = omega arith; plain = omega arith; shortest = omega arith; low = λ e. omega arith }) (omega arith))
    (λ p q. of 3 (record { short = omega arith; plain = omega arith; shortest = omega arith; low = λ e. omega arith }) (omega arith))
    (λ p. of 4 (record { short = omega arith; plain = omega arith; shortest = omega arith; low = λ e. omega arith }) (omega arith))
  where
    of : (n : ℕ) → Fit (be n v) → v < 256 ^ n → fits (be n v) ≡ some v
    of n f l = fits-from (be n v) f ∙ ap some (be-value n v ∙ mod-eq_of_lt l)

slice_all : (l : List ℕ) (n : ℕ) → n ≡ length l → slice 0 n l ≡ l
slice_all l n h = rw h (take-length l)

-- a part that does not fit, of bytes that do, has at most 3 bytes
pub part-short : (v a e : ℕ) → v < 67108864 → e ≤ len_for v → fits (slice a e (small_bytes v)) ≡ none → e - a ≤ 3
part-short v a e h g q = elim (dec_lt 3 (e - a)) [
  | yes b ↦ (let n = small-length v h in whole (omega arith) (omega arith))
  | no b ↦ omega arith
]
  where
    whole : a ≡ 0 → e ≡ len_for v → e - a ≤ 3
    whole p r =
        let k : slice a e (small_bytes v) ≡ small_bytes v = rw p (slice_all (small_bytes v) e (r ∙ sym (length-be (len_for v) v))) in
        let f = fits-small_bytes v h in
        let z : ◌≡◌ {A = ℕ} 0 1 = cc in absurd (omega arith)

-- ---- the last bytes of four that hold a small value are the value's

pub last-bytes : (v : ℕ) → v < 67108864 → drop (4 - len_for v) (be 4 v) ≡ small_bytes v
last-bytes v h =
    let l = small-length v h in
    let e : 4 ≡ (4 - len_for v) + len_for v = omega arith in
    ap (λ (k : ℕ). drop (4 - len_for v) (be k v)) e ∙ be-low (len_for v) (4 - len_for v) v

-- the same of a part of a list that begins with the four
pub last-part : (v : ℕ) (old : List ℕ) → v < 67108864 → take (4 - (4 - len_for v)) (drop (4 - len_for v) (be 4 v ++ old)) ≡ small_bytes v
last-part v old h =
    let m = small-length v h in
    let k : ℕ = 4 - len_for v in
    let n : 4 - k ≡ len_for v = omega arith in
    ap (take (4 - k)) (drop-append-le k (be 4 v) old (omega (arith, length-be 4 v)) ∙ ap (λ (x : List ℕ). x ++ old) (last-bytes v h))
    ∙ take_at (be (len_for v) v) old (4 - k) (length-be (len_for v) v ∙ sym n)

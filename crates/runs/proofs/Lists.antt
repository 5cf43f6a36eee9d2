-- Facts on lists that the slots and the bytes ask for. Assumes nothing.
use Prim.Native.Nat.{ℕ, zero, suc, ◌+◌, ◌-◌, ◌≤◌, ◌<◌}
use mathlib.Core.Path.{◌≡◌, sym, ◌∙◌, ap, subst}
use mathlib.Core.Logic.{◌≢◌}
use mathlib.Core.List.{List, [], ◌∷◌, ◌++◌, append_assoc}
use native.Mathlib.Omega.{arith}
use native.Mathlib.Decide.{dec_lt}
use lib.ListN.{length, get_or, take, drop, set, length-append}
use native.Mathlib.Nat.{zero-add, suc-add}
use lib.Seq.{slice, take_at, drop_at, take-nil, take-take, drop-drop, length-take-le, get_or-set_same, get_or-set_other}
use Rattle.rules.specs.Small.{Octets}
use Rattle.rules.specs.State.{over}
use Rattle.rules.proofs.Bytes.{octets-++, octets-take, octets-drop}

-- two lists written at n: what holds of each entry below n, and of the new one, holds of each below n + 1
pub set₂_ind : (P : ℕ → ℕ → ℕ → Type 0) (l l' : List ℕ) (n x y i : ℕ) → n < length l → n < length l' → i < n + 1
    → (i < n → P i (get_or l i 0) (get_or l' i 0)) → P n x y → P i (get_or (set l n x) i 0) (get_or (set l' n y) i 0)
set₂_ind P l l' n x y i h h' b f p = elim (dec_lt i n) [
  | yes q ↦ old q
  | no q ↦ new (omega arith)
]
  where
    old : i < n → P i (get_or (set l n x) i 0) (get_or (set l' n y) i 0)
    old q = let ne : i ≢ n = omega arith in rw (get_or-set_other l n i x 0 ne, get_or-set_other l' n i y 0 ne) (f q)

    new : n ≡ i → P i (get_or (set l n x) i 0) (get_or (set l' n y) i 0)
    new e = subst (λ (j : ℕ). P j (get_or (set l n x) j 0) (get_or (set l' n y) j 0)) e (rw (get_or-set_same l n x 0 h, get_or-set_same l' n y 0 h') p)

-- ---- bytes written over a list

-- what was written is read back
pub slice_over : (l : List ℕ) (i : ℕ) (v : List ℕ) → i ≤ length l → slice i (i + length v) (over l i v) ≡ v
slice_over l i v h =
    let e : length (take i l ++ v) ≡ i + length v = omega (arith, length-append (take i l) v, length-take-le i l h) in
    ap (λ (m : List ℕ). drop i (take (i + length v) m)) (sym (append_assoc (take i l) v (drop (i + length v) l)))
    ∙ ap (drop i) (take_at (take i l ++ v) (drop (i + length v) l) (i + length v) e)
    ∙ drop_at (take i l) v i (length-take-le i l h)

-- ---- bytes are bytes

pub octets-over : (l : List ℕ) (i : ℕ) (v : List ℕ) → Octets l → Octets v → Octets (over l i v)
octets-over l i v f g =
    octets-++ (take i l) (v ++ drop (i + length v) l) (octets-take i l f)
    (octets-++ v (drop (i + length v) l) g (octets-drop (i + length v) l f))

-- ---- parts

take-drop : (n m : ℕ) (l : List ℕ) → take m (drop n l) ≡ drop n (take (n + m) l)
take-drop zero m l = rw zero-add
take-drop (suc n) m [] = take-nil m ∙ sym (ap (drop (suc n)) (take-nil (suc n + m)))
take-drop (suc n) m (x ∷ xs) = rw suc-add (take-drop n m xs)

-- a part of a part is a part
pub slice-slice : (l : List ℕ) (from to start end : ℕ) → from ≤ to → end ≤ to - from
    → slice start end (slice from to l) ≡ slice (from + start) (from + end) l
slice-slice l from to start end h g =
    ap (drop start) (take-drop from end (take to l) ∙ ap (drop from) (take-take (from + end) to l (omega arith)))
    ∙ drop-drop start from (take (from + end) l)

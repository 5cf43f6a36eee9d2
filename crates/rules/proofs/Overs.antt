-- Bytes written over a list from an index on: what a copy into its lent tail leaves, and two writes one behind the other. Assumes nothing.
use Prim.Native.Nat.{ℕ, ◌+◌, ◌-◌, ◌≤◌}
use mathlib.Core.Path.{◌≡◌, sym, ap, ◌∙◌}
use mathlib.Core.List.{List, [], ◌++◌, append_assoc, append-nil}
use native.Mathlib.Omega.{arith}
use borrow.Rule.Slice.PartMut.{put_mid}
use lib.ListN.{length, take, drop, take-append-drop, length-append, length-take, length-drop, drop_of_length-le}
use lib.Seq.{slice, length-take-le, take_all, take-take, drop-drop, take_at, drop_at, take-append-le}
use Rattle.rules.specs.State.{over}

-- ---- a copy into the lent tail: e is what the copying left of it

pub tail_over : (l v e : List ℕ) (i : ℕ) → i + length v ≤ length l
    → e ≡ v ++ drop (length v) (take (length l - i) (drop i l)) → put_mid i (length l - i) l e ≡ over l i v
tail_over l v e i h k =
    let t : take (length l - i) (drop i l) ≡ drop i l = take_all (length l - i) (drop i l) (simp length-drop (omega arith)) in
    let d : drop (i + (length l - i)) l ≡ [] = drop_of_length-le l {i = i + (length l - i)} (omega arith) in
    simp (k, t, d, drop-drop, append-nil)

-- ---- laws of what is written over

pub over_none : (l : List ℕ) (at : ℕ) → over l at [] ≡ l
over_none l at = let z : at + 0 ≡ at = omega arith in rw z (take-append-drop at l)

pub take-over : (l v : List ℕ) (u at : ℕ) → u ≤ at → at ≤ length l → take u (over l at v) ≡ take u l
take-over l v u at h k =
    take-append-le u (take at l) (v ++ drop (at + length v) l) (simp (length-take-le at l k) h) ∙ take-take u at l h

pub length_over : (l v : List ℕ) (at : ℕ) → at + length v ≤ length l → length (over l at v) ≡ length l
length_over l v at h = simp (length-append, length-take, length-drop) (omega arith)

-- one write behind another is one write of both
pub over-over : (l v w : List ℕ) (at : ℕ) → at + length v ≤ length l → over (over l at v) (at + length v) w ≡ over l at (v ++ w)
over-over l v w at h =
    let n : ℕ = at + length v in
    let p : List ℕ = take at l ++ v in
    let q : List ℕ = drop n l in
    let long : length p ≡ n = simp (length-append, length-take) (omega arith) in
    let whole : over l at v ≡ p ++ q = sym (append_assoc (take at l) v q) in
    let rest : drop (n + length w) (p ++ q) ≡ drop (n + length w) l =
    sym (drop-drop (length w) n (p ++ q)) ∙ ap (drop (length w)) (drop_at p q n long) ∙ drop-drop (length w) n l in
    let sum : n + length w ≡ at + length (v ++ w) = omega (arith, length-append v w) in
    ap (λ (k : List ℕ). over k n w) whole
    ∙ ap (λ (k : List ℕ). k ++ (w ++ drop (n + length w) (p ++ q))) (take_at p q n long)
    ∙ ap (λ (k : List ℕ). p ++ (w ++ k)) rest
    ∙ ap (λ (m : ℕ). p ++ (w ++ drop m l)) sum
    ∙ append_assoc (take at l) v (w ++ drop (at + length (v ++ w)) l)
    ∙ ap (λ (k : List ℕ). take at l ++ k) (sym (append_assoc v w (drop (at + length (v ++ w)) l)))

-- a range below u is the same in lists whose first u elements are the same
pub slice-same : (l k : List ℕ) (s e u : ℕ) → e ≤ u → take u l ≡ take u k → slice s e l ≡ slice s e k
slice-same l k s e u h p =
    ap (drop s) (sym (take-take e u l h) ∙ ap (take e) p ∙ take-take e u k h)

-- Laws of an atom's shortest form: how long it is, that a prefix's first byte is one, and what writing it leaves. Assumes nothing.
use Prim.Native.Nat.{ℕ, ◌+◌, ◌-◌, ◌/◌, ◌%◌, ◌^◌, ◌≤◌, ◌<◌}
use mathlib.Core.Path.{◌≡◌, sym, ap, ◌∙◌}
use mathlib.Core.Bool.{Bool, true, false, ◌&&◌}
use mathlib.Core.List.{List, ◌∷◌, ◌++◌}
use native.Mathlib.Omega.{arith}
use native.Mathlib.Nat.{mod-eq_of_lt}
use native.Mathlib.Numerals.{add-one}
use borrow.Rule.Slice.PartMut.{put_mid}
use borrow.Author.Tests.{ltb-true, eqb-true}
use lib.Dec.{eqb, ltb}
use lib.ListN.{length, get_or, take, drop, set, length-append, length-take}
use lib.Seq.{get_or_at, set_at}
use Rattle.rules.specs.Small.{be}
use Rattle.rules.specs.State.{over}
use Rattle.rules.specs.Serial.{base_of, limit_of, first_below, prefix, extra_for, shortest_atom}
use Rattle.rules.proofs.Tests.{both, choice}
use Rattle.rules.proofs.Overs.{tail_over, length_over, over-over}
use Rattle.rules.proofs.Smalls.{length-be}

-- whether the bytes stand for themselves
abbrev pub Alone : List ℕ → Bool
Alone v = eqb (length v) 1 && ltb (get_or v 0 0) 0x80

pub alone-form : (v : List ℕ) → Alone v ≡ true → shortest_atom v ≡ v
unfolding shortest_atom
alone-form v h = rw h

pub alone-length : (v : List ℕ) → Alone v ≡ true → length v ≡ 1
alone-length v h = eqb-true _ _ (both _ _ h).0

pub behind-form : (v : List ℕ) → Alone v ≡ false → shortest_atom v ≡ prefix (extra_for (length v)) (length v) ++ v
unfolding shortest_atom
behind-form v h = rw h

pub length-prefix : (k len : ℕ) → length (prefix k len) ≡ 1 + k
length-prefix k len = omega (arith, length-be k len)

pub behind-length : (v : List ℕ) → Alone v ≡ false → length (shortest_atom v) ≡ 1 + extra_for (length v) + length v
behind-length v h =
    ap length (behind-form v h) ∙ length-append (prefix (extra_for (length v)) (length v)) v
    ∙ ap (λ (n : ℕ). n + length v) (length-prefix (extra_for (length v)) (length v))

-- ---- the first byte of a prefix

-- the base and the length's part make a byte
abbrev pub FirstFits : ℕ → ℕ → Type 0
FirstFits len k = base_of k + len / 256 ^ k < 256

pub base_fits : (len : ℕ) → len ≤ 4294967295 → FirstFits len (extra_for len)
unfolding first_below limit_of base_of
base_fits len h =
    choice (FirstFits len) (ltb len 64) _ _ (λ e. omega (arith, ltb-true len 64 e)) λ e0.
    choice (FirstFits len) (ltb len 8192) _ _ (λ e. omega (arith, ltb-true len 8192 e)) λ e1.
    choice (FirstFits len) (ltb len 1048576) _ _ (λ e. omega (arith, ltb-true len 1048576 e)) λ e2.
    choice (FirstFits len) (ltb len 134217728) _ _ (λ e. omega (arith, ltb-true len 134217728 e)) λ e3. omega arith

-- ---- a prefix is written: e is what put_be left of the lent tail

module _ (l e : List ℕ) (at k len m : ℕ) (room : at + (1 + k) ≤ length l)
    (left : e ≡ be (k + 1) len ++ drop (k + 1) (take (length l - at) (drop at l)))
    (fits : FirstFits len k) (base : m ≡ base_of k) where
  abbrev from_it : List ℕ
  from_it = be k len ++ drop (at + length (be (k + 1) len)) l

  low : len / 256 ^ k % 256 ≡ len / 256 ^ k
  low = mod-eq_of_lt (omega arith)

  whole : put_mid at (length l - at) l e ≡ take at l ++ (len / 256 ^ k ∷ from_it)
  unfolding be
  whole =
      let n : length (be (k + 1) len) ≡ k + 1 = length-be (k + 1) len in
      tail_over l (be (k + 1) len) e at (omega arith) (left ∙ rw n) ∙ rw (add-one, low)

  before : length (take at l) ≡ at
  before = simp length-take (omega arith)

  first_byte : get_or (put_mid at (length l - at) l e) at 0 ≡ len / 256 ^ k
  first_byte = ap (λ (r : List ℕ). get_or r at 0) whole ∙ get_or_at (take at l) (len / 256 ^ k) from_it 0 at before

  pub byte_fits : get_or (put_mid at (length l - at) l e) at 0 + m < 256
  byte_fits = omega (arith, first_byte)

  pub first_put : set (put_mid at (length l - at) l e) at (get_or (put_mid at (length l - at) l e) at 0 + m) ≡ over l at (prefix k len)
  first_put =
      let b : ℕ = get_or (put_mid at (length l - at) l e) at 0 + m in
      let p : b ≡ base_of k + len / 256 ^ k = omega (arith, first_byte) in
      let n : length (be (k + 1) len) ≡ length (prefix k len) = omega (arith, length-be (k + 1) len, length-be k len) in
      ap (λ (r : List ℕ). set r at b) whole ∙ set_at (take at l) (len / 256 ^ k) from_it b at before
      ∙ ap (λ (x : ℕ). take at l ++ (x ∷ from_it)) p
      ∙ ap (λ (x : ℕ). take at l ++ ((base_of k + len / 256 ^ k) ∷ (be k len ++ drop (at + x) l))) n

-- ---- bytes that stand for themselves are written

pub alone_put : (l v e : List ℕ) (at : ℕ) → Alone v ≡ true → at + length (shortest_atom v) ≤ length l
    → e ≡ v ++ drop (length v) (take (length l - at) (drop at l))
    → put_mid at (length l - at) l e ≡ over l at (shortest_atom v)
alone_put l v e at h room left =
    tail_over l v e at (omega (arith, ap length (alone-form v h))) left ∙ ap (λ (w : List ℕ). over l at w) (sym (alone-form v h))

-- ---- the bytes are written behind their prefix: m is what the prefix left, e what the copying left of the lent tail

module _ (l v : List ℕ) (at : ℕ) (behind : Alone v ≡ false) (room : at + length (shortest_atom v) ≤ length l) where
  abbrev front : List ℕ
  front = prefix (extra_for (length v)) (length v)

  pub prefix-room : at + (1 + extra_for (length v)) ≤ length l
  prefix-room = omega (arith, behind-length v behind)

  module _ (m : List ℕ) (from : ℕ) (is : m ≡ over l at front) (next : from ≡ at + (1 + extra_for (length v))) where
    long : length m ≡ length l
    long = ap length is ∙ length_over l front at (omega (arith, prefix-room, length-prefix (extra_for (length v)) (length v)))

    pub bytes-room : from + length v ≤ length m
    bytes-room = omega (arith, long, behind-length v behind)

    pub bytes_next : from + length v ≡ at + length (shortest_atom v)
    bytes_next = omega (arith, behind-length v behind)

    pub behind_put : (e : List ℕ) → e ≡ v ++ drop (length v) (take (length m - from) (drop from m))
        → put_mid from (length m - from) m e ≡ over l at (shortest_atom v)
    behind_put e left =
        let n : from ≡ at + length front = omega (arith, length-prefix (extra_for (length v)) (length v)) in
        tail_over m v e from bytes-room left
        ∙ ap (λ (r : List ℕ). over r from v) is
        ∙ ap (λ (i : ℕ). over (over l at front) i v) n
        ∙ over-over l front v at (omega (arith, prefix-room))
        ∙ ap (λ (w : List ℕ). over l at w) (sym (behind-form v behind))

-- What stands at a place of a file: each kind of token from its bytes, and the bytes from the token. Assumes nothing.
use Prim.Native.Nat.{ℕ, suc, ◌+◌, ◌/◌, ◌^◌, ◌≤◌, ◌<◌}
use mathlib.Core.Path.{◌≡◌, refl, sym, ap, ◌∙◌, subst}
use mathlib.Core.List.{List, [], ◌∷◌, ◌++◌}
use native.Mathlib.Numerals.{add-one}
use native.Mathlib.Omega.{arith}
use lib.Dec.{leb, ltb, eqb}
use lib.ListN.{length, get_or, length-append}
use lib.Seq.{slice, slice-cons, slice_empty, length-slice}
use borrow.Author.Tests.{ltb-true, ltb-false, leb-true, leb-false, eqb-true, lt-ltb, le-ltb, le-leb, lt-leb, ne_eqb}
use Rattle.rules.specs.Small.{be, Octets}
use Rattle.rules.specs.Serial.{base_of, prefix, AtomForm, itself, behind, Token, broken, opening, string, extra, length_in, token}
use Rattle.rules.proofs.Bytes.{octets-slice}
use Rattle.rules.proofs.Smalls.{length-be}
use Rattle.rules.proofs.Tests.{choice}
use Rattle.serial.specs.Forms.{TokenIn}
use Rattle.serial.proofs.Table.{bases_grow, first_base, last_base, extra-is, extra_in}
use Rattle.serial.proofs.Digits.{written_first, written_read, read-limit, read-written}
use Rattle.serial.proofs.Places.{Stands, stands_left, stands_right, stands_head, stands_inside, stands_slice, slice_split}

-- ---- the token from the bytes

module _ (f : List ℕ) (at : ℕ) (h : at < length f) where
  pub token-byte : get_or f at 0 < 0x80 → token f at ≡ string at (at + 1)
  unfolding token
  token-byte l = rw (lt-leb (length f) at h, lt-ltb (get_or f at 0) 0x80 l)

  pub token-opening : get_or f at 0 ≡ 0xff → token f at ≡ opening
  unfolding token
  token-opening e = rw (lt-leb (length f) at h, e)

  pub token-prefix : (k : ℕ) → k ≤ 4 → base_of k ≤ get_or f at 0 → get_or f at 0 < base_of (suc k) → at + 1 + k + length_in f at k ≤ length f
      → token f at ≡ string (at + 1 + k) (at + 1 + k + length_in f at k)
  unfolding token
  token-prefix k l p q r =
      let b : ℕ = get_or f at 0 in
      let lo : 0x80 ≤ b = omega (arith, first_base, bases_grow {i = 0} {j = k} (omega arith)) in
      let hi : b < 0xfc = omega (arith, last_base, bases_grow {i = suc k} {j = 5} (omega arith)) in
      rw (
        lt-leb (length f) at h,
        le-ltb b 0x80 lo,
        ne_eqb b 0xff (omega arith),
        lt-leb 0xfc b hi,
        extra-is b k l p q,
        le-leb (at + 1 + k) (length f) (omega arith),
        le-leb (at + 1 + k + length_in f at k) (length f) r,
      )

-- an atom's form: where its bytes are
pub record AtomAt (f : List ℕ) (at : ℕ) (v : List ℕ) (to : ℕ) : Type 0 where
  pub from : ℕ
  pub token-is : token f at ≡ string from to
  pub bytes_are : slice from to f ≡ v

pub form-token : {v l : List ℕ} → AtomForm v l → (f : List ℕ) (at : ℕ) → Stands f at l → AtomAt f at v (at + length l)
form-token (itself b e l) f at s =
    let i = stands_inside f at (b ∷ []) s in
    record {
      from = at;
      token-is = token-byte f at (omega arith) (rw (stands_head f at b [] s) l);
      bytes_are = stands_slice f at (b ∷ []) s ∙ sym e;
    }
form-token {v} (behind k h l) f at s =
    let n : ℕ = length v in
    let b : ℕ = base_of k + n / 256 ^ k in
    let i = stands_inside f at (prefix k n ++ v) s in
    let byte : get_or f at 0 ≡ b = stands_head f at b (be k n ++ v) s in
    let rest : Stands f (at + 1) (be k n) = stands_left f (at + 1) (be k n) v (stands_right f at (b ∷ []) (be k n ++ v) s) in
    let bytes : Stands f (at + 1 + k) v =
    subst (λ (m : ℕ). Stands f (at + 1 + m) v) (length-be k n)
    (stands_right f (at + 1) (be k n) v (stands_right f at (b ∷ []) (be k n ++ v) s)) in
    let read : slice (at + 1) (at + 1 + k) f ≡ be k n = rw length-be at (stands_slice f (at + 1) (be k n) rest) in
    let len : length_in f at k ≡ n = rw (byte, read) (written_read k n) in
    let to : at + 1 + k + n ≡ at + length (prefix k n ++ v) = omega (arith, length-append (be k n) v, length-be k n) in
    let ends : at + 1 + k + length_in f at k ≤ length f = omega arith in
    let lo : base_of k ≤ get_or f at 0 = omega arith in
    let hi : get_or f at 0 < base_of (suc k) = rw byte (written_first k n h l) in
    subst (AtomAt f at v) to (record {
      from = at + 1 + k;
      token-is = token-prefix f at (omega arith) k h lo hi ends ∙ ap (λ (m : ℕ). string (at + 1 + k) (at + 1 + k + m)) len;
      bytes_are = stands_slice f (at + 1 + k) v bytes;
    })

-- ---- the bytes from the token

-- a token, with what the file has there
pub data Shown (f : List ℕ) (at : ℕ) : Token → Type 0 where
  no_item : Shown f at broken
  a_pair : at < length f → get_or f at 0 ≡ 0xff → Shown f at opening
  a_byte : at < length f → get_or f at 0 < 0x80 → Shown f at (string at (at + 1))
  a_string : (k : ℕ) → k ≤ 4 → base_of k ≤ get_or f at 0 → get_or f at 0 < base_of (suc k) → at + 1 + k + length_in f at k ≤ length f
      → Shown f at (string (at + 1 + k) (at + 1 + k + length_in f at k))

pub token-shown : (f : List ℕ) (at : ℕ) → Shown f at (token f at)
unfolding token
token-shown f at =
    let P : Token → Type 0 = Shown f at in
    let b : ℕ = get_or f at 0 in
    let k : ℕ = extra b in
    choice P (leb (length f) at) _ _ (λ t. no_item) λ t.
    let h : at < length f = leb-false (length f) at t in
    choice P (ltb b 0x80) _ _ (λ u. a_byte h (ltb-true b 0x80 u)) λ u.
    choice P (eqb b 0xff) _ _ (λ v. a_pair h (eqb-true b 0xff v)) λ v.
    choice P (leb 0xfc b) _ _ (λ w. no_item) λ w.
    let e = extra_in b (ltb-false b 0x80 u) (leb-false 0xfc b w) in
    choice P (leb (at + 1 + k) (length f)) _ _ (λ x.
    choice P (leb (at + 1 + k + length_in f at k) (length f)) _ _
    (λ y. a_string k e.listed e.from e.below (leb-true (at + 1 + k + length_in f at k) (length f) y))
    λ y. no_item
    ) λ x. no_item

shown_in : {f : List ℕ} {at : ℕ} {k : Token} → Shown f at k → TokenIn f at k
shown_in no_item = tt
shown_in (a_pair h e) = record { inside = h; byte = e }
shown_in (a_byte h e) = record { order = omega arith; inside = omega arith; onward = omega arith }
shown_in (a_string k h p q i) = record { order = omega arith; inside = i; onward = omega arith }

-- where a token's bytes lie
pub parse-short : (f : List ℕ) (at : ℕ) (k : Token) → token f at ≡ k → TokenIn f at k
parse-short f at k e = subst (TokenIn f at) e (shown_in (token-shown f at))

-- what lies between an atom's place and its end is a form of it
pub shown-form : {f : List ℕ} {at from to : ℕ} → Octets f → Shown f at (string from to) → AtomForm (slice from to f) (slice at to f)
shown-form {f} {at} o (a_byte h e) =
    let one : slice at (at + 1) f ≡ get_or f at 0 ∷ [] =
    slice-cons at (at + 1) f 0 (omega arith) (omega arith) ∙ ap (λ (l : List ℕ). get_or f at 0 ∷ l) (rw add-one (slice_empty (suc at) f)) in
    rw one (itself (get_or f at 0) refl e)
shown-form {f} {at} o (a_string k h p q i) =
    let b : ℕ = get_or f at 0 in
    let s : List ℕ = slice (at + 1) (at + 1 + k) f in
    let len : ℕ = length_in f at k in
    let v : List ℕ = slice (at + 1 + k) (at + 1 + k + len) f in
    let os : Octets s = octets-slice (at + 1) (at + 1 + k) f o in
    let ns : length s ≡ k = length-slice (at + 1) (at + 1 + k) f (omega arith) ∙ omega arith in
    let nv : length v ≡ len = length-slice (at + 1 + k) (at + 1 + k + len) f i ∙ omega arith in
    let head : slice at (at + 1 + k) f ≡ b ∷ s =
    rw add-one (slice-cons at (suc at + k) f 0 (omega arith) (omega arith)) in
    let whole : prefix k (length v) ++ v ≡ slice at (at + 1 + k + len) f =
    ap (λ (m : ℕ). prefix k m ++ v) nv
    ∙ ap (λ (x : List ℕ). x ++ v) (read-written k b s h p q ns os ∙ sym head)
    ∙ sym (slice_split f at (at + 1 + k) (at + 1 + k + len) (omega arith) (omega arith) i) in
    subst (AtomForm v) whole (behind k h (rw nv (read-limit k b s h p q ns os)))

-- Laws of big-endian bytes as numbers, unsigned. Assumes nothing.
use mathlib.Core.Path.{◌≡◌, refl, sym, ap, ◌∙◌, subst}
use mathlib.Core.List.{List, [], ◌∷◌}
use Prim.Native.Nat.{ℕ, suc, ◌+◌, ◌*◌, ◌/◌, ◌%◌, ◌^◌, ◌≤◌, ◌<◌}
use native.Mathlib.Nat.{pow-le-pow_right, suc_inj}
use native.Mathlib.Omega.{arith}
use lib.Arith.{digits_div, digits_mod}
use lib.Dec.{lit<}
use lib.ListN.{length}
use Rattle.rules.specs.Small.{big, be, Octets}
use Rattle.rules.proofs.Bytes.{big_lt}
use Rattle.rules.proofs.Smalls.{length-be, be-octets, be-value}

pub mono256 : {i j : ℕ} → i ≤ j → 256 ^ i ≤ 256 ^ j
mono256 h = pow-le-pow_right (lit< tt) h

-- ---- bytes of one length are told apart by their number

pub same-big : (k l : List ℕ) → Octets k → Octets l → length k ≡ length l → big k ≡ big l → k ≡ l
unfolding big
same-big [] [] o p s e = refl
same-big [] (b ∷ l) o p s e = absurd (omega arith)
same-big (a ∷ k) [] o p s e = absurd (omega arith)
same-big (a ∷ k) (b ∷ l) o p s e =
    let t : ℕ = 256 ^ length k in
    let n : length k ≡ length l = suc_inj s in
    let x : big k < t = big_lt k (λ i. o (suc i)) in
    let y : big l < t = subst (λ (q : ℕ). big l < 256 ^ q) (sym n) (big_lt l (λ i. p (suc i))) in
    let f : a * t + big k ≡ b * t + big l = e ∙ ap (λ (q : ℕ). b * 256 ^ q + big l) (sym n) in
    let head : a ≡ b = sym (digits_div a x) ∙ ap (λ (q : ℕ). q / t) f ∙ digits_div b y in
    let tail : big k ≡ big l = sym (digits_mod a x) ∙ ap (λ (q : ℕ). q % t) f ∙ digits_mod b y in
    ap (λ (q : ℕ). q ∷ k) head ∙ ap (λ (q : List ℕ). b ∷ q) (same-big k l (λ i. o (suc i)) (λ i. p (suc i)) n tail)

-- the low bytes are a matter of the remainder
pub same-be : (n v w : ℕ) → v % 256 ^ n ≡ w % 256 ^ n → be n v ≡ be n w
same-be n v w e =
    same-big (be n v) (be n w) (be-octets n v) (be-octets n w) (length-be n v ∙ sym (length-be n w)) (be-value n v ∙ e ∙ sym (be-value n w))

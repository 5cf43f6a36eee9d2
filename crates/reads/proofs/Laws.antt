-- Laws of comparing bytes, and of the part that atom hands back. Assumes nothing.
use Prim.Native.Nat.{ℕ, ◌<◌}
use mathlib.Core.Path.{◌≡◌, refl, sym, ap, ap₂, subst, ◌∙◌}
use mathlib.Core.Bool.{Bool, true, false, ◌&&◌, false≢true}
use mathlib.Core.List.{List, [], ◌∷◌}
use mathlib.Core.Option.{none}
use native.Mathlib.Omega.{arith}
use lib.Dec.{eqb}
use lib.ListN.{length}
use borrow.Author.Tests.{eq-eqb, eqb-true}
use Rattle.rules.specs.declared.Allocator.{Allocator}
use Rattle.rules.specs.Small.{fits, small_bytes, Octets}
use Rattle.rules.specs.Said.{Said, says, refuses}
use Rattle.rules.specs.Node.{nil}
use Rattle.rules.specs.State.{AtomSlots, bytes_sound}
use Rattle.rules.specs.Reads.{Atom, range, value, atom_of, atom_bytes, part_of, atom, scratch_after, part_bytes, same_bytes}
use Rattle.std.specs.Prelude as Std
use Rattle.std.specs.Prelude.{Some, None, nat_eq}
use Rattle.std.specs.Option.{option_eq}
use Rattle.std.specs.Cmp.Lexicographic.{pointwise}
use Rattle.rules.specs.Paper.{option_paper}
use Rattle.reads.specs.Parts.{PartIn}
use Rattle.rules.proofs.Tests.{both}
use Rattle.rules.proofs.Needs.{need_ind}
use Rattle.rules.proofs.Sound.{store-lent}
use Rattle.rules.proofs.Args.{Inside, inside}
use Rattle.rules.proofs.Smalls.{fits-value, fits-bytes, fits-small_bytes, length-be, last-bytes}

-- ---- same_bytes is equality

pub same_refl : (x : List ℕ) → same_bytes x x ≡ true
unfolding same_bytes
same_refl [] = refl
same_refl (a ∷ x) = rw (eq-eqb a a refl) (same_refl x)

pub same_true : (x y : List ℕ) → same_bytes x y ≡ true → x ≡ y
unfolding same_bytes
same_true [] [] h = refl
same_true [] (b ∷ y) h = absurd (false≢true h)
same_true (a ∷ x) [] h = absurd (false≢true h)
same_true (a ∷ x) (b ∷ y) h = let p = both _ _ h in ap₂ ◌∷◌ (eqb-true a b p.0) (same_true x y p.1)

-- a test that holds exactly where two byte strings are equal is same_bytes
decided : (x y : List ℕ) (b : Bool) → (b ≡ true → x ≡ y) → (x ≡ y → b ≡ true) → same_bytes x y ≡ b
decided x y true f g = rw (f refl) (same_refl y)
decided x y false f g = other (same_bytes x y) refl
  where
    other : (s : Bool) → same_bytes x y ≡ s → s ≡ false
    other true e = sym (g (same_true x y e))
    other false e = refl

pub same_comm : (x y : List ℕ) → same_bytes x y ≡ same_bytes y x
same_comm x y = decided x y (same_bytes y x) (λ h. sym (same_true y x h)) (λ e. rw e (same_refl y))

-- so std's equality of slices of bytes is same_bytes
pub pointwise_same : (x y : List ℕ) → pointwise nat_eq x y ≡ same_bytes x y
unfolding same_bytes
pointwise_same [] [] = refl
pointwise_same [] (b ∷ y) = refl
pointwise_same (a ∷ x) [] = refl
pointwise_same (a ∷ x) (b ∷ y) = ap (λ r. eqb a b && r) (pointwise_same x y)

-- ---- a small value's bytes

pub same-value : (v w : ℕ) → v < 67108864 → w < 67108864 → same_bytes (small_bytes v) (small_bytes w) ≡ eqb v w
same-value v w h k =
    decided (small_bytes v) (small_bytes w) (eqb v w) (λ e. ap small_bytes (eqb-true v w e)) λ e.
    let f = fits-small_bytes v h in
    let g = fits-small_bytes w k in
    let p = ap fits e in
    let q : v ≡ w = cc in
    eq-eqb v w q

-- bytes that do not fit are those of no small value
pub same-unfit : (v : ℕ) (l : List ℕ) → v < 67108864 → fits l ≡ none → same_bytes (small_bytes v) l ≡ false
same-unfit v l h e =
    decided (small_bytes v) l false (λ k. absurd (false≢true k)) λ k.
    let f = fits-small_bytes v h in
    let p = ap fits k in
    let z : ◌≡◌ {A = ℕ} 0 1 = cc in absurd (omega arith)

-- so a small value has the bytes of a string exactly where the string is found to be its
pub same-found : (v : ℕ) (o : Std.Option ℕ) (l : List ℕ) → v < 67108864 → Octets l → option_paper o ≡ fits l → same_bytes (small_bytes v) l ≡ option_eq eqb o (Some v)
same-found v (Some w) l h o e =
    let a = fits-bytes l w o (sym e) in
    rw (← a) (same_comm (small_bytes v) (small_bytes w) ∙ same-value w v (fits-value l w o (sym e)) h)
same-found v None l h o e = same-unfit v l h (sym e)

-- ---- what the part that atom hands back has, beside a byte store and a scratch of these lengths

part_at : (bytes scratch : ℕ) (r : Said Atom) → Inside bytes r → PartIn bytes scratch (part_of scratch r)
part_at bytes scratch (says (range start end)) h = h
part_at bytes scratch (says (value v)) h =
    need_ind (PartIn bytes scratch) (eqb scratch 4) 15 nil (says (value v)) (λ e. omega arith) (λ e. (h, eqb-true scratch 4 e))
part_at bytes scratch (refuses code node) h = omega arith

pub part_in : (a : Allocator) (b : List ℕ) (t : AtomSlots) (n scratch : ℕ) → PartIn (length b) scratch (atom a b t n scratch)
unfolding atom
part_in a b t n scratch =
    let len = length b in
    need_ind (PartIn len scratch) (bytes_sound a b t) 1 nil (part_of scratch (atom_of a t n)) (λ e. omega arith)
    (λ e. part_at len scratch (atom_of a t n) (inside a t n len (store-lent a _ _ _ e).bytes_fit))

pub part_says : (a : Allocator) (b : List ℕ) (t : AtomSlots) (n scratch : ℕ) (x : Atom) → atom a b t n scratch ≡ says x → PartIn (length b) scratch (says x)
part_says a b t n scratch x h = subst (PartIn (length b) scratch) h (part_in a b t n scratch)

-- filling the scratch leaves its length, so that the second call answers as the first
pub fill_length : (a : Allocator) (b : List ℕ) (t : AtomSlots) (n : ℕ) (scratch : List ℕ) → length (scratch_after (atom a b t n (length scratch)) scratch) ≡ length scratch
fill_length a b t n scratch = at (atom a b t n (length scratch)) (part_in a b t n (length scratch))
  where
    at : (r : Said Atom) → PartIn (length b) (length scratch) r → length (scratch_after r scratch) ≡ length scratch
    at (says (range start end)) p = refl
    at (says (value v)) p = length-be 4 v ∙ sym p.1
    at (refuses code node) p = refl

-- once the scratch is filled, the part holds the atom's bytes
pub part_filled : (a : Allocator) (b : List ℕ) (t : AtomSlots) (n len : ℕ) (x : Atom) (scratch : List ℕ) → atom a b t n len ≡ says x
    → part_bytes b (scratch_after (says x) scratch) (says x) ≡ atom_bytes b x
part_filled a b t n len (range start end) scratch h = refl
part_filled a b t n len (value v) scratch h = last-bytes v (part_says a b t n len (value v) h).0

-- the two calls one after the other are document 01's atom
pub part-joined : (a : Allocator) (b : List ℕ) (t : AtomSlots) (n : ℕ) (x : Atom) (scratch after : List ℕ)
    → atom a b t n (length scratch) ≡ says x → after ≡ scratch_after (atom a b t n (length scratch)) scratch
    → part_bytes b after (atom a b t n (length after)) ≡ atom_bytes b x
part-joined a b t n x scratch after h e =
    let k : length after ≡ length scratch = ap length e ∙ fill_length a b t n scratch in
    rw (k, e, h) (part_filled a b t n (length scratch) x scratch h)

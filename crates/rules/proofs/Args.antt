-- What a node argument that passed its tests has, as facts about numbers. Assumes nothing.
use Prim.Native.Nat.{ℕ, ◌≤◌, ◌<◌}
use mathlib.Core.Path.{◌≡◌, refl, subst}
use native.Mathlib.Omega.{arith}
use lib.Dec.{eqb}
use borrow.Author.Tests.{ltb-true, leb-true}
use Rattle.rules.specs.declared.Allocator.{Allocator}
use Rattle.rules.specs.Node.{Node, pair_at, bytes_at, small, bad, view, view_of, kind_of, index_of}
use Rattle.rules.specs.Said.{Said, says, refuses}
use Rattle.rules.specs.State.{AtomSlots, start_at, end_at}
use Rattle.rules.specs.Reads.{Arg, pair_arg, bytes_arg, small_arg, arg_of, arg, Atom, range, value, atom_arg, atom_of, Visited, buffer, number, children}
use Rattle.rules.proofs.Tests.{both, choice}
use Rattle.rules.proofs.Needs.{passed}

-- an index or a small value takes 26 bits
abbrev pub Low : Node → Type 0
Low (pair_at i) = i < 67108864
Low (bytes_at i) = i < 67108864
Low (small v) = v < 67108864
Low bad = 0 ≤ 0

pub view-low : (n : ℕ) → Low (view n)
unfolding view view_of
view-low n =
    choice Low (eqb (kind_of n) 0) _ _ (λ e. low) λ e.
    choice Low (eqb (kind_of n) 1) _ _ (λ e. low) λ e.
    choice Low (eqb (kind_of n) 2) _ _ (λ e. low) λ e. omega arith
  where
    low : index_of n < 67108864
    low = omega arith

-- a Bytes argument: its slot is used, and the range lies within the used bytes
pub record BytesIn (a : Allocator) (t : AtomSlots) (i start end : ℕ) : Type 0 where
  pub below : i < a.used.atoms
  pub order : start ≤ end
  pub inside : end ≤ a.used.bytes
  pub start_is : start_at t i ≡ start
  pub end_is : end_at t i ≡ end

abbrev pub ArgIn : Allocator → AtomSlots → Arg → Type 0
ArgIn a t (pair_arg i) = i < a.used.pairs
ArgIn a t (bytes_arg i start end) = BytesIn a t i start end
ArgIn a t (small_arg v) = v < 67108864

arg-at : (a : Allocator) (t : AtomSlots) (v : Node) (x : Arg) → Low v → arg_of a t v ≡ says x → ArgIn a t x
unfolding arg_of
arg-at a t (pair_at i) x l h =
    let p = passed _ _ _ _ _ h in
    let e : pair_arg i ≡ x = cc in
    subst (ArgIn a t) e (ltb-true _ _ p.0)
arg-at a t (bytes_at i) x l h =
    let p = passed _ _ _ _ _ h in
    let q = passed _ _ _ _ _ p.1 in
    let r = both _ _ q.0 in
    let e : bytes_arg i (start_at t i) (end_at t i) ≡ x = cc in
    subst (ArgIn a t) e
    (record { below = ltb-true _ _ p.0; order = leb-true _ _ r.0; inside = leb-true _ _ r.1; start_is = refl; end_is = refl })
arg-at a t (small v) x l h = let e : small_arg v ≡ x = cc in subst (ArgIn a t) e l
arg-at a t bad x l h = let z : ◌≡◌ {A = ℕ} 0 1 = cc in absurd (omega arith)

pub arg_in : (a : Allocator) (t : AtomSlots) (n : ℕ) (x : Arg) → arg a t n ≡ says x → ArgIn a t x
arg_in a t n x h = arg-at a t (view n) x (view-low n) h

-- an atom argument
abbrev pub AtomIn : Allocator → Atom → Type 0
AtomIn a (range start end) = (start ≤ end) × (end ≤ a.used.bytes)
AtomIn a (value v) = v < 67108864

atom-at : (a : Allocator) (t : AtomSlots) (n : ℕ) (r : Said Arg) (x : Atom) → ((y : Arg) → r ≡ says y → ArgIn a t y) → atom_arg n r ≡ says x → AtomIn a x
atom-at a t n (says (pair_arg i)) x f h = let z : ◌≡◌ {A = ℕ} 0 1 = cc in absurd (omega arith)
atom-at a t n (says (bytes_arg i start end)) x f h =
    let e : range start end ≡ x = cc in
    let b = f (bytes_arg i start end) refl in
    subst (AtomIn a) e (b.order, b.inside)
atom-at a t n (says (small_arg v)) x f h = let e : value v ≡ x = cc in subst (AtomIn a) e (f (small_arg v) refl)
atom-at a t n (refuses code node) x f h = let z : ◌≡◌ {A = ℕ} 0 1 = cc in absurd (omega arith)

pub atom_in : (a : Allocator) (t : AtomSlots) (n : ℕ) (x : Atom) → atom_of a t n ≡ says x → AtomIn a x
atom_in a t n x h = atom-at a t n (arg a t n) x (arg_in a t n) h

-- a range lies within so many bytes, and a value takes 26 bits
abbrev pub Inside : ℕ → Said Atom → Type 0
Inside bytes (says (range start end)) = (start ≤ end) × (end ≤ bytes)
Inside bytes (says (value v)) = v < 67108864
Inside bytes (refuses code node) = 0 ≤ 0

inside-at : (a : Allocator) (bytes : ℕ) (r : Said Atom) → a.used.bytes ≤ bytes → ((x : Atom) → r ≡ says x → AtomIn a x) → Inside bytes r
inside-at a bytes (says (range start end)) h f = let p = f (range start end) refl in (p.0, omega (arith, p.1))
inside-at a bytes (says (value v)) h f = f (value v) refl
inside-at a bytes (refuses code node) h f = omega arith

pub inside : (a : Allocator) (t : AtomSlots) (n bytes : ℕ) → a.used.bytes ≤ bytes → Inside bytes (atom_of a t n)
inside a t n bytes h = inside-at a bytes (atom_of a t n) h (atom_in a t n)

-- what node answers: the range lies within the used bytes, a value takes 26 bits
abbrev pub VisitedIn : Allocator → Visited → Type 0
VisitedIn a (buffer start end) = (start ≤ end) × (end ≤ a.used.bytes)
VisitedIn a (number v) = v < 67108864
VisitedIn a (children first rest) = 0 ≤ 0

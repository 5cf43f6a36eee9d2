-- Laws of the measuring of a concat's terms. Assumes nothing.
use Prim.Native.Nat.{ℕ, suc, ◌+◌, ◌-◌, ◌≤◌, ◌<◌, min}
use mathlib.Core.Path.{◌≡◌, refl, sym, ap}
use mathlib.Core.Bool.{Bool, true, false}
use mathlib.Core.List.{List, [], ◌∷◌, ◌++◌}
use native.Mathlib.Decide.{dec_lt}
use native.Mathlib.Numerals.{add-one}
use native.Mathlib.Omega.{arith}
use borrow.Author.Tests.{lt-leb, ne_eqb, eqb-true}
use lib.Dec.{leb, eqb}
use lib.ListN.{length, drop, get_or, length-append, drop_of_length-le}
use lib.Seq.{drop-cons, length-slice}
use Rattle.rules.specs.declared.Allocator.{Allocator}
use Rattle.rules.specs.Node.{nil}
use Rattle.rules.specs.Small.{len_for}
use Rattle.rules.specs.Said.{Said, says, refuses, need, Done, done}
use Rattle.rules.specs.State.{AtomSlots, Store}
use Rattle.rules.specs.Reads.{Atom, range, value, atom_of}
use Rattle.rules.specs.Creates.{term, scan, term_bytes, joined}
use Rattle.rules.proofs.Args.{AtomIn, atom_in}
use Rattle.rules.proofs.Needs.{passed}
use Rattle.rules.proofs.Smalls.{length-be}
use Rattle.concat.specs.Concat.{ran}

-- past the size every running length leads to the same
past-at : (size n x y : ℕ) (r : Said Atom) (go : ℕ → Said Done) → size < x → size < y
    → ((v w : ℕ) → size < v → size < w → go v ≡ go w) → term size n x r go ≡ term size n y r go
unfolding need
past-at size n x y (says (range start end)) go p q f =
    rw (lt-leb (x + (end - start)) size (omega arith), lt-leb (y + (end - start)) size (omega arith))
past-at size n x y (says (value v)) go p q f = f (x + len_for v) (y + len_for v) (omega arith) (omega arith)
past-at size n x y (refuses code node) go p q f = refl

pub scan-past : (a : Allocator) (t : AtomSlots) (size : ℕ) (ns : List ℕ) (x y : ℕ) → size < x → size < y → scan a t size ns x ≡ scan a t size ns y
unfolding scan
scan-past a t size [] x y p q = rw (ne_eqb x size (λ e. omega arith), ne_eqb y size (λ e. omega arith))
scan-past a t size (n ∷ ns) x y p q = past-at size n x y (atom_of a t n) (scan a t size ns) p q (scan-past a t size ns)

-- so a length kept at size + 1 serves for every one past the size
scan_capped : (a : Allocator) (t : AtomSlots) (size : ℕ) (ns : List ℕ) (x : ℕ) → scan a t size ns x ≡ scan a t size ns (min x (size + 1))
scan_capped a t size ns x = elim (dec_lt size x) [
  | yes p ↦ scan-past a t size ns x (min x (size + 1)) p (omega arith)
  | no p ↦ ap (scan a t size ns) (omega arith)
]

-- what comes of a term: its refusal, or the rest from the running length after it
abbrev pub onward : Said ℕ → (ℕ → Said Done) → Said Done
onward (says x) go = go x
onward (refuses code node) go = refuses code node

onward-at : (size n x : ℕ) (r : Said Atom) (go : ℕ → Said Done) → ((v : ℕ) → go v ≡ go (min v (size + 1)))
    → term size n x r go ≡ onward (ran size n x r) go
unfolding need
onward-at size n x (says (range start end)) go f = tested (leb (x + (end - start)) size)
  where
    tested : (b : Bool) → need b 10 n (go (x + (end - start))) ≡ onward (need b 10 n (says (x + (end - start)))) go
    tested true = refl
    tested false = refl
onward-at size n x (says (value v)) go f = f (x + len_for v)
onward-at size n x (refuses code node) go f = refl

-- one term of the scan
pub scan_cons : (a : Allocator) (t : AtomSlots) (size : ℕ) (ns : List ℕ) (i x : ℕ) (r : Said ℕ) → i < length ns
    → r ≡ ran size (get_or ns i 0) x (atom_of a t (get_or ns i 0)) → scan a t size (drop i ns) x ≡ onward r (scan a t size (drop (i + 1) ns))
unfolding scan
scan_cons a t size ns i x r h e =
    rw (add-one i, drop-cons ns i 0 h, e)
    (onward-at size (get_or ns i 0) x (atom_of a t (get_or ns i 0)) (scan a t size (drop (suc i) ns)) (scan_capped a t size (drop (suc i) ns)))

-- past the last term
pub scan-end : (a : Allocator) (t : AtomSlots) (size : ℕ) (ns : List ℕ) (i x : ℕ) → length ns ≤ i
    → scan a t size (drop i ns) x ≡ need (eqb x size) 10 nil (says done)
unfolding scan
scan-end a t size ns i x h = rw (drop_of_length-le ns {i = i} h)

-- terms that pass have the size in all
length_at : (a : Allocator) (b ns-bytes : List ℕ) (size n x : ℕ) (r : Said Atom) (go : ℕ → Said Done) → ((y : Atom) → r ≡ says y → AtomIn a y)
    → a.used.bytes ≤ length b → ((y : ℕ) → go y ≡ says done → y + length ns-bytes ≡ size)
    → term size n x r go ≡ says done → x + length (term_bytes b r ++ ns-bytes) ≡ size
length_at a b rest size n x (says (range start end)) go g k f h =
    let p = passed _ _ _ _ _ h in
    let l : length (term_bytes b (says (range start end))) ≡ end - start = length-slice start end b (omega (arith, (g (range start end) refl).1)) in
    omega (arith, f (x + (end - start)) p.1, length-append (term_bytes b (says (range start end))) rest)
length_at a b rest size n x (says (value v)) go g k f h =
    omega (arith, f (x + len_for v) h, length-append (term_bytes b (says (value v))) rest, length-be (len_for v) v)
length_at a b rest size n x (refuses code node) go g k f h = let z : ◌≡◌ {A = ℕ} 0 1 = cc in absurd (omega arith)

scan-length : (a : Allocator) (s : Store) (size : ℕ) (ns : List ℕ) (x : ℕ) → a.used.bytes ≤ length s.bytes
    → scan a s.atoms size ns x ≡ says done → x + length (joined a s ns) ≡ size
unfolding scan joined
scan-length a s size [] x k h = omega (arith, eqb-true x size (passed _ _ _ _ _ h).0)
scan-length a s size (n ∷ ns) x k h =
    length_at a s.bytes (joined a s ns) size n x (atom_of a s.atoms n) (scan a s.atoms size ns) (atom_in a s.atoms n) k
    (λ y. scan-length a s size ns y k) h

pub scan_size : (a : Allocator) (s : Store) (size : ℕ) (ns : List ℕ) → a.used.bytes ≤ length s.bytes
    → says done ≡ scan a s.atoms size ns 0 → length (joined a s ns) ≡ size
scan_size a s size ns k h = omega (arith, scan-length a s size ns 0 k (sym h))

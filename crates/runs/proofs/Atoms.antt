-- A node argument that must be an atom: what its tests find, and what it shows. Assumes nothing.
use Prim.Native.Nat.{ℕ, ◌≤◌, ◌<◌}
use mathlib.Core.Path.{◌≡◌, refl}
use mathlib.Core.Bool.{false}
use native.Mathlib.Nat.{le_trans}
use native.Mathlib.Omega.{arith}
use borrow.Author.Tests.{ltb-true, ltb-false}
use lib.Dec.{ltb}
use lib.ListN.{length}
use lib.Seq.{length-slice}
use Rattle.rules.specs.declared.Allocator.{Allocator}
use Rattle.rules.specs.Node.{Node, pair_at, bytes_at, small, bad, view, nil}
use Rattle.rules.specs.Small.{len_for, Octets}
use Rattle.rules.specs.Said.{Said, says, refuses}
use Rattle.rules.specs.State.{AtomSlots, start_at, end_at, atom_slot_sound}
use Rattle.rules.specs.Reads.{arg_of, Atom, range, value, atom_arg, atom_of, atom_length, atom_bytes}
use Rattle.rules.specs.Tree.{leaf, tree}
use Rattle.rules.proofs.Needs.{need_ind}
use Rattle.rules.proofs.Smalls.{length-be, be-octets}
use Rattle.rules.proofs.Trees.{tree-bytes, tree-small}
use Rattle.rules.specs.Whole.{St}
use Rattle.runs.specs.Wf.{Valid, ValidIn, SlotOk, WF}
use Rattle.runs.specs.Makes.{shown, AtomIn}
use Rattle.runs.proofs.Tests.{slot→}
use Rattle.rules.proofs.Bytes.{octets-slice}

-- why a node is no atom: 5 not valid, 1 unsound slot or 6 a pair
pub data NoAtom (a : Allocator) (t : AtomSlots) (n : ℕ) : ℕ → ℕ → Type 0 where
  not_valid : (Valid a.used.atoms a.used.pairs (view n) → ⊥) → NoAtom a t n 5 nil
  bad-slot : (i : ℕ) → view n ≡ bytes_at i → i < a.used.atoms → atom_slot_sound a.used.bytes t i ≡ false → NoAtom a t n 1 nil
  a_pair : (i : ℕ) → view n ≡ pair_at i → i < a.used.pairs → NoAtom a t n 6 n

-- the outcomes of its tests
pub data AtomIs (a : Allocator) (t : AtomSlots) (n : ℕ) : Said Atom → Type 0 where
  no_atom : (code node : ℕ) → NoAtom a t n code node → AtomIs a t n (refuses code node)
  in_store : (i : ℕ) → view n ≡ bytes_at i → i < a.used.atoms → SlotOk a.used.bytes (start_at t i) (end_at t i)
      → AtomIs a t n (says (range (start_at t i) (end_at t i)))
  itself : (v : ℕ) → view n ≡ small v → AtomIs a t n (says (value v))

pub atom-is : (a : Allocator) (t : AtomSlots) (n : ℕ) → AtomIs a t n (atom_of a t n)
unfolding arg_of
atom-is a t n = go (view n) refl
  where
    go : (x : Node) → view n ≡ x → AtomIs a t n (atom_arg n (arg_of a t x))
    go (pair_at i) e = need_ind (λ r. AtomIs a t n (atom_arg n r)) (ltb i a.used.pairs) _ _ _
        (λ h. let z : a.used.pairs ≤ i = ltb-false _ _ h in no_atom 5 nil (not_valid (rw e (λ (v : i < a.used.pairs). omega arith))))
        (λ h. no_atom 6 n (a_pair i e (ltb-true _ _ h)))
    go (bytes_at i) e = need_ind (λ r. AtomIs a t n (atom_arg n r)) (ltb i a.used.atoms) _ _ _
        (λ h. let z : a.used.atoms ≤ i = ltb-false _ _ h in no_atom 5 nil (not_valid (rw e (λ (v : i < a.used.atoms). omega arith))))
        (λ h. need_ind (λ r. AtomIs a t n (atom_arg n r)) (atom_slot_sound a.used.bytes t i) _ _ _ (λ g. no_atom 1 nil (bad-slot i e (ltb-true _ _ h) g))
        (λ g. in_store i e (ltb-true _ _ h) (slot→ a.used.bytes t i g)))
    go (small v) e = itself v e
    go bad e = no_atom 5 nil (not_valid (rw e (λ v. v)))

-- what an atom is in a well-formed state
pub record Found (s : St) (n : ℕ) (x : Atom) : Type 0 where
  pub valid : ValidIn s n
  pub shows : tree s.lists n ≡ leaf (atom_bytes s.lists.bytes x)
  pub long : length (atom_bytes s.lists.bytes x) ≡ atom_length x
  pub octets : Octets (atom_bytes s.lists.bytes x)

pub found : {s : St} → WF s → {n : ℕ} {x : Atom} → AtomIs s.rec s.lists.atoms n (says x) → Found s n x
found {s} w {n} (in_store i e l ok) = record {
  valid = rw e l;
  shows = tree-bytes s.lists n i e;
  long = length-slice _ _ _ (le_trans ok.inside w.sound.bytes_fit);
  octets = octets-slice (start_at s.lists.atoms i) (end_at s.lists.atoms i) s.lists.bytes w.octets;
}
found {s} w {n} (itself v e) = record {
  valid = rw e tt;
  shows = tree-small s.lists n v e;
  long = length-be (len_for v) v;
  octets = be-octets (len_for v) v;
}

pub atom_in : {s : St} {n : ℕ} {x : Atom} → Found s n x → AtomIn s n
atom_in f = record { valid = f.valid; leaf-is = rw f.shows }

pub shown-length : {s : St} {n : ℕ} {x : Atom} → Found s n x → length (shown s.lists n) ≡ atom_length x
shown-length f = rw f.shows f.long

-- What never arises, on every input: where a restore gives a node a new slot or clones its bytes, the ghosts, the slots and the bytes suffice.
-- Assumes nothing.
use Prim.Native.Nat.{ℕ, ◌+◌, ◌-◌, ◌≤◌, ◌<◌}
use mathlib.Core.Path.{◌≡◌, refl, ap}
use mathlib.Core.Bool.{true}
use mathlib.Core.List.{List}
use mathlib.Core.Option.{Option, none, some}
use native.Mathlib.Nat.{le_trans}
use native.Mathlib.Omega.{arith}
use borrow.Author.Tests.{lt-ltb, le-leb}
use lib.ListN.{length}
use lib.Seq.{slice, length-slice}
use Rattle.rules.specs.declared.Counts.{Counts}
use Rattle.rules.specs.declared.Allocator.{Allocator}
use Rattle.rules.specs.Node.{bytes_node, small_node}
use Rattle.rules.specs.Small.{fits}
use Rattle.rules.specs.Said.{Said, says, refuses, need, Out, out}
use Rattle.rules.specs.State.{Lists, Store, store, start_at, end_at, atoms, heap, store_sound, ghost_atom, used_atom, cut, less_ghosts}
use Rattle.rules.specs.Creates.{heap_holds, atoms_left, store_room, put_atom, store_atom, atom_tests, atom_put, new_atom}
use Rattle.rules.specs.Restores.{Course, abort, keep, share, copy, course}
use Rattle.runs.specs.Wf.{Sound}
use Rattle.runs.specs.Back.{Shares, Copies}
use Rattle.runs.proofs.Tests.{→store, Holds, →holds}
use Rattle.runs.proofs.Courses.{Open, LaterSlot, CourseIs, unsound, unusable, little, invalid, bad-slot, early, later-pair, shared, astride, too_long, over-limit, copied, course-is}

-- what new_atom gives when its tests pass and the store has room
abbrev pub atom_done : Option ℕ → Allocator → List ℕ → Store → Out ℕ Store
atom_done (some n) a v s = out (small_node n) (ghost_atom (length v) a) s
atom_done none a v s = out (bytes_node a.used.atoms) (used_atom (length v) a) (put_atom a v s)

pub atom-done : (a : Allocator) (v : List ℕ) (s : Store) → store_sound a s ≡ true → heap_holds a (length v) ≡ true → atoms_left a ≡ true → store_room a (length v) s ≡ true
    → new_atom a v s ≡ atom_done (fits v) a v s
unfolding atom_tests store_atom need
atom-done a v s h₁ h₂ h₃ h₄ = rw (h₁, h₂, h₃) (put (fits v))
  where
    put : (f : Option ℕ) → atom_put f a v s ≡ atom_done f a v s
    put (some n) = refl
    put none = rw h₄

-- what suffices, by course
abbrev Suffices : Counts → Allocator → Lists → Said Course → Type 0
Suffices k a l (says abort) = Unit {0}
Suffices k a l (says keep) = Unit {0}
Suffices k a l (says (share start end)) = Shares k a l
Suffices k a l (says (copy start end)) = Copies k a l start end
Suffices k a l (refuses code node) = Unit {0}

module _ {k : Counts} {n : ℕ} {a : Allocator} {l : Lists} where
  -- the clone's record is sound beside the lists, and there is room
  module _ {i : ℕ} (o : Open k a l) (h : LaterSlot k a l n i) (b : k.bytes ≤ start_at l.atoms i) (g : heap a ≤ a.limit) where
    abbrev len : ℕ
    len = end_at l.atoms i - start_at l.atoms i

    abbrev pub saved : List ℕ
    saved = slice (start_at l.atoms i) (end_at l.atoms i) l.bytes

    abbrev pub lessened : Allocator
    lessened = less_ghosts len (cut k a)

    pub saved_length : length saved ≡ len
    saved_length = length-slice _ _ _ (le_trans h.ok.inside o.sound.bytes_fit)

    ghost_heap : len ≤ a.ghosts.bytes + (a.used.bytes - k.bytes)
    ghost_heap = let z = h.ok in let u = o.usable.bytes in omega arith

    pub lessened_sound : Sound lessened l
    lessened_sound = let s = o.sound in let u = o.usable in let q = h.after in let r = h.used in let e = ghost_heap in omega arith

    pub lessened_holds : Holds lessened (length saved) (store l.bytes l.atoms)
    lessened_holds = let s = o.sound in let z = h.ok in let e = saved_length in let q = h.after in let r = h.used in omega arith

    pub lessened_heap : heap lessened + length saved ≤ a.limit
    lessened_heap = let u = o.usable in let e = ghost_heap in let q = h.after in let r = h.used in let d = saved_length in omega arith

    pub lessened_atoms : atoms lessened < 62500000
    lessened_atoms = let s = o.sound in let u = o.usable in let q = h.after in let r = h.used in omega arith

    pub clone-done : new_atom lessened saved (store l.bytes l.atoms) ≡ atom_done (fits saved) lessened saved (store l.bytes l.atoms)
    clone-done = atom-done lessened saved (store l.bytes l.atoms) (→store lessened_sound) (le-leb _ _ lessened_heap) (lt-ltb _ _ lessened_atoms)
        (→holds lessened (length saved) (store l.bytes l.atoms) lessened_holds)

    clone-node : (f : Option ℕ) → new_atom lessened saved (store l.bytes l.atoms) ≡ atom_done f lessened saved (store l.bytes l.atoms)
        → (m : ℕ) × (new_atom lessened saved (store l.bytes l.atoms)).said ≡ says m
    clone-node (some v) e = (small_node v, ap (λ r. r.said) e)
    clone-node none e = (bytes_node k.atoms, ap (λ r. r.said) e)

    clone_copies : Copies k a l (start_at l.atoms i) (end_at l.atoms i)
    clone_copies =
        let m = clone-node (fits saved) clone-done in
        let r = lessened_holds in
        record {
          ghost-atom = (let q = h.after in let r = h.used in omega arith);
          ghost_heap = ghost_heap;
          room-starts = r.starts;
          room-ends = r.ends;
          room-bytes = r.bytes;
          room_most = r.most;
          node = m.0;
          accepts = m.1;
        }

  suffices : {r : Said Course} → CourseIs k n a l r → Suffices k a l r
  suffices (unsound h) = tt
  suffices (unusable h g) = tt
  suffices (little h) = tt
  suffices (invalid o h) = tt
  suffices (bad-slot i e h g) = tt
  suffices (early o h) = tt
  suffices (later-pair i o e h g) = tt
  suffices (shared i o h p q) = let s = o.sound in let b = h.after in let c = h.used in omega arith
  suffices (astride i o h p q) = tt
  suffices (too_long i o h p q) = tt
  suffices (over-limit i o h p q g) = tt
  suffices (copied i o h p q g) = clone_copies o h p g

-- whatever the record, the checkpoint, the node and the lists
pub never_short_of_a_slot : (k : Counts) (n : ℕ) (a : Allocator) (l : Lists) (start end : ℕ) → course k n a l ≡ says (share start end) → Shares k a l
never_short_of_a_slot k n a l start end e = rw e at (suffices (course-is k n a l))

pub never_short_for_a_clone : (k : Counts) (n : ℕ) (a : Allocator) (l : Lists) (start end : ℕ) → course k n a l ≡ says (copy start end) → Copies k a l start end
never_short_for_a_clone k n a l start end e = rw e at (suffices (course-is k n a l))

-- Restores on every input: what they keep, and what never arises (document 01, "Checkpoints").
use Rattle.std.specs.Prelude.{ℕ, ◌+◌, ◌-◌, ◌≤◌, ◌<◌, ◌≡◌, length}
use Rattle.std.proofs.Math.Seq.{slice}
use Rattle.rules.specs.declared.Counts.{Counts}
use Rattle.rules.specs.declared.Allocator.{Allocator}
use Rattle.rules.specs.Said.{says}
use Rattle.rules.specs.State.{Lists, store, atoms, pairs, heap, cut, less_ghosts}
use Rattle.rules.specs.Creates.{new_atom}
use Rattle.rules.specs.Whole.{St}
use Rattle.runs.specs.Wf.{WF}

-- the three totals are those of the moment before
pub record Totals (a a' : Allocator) : Type 0 where
  pub atoms_kept : atoms a' ≡ atoms a
  pub pairs_kept : pairs a' ≡ pairs a
  pub heap_kept : heap a' ≡ heap a

-- an accepted restore that is not plain: totals kept, and a well-formed state is well-formed again
pub record KeepsTotals {A : Type 0} (s : St) (x : A) (s' : St) : Type 0 where
  pub totals : Totals s.rec s'.rec
  pub forms : WF s → WF s'

-- ---- the Rust's two ghost accounting errors, and 3 and 15 here, never arise

-- before the same range goes into a new slot: there is a ghost atom to take off, and slot k .atoms is within the lists
pub record Shares (k : Counts) (a : Allocator) (l : Lists) : Type 0 where
  pub ghost-atom : 1 ≤ (cut k a).ghosts.atoms
  pub room-starts : k.atoms < length l.atoms.starts
  pub room-ends : k.atoms < length l.atoms.ends

-- before the bytes from start to end go through new_atom: there are a ghost atom and their length of ghost heap to take off,
-- slots and bytes have room, and new_atom accepts, so it answers none of 1, 2, 3 and 15
pub record Copies (k : Counts) (a : Allocator) (l : Lists) (start end : ℕ) : Type 0 where
  pub ghost-atom : 1 ≤ (cut k a).ghosts.atoms
  pub ghost_heap : end - start ≤ (cut k a).ghosts.bytes
  pub room-starts : k.atoms < length l.atoms.starts
  pub room-ends : k.atoms < length l.atoms.ends
  pub room-bytes : k.bytes + length (slice start end l.bytes) ≤ length l.bytes
  pub room_most : k.bytes + length (slice start end l.bytes) ≤ 4294967295
  pub node : ℕ
  pub accepts : (new_atom (less_ghosts (end - start) (cut k a)) (slice start end l.bytes) (store l.bytes l.atoms)).said ≡ says node

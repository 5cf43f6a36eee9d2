-- What the acts of a restore rest on: that a course was chosen gives it.
use Rattle.std.specs.Prelude.{ℕ, ◌-◌, ◌≤◌, ◌<◌, ◌≡◌, length}
use Rattle.std.proofs.Math.Seq.{slice}
use Rattle.rules.specs.declared.Counts.{Counts}
use Rattle.rules.specs.declared.Allocator.{Allocator}
use Rattle.rules.specs.Said.{says}
use Rattle.rules.specs.State.{Store, store, Lists, cut, less_ghosts}
use Rattle.rules.specs.Restores.{Course, abort, keep, share, copy}
use Rattle.rules.specs.Creates.{new_atom}
use Rattle.rules.proofs.Limits.{Limits}

-- the record can be cut to k
pub record Cuttable (k : Counts) (a : Allocator) : Type 0 where
  pub limits : Limits a
  pub atoms : k.atoms ≤ a.used.atoms
  pub pairs : k.pairs ≤ a.used.pairs
  pub bytes : k.bytes ≤ a.used.bytes

-- and a slot given to a range of the kept bytes
pub record Shareable (k : Counts) (a : Allocator) (starts ends start end : ℕ) : Type 0 where
  pub cuts : Cuttable k a
  pub later : k.atoms < a.used.atoms
  pub start_slot : k.atoms < starts
  pub end-slot : k.atoms < ends
  pub order : start ≤ end
  pub inside : end ≤ k.bytes

-- and the bytes of a later atom made an atom again, which new_atom accepts
pub record Copyable (k : Counts) (a : Allocator) (s : Store) (start end : ℕ) : Type 0 where
  pub cuts : Cuttable k a
  pub later : k.atoms < a.used.atoms
  pub new : k.bytes ≤ start
  pub order : start ≤ end
  pub inside : end ≤ a.used.bytes
  pub fit : a.used.bytes ≤ length s.bytes
  pub short : end - start ≤ 48
  pub node : ℕ
  pub accepts : (new_atom (less_ghosts (end - start) (cut k a)) (slice start end s.bytes) s).said ≡ says node

-- what is known of the numbers, by course
abbrev pub Able : Counts → Allocator → Lists → Course → Type 0
Able k a l abort = 0 ≤ 0
Able k a l keep = Cuttable k a
Able k a l (share start end) = Shareable k a (length l.atoms.starts) (length l.atoms.ends) start end
Able k a l (copy start end) = Copyable k a (store l.bytes l.atoms) start end

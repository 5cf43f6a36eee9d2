-- The record alone: a new one, its counts, taking a checkpoint of it (document 01, "What a state is" and "Checkpoints").
use Rattle.std.specs.Prelude.{ℕ, leb}
use Rattle.rules.specs.declared.Counts.{Counts}
use Rattle.rules.specs.declared.Allocator.{Allocator}
use Rattle.rules.specs.declared.Checkpoint.{Checkpoint}
use Rattle.rules.specs.Node.{nil}
use Rattle.rules.specs.Said.{Said, says, need, Done, done, NoLists, no_lists, Out, out, settle}
use Rattle.rules.specs.State.{atoms, pairs, heap, limits_sound, counts}

-- ---- new_limited: ghosts 2, 0, 1, used 0; a limit above 4,294,967,295 is refused with 1 and the record for limit 0

abbrev pub fresh : ℕ → Allocator
fresh limit = record { used = counts 0 0 0; ghosts = counts 2 0 1; limit = limit }

unfoldable pub new_limited : ℕ → Out Done NoLists
new_limited limit =
    settle (need (leb limit 4294967295) 1 nil (says done)) (fresh 0) no_lists
    (λ d. out done (fresh limit) no_lists)

-- ---- the six counts, and taking a checkpoint: 1 for an unsound record

abbrev pub counted : (Allocator → ℕ) → Allocator → Said ℕ
counted count a = need (limits_sound a) 1 nil (says (count a))

abbrev pub atom_count : Allocator → Said ℕ
atom_count = counted atoms

abbrev pub allocated_atom_count : Allocator → Said ℕ
allocated_atom_count = counted (λ a. a.used.atoms)

abbrev pub pair_count : Allocator → Said ℕ
pair_count = counted pairs

abbrev pub allocated_pair_count : Allocator → Said ℕ
allocated_pair_count = counted (λ a. a.used.pairs)

abbrev pub heap_size : Allocator → Said ℕ
heap_size = counted heap

abbrev pub allocated_heap_size : Allocator → Said ℕ
allocated_heap_size = counted (λ a. a.used.bytes)

abbrev pub checkpoint_of : Allocator → Checkpoint
checkpoint_of a = record { used = a.used; ghosts = a.ghosts }

abbrev pub checkpoint : Allocator → Said Checkpoint
checkpoint a = need (limits_sound a) 1 nil (says (checkpoint_of a))

abbrev pub transparent_checkpoint : Allocator → Said Counts
transparent_checkpoint a = need (limits_sound a) 1 nil (says a.used)

-- Restores: going back to a checkpoint (document 01, "Checkpoints").
use Rattle.std.specs.Prelude.{ℕ, ◌+◌, ◌-◌, ◌*◌, Bool, cond, ◌&&◌, leb, ltb}
use Rattle.std.proofs.Math.Seq.{slice}
use Rattle.rules.specs.declared.Counts.{Counts}
use Rattle.rules.specs.declared.Allocator.{Allocator}
use Rattle.rules.specs.declared.Checkpoint.{Checkpoint}
use Rattle.rules.specs.Node.{bytes_node, nil}
use Rattle.rules.specs.Said.{Said, says, refuses, need, Done, done, NoLists, no_lists, Out, out, settle}
use Rattle.rules.specs.State.{AtomSlots, PairSlots, Store, store, PairStore, together, Slots, Lists, heap, restore_sound, lists_sound, atom_slots_sound, pair_slots_sound, used_atom, cut, cut_plain, less_ghosts, put_slot}
use Rattle.rules.specs.Reads.{Arg, pair_arg, bytes_arg, small_arg, arg, Status, before, after_new_bytes, after_old_bytes, status_of}
use Rattle.rules.specs.Creates.{new_atom}

-- usable: none of the three used counts above the present one; each kept atom slot has start ≤ end ≤ its bytes;
-- each kept pair slot has children valid in the cut state, a pair child below its own index
unfoldable pub usable : Counts → Allocator → AtomSlots → PairSlots → Bool
usable k a t p =
    leb k.bytes a.used.bytes && leb k.atoms a.used.atoms && leb k.pairs a.used.pairs
    && atom_slots_sound k t && pair_slots_sound k p

-- a transparent restore cuts lengths, adding what was cut to the ghosts: 1 unsound, 11 not usable
unfoldable pub restore_transparent : Counts → Allocator → Slots → Out Done NoLists
restore_transparent k a s =
    settle (need (restore_sound a s) 1 nil (need (usable k a s.atoms s.pairs) 11 nil (says done))) a no_lists
    (λ d. out done (cut k a) no_lists)

-- a plain restore cuts, then sets the ghosts; it must also give a sound record
unfoldable pub restore_plain : Checkpoint → Allocator → Slots → Out Done NoLists
restore_plain k a s =
    settle
    (need (restore_sound a s) 1 nil
    (need (usable k.used a s.atoms s.pairs) 11 nil
    (need (restore_sound (cut_plain k a) s) 11 nil
    (says done))))
    a no_lists
    (λ d. out done (cut_plain k a) no_lists)

-- ---- maybe_restore_with_node

-- savings: bytes cut + 8 × (atoms cut + pairs cut)
abbrev pub savings : Counts → Allocator → ℕ
savings k a =
    (a.used.bytes - k.bytes) + 8 * ((a.used.atoms - k.atoms) + (a.used.pairs - k.pairs))

-- what is to be done: nothing; a restore; a restore, and the same range in a new slot; a restore, and the bytes again
pub data Course : Type 0 where
  abort : Course
  keep : Course
  share : (start end : ℕ) → Course
  copy : (start end : ℕ) → Course

-- AfterNewBytes: a pair, or over 48 bytes, is Aborted; 2 if heap > limit
abbrev pub new_course : Allocator → Arg → Said Course
new_course a (pair_arg i) = says abort
new_course a (bytes_arg i start end) =
    cond (ltb 48 (end - start)) (says abort)
    (need (leb (heap a) a.limit) 2 nil
    (says (copy start end)))
new_course a (small_arg v) = says abort

-- AfterOldBytes: 12 if end exceeds the checkpoint's bytes
abbrev pub status_course : Counts → Allocator → Arg → Status → Said Course
status_course k a x before = says keep
status_course k a x (after_old_bytes start end) = need (leb end k.bytes) 12 nil (says (share start end))
status_course k a x after_new_bytes = new_course a x

abbrev pub node_course : Counts → Allocator → Said Arg → Said Course
node_course k a (says x) = status_course k a x (status_of k x)
node_course k a (refuses code node) = refuses code node

-- 1 unsound, 11 not usable; savings below 1024 is Aborted, with no look at the node; then 5 not valid, 1 unsound slot, status
unfoldable pub course : Counts → ℕ → Allocator → Lists → Said Course
course k n a l =
    need (lists_sound a l) 1 nil
    (need (usable k a l.atoms l.pairs) 11 nil
    (cond (ltb (savings k a) 1024) (says abort)
    (node_course k a (arg a l.atoms n))))

pub data Restoring : Type 0 where
  no_replace : Restoring
  replace : ℕ → Restoring
  aborted : Restoring

-- the clone's answer; a refusal gives back the record from before the restore
abbrev pub cloned : Allocator → Store → Out ℕ Store → Out Restoring Store
cloned a s o = settle o.said a s (λ n. out (replace n) o.rec o.lent)

-- the saved bytes go through new_atom, with one ghost atom and their length of ghost heap taken off
abbrev pub clone : Counts → ℕ → ℕ → Allocator → Store → Out Restoring Store
clone k start end a s =
    cloned a s (new_atom (less_ghosts (end - start) (cut k a)) (slice start end s.bytes) s)

abbrev pub restore_by : Counts → Allocator → Store → Course → Out Restoring Store
restore_by k a s abort = out aborted a s
restore_by k a s keep = out no_replace (cut k a) s
restore_by k a s (share start end) =
    out (replace (bytes_node k.atoms)) (used_atom 0 (less_ghosts 0 (cut k a)))
    (store s.bytes (put_slot k.atoms start end s.atoms))
restore_by k a s (copy start end) = clone k start end a s

abbrev pub maybe_restore : Counts → ℕ → Allocator → Store → PairStore → Out Restoring Store
maybe_restore k n a s p = settle (course k n a (together s p)) a s (restore_by k a s)

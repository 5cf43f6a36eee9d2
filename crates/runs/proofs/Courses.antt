-- maybe_restore_with_node on every input: which course it takes, and when. Assumes nothing.
use Prim.Native.Nat.{ℕ, ◌-◌, ◌≤◌, ◌<◌}
use mathlib.Core.Path.{◌≡◌, refl}
use mathlib.Core.Bool.{true, false, cond}
use native.Mathlib.Omega.{arith}
use borrow.Author.Tests.{ltb-true, ltb-false, leb-true, leb-false}
use lib.Dec.{leb, ltb}
use Rattle.rules.specs.declared.Counts.{Counts}
use Rattle.rules.specs.declared.Allocator.{Allocator}
use Rattle.rules.specs.Node.{Node, pair_at, bytes_at, small, bad, view, nil}
use Rattle.rules.specs.Said.{Said, says, refuses}
use Rattle.rules.specs.State.{Lists, start_at, end_at, heap, lists_sound, atom_slot_sound}
use Rattle.rules.specs.Reads.{pair_arg, bytes_arg, arg_of, after_new_bytes, after_old_bytes}
use Rattle.rules.specs.Restores.{usable, savings, Course, abort, keep, share, copy, status_course, node_course, course}
use Rattle.rules.proofs.Tests.{choice}
use Rattle.rules.proofs.Needs.{need_ind}
use Rattle.runs.specs.Wf.{Valid, Sound, SlotOk}
use Rattle.runs.proofs.Tests.{sound→, slot→, Usable, usable→}

-- record and checkpoint pass, and the savings are enough
pub record Open (k : Counts) (a : Allocator) (l : Lists) : Type 0 where
  pub sound : Sound a l
  pub usable : Usable k a l.atoms l.pairs
  pub big : 1024 ≤ savings k a

-- the node is Bytes, later than the checkpoint, with a sound slot
pub record LaterSlot (k : Counts) (a : Allocator) (l : Lists) (n i : ℕ) : Type 0 where
  pub is : view n ≡ bytes_at i
  pub after : k.atoms ≤ i
  pub used : i < a.used.atoms
  pub ok : SlotOk a.used.bytes (start_at l.atoms i) (end_at l.atoms i)

pub data CourseIs (k : Counts) (n : ℕ) (a : Allocator) (l : Lists) : Said Course → Type 0 where
  unsound : lists_sound a l ≡ false → CourseIs k n a l (refuses 1 nil)
  unusable : lists_sound a l ≡ true → usable k a l.atoms l.pairs ≡ false → CourseIs k n a l (refuses 11 nil)
  little : savings k a < 1024 → CourseIs k n a l (says abort)
  invalid : Open k a l → (Valid a.used.atoms a.used.pairs (view n) → ⊥) → CourseIs k n a l (refuses 5 nil)
  bad-slot : (i : ℕ) → view n ≡ bytes_at i → i < a.used.atoms → atom_slot_sound a.used.bytes l.atoms i ≡ false → CourseIs k n a l (refuses 1 nil)
  early : Open k a l → Valid k.atoms k.pairs (view n) → CourseIs k n a l (says keep)
  later-pair : (i : ℕ) → Open k a l → view n ≡ pair_at i → k.pairs ≤ i → i < a.used.pairs → CourseIs k n a l (says abort)
  shared : (i : ℕ) → Open k a l → LaterSlot k a l n i → start_at l.atoms i < k.bytes → end_at l.atoms i ≤ k.bytes
      → CourseIs k n a l (says (share (start_at l.atoms i) (end_at l.atoms i)))
  astride : (i : ℕ) → Open k a l → LaterSlot k a l n i → start_at l.atoms i < k.bytes → k.bytes < end_at l.atoms i → CourseIs k n a l (refuses 12 nil)
  too_long : (i : ℕ) → Open k a l → LaterSlot k a l n i → k.bytes ≤ start_at l.atoms i → 48 < end_at l.atoms i - start_at l.atoms i → CourseIs k n a l (says abort)
  over-limit : (i : ℕ) → Open k a l → LaterSlot k a l n i → k.bytes ≤ start_at l.atoms i → end_at l.atoms i - start_at l.atoms i ≤ 48
      → a.limit < heap a → CourseIs k n a l (refuses 2 nil)
  copied : (i : ℕ) → Open k a l → LaterSlot k a l n i → k.bytes ≤ start_at l.atoms i → end_at l.atoms i - start_at l.atoms i ≤ 48
      → heap a ≤ a.limit → CourseIs k n a l (says (copy (start_at l.atoms i) (end_at l.atoms i)))

module _ (k : Counts) (n : ℕ) (a : Allocator) (l : Lists) where
  later-is : (i : ℕ) → Open k a l → LaterSlot k a l n i
      → CourseIs k n a l (status_course k a (bytes_arg i (start_at l.atoms i) (end_at l.atoms i))
      (cond (ltb (start_at l.atoms i) k.bytes) (after_old_bytes (start_at l.atoms i) (end_at l.atoms i)) after_new_bytes))
  later-is i o h = choice (λ t. CourseIs k n a l (status_course k a (bytes_arg i (start_at l.atoms i) (end_at l.atoms i)) t)) (ltb (start_at l.atoms i) k.bytes) _ _
      (λ t. need_ind (CourseIs k n a l) (leb (end_at l.atoms i) k.bytes) _ _ _
      (λ u. astride i o h (ltb-true _ _ t) (leb-false _ _ u))
      (λ u. shared i o h (ltb-true _ _ t) (leb-true _ _ u)))
      (λ t. choice (CourseIs k n a l) (ltb 48 (end_at l.atoms i - start_at l.atoms i)) _ _
      (λ u. too_long i o h (ltb-false _ _ t) (ltb-true _ _ u))
      (λ u. need_ind (CourseIs k n a l) (leb (heap a) a.limit) _ _ _
      (λ v. over-limit i o h (ltb-false _ _ t) (ltb-false _ _ u) (leb-false _ _ v))
      (λ v. copied i o h (ltb-false _ _ t) (ltb-false _ _ u) (leb-true _ _ v))))

  node-is : Open k a l → (x : Node) → view n ≡ x → CourseIs k n a l (node_course k a (arg_of a l.atoms x))
  unfolding arg_of
  node-is o (pair_at i) e = need_ind (λ r. CourseIs k n a l (node_course k a r)) (ltb i a.used.pairs) _ _ _
      (λ t. let z : a.used.pairs ≤ i = ltb-false _ _ t in invalid o (rw e (λ (v : i < a.used.pairs). omega arith)))
      (λ t. choice (λ u. CourseIs k n a l (status_course k a (pair_arg i) u)) (ltb i k.pairs) _ _
      (λ u. early o (rw e (ltb-true _ _ u)))
      (λ u. later-pair i o e (ltb-false _ _ u) (ltb-true _ _ t)))
  node-is o (bytes_at i) e = need_ind (λ r. CourseIs k n a l (node_course k a r)) (ltb i a.used.atoms) _ _ _
      (λ t. let z : a.used.atoms ≤ i = ltb-false _ _ t in invalid o (rw e (λ (v : i < a.used.atoms). omega arith)))
      (λ t. need_ind (λ r. CourseIs k n a l (node_course k a r)) (atom_slot_sound a.used.bytes l.atoms i) _ _ _
      (λ u. bad-slot i e (ltb-true _ _ t) u)
      (λ u. choice (λ x. CourseIs k n a l (status_course k a (bytes_arg i (start_at l.atoms i) (end_at l.atoms i)) x)) (ltb i k.atoms) _ _
      (λ v. early o (rw e (ltb-true _ _ v)))
      (λ v. later-is i o (record { is = e; after = ltb-false _ _ v; used = ltb-true _ _ t; ok = slot→ a.used.bytes l.atoms i u }))))
  node-is o (small v) e = early o (rw e tt)
  node-is o bad e = invalid o (rw e (λ v. v))

  pub course-is : CourseIs k n a l (course k n a l)
  unfolding course
  course-is = need_ind (CourseIs k n a l) (lists_sound a l) _ _ _ unsound λ t. need_ind (CourseIs k n a l) (usable k a l.atoms l.pairs) _ _ _ (unusable t) λ u.
      choice (CourseIs k n a l) (ltb (savings k a) 1024) _ _ (λ v. little (ltb-true _ _ v)) λ v.
      node-is (record { sound = sound→ a l t; usable = usable→ k a l.atoms l.pairs u; big = ltb-false _ _ v }) (view n) refl

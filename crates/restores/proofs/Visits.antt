-- What node() tells of an argument that passed its tests: a buffer, or something that is not cloned. Assumes nothing.
use Prim.Native.Nat.{ℕ}
use native.Mathlib.Omega.{arith}
use mathlib.Core.Path.{◌≡◌, refl, ap, ◌∙◌}
use mathlib.Core.Bool.{true}
use Rattle.std.specs.Prelude.{Result, Ok, Err}
use Rattle.rules.specs.declared.Allocator.{Allocator}
use Rattle.rules.specs.declared.Refusal.{Refusal}
use Rattle.rules.specs.declared.NodeVisitor.{NodeVisitor}
use Rattle.rules.specs.declared.NodeVisitor.TheVariants.{Buffer, U32, Pair}
use Rattle.rules.specs.Paper.{said_by, visitor_paper}
use Rattle.rules.specs.Said.{says, need}
use Rattle.rules.specs.State.{AtomSlots, PairSlots, slots_sound, pair_slot_sound}
use Rattle.rules.specs.Reads.{Arg, pair_arg, bytes_arg, small_arg, arg, children_of, visited, node}
use Rattle.rules.specs.Restores.{abort, new_course}
use Rattle.rules.proofs.Needs.{need_ind}
use Rattle.restores.specs.Course.{visited_course}

-- beside a sound record, node() is what its argument shows
pub node_visits : (a : Allocator) (t : AtomSlots) (p : PairSlots) (n : ℕ) → slots_sound a t p ≡ true → node a t p n ≡ visited a p (arg a t n)
unfolding node need
node_visits a t p n h = rw h

by_arg : (a : Allocator) (p : PairSlots) (x : Arg) → visited_course a (visited a p (says x)) ≡ new_course a x
unfolding children_of
by_arg a p (pair_arg i) = need_ind (λ r. visited_course a r ≡ says abort) (pair_slot_sound a.used.atoms p i) _ _ _ (λ b. refl) (λ b. refl)
by_arg a p (bytes_arg i s e) = refl
by_arg a p (small_arg v) = refl

-- a course by what node() tells is the course by its argument
pub course_by_arg : (a : Allocator) (t : AtomSlots) (p : PairSlots) (n : ℕ) (x : Arg) → slots_sound a t p ≡ true → arg a t n ≡ says x
    → visited_course a (node a t p n) ≡ new_course a x
course_by_arg a t p n x h e = ap (visited_course a) (node_visits a t p n h ∙ ap (visited a p) e) ∙ by_arg a p x

-- the `else` of `let .. else`: what is no buffer is Aborted
pub no_buffer : (a : Allocator) (p : PairSlots) (x : Arg) (v : Result NodeVisitor Refusal) → ((from to : ℕ) → v ≡ Ok (Buffer from to) → ⊥)
    → said_by visitor_paper v ≡ visited a p (says x) → says abort ≡ new_course a x
no_buffer a p (pair_arg i) v k h = refl
no_buffer a p (small_arg u) v k h = refl
no_buffer a p (bytes_arg i s e) (Ok (Buffer x y)) k h = absurd (k x y refl)
no_buffer a p (bytes_arg i s e) (Ok (U32 u)) k h = let z : ◌≡◌ {A = ℕ} 0 1 = cc in absurd (omega arith)
no_buffer a p (bytes_arg i s e) (Ok (Pair f r)) k h = let z : ◌≡◌ {A = ℕ} 0 1 = cc in absurd (omega arith)
no_buffer a p (bytes_arg i s e) (Err r) k h = let z : ◌≡◌ {A = ℕ} 0 1 = cc in absurd (omega arith)

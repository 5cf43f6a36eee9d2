-- What a chosen course tells: it holds what its act rests on. Assumes nothing.
use Prim.Native.Nat.{ℕ}
use Rattle.std.specs.Prelude.{Result, Ok, Err, IfOk}
use mathlib.Core.Path.{◌≡◌, sym}
use native.Mathlib.Omega.{arith}
use Rattle.rules.specs.declared.Counts.{Counts}
use Rattle.rules.specs.declared.Allocator.{Allocator}
use Rattle.rules.specs.declared.Refusal.{Refusal}
use Rattle.rules.specs.Said.{says}
use Rattle.rules.specs.State.{Lists}
use Rattle.rules.specs.Restores.{Course, course}
use Rattle.rules.specs.Paper.{said_by}
use Rattle.runs.proofs.Courses.{Open, CourseIs, little, early, later-pair, shared, too_long, copied, course-is}
use Rattle.runs.proofs.Arise.{never_short_for_a_clone}
use Rattle.restores.specs.declared.course.Course as Code
use Rattle.restores.specs.Course.{course_paper}
use Rattle.restores.specs.Able.{Cuttable, Able}

cuts : {k : Counts} {a : Allocator} {l : Lists} → Open k a l → Cuttable k a
cuts o = let s = o.sound in let u = o.usable in
    record { limits = omega arith; atoms = u.atoms; pairs = u.pairs; bytes = u.bytes }

module _ {k : Counts} {n : ℕ} {a : Allocator} {l : Lists} where
  able : {c : Course} → CourseIs k n a l (says c) → course k n a l ≡ says c → Able k a l c
  able (little h) e = omega arith
  able (early o h) e = cuts o
  able (later-pair i o v h g) e = omega arith
  able (shared i o h p q) e =
      let s = o.sound in let b = h.after in let u = h.used in
      record { cuts = cuts o; later = omega arith; start_slot = omega arith; end-slot = omega arith; order = h.ok.order; inside = q }
  able (too_long i o h p q) e = omega arith
  able (copied i o h p q g) e =
      let c = never_short_for_a_clone k n a l _ _ e in
      let b = h.after in let u = h.used in
      record {
        cuts = cuts o;
        later = omega arith;
        new = p;
        order = h.ok.order;
        inside = h.ok.inside;
        fit = o.sound.bytes_fit;
        short = q;
        node = c.node;
        accepts = c.accepts;
      }

-- of whatever answers as the rule does
pub told_able : (k : Counts) (n : ℕ) (a : Allocator) (l : Lists) (r : Result Code.Course Refusal)
    → said_by course_paper r ≡ course k n a l → IfOk r (λ c. Able k a l (course_paper c))
told_able k n a l (Ok c) e = able (rw (sym e) at (course-is k n a l)) (sym e)
told_able k n a l (Err r) e = tt

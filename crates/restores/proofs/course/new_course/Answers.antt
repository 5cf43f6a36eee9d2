-- `restores::course::new_course` meets its contract.
use Rattle.rules.proofs.Sound.{slots_lent}
use native.Mathlib.Omega.{arith}
use Rattle.restores.proofs.course.new_course.Goals as goal

pub overflow_add-a : goal.overflow_add-a
overflow_add-a c =
    omega (arith, slots_lent _ _ _ _ _ c.requires)

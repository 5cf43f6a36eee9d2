-- `concat::sizes::add_term` meets its contract.
use Rattle.std.proofs.Common.{arith}
use Rattle.rules.proofs.Smalls.{small-length}
use Rattle.concat.proofs.sizes.add_term.Goals as goal

pub overflow_add-counter : goal.overflow_add-counter
overflow_add-counter c = omega (arith, c.len_for_value.ensures, small-length c.in-Value.v (search arith))

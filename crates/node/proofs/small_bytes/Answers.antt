-- `node::small_bytes` meets its contract.
use native.Mathlib.Omega.{arith}
use Rattle.rules.proofs.Smalls.{small-length, last-part}
use Rattle.node.proofs.small_bytes.Goals as goal

pub overflow_sub-result : goal.overflow_sub-result
overflow_sub-result c = omega (arith, small-length _ c.requires, c.len_for_value.ensures)

pub returns-clause-bytes : goal.returns-clause-bytes
returns-clause-bytes c = simp (c.len_for_value.ensures, c.put_be.ensures) (last-part c.args.v _ c.requires)

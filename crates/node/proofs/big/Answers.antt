-- `node::big` meets its contract: a first digit 0 adds nothing, and four bytes write a number of 32 bits.
use mathlib.Core.Path.{◌∙◌}
use native.Mathlib.Omega.{arith}
use Rattle.node.proofs.Laws.{big_zero, big_four}
use Rattle.node.proofs.big.Goals as goal

pub overflow_cast-result : goal.overflow_cast-result
overflow_cast-result c =
    let v = c.args.v.now in
    omega (arith, c.read_be.ensures ∙ big_zero v, big_four v (λ i. omega (arith, c.type_inv.v i)) (omega arith))

pub returns : goal.returns
returns c =
    c.read_be.ensures ∙ big_zero c.args.v.now

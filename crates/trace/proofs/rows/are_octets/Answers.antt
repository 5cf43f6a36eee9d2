-- What a slice's type says.
use Rattle.std.proofs.Common.{arith}
use Rattle.trace.proofs.rows.are_octets.Goals as goal

pub returns : goal.returns
returns c = λ i. omega (arith, c.type_inv.bytes i)

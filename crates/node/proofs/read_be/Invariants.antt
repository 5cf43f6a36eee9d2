-- `node::read_be` meets its contract: n is what the first digit and the bytes so far write. Assumes nothing.
use Rattle.std.proofs.Common.{◌≡◌, ◌∷◌, take}
use Rattle.rules.specs.Small.{big}
use Rattle.node.proofs.read_be.Given as goal

abbrev pub invariant-loop-b : goal.invariant-loop-b
invariant-loop-b l = l.n ≡ big (l.first ∷ take l.b-index l.more)

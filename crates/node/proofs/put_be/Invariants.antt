-- `node::put_be` meets its contract. The loop's invariant: with the low i bytes of what is left to write, the list would be the one promised.
use Rattle.std.proofs.Common.{◌≡◌, ◌++◌, drop}
use Rattle.rules.specs.Small.{be}
use Rattle.node.proofs.put_be.Given as goal

abbrev pub invariant-loop-i : goal.invariant-loop-i
invariant-loop-i l = be l.i l.rest ++ drop l.i l.buf ≡ be l.n l.v ++ drop l.n l.initial.buf

-- `concat::sizes::measure` meets its contract: what is left to scan, from the running length on, gives the whole scan's verdict.
use Rattle.std.proofs.Common.{◌≡◌, ◌+◌, ◌≤◌, drop}
use Rattle.rules.specs.Lent.{atoms_of}
use Rattle.rules.specs.Creates.{scan}
use Rattle.concat.proofs.sizes.measure.Given as goal

abbrev pub invariant-loop-n : goal.invariant-loop-n
invariant-loop-n l =
    (scan l.a (atoms_of l.atoms) l.size l.nodes 0 ≡ scan l.a (atoms_of l.atoms) l.size (drop l.n-index l.nodes) l.counter) × (l.counter ≤ l.size + 1)

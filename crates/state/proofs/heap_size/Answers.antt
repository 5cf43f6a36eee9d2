-- `state::heap_size` meets its contract. Assumes nothing.
use Rattle.state.proofs.Laws.{count_uncapped}
use Rattle.rules.specs.State.{heap}
use native.Mathlib.Omega.{arith}
use Rattle.state.proofs.heap_size.Goals as goal

pub returns : goal.returns
returns c =
    simp (c.counted.ensures, c.total.ensures) (count_uncapped c.args.a.now (heap c.args.a.now) λ l. omega arith)

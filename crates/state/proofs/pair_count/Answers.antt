-- `state::pair_count` meets its contract. Assumes nothing.
use Rattle.state.proofs.Laws.{count_uncapped}
use Rattle.rules.specs.State.{pairs}
use native.Mathlib.Omega.{arith}
use Rattle.state.proofs.pair_count.Goals as goal

pub returns : goal.returns
returns c =
    simp (c.counted.ensures, c.total.ensures) (count_uncapped c.args.a.now (pairs c.args.a.now) λ l. omega arith)

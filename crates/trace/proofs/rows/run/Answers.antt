-- The text so far and what is still to come, record by record.
use Rattle.std.proofs.Common.{arith}
use Rattle.trace.proofs.Traces.{along_last}
use Rattle.trace.proofs.rows.run.Goals as goal

pub returns-clause-value : goal.returns-clause-value
returns-clause-value c =
    let last = c.put_end-2.ensures in
    along_last _ _ _ _ _ _ _ _ _ c.loop-at.invariant.0 _ (omega arith) last.text last.capacity last.bound

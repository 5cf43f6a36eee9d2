-- The text so far and what is still to come, record by record.
use Rattle.std.proofs.Common.{◌-◌, length}
use Rattle.rules.specs.Lent.{lists_lent}
use Rattle.machine.specs.Machine.{SameStores}
use Rattle.text.specs.Page.{SamePage}
use Rattle.trace.proofs.Traces.{Along}
use Rattle.trace.proofs.rows.run.Given as goal

abbrev pub invariant-loop-at : goal.invariant-loop-at
invariant-loop-at l =
    let f = l.fn in
    Along f.m (lists_lent f.stores) l.input f.at0 f.page (lists_lent l.stores) l.page l.m l.at × SameStores f.stores l.stores × SamePage f.page l.page

abbrev pub decreases-loop-at : goal.decreases-loop-at
decreases-loop-at l = length l.input - l.at

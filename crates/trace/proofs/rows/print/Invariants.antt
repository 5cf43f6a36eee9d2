-- What was sent and what is still to come are as long as the text, and each piece gets on.
use Rattle.std.proofs.Common.{◌-◌, length}
use Rattle.rules.specs.Lent.{lists_in, lists_lent}
use Rattle.trace.proofs.Whole.{Sending}
use Rattle.trace.proofs.rows.print.Given as goal

abbrev pub invariant-loop-sent : goal.invariant-loop-sent
invariant-loop-sent g l =
    let f = l.fn in
    Sending (lists_in f.bytes f.starts f.ends f.firsts f.rests) l.input (lists_lent l.stores) l.page l.m l.at l.sent

abbrev pub decreases-loop-sent : goal.decreases-loop-sent
decreases-loop-sent g l = length l.input - l.at

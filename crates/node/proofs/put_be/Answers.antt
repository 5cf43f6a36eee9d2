-- `node::put_be` meets its contract: a turn writes the last byte of what is left. Assumes nothing.
use Rattle.std.proofs.Common.{◌≡◌, ◌∙◌, ◌+◌, ◌-◌, arith}
use Rattle.rules.specs.Small.{be}
use Rattle.node.proofs.Laws.{be-turn}
use Rattle.node.proofs.put_be.Goals as goal

pub loop-i-preserved : goal.loop-i-preserved
loop-i-preserved c =
    let l = c.loop-i in
    let e : (l.i - 1) + 1 ≡ l.i = omega arith in
    (rw e at (be-turn l.buf l.rest (l.i - 1) (omega arith))) ∙ l.invariant

pub returns : goal.returns
unfolding be
returns c =
    let z : c.loop-i.i ≡ 0 = omega arith in
    rw z at c.loop-i.invariant

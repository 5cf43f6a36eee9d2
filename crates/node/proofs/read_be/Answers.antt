-- `node::read_be` meets its contract: a turn adds a digit, and after at most seven of eight there is room for it. Assumes nothing.
use Rattle.std.proofs.Common.{◌∷◌, ◌<◌, take, get_or, arith}
use Rattle.std.proofs.lemmas.List.{take_more}
use Rattle.rules.specs.Small.{big}
use Rattle.node.proofs.Laws.{big-more, big-room}
use Rattle.node.proofs.read_be.Goals as goal
use Rattle.node.proofs.read_be.Goals.{In-loop-b}

pub loop-b-init : goal.loop-b-init
unfolding big
loop-b-init c = omega arith

-- there is room for one digit more
room : (c : In-loop-b) → c.loop-b.n < 72057594037927936
room c = omega (arith, big-room c.args.first c.args.more.now c.loop-b.b-index (omega arith) (λ i. omega (arith, c.type_inv.more i)) (omega arith))

pub overflow_mul-n : goal.overflow_mul-n
overflow_mul-n c = omega (arith, room c)

pub overflow_add-n : goal.overflow_add-n
overflow_add-n c = omega (arith, room (goal.at.overflow_add-n c).In-loop-b, c.type_inv.more c.loop-b.b-index)

pub loop-b-preserved : goal.loop-b-preserved
loop-b-preserved c =
    let v = c.args.more.now in
    let i = c.loop-b.b-index in
    let one = take_more v i 0 (omega arith) in
    let more = big-more (c.args.first ∷ take i v) (get_or v i 0) in
    cc

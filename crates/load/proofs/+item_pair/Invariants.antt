-- `item` and `pair` call each other: each call has fewer levels left, or enters the pair of a level.
use Prim.Native.Nat.{◌+◌, ◌*◌}
use Rattle.load.proofs.+item_pair.Given as goal

abbrev pub decreases-item : goal.decreases-item
decreases-item l = l.levels * 2

abbrev pub decreases-pair : goal.decreases-pair
decreases-pair l = l.levels * 2 + 1

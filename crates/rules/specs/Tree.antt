-- What a node shows: a tree of byte strings.
use Rattle.std.specs.Prelude.{ℕ, zero, suc, List, []}
use Rattle.std.proofs.Math.Seq.{slice}
use Rattle.rules.specs.Node.{Node, pair_at, bytes_at, small, bad, view}
use Rattle.rules.specs.Small.{small_bytes}
use Rattle.rules.specs.State.{Lists, start_at, end_at, first_at, rest_at}

pub data Tree : Type 0 where
  leaf : List ℕ → Tree
  fork : Tree → Tree → Tree

-- one level, with the children read by f
unfoldable pub level : (ℕ → Tree) → Lists → Node → Tree
level f l (pair_at i) = fork (f (first_at l.pairs i)) (f (rest_at l.pairs i))
level f l (bytes_at i) = leaf (slice (start_at l.atoms i) (end_at l.atoms i) l.bytes)
level f l (small v) = leaf (small_bytes v)
level f l bad = leaf []

-- at most d levels
unfoldable pub tree_to : ℕ → Lists → ℕ → Tree
tree_to zero l n = leaf []
tree_to (suc d) l n = level (tree_to d l) l (view n)

-- a pair's children have lower indices: how many levels may lie below a node
abbrev pub depth : Node → ℕ
depth (pair_at i) = suc i
depth (bytes_at i) = zero
depth (small v) = zero
depth bad = zero

unfoldable pub tree : Lists → ℕ → Tree
tree l n = tree_to (suc (depth (view n))) l n

-- A node that is valid in k reads the same in all lists that hold what k uses. Assumes nothing.
use Prim.Native.Nat.{ℕ, zero, suc, ◌+◌, ◌*◌, ◌/◌, ◌%◌, ◌<◌}
use mathlib.Core.Path.{◌≡◌, refl, ap, ap₂, ◌∙◌}
use native.Mathlib.Nat.{le_refl}
use native.Mathlib.Omega.{arith}
use Rattle.rules.specs.Node.{Node, pair_at, bytes_at, small, bad, view_of, view, pair_node, bytes_node, small_node}
use Rattle.rules.specs.State.{Lists, start_at, end_at, first_at, rest_at}
use Rattle.rules.proofs.Args.{view-low}
use Rattle.rules.specs.Tree.{Tree, leaf, fork, level, tree_to, tree}
use Rattle.rules.specs.Whole.{St}
use Rattle.runs.specs.Wf.{Valid, ValidIn, Shape, Same}
use Rattle.rules.proofs.Trees as Trees
use Rattle.runs.proofs.Tests.{valid_mono, →pair}
use Rattle.runs.proofs.Extend.{start_same, end_same, first_same, rest_same, part_same}

-- ---- the bits of a node

pub view-pair : (i : ℕ) → i < 67108864 → view (pair_node i) ≡ pair_at i
unfolding view view_of
view-pair i h =
    let q : (0 * 67108864 + i) / 67108864 ≡ 0 = omega arith in
    let r : (0 * 67108864 + i) % 67108864 ≡ i = omega arith in
    rw (q, r)

pub view-bytes : (i : ℕ) → i < 67108864 → view (bytes_node i) ≡ bytes_at i
unfolding view view_of
view-bytes i h =
    let q : (1 * 67108864 + i) / 67108864 ≡ 1 = omega arith in
    let r : (1 * 67108864 + i) % 67108864 ≡ i = omega arith in
    rw (q, r)

pub view-small : (v : ℕ) → v < 67108864 → view (small_node v) ≡ small v
unfolding view view_of
view-small v h =
    let q : (2 * 67108864 + v) / 67108864 ≡ 2 = omega arith in
    let r : (2 * 67108864 + v) % 67108864 ≡ v = omega arith in
    rw (q, r)

-- a small node's value has 26 bits
pub small_bits : (n v : ℕ) → view n ≡ small v → v < 67108864
small_bits n v e = rw e at (view-low n)

-- ---- the same tree

module _ {k : St} {l : Lists} (w : Shape k) (h : Same k l) where
  level-same : (f g : ℕ → Tree) → ((n : ℕ) → ValidIn k n → f n ≡ g n)
      → (v : Node) → Valid k.rec.used.atoms k.rec.used.pairs v → level f l v ≡ level g k.lists v
  unfolding level
  level-same f g ih (pair_at i) b = ap₂ fork
      (ap f (first_same h i b) ∙ ih (first_at k.lists.pairs i) (valid_mono (view (first_at k.lists.pairs i)) (le_refl _) (omega arith) (w.pair i b).first_ok))
      (ap f (rest_same h i b) ∙ ih (rest_at k.lists.pairs i) (valid_mono (view (rest_at k.lists.pairs i)) (le_refl _) (omega arith) (w.pair i b).rest_ok))
  level-same f g ih (bytes_at i) b = ap leaf (rw (start_same h i b, end_same h i b) (part_same h (start_at k.lists.atoms i) (end_at k.lists.atoms i) (w.slot i b).inside))
  level-same f g ih (small v) b = refl
  level-same f g ih bad b = refl

  tree_to-same : (d n : ℕ) → ValidIn k n → tree_to d l n ≡ tree_to d k.lists n
  unfolding tree_to
  tree_to-same zero n b = refl
  tree_to-same (suc d) n b = level-same (tree_to d l) (tree_to d k.lists) (tree_to-same d) (view n) b

  pub tree-same : (n : ℕ) → ValidIn k n → tree l n ≡ tree k.lists n
  unfolding tree
  tree-same n b = tree_to-same _ n b

-- ---- `tree` unfolds: a pair shows its two children (an atom its bytes: `tree-bytes` and `tree-small` of the rules)

pub tree-pair : {s : St} → Shape s → (n i : ℕ) → i < s.rec.used.pairs → view n ≡ pair_at i
    → tree s.lists n ≡ fork (tree s.lists (first_at s.lists.pairs i)) (tree s.lists (rest_at s.lists.pairs i))
tree-pair {s} w = Trees.tree-pair s.rec.used.atoms s.rec.used.pairs s.lists (λ i l. →pair s.rec.used.atoms s.lists.pairs i (w.pair i l))

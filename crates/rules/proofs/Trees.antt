-- `tree` unfolds: an atom shows its bytes, a pair its two children. So the definition reads all of a tree. Assumes nothing.
use Prim.Native.Nat.{ℕ, zero, suc, ◌≤◌, ◌<◌}
use mathlib.Core.Path.{◌≡◌, refl, ap₂}
use mathlib.Core.Bool.{true}
use native.Mathlib.Omega.{arith}
use native.Mathlib.Nat.{le_refl, le_trans}
use borrow.Author.Tests.{lt-ltb, ltb-true}
use lib.Seq.{slice}
use Rattle.rules.specs.Node.{Node, pair_at, bytes_at, small, bad, view, valid_as}
use Rattle.rules.specs.Small.{small_bytes}
use Rattle.rules.specs.State.{Lists, start_at, end_at, first_at, rest_at, pair_slot_sound}
use Rattle.rules.specs.Tree.{leaf, fork, level, tree_to, depth, tree}
use Rattle.rules.proofs.Tests.{both}

pub tree-bytes : (l : Lists) (n i : ℕ) → view n ≡ bytes_at i → tree l n ≡ leaf (slice (start_at l.atoms i) (end_at l.atoms i) l.bytes)
unfolding tree tree_to level
tree-bytes l n i e = rw e

pub tree-small : (l : Lists) (n v : ℕ) → view n ≡ small v → tree l n ≡ leaf (small_bytes v)
unfolding tree tree_to level
tree-small l n v e = rw e

-- a node valid against some pairs is valid against more
grow : (a p q : ℕ) (v : Node) → p ≤ q → valid_as a p v ≡ true → valid_as a q v ≡ true
grow a p q (pair_at i) h t = let l : i < p = ltb-true i p t in lt-ltb i q (omega arith)
grow a p q (bytes_at i) h t = t
grow a p q (small v) h t = t
grow a p q bad h t = t

-- the first pair slots are sound
module _ (atoms pairs : ℕ) (l : Lists) (sound : (i : ℕ) → i < pairs → pair_slot_sound atoms l.pairs i ≡ true) where
  -- d levels are enough for a node valid against d pairs, and more change nothing
  enough_at : (d e : ℕ) → d ≤ pairs
      → ((j n : ℕ) → d ≡ suc j → valid_as atoms j (view n) ≡ true → tree_to e l n ≡ tree_to d l n)
      → (v : Node) → valid_as atoms d v ≡ true → level (tree_to e l) l v ≡ level (tree_to d l) l v
  unfolding level
  enough_at zero e p ih (pair_at i) t = let q : i < 0 = ltb-true i 0 t in absurd (omega arith)
  enough_at (suc d) e p ih (pair_at i) t =
      let q : i < suc d = ltb-true i (suc d) t in
      let b = both _ _ (sound i (omega arith)) in
      ap₂ fork (ih d _ refl (grow atoms i d (view (first_at l.pairs i)) (omega arith) b.0))
      (ih d _ refl (grow atoms i d (view (rest_at l.pairs i)) (omega arith) b.1))
  enough_at d e p ih (bytes_at i) t = refl
  enough_at d e p ih (small v) t = refl
  enough_at d e p ih bad t = refl

  enough : (d e n : ℕ) → d ≤ pairs → valid_as atoms d (view n) ≡ true → d ≤ e → tree_to (suc e) l n ≡ tree_to (suc d) l n
  unfolding tree_to
  enough zero e n p t h = enough_at zero e p (λ j f q v. absurd (omega arith)) (view n) t
  enough (suc d) zero n p t h = absurd (omega arith)
  enough (suc d) (suc e) n p t h =
      enough_at (suc d) (suc e) p (λ j f q v. enough d e f (omega arith) (grow atoms j d (view f) (omega arith) v) (omega arith)) (view n) t

  deep : (i : ℕ) (v : Node) → valid_as atoms i v ≡ true → (depth v ≤ i) × (valid_as atoms (depth v) v ≡ true)
  deep i (pair_at j) t = (ltb-true j i t, lt-ltb j (suc j) (le_refl _))
  deep i (bytes_at j) t = (omega arith, t)
  deep i (small v) t = (omega arith, t)
  deep i bad t = (omega arith, t)

  child : (i n : ℕ) → i < pairs → valid_as atoms i (view n) ≡ true → tree_to (suc i) l n ≡ tree l n
  unfolding tree
  child i n h t = let r = deep i (view n) t in enough (depth (view n)) i n (le_trans r.0 (omega arith)) r.1 r.0

  pub tree-pair : (n i : ℕ) → i < pairs → view n ≡ pair_at i → tree l n ≡ fork (tree l (first_at l.pairs i)) (tree l (rest_at l.pairs i))
  unfolding tree tree_to level
  tree-pair n i h e =
      let b = both _ _ (sound i h) in
      rw e (ap₂ fork (child i (first_at l.pairs i) h b.0) (child i (rest_at l.pairs i) h b.1))

-- The bytes of a node, by its kind: refused where it is not valid, of an atom its shortest form, of a pair those of its children.
-- Assumes nothing.
use Prim.Native.Nat.{ℕ, suc, ◌<◌}
use mathlib.Core.Path.{◌≡◌, refl}
use native.Mathlib.Omega.{arith}
use borrow.Author.Tests.{lt-ltb, le-ltb}
use Rattle.rules.specs.declared.Allocator.{Allocator}
use Rattle.rules.specs.Node.{Node, pair_at, bytes_at, small, bad, view, nil}
use Rattle.rules.specs.Said.{refuses, need}
use Rattle.rules.specs.State.{Lists, first_at, rest_at}
use Rattle.rules.specs.Reads.{arg_of, children_of, visited}
use Rattle.rules.specs.Serial.{shortest}
use Rattle.rules.specs.Save.{fitted, form_pair, form_as, form_of}
use Rattle.rules.proofs.Trees.{tree-bytes, tree-small}
use Rattle.rules.specs.Whole.{St}
use Rattle.runs.specs.Wf.{Valid, WF}
use Rattle.runs.proofs.Tests.{→slot, →pair}
use Rattle.saves.specs.Saves.{form, tree_of}

-- ---- every state

pub no_levels : (a : Allocator) (l : Lists) (room n : ℕ) → form_of a l 0 room n ≡ refuses 18 nil
unfolding form_of
no_levels a l room n = refl

pub not_valid : (a : Allocator) (l : Lists) (levels room n : ℕ) → (Valid a.used.atoms a.used.pairs (view n) → ⊥)
    → form_of a l (suc levels) room n ≡ refuses 5 nil
unfolding form_of arg_of need
not_valid a l levels room n h = go (view n) h
  where
    go : (x : Node) → (Valid a.used.atoms a.used.pairs x → ⊥)
        → form_as (visited a l.pairs (arg_of a l.atoms x)) (form_of a l levels) room l.bytes ≡ refuses 5 nil
    go (pair_at i) h = rw (le-ltb i a.used.pairs (omega arith))
    go (bytes_at i) h = rw (le-ltb i a.used.atoms (omega arith))
    go (small v) h = absurd (h tt)
    go bad h = refl

-- ---- well-formed states

module _ {s : St} (w : WF s) where
  pub bytes-form : (levels room n i : ℕ) → view n ≡ bytes_at i → i < s.rec.used.atoms
      → form (suc levels) room n s ≡ fitted room (shortest (tree_of s n))
  unfolding form_of arg_of need shortest
  bytes-form levels room n i e l =
      rw (e, lt-ltb i s.rec.used.atoms l, →slot s.rec.used.bytes s.lists.atoms i (w.shape.slot i l), tree-bytes s.lists n i e)

  pub small-form : (levels room n v : ℕ) → view n ≡ small v → form (suc levels) room n s ≡ fitted room (shortest (tree_of s n))
  unfolding form_of arg_of shortest
  small-form levels room n v e = rw (e, tree-small s.lists n v e)

  pub pair-form : (levels room n i : ℕ) → view n ≡ pair_at i → i < s.rec.used.pairs
      → form (suc levels) room n s ≡ form_pair (form_of s.rec s.lists levels) room (first_at s.lists.pairs i) (rest_at s.lists.pairs i)
  unfolding form_of arg_of children_of need
  pair-form levels room n i e l =
      rw (e, lt-ltb i s.rec.used.pairs l, →pair s.rec.used.atoms s.lists.pairs i (w.shape.pair i l))

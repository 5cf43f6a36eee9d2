-- In a well-formed state a valid node's bytes are what writing its tree gives: its shortest form, or the first fault in the order of the file.
-- Assumes nothing.
use Prim.Native.Nat.{ℕ, zero, suc, ◌+◌, ◌-◌, ◌≤◌, ◌<◌}
use mathlib.Core.Path.{◌≡◌, refl}
use mathlib.Core.Bool.{false}
use mathlib.Core.List.{List, ◌∷◌, ◌++◌}
use native.Mathlib.Nat.{le_refl}
use native.Mathlib.Omega.{arith}
use borrow.Author.Tests.{leb-true, leb-false}
use lib.Dec.{leb}
use lib.ListN.{length, length-append}
use Rattle.rules.specs.Node.{Node, pair_at, bytes_at, small, bad, view, nil}
use Rattle.rules.specs.Said.{Said, says, refuses}
use Rattle.rules.specs.State.{first_at, rest_at}
use Rattle.rules.specs.Tree.{Tree, leaf, fork}
use Rattle.rules.specs.Serial.{height, shortest, shortest_atom}
use Rattle.rules.specs.Save.{next, fitted, form_pair, form_of}
use Rattle.rules.proofs.Needs.{need_ind}
use Rattle.rules.proofs.Trees.{tree-bytes, tree-small}
use Rattle.rules.specs.Whole.{St}
use Rattle.runs.specs.Wf.{Valid, ValidIn, WF}
use Rattle.runs.proofs.Tests.{valid_mono}
use Rattle.runs.proofs.Reading.{tree-pair}
use Rattle.saves.specs.Saves.{form, tree_of, TooDeep, here, in_first, in_rest, Writes, whole, deep, long}
use Rattle.saves.proofs.Deep.{deep-height}
use Rattle.saves.proofs.Nodes.{no_levels, bytes-form, small-form, pair-form}

-- ---- an atom

no_deeper : {levels place : ℕ} {v : List ℕ} → TooDeep (suc levels) (leaf v) place → ⊥
unfolding height
no_deeper d = omega (arith, deep-height d)

atom_writes : (levels room : ℕ) (v : List ℕ) → Writes (suc levels) room (leaf v) (fitted room (shortest (leaf v)))
unfolding height shortest
atom_writes levels room v = need_ind (Writes (suc levels) room (leaf v)) (leb (length (shortest_atom v)) room) 19 nil (says (shortest_atom v))
    (λ t. long (leb-false _ _ t) λ place d. absurd (no_deeper d))
    λ t. whole (omega arith) (leb-true _ _ t)

-- ---- a pair

-- where the room is too short for the first child alone
short_first : {levels : ℕ} {x y : Tree} {place : ℕ} (room : ℕ) → room - 1 < length (shortest x)
    → ((p : ℕ) → TooDeep levels x p → room - 1 < p) → TooDeep (suc levels) (fork x y) place → room < place
short_first room h f (in_first {place = p} d) = omega (arith, f p d)
short_first room h f (in_rest g d) = omega arith

-- and where it is too short for the rest
short_rest : {levels : ℕ} {x y : Tree} {place : ℕ} (room : ℕ) → height x ≤ levels → length (shortest x) ≤ room - 1 → 1 ≤ room
    → ((p : ℕ) → TooDeep levels y p → room - 1 - length (shortest x) < p) → TooDeep (suc levels) (fork x y) place → room < place
short_rest room g h o f (in_first d) = absurd (omega (arith, deep-height d))
short_rest room g h o f (in_rest {place = p} k d) = omega (arith, f p d)

no_room : {levels : ℕ} {x y : Tree} {place : ℕ} → TooDeep (suc levels) (fork x y) place → 0 < place
no_room (in_first d) = omega arith
no_room (in_rest g d) = omega arith

pair_writes : (levels room first rest : ℕ) (x y : Tree) (below : ℕ → ℕ → Said (List ℕ))
    → ((m : ℕ) → Writes levels m x (below m first)) → ((m : ℕ) → Writes levels m y (below m rest))
    → Writes (suc levels) room (fork x y) (form_pair below room first rest)
unfolding height shortest
pair_writes levels room first rest x y below f g =
    need_ind (Writes (suc levels) room (fork x y)) (leb 1 room) 19 nil _ none λ t. left (leb-true 1 room t) (below (room - 1) first) (f (room - 1))
  where
    sum : length (shortest x ++ shortest y) ≡ length (shortest x) + length (shortest y)
    sum = length-append (shortest x) (shortest y)

    none : leb 1 room ≡ false → Writes (suc levels) room (fork x y) (refuses 19 nil)
    none t =
        let z : room < 1 = leb-false 1 room t in
        long (omega arith) λ place d. omega (arith, no_room d)

    right : 1 ≤ room → height x ≤ levels → length (shortest x) ≤ room - 1
        → (r : Said (List ℕ)) → Writes levels (room - 1 - length (shortest x)) y r
        → Writes (suc levels) room (fork x y) (next r λ w. says (0xff ∷ (shortest x ++ w)))
    right o h l _ (whole k m) = whole (omega arith) (omega (arith, sum))
    right o h l _ (deep place d m) = deep (suc (length (shortest x) + place)) (in_rest h d) (omega arith)
    right o h l _ (long m k) = long (omega (arith, sum)) λ place d. short_rest room h l o k d

    left : 1 ≤ room → (r : Said (List ℕ)) → Writes levels (room - 1) x r
        → Writes (suc levels) room (fork x y) (next r λ u. next (below (room - 1 - length u) rest) λ w. says (0xff ∷ (u ++ w)))
    left o _ (whole h l) = right o h l (below (room - 1 - length (shortest x)) rest) (g (room - 1 - length (shortest x)))
    left o _ (deep place d l) = deep (suc place) (in_first d) (omega arith)
    left o _ (long l k) = long (omega (arith, sum)) λ place d. short_first room l k d

-- ---- a node

module _ {s : St} (w : WF s) where
  pub form_writes : (levels room n : ℕ) → ValidIn s n → Writes levels room (tree_of s n) (form levels room n s)
  form_writes zero room n v = rw (no_levels s.rec s.lists room n) (deep 0 here (omega arith))
  form_writes (suc levels) room n v = at (view n) refl v (form_writes levels)
    where
      at : (x : Node) → view n ≡ x → Valid s.rec.used.atoms s.rec.used.pairs x
          → ((room n : ℕ) → ValidIn s n → Writes levels room (tree_of s n) (form levels room n s))
          → Writes (suc levels) room (tree_of s n) (form (suc levels) room n s)
      at (pair_at i) e l below =
          let ok = w.shape.pair i l in
          let first : ℕ = first_at s.lists.pairs i in
          let rest : ℕ = rest_at s.lists.pairs i in
          rw (pair-form w levels room n i e l, tree-pair w.shape n i l e)
          (pair_writes levels room first rest (tree_of s first) (tree_of s rest) (form_of s.rec s.lists levels)
          (λ m. below m first (valid_mono (view first) (le_refl _) (omega arith) ok.first_ok))
          (λ m. below m rest (valid_mono (view rest) (le_refl _) (omega arith) ok.rest_ok)))
      at (bytes_at i) e l below = rw (bytes-form w levels room n i e l, tree-bytes s.lists n i e) (atom_writes levels room _)
      at (small u) e l below = rw (small-form w levels room n u e, tree-small s.lists n u e) (atom_writes levels room _)
      at bad e l below = absurd l

-- Items that lie too deep: a tree has one exactly where it has more levels, and it starts within the shortest form. Assumes nothing.
use Prim.Native.Nat.{ℕ, zero, suc, ◌≤◌, ◌<◌}
use mathlib.Core.Bool.{◌&&◌}
use mathlib.Core.List.{List, ◌++◌}
use native.Mathlib.Decide.{dec_lt}
use native.Mathlib.Omega.{arith}
use lib.Dec.{ltb, eqb}
use lib.ListN.{length, get_or, length-append}
use borrow.Author.Tests.{eqb-true}
use Rattle.rules.specs.Tree.{Tree, leaf, fork}
use Rattle.rules.specs.Serial.{height, prefix, extra_for, shortest_atom, shortest}
use Rattle.rules.proofs.Tests.{both, choice}
use Rattle.saves.specs.Saves.{TooDeep, here, in_first, in_rest, Deep}

-- a tree has a level
pub height-some : (t : Tree) → 1 ≤ height t
unfolding height
height-some (leaf v) = omega arith
height-some (fork x y) = omega arith

pub deep-height : {levels place : ℕ} {t : Tree} → TooDeep levels t place → levels < height t
unfolding height
deep-height (here {t = t}) = height-some t
deep-height (in_first {x = x} {y = y} d) = omega (arith, deep-height d)
deep-height (in_rest {x = x} {y = y} h d) = omega (arith, deep-height d)

pub height-deep : (levels : ℕ) (t : Tree) → levels < height t → Deep levels t
unfolding height
height-deep zero t h = record { place = 0; item = here }
height-deep (suc levels) (leaf v) h = absurd (omega arith)
height-deep (suc levels) (fork x y) h = elim (dec_lt levels (height x)) [
  | yes p ↦ (let d = height-deep levels x p in record { place = suc d.place; item = in_first d.item })
  | no p ↦ (let d = height-deep levels y (omega arith) in record { place = _; item = in_rest {levels = levels} {x = x} (omega arith) d.item })
]

-- ---- within the form

atom-some : (v : List ℕ) → 1 ≤ length (shortest_atom v)
unfolding shortest_atom
atom-some v = choice (λ l. 1 ≤ length l) (eqb (length v) 1 && ltb (get_or v 0 0) 0x80) v (prefix (extra_for (length v)) (length v) ++ v)
    (λ t. omega (arith, eqb-true (length v) 1 (both (eqb (length v) 1) _ t).0))
    λ t. omega arith

pub shortest-some : (t : Tree) → 1 ≤ length (shortest t)
unfolding shortest
shortest-some (leaf v) = atom-some v
shortest-some (fork x y) = omega arith

pub deep-within : {levels place : ℕ} {t : Tree} → TooDeep levels t place → place < length (shortest t)
unfolding shortest
deep-within (here {t = t}) = shortest-some t
deep-within (in_first {x = x} {y = y} d) = omega (arith, length-append (shortest x) (shortest y), deep-within d)
deep-within (in_rest {x = x} {y = y} h d) = omega (arith, length-append (shortest x) (shortest y), deep-within d)

-- How the reader's definitions unfold, case by case. Assumes nothing.
use Prim.Native.Nat.{ℕ, zero, suc, ◌+◌, ◌-◌}
use mathlib.Core.Path.{◌≡◌, refl, ap, ◌∙◌}
use mathlib.Core.Bool.{false}
use mathlib.Core.List.{List}
use native.Mathlib.Omega.{arith}
use Rattle.rules.specs.declared.Allocator.{Allocator}
use Rattle.rules.specs.Node.{nil}
use Rattle.rules.specs.Said.{says, refuses}
use Rattle.rules.specs.State.{Lists, lists_sound}
use Rattle.rules.specs.Serial.{Token, token}
use Rattle.rules.specs.Load.{Reading, reading, after, pair_item, read_pair, item_as, item, load}

-- ---- an item

module _ (f : List ℕ) (levels at : ℕ) (a : Allocator) (l : Lists) where
  pub item-deep : levels ≡ 0 → reading (refuses 18 nil) at a l ≡ item f levels at a l
  unfolding item
  item-deep e = rw e

  -- with a level left, an item is what its token says
  pub item_by : (t : Token) → (levels ≡ 0 → ⊥) → t ≡ token f at → item_as t (item f (levels - 1)) f at a l ≡ item f levels at a l
  unfolding item
  item_by t h e = go levels h
    where
      go : (k : ℕ) → (k ≡ 0 → ⊥) → item_as t (item f (k - 1)) f at a l ≡ item f k at a l
      go zero h = absurd (h refl)
      go (suc k) h = let d : suc k - 1 ≡ k = omega arith in rw (d, e)

-- ---- a pair

module _ (below : ℕ → Allocator → Lists → Reading) (at : ℕ) (a : Allocator) (l : Lists) where
  -- on with both nodes, with the first, and with the pair's place
  abbrev joined : ℕ → ℕ → ℕ → Allocator → Lists → Reading
  joined first rest next c n = read_pair at next first rest c n

  abbrev rested : ℕ → ℕ → Allocator → Lists → Reading
  rested first mid b m = after (below mid b m) (joined first)

  module _ (first mid : ℕ) (b : Allocator) (m : Lists) (e : reading (says first) mid b m ≡ below (at + 1) a l) where
    onto : after (below mid b m) (joined first) ≡ pair_item below at a l
    onto = ap (λ (r : Reading). after r rested) e

    -- both are there
    pub pair_both : (rest next : ℕ) (c : Allocator) (o : Lists) → reading (says rest) next c o ≡ below mid b m
        → read_pair at next first rest c o ≡ pair_item below at a l
    pair_both rest next c o g = ap (λ (r : Reading). after r (joined first)) g ∙ onto

-- ---- the whole file

module _ (f : List ℕ) (a : Allocator) (l : Lists) where
  pub load-unsound : lists_sound a l ≡ false → reading (refuses 1 nil) 0 a l ≡ load f a l
  unfolding load
  load-unsound e = rw e

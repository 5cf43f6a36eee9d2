-- There are runs: one with a checkpoint inside another and a restore of each sort, all accepted. Assumes nothing.
use Prim.Native.Nat.{ℕ, zero, suc, ◌<◌}
use mathlib.Core.Path.{◌≡◌, refl, subst}
use mathlib.Core.List.{[], ◌∷◌}
use native.Mathlib.Omega.{arith}
use lib.ListN.{replicate}
use Rattle.rules.specs.Node.{view, view_of}
use Rattle.rules.specs.Small.{Octets, fits, unfit, big}
use Rattle.rules.specs.Said.{Said, says, need}
use Rattle.rules.specs.State.{Lists, lists, atom_slots, pair_slots, limits_sound, all}
use Rattle.rules.specs.Reads.{arg_of}
use Rattle.rules.specs.Creates.{store_atom, atom_tests}
use Rattle.rules.specs.Record.{new_limited}
use Rattle.rules.specs.Restores.{usable, course, restore_plain, restore_transparent, Restoring, no_replace, replace}
use Rattle.rules.specs.Whole.{St, atom, make, plainly, transparently, with_node, restore}
use Rattle.runs.specs.Runs.{took, went, LiveAt, just_taken, past-take, past-restore, noted, Past, fresh, made, taken, back}

octets : (b : ℕ) → b < 256 → (n : ℕ) → Octets (replicate n b)
octets b h zero i = omega arith
octets b h (suc n) zero = h
octets b h (suc n) (suc i) = octets b h n i

-- ---- its states

-- a fresh allocator beside slots with room for two atoms
slots : Lists
slots = lists (replicate 1008 0) (atom_slots (replicate 2 0) (replicate 2 0)) (pair_slots [] [])

pub s₀ : St
s₀ = record { rec = (new_limited 4294967295).rec; lists = slots }

-- an atom of 960 bytes; another of 48; back to the first; again one of 48; back to the start with it; back to the start
pub s₁ : St
s₁ = make (atom (replicate 960 7)) s₀

s₂ : St
s₂ = make (atom (replicate 48 7)) s₁

s₃ : St
s₃ = (restore transparently s₁ s₂).next

s₄ : St
s₄ = make (atom (replicate 48 7)) s₃

s₅ : St
s₅ = (restore (with_node 67108865) s₀ s₄).next

pub s₆ : St
s₆ = (restore plainly s₀ s₅).next

-- ---- its three restores are accepted

first : (restore transparently s₁ s₂).said ≡ says no_replace
unfolding s₂ s₁ s₀ slots new_limited need limits_sound all view view_of fits unfit big arg_of store_atom atom_tests usable course restore_plain restore_transparent
first = refl

second : (restore (with_node 67108865) s₀ s₄).said ≡ says (replace 67108864)
unfolding s₄ s₃ s₂ s₁ s₀ slots new_limited need limits_sound all view view_of fits unfit big arg_of store_atom atom_tests usable course restore_plain restore_transparent
second = refl

third : (restore plainly s₀ s₅).said ≡ says no_replace
unfolding s₅ s₄ s₃ s₂ s₁ s₀ slots new_limited need limits_sound all view view_of fits unfit big arg_of store_atom atom_tests usable course restore_plain restore_transparent
third = refl

-- ---- the run

begun : Past s₀ []
unfolding s₀ slots
begun = fresh 4294967295 slots (octets 0 (omega arith) 1008)

-- both checkpoints taken, and the second atom made
nested : Past s₂ (took s₁ ∷ took s₀ ∷ [])
unfolding s₁ s₂
nested = made (taken (made (taken begun) (atom (replicate 960 7)) (octets 7 (omega arith) 960))) (atom (replicate 48 7)) (octets 7 (omega arith) 48)

inner : Past s₃ (went 1 ∷ took s₁ ∷ took s₀ ∷ [])
unfolding s₃
inner = subst (λ (r : Said Restoring). Past (restore transparently s₁ s₂).next (noted r 1 (took s₁ ∷ took s₀ ∷ []))) first (back nested transparently (just_taken refl))

outer : Past s₅ (went 0 ∷ went 1 ∷ took s₁ ∷ took s₀ ∷ [])
unfolding s₄ s₅
outer = subst (λ (r : Said Restoring). Past (restore (with_node 67108865) s₀ s₄).next (noted r 0 (went 1 ∷ took s₁ ∷ took s₀ ∷ []))) second
    (back (made inner (atom (replicate 48 7)) (octets 7 (omega arith) 48)) (with_node 67108865) (past-restore (past-take (just_taken refl)) (omega arith)))

pub walk : Past s₆ (went 0 ∷ went 0 ∷ went 1 ∷ took s₁ ∷ took s₀ ∷ [])
unfolding s₆
walk = subst (λ (r : Said Restoring). Past (restore plainly s₀ s₅).next (noted r 0 (went 0 ∷ went 1 ∷ took s₁ ∷ took s₀ ∷ []))) third
    (back outer plainly (past-restore (past-restore (past-take (just_taken refl)) (omega arith)) (omega arith)))

-- after them the outer checkpoint is live, and the inner one is not
pub outer_live : LiveAt 0 s₀ (went 0 ∷ went 0 ∷ went 1 ∷ took s₁ ∷ took s₀ ∷ [])
outer_live = past-restore {b = 0} (past-restore {b = 0} (past-restore {b = 1} (past-take (just_taken refl)) (omega arith)) (omega arith)) (omega arith)

pub inner_dead : (k : St) → LiveAt 1 k (went 0 ∷ went 0 ∷ went 1 ∷ took s₁ ∷ took s₀ ∷ []) → ⊥
inner_dead k (past-restore l h) = omega arith

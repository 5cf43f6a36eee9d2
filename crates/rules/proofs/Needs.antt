-- Laws of a call's list of tests. Assumes nothing.
use Prim.Native.Nat.{ℕ}
use mathlib.Core.Path.{◌≡◌, refl}
use mathlib.Core.Bool.{Bool, true, false}
use native.Mathlib.Omega.{arith}
use Rattle.rules.specs.declared.Allocator.{Allocator}
use Rattle.rules.specs.Said.{Said, says, refuses, need, Out, refused, settle}

pub need_true : {A : Type 0} (code node : ℕ) (next : Said A) → need true code node next ≡ next
unfolding need
need_true code node next = refl

pub need_false : {A : Type 0} (code node : ℕ) (next : Said A) → need false code node next ≡ refuses code node
unfolding need
need_false code node next = refl

-- a test that was passed: it held, and those after it were passed too
pub passed : {A : Type 0} (b : Bool) (code node : ℕ) (next : Said A) (x : A) → need b code node next ≡ says x → (b ≡ true) × (next ≡ says x)
unfolding need
passed true code node next x h = (refl, h)
passed false code node next x h = let z : ◌≡◌ {A = ℕ} 0 1 = cc in absurd (omega arith)

-- what holds of the refusal and of what comes after a test holds of the test
pub need_ind : {A : Type 0} (P : Said A → Type 0) (b : Bool) (code node : ℕ) (next : Said A)
    → (b ≡ false → P (refuses code node)) → (b ≡ true → P next) → P (need b code node next)
unfolding need
need_ind P true code node next f g = g refl
need_ind P false code node next f g = f refl

-- what holds of every refusal, and of what an accepted call leaves, holds of the call
pub settle_ind : {A B L : Type 0} (P : Out B L → Type 0) (r : Said A) (a : Allocator) (s : L) (f : A → Out B L)
    → ((code node : ℕ) → r ≡ refuses code node → P (refused code node a s)) → ((x : A) → r ≡ says x → P (f x)) → P (settle r a s f)
settle_ind P (says x) a s f g h = h x refl
settle_ind P (refuses code node) a s f g h = g code node refl

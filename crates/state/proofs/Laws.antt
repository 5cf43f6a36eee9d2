-- A count of a sound record is far below the cap of the sum that the code takes; what a passed test says.
use Prim.Native.Nat.{ℕ, ◌≤◌, min}
use mathlib.Core.Path.{◌≡◌, refl, ap}
use mathlib.Core.Bool.{Bool, true, false}
use native.Mathlib.Omega.{arith}
use Rattle.rules.specs.declared.Allocator.{Allocator}
use Rattle.rules.specs.Node.{nil}
use Rattle.rules.specs.Said.{says, need}
use Rattle.rules.specs.State.{limits_sound}
use Rattle.rules.proofs.Limits.{Limits, limits}
use Rattle.std.specs.Bool.{OnTrue}

uncapped : (b : Bool) (x : ℕ) → (b ≡ true → x ≤ 18446744073709551615) → need b 1 nil (says (min x 18446744073709551615)) ≡ need b 1 nil (says x)
unfolding need
uncapped true x g = let h = g refl in let e : min x 18446744073709551615 ≡ x = omega arith in ap says e
uncapped false x g = refl

pub count_uncapped : (a : Allocator) (x : ℕ) → (Limits a → x ≤ 18446744073709551615)
    → need (limits_sound a) 1 nil (says (min x 18446744073709551615)) ≡ need (limits_sound a) 1 nil (says x)
count_uncapped a x f = uncapped (limits_sound a) x (λ e. f (limits a e))

-- what holds wherever a test passes
pub on_true : {P : Type 0} (b : Bool) → (b ≡ true → P) → OnTrue b P
on_true true f = f refl
on_true false f = tt

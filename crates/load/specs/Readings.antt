-- Promises made whatever a function is not lent.
use Rattle.std.specs.Prelude.{◌≡◌}
use Rattle.rules.specs.declared.Allocator.{Allocator}
use Rattle.rules.specs.State.{Lists}
use Rattle.rules.specs.Load.{Reading}

-- the same reading with any lists in the place of those that are not lent
abbrev pub Same : {L : Type 0} → (L → Reading) → (L → Reading) → Type 0
Same {L} f g = (x : L) → f x ≡ g x

-- the same reading with any record and any lists
abbrev pub Always : (Allocator → Lists → Reading) → (Allocator → Lists → Reading) → Type 0
Always f g = (a : Allocator) (l : Lists) → f a l ≡ g a l

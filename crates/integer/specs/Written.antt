-- What a writer of an integer leaves.
use Rattle.std.specs.Prelude.{◌≡◌, List, ◌++◌, ℕ, ◌≤◌, ℤ, length, drop}
use Rattle.rules.specs.Integer.{int_bytes, Shortest}

-- the first n bytes of new are those of z, the shortest that mean it, and the rest is old's
pub record Written (z : ℤ) (n : ℕ) (old new : List ℕ) : Type 0 where
  pub count : n ≡ length (int_bytes z)
  pub bytes : new ≡ int_bytes z ++ drop n old
  pub shortest : Shortest z (int_bytes z)
  pub fits : n ≤ 9

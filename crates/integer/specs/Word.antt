-- The numbers that 64 bits have room for.
use Rattle.std.specs.Prelude.{ℤ, pos, negsuc, ◌^◌, ◌<◌}

-- with a sign or without
abbrev pub IsWord : ℤ → Type 0
IsWord (pos x) = x < 2 ^ 64
IsWord (negsuc m) = m < 2 ^ 63

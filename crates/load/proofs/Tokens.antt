-- Where a token lies in the file. Assumes nothing.
use Prim.Native.Nat.{ℕ, ◌≤◌, ◌<◌}
use mathlib.Core.Path.{◌≡◌, sym}
use mathlib.Core.List.{List}
use lib.ListN.{length}
use Rattle.serial.proofs.Tokens.{parse-short}
use Rattle.rules.specs.Serial.{opening, string, token}

-- where a pair opens, and where an atom's bytes lie
module _ (f : List ℕ) (at : ℕ) where
  pub pair_inside : opening ≡ token f at → at < length f
  pair_inside e = (parse-short f at opening (sym e)).inside

  pub atom-inside : (from to : ℕ) → string from to ≡ token f at → (from ≤ to) × (to ≤ length f)
  atom-inside from to e = let p = parse-short f at (string from to) (sym e) in (p.order, p.inside)

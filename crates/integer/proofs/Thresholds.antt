-- The search of the table of thresholds is the walk that the definition of the byte count has. Assumes nothing.
use Rattle.std.proofs.Common.{◌≡◌, ℕ, zero, suc, ◌+◌, ◌*◌, ◌^◌, List, [], ◌∷◌, length, map, ltb, arith}
use Rattle.std.specs.List.{position_from}
use Rattle.std.specs.Option.{unwrap_or}
use Rattle.rules.specs.Integer.{count_from}

-- n powers, from 256 ^ i on
abbrev pub powers : ℕ → ℕ → List ℕ
powers i zero = []
powers i (suc n) = 256 ^ i ∷ powers (suc i) n

-- the thresholds from entry i on are half of the powers
pub walk : (m : ℕ) (ts : List ℕ) (i : ℕ) → map (λ (t : ℕ). t * 2) ts ≡ powers (suc i) (length ts)
    → unwrap_or (position_from (λ (t : ℕ). ltb m t) i ts) (i + length ts) + 1 ≡ count_from (length ts) (suc i) m
unfolding count_from
walk m [] i h = omega arith
walk m (t ∷ ts) i h =
    let half : t * 2 ≡ 256 ^ suc i = cc in
    let rest : map (λ (t : ℕ). t * 2) ts ≡ powers (suc (suc i)) (length ts) = cc in
    grind (arith, walk m ts (suc i) rest)

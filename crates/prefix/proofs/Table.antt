-- The rule of the table of prefixes, over the index: antt computes the whole table from it once. Assumes nothing.
use Prim.Native.Nat.{ℕ, zero, suc, ◌+◌, ◌<◌}
use mathlib.Core.Path.{◌≡◌, refl, ap, ◌∙◌, sym}
use mathlib.Core.List.{List, [], ◌∷◌}
use native.Mathlib.Nat.{add-zero, add-suc, suc-add, zero-add, le_of_suc-le-suc, not-suc-le-zero}
use lib.ListN.{get_or}
use Rattle.rules.specs.Serial.{base_of, limit_of}

-- entry k: the base, and the limit
abbrev pub ruled : ℕ → List ℕ
ruled k = base_of k ∷ limit_of k ∷ []

-- n entries, from entry i on
pub entries : ℕ → ℕ → List (List ℕ)
entries zero i = []
entries (suc n) i = ruled i ∷ entries n (suc i)

pub entries_at : (n i k : ℕ) (none : List ℕ) → k < n → get_or (entries n i) k none ≡ ruled (i + k)
unfolding entries
entries_at zero i k none h = absurd (not-suc-le-zero h)
entries_at (suc n) i zero none h = ap ruled (sym (add-zero i))
entries_at (suc n) i (suc k) none h = entries_at n (suc i) k none (le_of_suc-le-suc h) ∙ ap ruled (suc-add i k ∙ sym (add-suc i k))

-- five entries are the code's table
pub table : entries 5 0 ≡ (0x80 ∷ 0x40 ∷ []) ∷ (0xc0 ∷ 0x2000 ∷ []) ∷ (0xe0 ∷ 0x100000 ∷ []) ∷ (0xf0 ∷ 0x8000000 ∷ []) ∷ (0xf8 ∷ 0x400000000 ∷ []) ∷ []
unfolding entries base_of limit_of
table = refl

pub table_at : (k : ℕ) (none : List ℕ) → k < 5 → get_or (entries 5 0) k none ≡ ruled k
table_at k none h = entries_at 5 0 k none h ∙ ap ruled (zero-add k)

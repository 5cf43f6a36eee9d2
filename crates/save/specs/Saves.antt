-- What the writer gives, and what is known between its two passes.
use Rattle.std.specs.Prelude.{ℕ, ◌≡◌, List, [], Result}
use Rattle.rules.specs.declared.Refusal.{Refusal}
use Rattle.rules.specs.Said.{Said, says, refuses}
use Rattle.rules.specs.Paper.{said_in}
use Rattle.rules.specs.Save.{Saving}

-- all that a write gives: its answer, and the slice that was lent for it
abbrev pub saving : Result ℕ Refusal → List ℕ → Saving
saving r file = record { said = said_in r; file = file }

-- the bytes of a form that was accepted
abbrev pub formed : Said (List ℕ) → List ℕ
formed (says v) = v
formed (refuses code node) = []

-- the measuring pass accepted it
abbrev pub Accepted : Said (List ℕ) → Type 0
Accepted s = s ≡ says (formed s)

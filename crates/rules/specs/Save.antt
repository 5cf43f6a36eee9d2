-- Saving a node as a program file: its shortest form, or the first fault in file order (document 02, W1).
use Rattle.std.specs.Prelude.{ℕ, zero, suc, ◌-◌, List, ◌∷◌, ◌++◌, leb, length}
use Rattle.std.proofs.Math.Seq.{slice}
use Rattle.rules.specs.declared.Allocator.{Allocator}
use Rattle.rules.specs.Node.{nil}
use Rattle.rules.specs.Small.{small_bytes}
use Rattle.rules.specs.Said.{Said, says, refuses, need, onward}
use Rattle.rules.specs.State.{Lists, lists_sound, over}
use Rattle.rules.specs.Reads.{Visited, buffer, number, children, arg, visited}
use Rattle.rules.specs.Serial.{shortest_atom}
use Rattle.rules.specs.Load.{levels_of}

-- what is written so far, then more
abbrev pub next : Said (List ℕ) → (List ℕ → Said (List ℕ)) → Said (List ℕ)
next s f = onward s s f

-- 19 at the first byte that does not fit the room left
abbrev pub fitted : ℕ → List ℕ → Said (List ℕ)
fitted room v = need (leb (length v) room) 19 nil (says v)

-- ff, first, rest
abbrev pub form_pair : (ℕ → ℕ → Said (List ℕ)) → ℕ → ℕ → ℕ → Said (List ℕ)
form_pair below room first rest =
    need (leb 1 room) 19 nil
    (next (below (room - 1) first) λ u.
    next (below (room - 1 - length u) rest) λ w.
    says (0xff ∷ (u ++ w)))

abbrev pub form_as : Said Visited → (ℕ → ℕ → Said (List ℕ)) → ℕ → List ℕ → Said (List ℕ)
form_as (says (buffer start end)) below room bytes = fitted room (shortest_atom (slice start end bytes))
form_as (says (number v)) below room bytes = fitted room (shortest_atom (small_bytes v))
form_as (says (children first rest)) below room bytes = form_pair below room first rest
form_as (refuses code node) below room bytes = refuses code node

-- a node's bytes, with so many levels and so much room left: 18 on entering one level too many, then 5 not valid, then 1
-- unsound for the slot read
unfoldable pub form_of : Allocator → Lists → ℕ → ℕ → ℕ → Said (List ℕ)
form_of a l zero room n = refuses 18 nil
form_of a l (suc levels) room n =
    form_as (visited a l.pairs (arg a l.atoms n)) (form_of a l levels) room l.bytes

-- the length of what was written, and the slice that was lent for it: a refused write changes no byte
pub record Saving : Type 0 where
  pub said : Said ℕ
  pub file : List ℕ

abbrev pub written : Said (List ℕ) → List ℕ → Saving
written (says v) file = record { said = says (length v); file = over file 0 v }
written (refuses code node) file = record { said = refuses code node; file = file }

-- 1 for a record that is unsound beside any of the five lists; then the node's tests
unfoldable pub save : Allocator → Lists → ℕ → List ℕ → Saving
save a l n file = written (need (lists_sound a l) 1 nil (form_of a l levels_of (length file) n)) file

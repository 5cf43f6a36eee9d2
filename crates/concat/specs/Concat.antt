-- The steps of new_concat: the running length after a term, and what several nodes give.
use Rattle.std.specs.Prelude.{ℕ, ◌+◌, ◌-◌, min, List, leb}
use Rattle.rules.specs.declared.Allocator.{Allocator}
use Rattle.rules.specs.Small.{len_for}
use Rattle.rules.specs.Said.{Said, says, refuses, need, Out, settle}
use Rattle.rules.specs.State.{Store}
use Rattle.rules.specs.Reads.{Atom, range, value}
use Rattle.rules.specs.Creates.{scan, joined, store_atom}

-- the running length after a term; past size it stays at size + 1, which is as wrong as any other such length
abbrev pub ran : ℕ → ℕ → ℕ → Said Atom → Said ℕ
ran size n counter (says (range start end)) = need (leb (counter + (end - start)) size) 10 n (says (counter + (end - start)))
ran size n counter (says (value v)) = says (min (counter + len_for v) (size + 1))
ran size n counter (refuses code node) = refuses code node

-- two or more nodes: measured, then joined
abbrev pub concat_all : Allocator → ℕ → List ℕ → Store → Out ℕ Store
concat_all a size ns s = settle (scan a s.atoms size ns 0) a s (λ d. store_atom a (joined a s ns) s)

-- A load that stops with a code above 15 stops for what is in the file. Assumes nothing.
use Prim.Native.Nat.{ℕ, ◌≤◌, ◌<◌}
use mathlib.Core.Path.{◌≡◌, subst}
use mathlib.Core.List.{List}
use mathlib.Core.Option.{Option, none, some}
use native.Mathlib.Omega.{arith}
use lib.Seq.{slice}
use Rattle.rules.specs.Small.{fits}
use Rattle.rules.specs.Said.{Said, refuses}
use Rattle.rules.specs.Creates.{store_atom, atom_tests, atom_put, pair_tests}
use Rattle.rules.specs.Load as L
use Rattle.rules.specs.Whole.{St, store_of, new_atom, new_pair}
use Rattle.runs.specs.Causes.{RefusedBy}
use Rattle.runs.proofs.Causes.{why}
use Rattle.loads.specs.Files.{CallRefused, atom-refused, pair-refused, LoadStops, FileStops}
use Rattle.loads.proofs.Files.{load-stops}

-- the codes of document 01
abbrev Low : ℕ → ℕ → Type 0
Low code node = code ≤ 15

module _ (s : St) where
  atom-low : (v : List ℕ) → RefusedBy Low (new_atom v s).said
  unfolding atom_tests store_atom
  atom-low v =
      why Low _ _ _ _ _ _ _ (λ t. omega arith) λ t₁.
      why Low _ _ _ _ _ _ _ (λ t. omega arith) λ t₂.
      why Low _ _ _ _ _ _ _ (λ t. omega arith) λ t₃.
      put (fits v)
    where
      put : (f : Option ℕ) → RefusedBy Low (atom_put f s.rec v (store_of s)).said
      put (some n) = tt
      put none = why Low _ _ _ _ _ _ _ (λ t. omega arith) (λ t. tt)

  pair-low : (first rest : ℕ) → RefusedBy Low (new_pair first rest s).said
  unfolding pair_tests
  pair-low first rest =
      why Low _ _ _ _ _ _ _ (λ t. omega arith) λ t₁.
      why Low _ _ _ _ _ _ _ (λ t. omega arith) λ t₂.
      why Low _ _ _ _ _ _ _ (λ t. omega arith) λ t₃.
      why Low _ _ _ _ _ _ _ (λ t. omega arith) λ t₄.
      why Low _ _ _ _ _ _ _ (λ t. omega arith) λ t₅. tt

pub call_code : {f : List ℕ} {t : St} {code node place : ℕ} → CallRefused f t code node place → code ≤ 15
call_code {f} {t} (atom-refused from to k e) = subst (λ (r : Said ℕ). RefusedBy Low r) e (atom-low t (slice from to f))
call_code {f} {t} (pair-refused first rest k e) = subst (λ (r : Said ℕ). RefusedBy Low r) e (pair-low t first rest)

pub load-file : (f : List ℕ) (s : St) (code node : ℕ) → 15 < code → (L.load f s.rec s.lists).said ≡ refuses code node
    → FileStops f code node (L.load f s.rec s.lists).at
load-file f s code node h e = go h (load-stops f s code node e)
  where
    go : {code node place : ℕ} → 15 < code → LoadStops f s code node place → FileStops f code node place
    go h (LoadStops.unsound g) = absurd (omega arith)
    go h (LoadStops.at-fault p) = FileStops.at-fault p
    go h (LoadStops.bytes_left t p d) = FileStops.bytes_left t p d
    go h (LoadStops.at_call c r) = absurd (omega (arith, call_code r))

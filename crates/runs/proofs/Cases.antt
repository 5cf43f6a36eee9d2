-- The cases of the rule for maybe_restore_with_node exclude one another. Assumes nothing.
use Prim.Native.Nat.{ℕ, ◌-◌, ◌≤◌}
use mathlib.Core.Path.{◌≡◌, refl, sym, ◌∙◌}
use mathlib.Core.Bool.{cond}
use mathlib.Core.Option.{Option, none, some}
use native.Mathlib.Omega.{arith}
use borrow.Author.Tests.{lt-ltb, le-ltb}
use lib.Dec.{ltb}
use lib.Seq.{slice}
use Rattle.rules.specs.Node.{Node, pair_at, bytes_at, small, bad, view}
use Rattle.rules.specs.Small.{fits}
use Rattle.rules.specs.State.{heap}
use Rattle.rules.specs.Restores.{savings, Restoring}
use Rattle.rules.specs.Whole.{St, Whole}
use Rattle.runs.specs.Wf.{Valid}
use Rattle.runs.specs.Runs.{Later, from, to, MaybeIs, little, invalid, before, later-pair, old_bytes, too_long, over-limit, new-small, new-bytes, case_of}

-- the number that the checkpoint, the state and the node give
abbrev fitted : Option ℕ → ℕ
fitted (some v) = 8
fitted none = 9

abbrev later_bytes : St → St → ℕ → ℕ
later_bytes k s i =
    cond (ltb (from s i) k.rec.used.bytes) 5
    (cond (ltb 48 (to s i - from s i)) 6
    (cond (ltb s.rec.limit (heap s.rec)) 7 (fitted (fits (slice (from s i) (to s i) s.lists.bytes)))))

abbrev of_node : St → St → Node → ℕ
of_node k s (pair_at i) = cond (ltb i s.rec.used.pairs) (cond (ltb i k.rec.used.pairs) 3 4) 2
of_node k s (bytes_at i) = cond (ltb i s.rec.used.atoms) (cond (ltb i k.rec.used.atoms) 3 (later_bytes k s i)) 2
of_node k s (small v) = 3
of_node k s bad = 2

abbrev number : St → St → ℕ → ℕ
number k s n = cond (ltb (savings k.rec.used s.rec) 1024) 1 (of_node k s (view n))

module _ (k s : St) (n : ℕ) where
  enough : 1024 ≤ savings k.rec.used s.rec → {m : ℕ} → of_node k s (view n) ≡ m → number k s n ≡ m
  enough h e = rw (le-ltb (savings k.rec.used s.rec) 1024 h) e

  not_valid : (x : Node) → (Valid s.rec.used.atoms s.rec.used.pairs x → ⊥) → of_node k s x ≡ 2
  not_valid (pair_at i) g = rw (le-ltb i s.rec.used.pairs (omega (arith, g)))
  not_valid (bytes_at i) g = rw (le-ltb i s.rec.used.atoms (omega (arith, g)))
  not_valid (small v) g = absurd (g tt)
  not_valid bad g = refl

  is_early : (x : Node) → Valid s.rec.used.atoms s.rec.used.pairs x → Valid k.rec.used.atoms k.rec.used.pairs x → of_node k s x ≡ 3
  is_early (pair_at i) u v = rw (lt-ltb i s.rec.used.pairs u, lt-ltb i k.rec.used.pairs v)
  is_early (bytes_at i) u v = rw (lt-ltb i s.rec.used.atoms u, lt-ltb i k.rec.used.atoms v)
  is_early (small v) u w = refl
  is_early bad u v = absurd u

  later_case : {i m : ℕ} → Later k s n i → later_bytes k s i ≡ m → of_node k s (view n) ≡ m
  later_case {i} l e = rw (l.is, lt-ltb i s.rec.used.atoms l.used, le-ltb i k.rec.used.atoms l.after) e

  case_is : {o : Whole Restoring} (p : MaybeIs k s n o) → number k s n ≡ case_of p
  case_is (little h) = rw (lt-ltb (savings k.rec.used s.rec) 1024 h)
  case_is (invalid h g) = enough h (not_valid (view n) g)
  case_is (before h u v c t) = enough h (is_early (view n) u v)
  case_is (later-pair i h e a b) = enough h (rw (e, lt-ltb i s.rec.used.pairs b, le-ltb i k.rec.used.pairs a))
  case_is (old_bytes i h l a c t) = enough h (later_case l (rw (lt-ltb (from s i) k.rec.used.bytes a)))
  case_is (too_long i h l a b) = enough h (later_case l (rw (le-ltb (from s i) k.rec.used.bytes a, lt-ltb 48 (to s i - from s i) b)))
  case_is (over-limit i h l a b c) = enough h (later_case l (rw (le-ltb (from s i) k.rec.used.bytes a, le-ltb 48 (to s i - from s i) b, lt-ltb s.rec.limit (heap s.rec) c)))
  case_is (new-small i v h l a b c e d t) =
      enough h (later_case l (rw (le-ltb (from s i) k.rec.used.bytes a, le-ltb 48 (to s i - from s i) b, le-ltb s.rec.limit (heap s.rec) c, e)))
  case_is (new-bytes i h l a b c e d t) =
      enough h (later_case l (rw (le-ltb (from s i) k.rec.used.bytes a, le-ltb 48 (to s i - from s i) b, le-ltb s.rec.limit (heap s.rec) c, e)))

-- no two cases hold at once
pub one_case : {k s : St} {n : ℕ} {o o' : Whole Restoring} (p : MaybeIs k s n o) (q : MaybeIs k s n o') → case_of p ≡ case_of q
one_case {k} {s} {n} p q = sym (case_is k s n p) ∙ case_is k s n q

-- Every call that counts, accepted or refused: it keeps a state well-formed, extends it, and leaves what the nodes show. Assumes nothing.
use Prim.Native.Nat.{ℕ, ◌+◌, ◌*◌, ◌≤◌}
use mathlib.Core.Path.{◌≡◌}
use Rattle.rules.specs.State.{atoms, heap}
use Rattle.rules.specs.Tree.{tree}
use Rattle.rules.specs.Whole.{St, Whole, Making, Typed, atom, small-number, u64, i64, pair, substr, concat, ghost_pairs, fewer_ghost_pairs, ghost_atoms, make}
use Rattle.runs.specs.Wf.{ValidIn, WF, On}
use Rattle.runs.specs.Makes.{Outcome, refused, accepted}
use Rattle.rules.specs.Node.{view}
use Rattle.runs.proofs.Tests.{valid_mono}
use Rattle.runs.proofs.Growing.{on_refl}
use Rattle.runs.proofs.Reading.{tree-same}
use Rattle.runs.proofs.Making.{atom-makes, number-makes, u64-makes, i64-makes, pair-makes, ghost_pairs_makes, fewer_makes, ghost_atoms_makes}
use Rattle.runs.proofs.Parts.{substr-makes}
use Rattle.runs.proofs.Joining.{concat-makes}

-- what holds of the state, and of each that an answer leaves, holds of the next
pub outcome_on : {A : Type 0} {s : St} {P : A → St → Type 0} {o : Whole A} → WF s → ((x : A) (s' : St) → P x s' → On s s') → Outcome s P o → On s o.next
outcome_on w f (refused code node) = on_refl w
outcome_on w f (accepted x s' p) = f x s' p

pub make-on : {s : St} → WF s → (m : Making) → Typed m → On s (make m s)
make-on w (atom v) t = outcome_on w (λ n s' p. p.made.on) (atom-makes w v t)
make-on w (small-number v) t = outcome_on w (λ n s' p. p.made.on) (number-makes w v)
make-on w (u64 x) t = outcome_on w (λ n s' p. p.made.on) (u64-makes w x)
make-on w (i64 z) t = outcome_on w (λ n s' p. p.made.on) (i64-makes w z)
make-on w (pair first rest) t = outcome_on w (λ n s' p. p.made.on) (pair-makes w first rest)
make-on w (substr n start end) t = outcome_on w (λ n s' p. p.made.on) (substr-makes w n start end)
make-on w (concat size ns) t = outcome_on w (λ n s' p. p.made.on) (concat-makes w size ns)
make-on w (ghost_pairs amount) t = outcome_on w (λ d s' p. p.on) (ghost_pairs_makes w amount)
make-on w (fewer_ghost_pairs amount) t = outcome_on w (λ d s' p. p.on) (fewer_makes w amount)
make-on w (ghost_atoms amount) t = outcome_on w (λ d s' p. p.on) (ghost_atoms_makes w amount)

-- every node valid before is valid after, and shows what it showed
pub make-valid : {s : St} → WF s → (m : Making) → Typed m → (n : ℕ) → ValidIn s n → ValidIn (make m s) n
make-valid w m t n v = let x = (make-on w m t).ext in valid_mono (view n) x.atoms x.pairs v

pub make_same : {s : St} → WF s → (m : Making) → Typed m → (n : ℕ) → ValidIn s n → tree (make m s).lists n ≡ tree s.lists n
make_same w m t n v = tree-same w.shape (make-on w m t).ext.same n v

-- the heap stays within the limit and 3 bytes an atom, though a substr tests no heap limit
pub make-heap : {s : St} → WF s → (m : Making) → Typed m → heap (make m s).rec ≤ (make m s).rec.limit + 3 * atoms (make m s).rec
make-heap w m t = (make-on w m t).wf.sound.heap-most

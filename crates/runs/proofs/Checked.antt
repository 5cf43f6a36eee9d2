-- In the words of the public check: it says yes of what new_limited gives, beside any lists, and every call keeps its yes. Assumes nothing.
use Prim.Native.Nat.{ℕ, ◌≤◌}
use mathlib.Core.Path.{◌≡◌}
use mathlib.Core.Bool.{true}
use native.Mathlib.Omega.{arith}
use borrow.Author.Tests.{leb-true}
use lib.Dec.{leb}
use Rattle.rules.specs.declared.Counts.{Counts}
use Rattle.rules.specs.declared.Checkpoint.{Checkpoint}
use Rattle.rules.specs.Node.{nil}
use Rattle.rules.specs.Small.{Octets}
use Rattle.rules.specs.Said.{says, done, no_lists, out, settle}
use Rattle.rules.specs.State.{Lists, atoms, pairs, heap, well_formed}
use Rattle.rules.specs.Record.{fresh, new_limited}
use Rattle.rules.proofs.Needs.{need_ind}
use Rattle.rules.specs.Whole.{St, Whole, Making, Typed, make, plain_to, transparent_to, maybe_to}
use Rattle.runs.specs.Wf.{Sound, Shape, WF}
use Rattle.runs.specs.Makes.{Outcome, refused, accepted}
use Rattle.runs.proofs.Tests.{well-formed}
use Rattle.runs.proofs.Every.{make-on}
use Rattle.runs.proofs.Restoring.{plain-forms, transparent_keeps, maybe_keeps}

abbrev pub Checked : St → Type 0
Checked s = well_formed s.rec s.lists ≡ true

-- the byte list holds bytes
pub checked_wf : (s : St) → Octets s.lists.bytes → Checked s → WF s
checked_wf s o h = let p = (well-formed s).0 h in record { sound = p.0; shape = p.1; octets = o }

pub wf_checked : (s : St) → WF s → Checked s
wf_checked s w = (well-formed s).1 (w.sound, w.shape)

-- ---- new_limited, beside any lists

fresh_at : (limit : ℕ) (l : Lists) → limit ≤ 4294967295 → Sound (fresh limit) l × Shape (record { rec = fresh limit; lists = l })
fresh_at limit l h = (omega arith, record { slot = λ i b. absurd (omega arith); pair = λ i b. absurd (omega arith) })

fresh-formed : (limit : ℕ) (l : Lists) → Sound (new_limited limit).rec l × Shape (record { rec = (new_limited limit).rec; lists = l })
unfolding new_limited
fresh-formed limit l = need_ind
    (λ r. let a = (settle r (fresh 0) no_lists (λ d. out done (fresh limit) no_lists)).rec in Sound a l × Shape (record { rec = a; lists = l }))
    (leb limit 4294967295) 1 nil (says done) (λ t. fresh_at 0 l (omega arith)) (λ t. fresh_at limit l (leb-true _ _ t))

pub fresh_checked : (limit : ℕ) (l : Lists) → Checked (record { rec = (new_limited limit).rec; lists = l })
fresh_checked limit l = (well-formed (record { rec = (new_limited limit).rec; lists = l })).1 (fresh-formed limit l)

-- its totals are 2, 0 and 1
pub fresh-totals : (limit : ℕ) → (atoms (new_limited limit).rec ≡ 2) × (pairs (new_limited limit).rec ≡ 0) × (heap (new_limited limit).rec ≡ 1)
unfolding new_limited
fresh-totals limit = need_ind
    (λ r. let a = (settle r (fresh 0) no_lists (λ d. out done (fresh limit) no_lists)).rec in (atoms a ≡ 2) × (pairs a ≡ 0) × (heap a ≡ 1))
    (leb limit 4294967295) 1 nil (says done) (λ t. omega arith) (λ t. omega arith)

pub fresh-wf : (limit : ℕ) (l : Lists) → Octets l.bytes → WF (record { rec = (new_limited limit).rec; lists = l })
fresh-wf limit l o = checked_wf (record { rec = (new_limited limit).rec; lists = l }) o (fresh_checked limit l)

-- ---- the calls that change something

kept : {A : Type 0} {s : St} {P : A → St → Type 0} {o : Whole A} → ((x : A) (s' : St) → P x s' → WF s') → WF s → Outcome s P o → WF o.next
kept f w (refused code node) = w
kept f w (accepted x s' p) = f x s' p

module _ (s : St) (o : Octets s.lists.bytes) (h : Checked s) where
  w : WF s
  w = checked_wf s o h

  pub make_checked : (m : Making) → Typed m → Checked (make m s)
  make_checked m t = wf_checked (make m s) (make-on w m t).wf

  pub plain_checked : (k : Checkpoint) → Checked (plain_to k s).next
  plain_checked k = wf_checked (plain_to k s).next (kept (λ x s' f. f w) w (plain-forms k s))

  pub transparent_checked : (k : Counts) → Checked (transparent_to k s).next
  transparent_checked k = wf_checked (transparent_to k s).next (kept (λ x s' f. f.forms w) w (transparent_keeps k s))

  pub maybe_checked : (k : Counts) (n : ℕ) → Checked (maybe_to k n s).next
  maybe_checked k n = wf_checked (maybe_to k n s).next (kept (λ x s' f. f.forms w) w (maybe_keeps k n s))

-- What every machine of a run has is kept by every request. Assumes nothing.
use Prim.Native.Nat.{◌+◌, ◌*◌, ◌≤◌, ◌<◌}
use mathlib.Core.Path.{◌≡◌, refl}
use native.Mathlib.Omega.{arith}
use lib.Dec.{ltb}
use borrow.Author.Tests.{ltb-true}
use Rattle.std.specs.Prelude.{None}
use Rattle.rules.specs.declared.Counts.{Counts}
use Rattle.rules.specs.declared.Allocator.{Allocator}
use Rattle.rules.specs.declared.Checkpoint.{Checkpoint}
use Rattle.rules.specs.Said.{Said, says, refuses}
use Rattle.rules.specs.State.{Lists}
use Rattle.rules.specs.Record.{checkpoint}
use Rattle.rules.specs.Restores.{Restoring, no_replace, replace, aborted, savings}
use Rattle.rules.specs.Whole.{St, Whole, Way, plainly, transparently, with_node, restore_to}
use Rattle.rules.proofs.Tests.{choice}
use Rattle.runs.specs.Wf.{WF}
use Rattle.runs.specs.Makes.{Outcome, refused, accepted}
use Rattle.runs.proofs.Every.{make-on}
use Rattle.runs.proofs.Restoring.{transparent_keeps, plain-forms, maybe_keeps}
use Rattle.request.specs.Request.{Request, making, taking, restoring, bad}
use Rattle.request.proofs.Fine.{Fine}
use Rattle.machine.specs.declared.Machine.{Machine}
use Rattle.machine.specs.declared.Told.{Told}
use Rattle.machine.specs.Machine.{Did, with_state, with_checkpoint, with_restored, checkpoint_at, state_in, state_of, told_of, did_of, did_take, did_restore, Acted, acted, went_back, act_of}
use Rattle.machine.specs.Sane.{Sane, Ready}

pub record Kept (m : Machine) (x : Acted) : Type 0 where
  pub formed : WF (state_of x.did.machine x.left)
  pub checkpoints_taken : x.did.machine.taken ≤ 32
  pub rows-shown : x.did.machine.shown ≡ m.shown
  pub released_most : x.did.machine.released ≤ m.shown * 8589934592 + 8589934592

module _ (m : Machine) (h : Sane m) where
  -- the machine as it was, beside another state
  still : (a : Allocator) (l : Lists) → WF (state_in a l) → (told : Told) → Kept m (acted (did_of (with_state m a) told) l)
  still a l w told = record { formed = w; checkpoints_taken = h.checkpoints_taken; rows-shown = refl; released_most = omega (arith, h.released_most) }

  -- one restore releases less than 2^33
  saved_most : (k : Counts) → savings k m.state < 8589934592
  saved_most k = let l = h.limits in omega arith

  released_kept : (k : Counts) (a : Allocator) (l : Lists) → WF (state_in a l) → (told : Told) → Kept m (acted (did_of (with_restored m k a) told) l)
  released_kept k a l w told = record {
    formed = w;
    checkpoints_taken = h.checkpoints_taken;
    rows-shown = refl;
    released_most = omega (arith, h.released_most, saved_most k);
  }

  restored_kept : (k : Counts) (way : Way) (r : Said Restoring) (a : Allocator) (l : Lists) → WF (state_in a l) → Kept m (acted (did_restore m k way r a) l)
  restored_kept k way (says no_replace) a l w = released_kept k a l w _
  restored_kept k way (says (replace n)) a l w = released_kept k a l w _
  restored_kept k way (says aborted) a l w = still a l w _
  restored_kept k way (refuses code n) a l w = still a l w _

  taken_kept : (l : Lists) → WF (state_of m l) → (r : Said Checkpoint) → Kept m (acted (did_take m r) l)
  taken_kept l w (says k) =
      choice (λ (d : Did). Kept m (acted d l)) (ltb m.taken 32) _ _
      (λ t. more (ltb-true _ _ t)) (λ t. still m.state l w _)
    where
      more : m.taken < 32 → Kept m (acted (did_of (with_checkpoint m k) (told_of 0 None)) l)
      more t = record { formed = w; checkpoints_taken = omega arith; rows-shown = refl; released_most = omega (arith, h.released_most) }
  taken_kept l w (refuses code n) = still m.state l w _

-- a restore leaves a well-formed state, refused or not
outcome_formed : {A : Type 0} {s : St} {P : A → St → Type 0} {o : Whole A} → WF s → ((x : A) (s' : St) → P x s' → WF s') → Outcome s P o → WF o.next
outcome_formed w f (refused code node) = w
outcome_formed w f (accepted x s' p) = f x s' p

back-formed : {s : St} → WF s → (way : Way) (k : Checkpoint) → WF (restore_to way k s).next
back-formed {s} w plainly k = outcome_formed w (λ x s' p. p w) (plain-forms k s)
back-formed {s} w transparently k = outcome_formed w (λ x s' p. p.forms w) (transparent_keeps k.used s)
back-formed {s} w (with_node n) k = outcome_formed w (λ x s' p. p.forms w) (maybe_keeps k.used n s)

module _ (m : Machine) (l : Lists) (h : Ready m l) where
  pub act_kept : (r : Request) → Fine r → Kept m (act_of m l r)
  act_kept (making c) f = still m h.sane _ _ (make-on h.formed c f).wf _
  act_kept taking f = taken_kept m h.sane l h.formed (checkpoint m.state)
  act_kept (restoring way i) f =
      let k = checkpoint_at m i in
      let o = restore_to way k (state_of m l) in
      choice (Kept m) (ltb i m.taken) (went_back m k.used way o) _
      (λ t. restored_kept m h.sane k.used way o.said o.next.rec _ (back-formed h.formed way k))
      (λ t. still m h.sane m.state l h.formed _)
  act_kept bad f = still m h.sane m.state l h.formed _

-- What every machine of a run has is kept by every record. Assumes nothing.
use Rattle.std.proofs.Common.{ℕ, ◌+◌, ◌≤◌, ◌<◌, ◌≡◌, List, length, refl, sym, ap, ◌∙◌, arith}
use mathlib.Core.Path.{ap₂}
use Rattle.std.specs.Prelude.{Option, None, Some, IfSome, option_map}
use Rattle.rules.specs.declared.Allocator.{Allocator}
use Rattle.rules.specs.Small.{Octets}
use Rattle.rules.specs.State.{Lists}
use Rattle.rules.proofs.Limits.{Limits}
use Rattle.runs.specs.Wf.{Sound}
use Rattle.request.specs.declared.Request as Code
use Rattle.request.specs.declared.Request.TheVariants.{Make, TakeCheckpoint, Restore}
use Rattle.request.specs.Request.{Request, making, taking, restoring, bad, meant, Frame, request_in, request_at, frame_of, frame_size}
use Rattle.request.proofs.Frames.{frame_fits}
use Rattle.request.proofs.Fine.{request_fine}
use Rattle.machine.specs.declared.Machine.{Machine}
use Rattle.machine.specs.Machine.{Acted, act_of}
use Rattle.machine.specs.Sane.{Ready}
use Rattle.machine.proofs.Kept.{Kept, act_kept}
use Rattle.trace.specs.Step.{with_row, bytes_of, Stepped, stepped, step_on}

limits_of : (a : Allocator) (l : Lists) → Sound a l → Limits a
limits_of a l s = omega arith

pub record_kept : (m : Machine) (l : Lists) → Ready m l → (i : List ℕ) → Octets i → Kept m (act_of m l (request_at i))
record_kept m l h i o = act_kept m l h (request_at i) (request_fine i o)

-- the machine after its row is counted
counted_ready : (m : Machine) (x : Acted) → m.shown < 536870912 → Kept m x → Ready (with_row x.did.machine) x.left
counted_ready m x h k = record {
  formed = k.formed;
  sane = record {
    limits = limits_of x.did.machine.state x.left k.formed.sound;
    checkpoints_taken = k.checkpoints_taken;
    rows-shown = omega (arith, k.rows-shown);
    released_most = omega (arith, k.rows-shown, k.released_most);
  };
}

-- the row's totals and its number do not wrap
pub closable : (m : Machine) (x : Acted) → m.shown < 536870912 → Kept m x → (x.did.machine.shown < 18446744073709551615) × Limits x.did.machine.state
closable m x h k = (omega (arith, k.rows-shown), limits_of x.did.machine.state x.left k.formed.sound)

-- what was asked and what it did make a step, of n bytes if it is a request
pub step_made : (m : Machine) (l : Lists) (i : List ℕ) (a : Acted) (r : Option Code.Request) (n : ℕ) (size : Option ℕ)
    → a ≡ act_of m l (meant r) → meant r ≡ request_at i → n ≡ frame_size (frame_of i) → option_map (λ q. n) r ≡ size → stepped a size ≡ step_on m l i
step_made m l i a r n size e f g h =
    ap₂ stepped (e ∙ ap (act_of m l) f)
    (sym h ∙ ap (λ (x : ℕ). option_map (λ q. x) r) g ∙ sym (size_of r _) ∙ ap (λ (x : Request). bytes_of x (frame_size (frame_of i))) f)
  where
    size_of : (r : Option Code.Request) (n : ℕ) → bytes_of (meant r) n ≡ option_map (λ q. n) r
    size_of None n = refl
    size_of (Some (Make m)) n = refl
    size_of (Some TakeCheckpoint) n = refl
    size_of (Some (Restore way number)) n = refl

bytes_if : (P : ℕ → Type 0) (r : Request) (n : ℕ) → P n → IfSome (bytes_of r n) P
bytes_if P (making c) n h = h
bytes_if P taking n h = h
bytes_if P (restoring way number) n h = h
bytes_if P bad n h = tt

-- a record that does not end the run takes at least 4 bytes, which are there
pub size_facts : (i : List ℕ) → IfSome (bytes_of (request_at i) (frame_size (frame_of i))) (λ n. (4 ≤ n) × (n ≤ length i))
size_facts i = go (frame_of i) (frame_fits i)
  where
    Fits : ℕ → Type 0
    Fits n = (4 ≤ n) × (n ≤ length i)

    go : (f : Option Frame) → frame_size f ≤ length i → IfSome (bytes_of (request_in f) (frame_size f)) Fits
    go None h = tt
    go (Some f) h = bytes_if Fits (request_in (Some f)) (frame_size (Some f)) (omega arith, h)

pub record StepFacts (m : Machine) (i : List ℕ) (t : Stepped) : Type 0 where
  pub ready : Ready t.machine t.left
  pub counts : t.machine.shown ≡ m.shown + 1
  pub size_is : IfSome t.size (λ n. (4 ≤ n) × (n ≤ length i))

pub step_facts : (m : Machine) (l : Lists) (i : List ℕ) → Ready m l → Octets i → m.shown < 536870912 → StepFacts m i (step_on m l i)
step_facts m l i h o n =
    let k = record_kept m l h i o in
    record { ready = counted_ready m (act_of m l (request_at i)) n k; counts = ap (λ (x : ℕ). x + 1) k.rows-shown; size_is = size_facts i }

-- A load is a part of a run: its calls, and where it is refused a checkpoint before them and a plain restore to it. Assumes nothing.
use Prim.Native.Nat.{ℕ, ◌<◌}
use mathlib.Core.Path.{refl, subst}
use mathlib.Core.List.{List, ◌∷◌}
use native.Mathlib.Omega.{arith}
use lib.Seq.{slice}
use Rattle.rules.specs.Small.{Octets}
use Rattle.rules.specs.Said.{Said, says, refuses, says_of, Done}
use Rattle.rules.specs.Restores.{no_replace}
use Rattle.rules.specs.Whole.{St, Whole, load, Making, Typed, atom, pair, make, plain, Way, plainly, restore}
use Rattle.runs.specs.Wf.{WF}
use Rattle.runs.specs.Loads.{Calls, no_call, atom-call, pair-call, LoadIs}
use Rattle.runs.specs.Runs as Run
use Rattle.runs.specs.Runs.{Event, took, went, count, LiveAt, just_taken, past-take, past-restore, noted, Past}
use Rattle.rules.proofs.Bytes.{octets-slice}
use Rattle.runs.proofs.Loads.{load_is}
use Rattle.runs.proofs.Runs.{run_wf}

-- what holds after each call, each checkpoint taken and each restore to a live one
pub record Steps (P : St → List Event → Type 0) : Type 0 where
  pub made : (s : St) (h : List Event) → P s h → (m : Making) → Typed m → P (make m s) h
  pub taken : (s : St) (h : List Event) → P s h → P s (took s ∷ h)
  pub back : (s k : St) (h : List Event) (c : ℕ) → P s h → (way : Way) → LiveAt c k h → P (restore way k s).next (noted (restore way k s).said c h)

-- what the events of a load are, by its answer
abbrev pub load_events : Said ℕ → St → List Event → List Event
load_events (says n) s h = h
load_events (refuses code node) s h = went (count h) ∷ took s ∷ h

module _ {P : St → List Event → Type 0} (p : Steps P) where
  calls_by_steps : {f : List ℕ} {s t : St} {h : List Event} → Octets f → Calls f s t → P s h → P t h
  calls_by_steps o no_call x = x
  calls_by_steps {f} {s} {t} {h} o (atom-call {t = u} c from to n e) x = p.made u h (calls_by_steps o c x) (atom (slice from to f)) (octets-slice from to f o)
  calls_by_steps {f} {s} {t} {h} o (pair-call {t = u} c first rest n e) x = p.made u h (calls_by_steps o c x) (pair first rest) tt

  -- a load holds it too
  pub load_by_steps : {s : St} {h : List Event} → WF s → P s h → (f : List ℕ) → Octets f → P (load f s).next (load_events (load f s).said s h)
  load_by_steps {s} {h} w x f o = go (load_is w f o)
    where
      go : {q : Whole ℕ} → LoadIs f s q → P q.next (load_events q.said s h)
      go (LoadIs.accepted n c v) = calls_by_steps o c x
      go (LoadIs.refused {t = t} code c b e) =
          subst (λ (r : Said Done). P (plain s t).next (noted (says_of (λ d. no_replace) r) (count h) (took s ∷ h))) e
          (p.back t s (took s ∷ h) (count h) (calls_by_steps o c (p.taken s h x)) plainly (just_taken refl))

-- a run with a load is a run of its calls, and of a restore where it is refused
pub load_as_run : {s : St} {h : List Event} → Past s h → (f : List ℕ) → Octets f → Past (load f s).next (load_events (load f s).said s h)
load_as_run x f o = load_by_steps (record { made = λ s h q m t. Run.made q m t; taken = λ s h q. Run.taken q; back = λ s k h c q way l. Run.back q way l }) (run_wf x) x f o

-- ---- the checkpoints that are live stay live

live_lt : {c : ℕ} {k : St} {h : List Event} → LiveAt c k h → c < count h
live_lt (just_taken e) = omega arith
live_lt (past-take l) = let i = live_lt l in omega arith
live_lt (past-restore l b) = live_lt l

pub load_live : {c : ℕ} {k : St} {h : List Event} (x : Said ℕ) (s : St) → LiveAt c k h → LiveAt c k (load_events x s h)
load_live (says n) s l = l
load_live {c} {k} {h} (refuses code node) s l = let i = live_lt l in past-restore {b = count h} (past-take l) (omega arith)

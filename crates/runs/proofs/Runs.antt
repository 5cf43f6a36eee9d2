-- Demand 3, proved: in a run the state extends that of the newest live checkpoint, that one the next, and so on. Assumes nothing.
use Prim.Native.Nat.{ℕ, ◌≤◌, ◌<◌}
use mathlib.Core.Path.{◌≡◌, refl, sym, subst}
use mathlib.Core.Logic.{◌≢◌}
use mathlib.Core.Bool.{cond}
use mathlib.Core.List.{List, [], ◌∷◌}
use native.Mathlib.Nat.{le_refl, le_trans}
use native.Mathlib.Omega.{arith}
use borrow.Author.Tests.{le-leb, lt-leb}
use lib.Dec.{leb}
use Rattle.rules.specs.Node.{view}
use Rattle.rules.specs.Said.{Said, says, refuses, need, code_of, Done}
use Rattle.rules.specs.Record.{checkpoint, checkpoint_of, transparent_checkpoint}
use Rattle.rules.specs.Restores.{Restoring, no_replace, replace, aborted}
use Rattle.rules.proofs.Tests.{choice}
use Rattle.rules.specs.Whole.{St, Whole, Way, plainly, transparently, with_node, nodeless, restore}
use Rattle.runs.specs.Wf.{WF, On}
use Rattle.runs.specs.Runs.{Event, took, went, count, LiveAt, just_taken, past-take, past-restore, noted, Past, fresh, made, read, taken, back, loaded, longer, MaybeIs, little, invalid, before, later-pair, old_bytes, too_long, over-limit, new-small, new-bytes, Kept, Demand3}
use Rattle.runs.proofs.Tests.{→limits, valid_mono}
use Rattle.runs.proofs.Growing.{on_refl, on_trans, longer-on}
use Rattle.runs.proofs.Reading.{tree-same}
use Rattle.runs.proofs.Answers.{same-answers}
use Rattle.runs.proofs.ByCalls.{reads_same}
use Rattle.runs.proofs.Every.{make-on}
use Rattle.runs.proofs.Checked.{Checked, wf_checked, fresh-wf}
use Rattle.runs.proofs.Loads.{load-on}
use Rattle.runs.proofs.Live.{After, refused_one, aborted_one, kept_one, replaced_one, transparent-on, transparent_eq, transparent-is, plain-on, plain_eq, plain-is, maybe_both}

-- ---- the live checkpoints of a history, newest first, each with its number and the state in which it was taken

record Point : Type 0 where
  no : ℕ
  st : St

-- those that a restore to number c leaves
cut_points : ℕ → List Point → List Point
cut_points c [] = []
cut_points c (m ∷ ms) = cond (leb m.no c) (m ∷ ms) (cut_points c ms)

points : List Event → List Point
points [] = []
points (took s ∷ h) = record { no = count h; st = s } ∷ points h
points (went c ∷ h) = cut_points c (points h)

-- numbers fall, all below n
data Falls : ℕ → List Point → Type 0 where
  none : {n : ℕ} → Falls n []
  next : {n : ℕ} {m : Point} {ms : List Point} → m.no < n → Falls m.no ms → Falls n (m ∷ ms)

weaken : {n n' : ℕ} {ms : List Point} → n ≤ n' → Falls n ms → Falls n' ms
weaken h none = none
weaken h (next l f) = next (le_trans l h) f

falls_cut : (c n : ℕ) (ms : List Point) → Falls n ms → Falls n (cut_points c ms)
unfolding cut_points
falls_cut c n [] none = none
falls_cut c n (m ∷ ms) (next l f) = choice (Falls n) (leb m.no c) _ _ (λ t. next l f) (λ t. weaken {n = m.no} (omega arith) (falls_cut c m.no ms f))

falls : (h : List Event) → Falls (count h) (points h)
unfolding points
falls [] = none
falls (took s ∷ h) = next (le_refl _) (falls h)
falls (went c ∷ h) = falls_cut c (count h) (points h) (falls h)

data In (c : ℕ) (k : St) : List Point → Type 0 where
  here : {m : Point} {ms : List Point} → m.no ≡ c → m.st ≡ k → In c k (m ∷ ms)
  there : {m : Point} {ms : List Point} → In c k ms → In c k (m ∷ ms)

in_lt : {c n : ℕ} {k : St} {ms : List Point} → Falls n ms → In c k ms → c < n
in_lt (none {n = n}) i = elim i [ ]
in_lt (next l f) (here e q) = omega arith
in_lt (next l f) (there i) = let j = in_lt f i in omega arith

in_cut : {b c : ℕ} {k : St} {ms : List Point} → c ≤ b → In c k ms → In c k (cut_points b ms)
unfolding cut_points
in_cut {b} {c} {k} h (here {m = m} {ms = ms} e q) = rw (le-leb m.no b (omega arith)) (here e q)
in_cut {b} {c} {k} h (there {m = m} {ms = ms} i) = choice (In c k) (leb m.no b) _ _ (λ t. there i) (λ t. in_cut h i)

-- a live checkpoint is among them
live_in : {c : ℕ} {k : St} {h : List Event} → LiveAt c k h → In c k (points h)
unfolding points
live_in (just_taken e) = here (sym e) refl
live_in (past-take l) = there (live_in l)
live_in (past-restore l h) = in_cut h (live_in l)

-- ---- the invariant: s extends the first state, the first extends the second, ..

data Chain : List Point → St → Type 0 where
  end : {s : St} → WF s → Chain [] s
  over : {m : Point} {s : St} {ms : List Point} → Chain ms m.st → On m.st s → Chain (m ∷ ms) s

wf_of : {ms : List Point} {s : St} → Chain ms s → WF s
wf_of (end w) = w
wf_of (over c o) = o.wf

grow : {ms : List Point} {s s' : St} → Chain ms s → On s s' → Chain ms s'
grow (end w) o = end o.wf
grow (over c p) o = over c (on_trans p.ext o)

-- what a chain says of one of its checkpoints
record Reached (k s : St) (left : List Point) : Type 0 where
  wf : WF k
  on : On k s
  cut : (s' : St) → On k s' → Chain left s'

reach : {c n : ℕ} {k s : St} {ms : List Point} → Falls n ms → Chain ms s → In c k ms → Reached k s (cut_points c ms)
unfolding cut_points
reach {c} {n} {k} {s} none ch i = elim i [ ]
reach {c} {n} {k} {s} (next {m = m} {ms = ms} l f) (over ch o) (here e q) = rw (le-leb m.no c (omega arith))
    (subst (λ (j : St). Reached j s (m ∷ ms)) q (record { wf = wf_of ch; on = o; cut = λ s' p. over ch p }))
reach {c} {n} {k} {s} (next {m = m} {ms = ms} l f) (over ch o) (there i) =
    let j = in_lt f i in
    let r = reach f ch i in
    rw (lt-leb m.no c j) (record { wf = r.wf; on = on_trans r.on.ext o; cut = r.cut })

-- ---- each step of a run keeps it

after : (way : Way) {k s : St} → WF k → On k s → After k s (restore way k s)
after plainly {k} {s} w o = subst (λ (r : Whole Done). After k s (nodeless r)) (sym (plain_eq w o)) (kept_one (plain-on w o))
after transparently {k} {s} w o = subst (λ (r : Whole Done). After k s (nodeless r)) (sym (transparent_eq w o)) (kept_one (transparent-on w o))
after (with_node n) w o = (maybe_both w o n).after

return : (c : ℕ) (h : List Event) {k s : St} {o : Whole Restoring} → Chain (points h) s → Reached k s (cut_points c (points h)) → After k s o
    → Chain (points (noted o.said c h)) o.next
unfolding points
return c h ch r (refused_one code node) = ch
return c h ch r aborted_one = ch
return c h ch r (kept_one p) = r.cut _ p
return c h ch r (replaced_one m p) = r.cut _ p

chain : {s : St} {h : List Event} → Past s h → Chain (points h) s
unfolding points
chain (fresh limit l o) = end (fresh-wf limit l o)
chain (made r m t) = let c = chain r in grow c (make-on (wf_of c) m t)
chain (read r) = chain r
chain (taken r) = let c = chain r in over c (on_refl (wf_of c))
chain (loaded r f o) = let c = chain r in grow c (load-on (wf_of c) f o)
chain (longer r l o e room) = let c = chain r in grow c (longer-on (wf_of c) o e room)
chain (back {h = h} {c = b} r way l) = let c = chain r in let p = reach (falls h) c (live_in l) in return b h c p (after way p.wf p.on)

-- ---- no restore gets 11 or 12

no_11_12 : {k s : St} {n : ℕ} {o : Whole Restoring} → MaybeIs k s n o → (code_of o.said ≢ 11) × (code_of o.said ≢ 12)
no_11_12 (little h) = omega arith
no_11_12 (invalid h g) = omega arith
no_11_12 (before h u v c t) = omega arith
no_11_12 (later-pair i h e a b) = omega arith
no_11_12 (old_bytes i h l a c t) = omega arith
no_11_12 (too_long i h l a b) = omega arith
no_11_12 (over-limit i h l a b c) = omega arith
no_11_12 (new-small i v h l a b c e d t) = omega arith
no_11_12 (new-bytes i h l a b c e d t) = omega arith

codes : (way : Way) {k s : St} → WF k → On k s → (code_of (restore way k s).said ≢ 11) × (code_of (restore way k s).said ≢ 12)
codes plainly w o = rw (plain-is w o).accepted (omega arith)
codes transparently w o = rw (transparent-is w o).accepted (omega arith)
codes (with_node n) w o = no_11_12 (maybe_both w o n).is

-- ---- the theorem

pub demand3 : Demand3
demand3 s k h c p l =
    let r = reach (falls h) (chain p) (live_in l) in
    record {
      usable = λ way. codes way r.wf r.on;
      valid = λ n v. valid_mono (view n) r.on.ext.atoms r.on.ext.pairs v;
      reads = reads_same r.wf r.on;
      answers = same-answers r.wf r.on;
      trees = tree-same r.wf.shape r.on.ext.same;
      plain-is = plain-is r.wf r.on;
      transparent-is = transparent-is r.wf r.on;
      maybe-is = λ n. (maybe_both r.wf r.on n).is;
    }

-- the checkpoint that a restore names is live after it, so all this holds again: after the restore too its nodes read as they did
again : (r : Said Restoring) {c : ℕ} {k : St} {h : List Event} → LiveAt c k h → LiveAt c k (noted r c h)
again (says no_replace) l = past-restore l (le_refl _)
again (says (replace n)) l = past-restore l (le_refl _)
again (says aborted) l = l
again (refuses code node) l = l

pub demand3-after : {s k : St} {h : List Event} {c : ℕ} → Past s h → LiveAt c k h → (way : Way) → Kept k (restore way k s).next
demand3-after {s} {k} {h} {c} p l way = demand3 _ k _ c (back p way l) (again (restore way k s).said l)

-- every state of a run is well-formed, and taking a checkpoint there is never refused
pub run_wf : {s : St} {h : List Event} → Past s h → WF s
run_wf p = wf_of (chain p)

pub run_checked : {s : St} {h : List Event} → Past s h → Checked s
run_checked {s} p = wf_checked s (run_wf p)

pub run_takes : {s : St} {h : List Event} → Past s h → checkpoint s.rec ≡ says (checkpoint_of s.rec)
unfolding need
run_takes p = rw (→limits (run_wf p).sound)

pub run_points : {s : St} {h : List Event} → Past s h → transparent_checkpoint s.rec ≡ says s.rec.used
unfolding need
run_points p = rw (→limits (run_wf p).sound)

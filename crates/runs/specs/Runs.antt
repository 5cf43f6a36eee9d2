-- Demand 3 of document 00: what holds in every run, of every checkpoint that is live.
use Rattle.std.specs.Prelude.{ℕ, suc, ◌+◌, ◌-◌, ◌≤◌, ◌<◌, ◌≡◌, ◌≢◌, List, [], ◌∷◌}
use Rattle.std.proofs.Math.Option.{none, some}
use Rattle.std.proofs.Math.Seq.{slice}
use Rattle.rules.specs.Node.{pair_at, bytes_at, view, bytes_node, small_node, nil}
use Rattle.rules.specs.Small.{fits, Octets}
use Rattle.rules.specs.Said.{Said, says, refuses, code_of, Done, done}
use Rattle.rules.specs.State.{Lists, start_at, end_at, heap}
use Rattle.rules.specs.Record.{new_limited}
use Rattle.rules.specs.Restores.{Restoring, no_replace, replace, aborted, savings}
use Rattle.rules.specs.Tree.{Tree, tree}
use Rattle.rules.specs.Whole.{St, Whole, Making, Typed, make, load, plain, transparent, maybe, Way, restore}
use Rattle.runs.specs.Wf.{ValidIn, Same, Room}
use Rattle.runs.specs.ByCalls.{ReadsAs, SameAnswers}
use Rattle.runs.specs.Back.{Totals}

-- ---- a run

-- what bears on which checkpoints are live, newest first:
-- one was taken in a state; an accepted restore went to the one of a number, counted from 0
pub data Event : Type 0 where
  took : St → Event
  went : ℕ → Event

-- the number of the next checkpoint
abbrev pub count : List Event → ℕ
count [] = 0
count (took s ∷ h) = suc (count h)
count (went b ∷ h) = count h

-- "Call a checkpoint live while no accepted restore made since it was taken has gone to an older one."
-- Checkpoint c was taken in the state k; an older one has a smaller number.
pub data LiveAt (c : ℕ) (k : St) : List Event → Type 0 where
  just_taken : {h : List Event} → c ≡ count h → LiveAt c k (took k ∷ h)
  past-take : {h : List Event} {s : St} → LiveAt c k h → LiveAt c k (took s ∷ h)
  past-restore : {h : List Event} {b : ℕ} → LiveAt c k h → c ≤ b → LiveAt c k (went b ∷ h)

-- a refusal and Aborted restore nothing
abbrev pub noted : Said Restoring → ℕ → List Event → List Event
noted (says no_replace) c h = went c ∷ h
noted (says (replace n)) c h = went c ∷ h
noted (says aborted) c h = h
noted (refuses code node) c h = h

-- "any run from a fresh allocator that hands each call the last record and the same slots, whose slots only these calls write
-- and whose restores name only live ones, unaltered": the state that it has come to, and its events.
-- The slots may hold anything at first. Refused calls are part of it, and so are calls that only read.
pub data Past : St → List Event → Type 0 where
  fresh : (limit : ℕ) (l : Lists) → Octets l.bytes → Past (record { rec = (new_limited limit).rec; lists = l }) []
  made : {s : St} {h : List Event} → Past s h → (m : Making) → Typed m → Past (make m s) h
  read : {s : St} {h : List Event} → Past s h → Past s h
  taken : {s : St} {h : List Event} → Past s h → Past s (took s ∷ h)
  back : {s k : St} {h : List Event} {c : ℕ} → Past s h → (way : Way) → LiveAt c k h
      → Past (restore way k s).next (noted (restore way k s).said c h)
  -- a run may load a program file (document 02, W1)
  loaded : {s : St} {h : List Event} → Past s h → (f : List ℕ) → Octets f → Past (load f s).next h
  -- beyond the demand's words, for a host whose slots grow: it goes on with longer ones that hold the same used contents
  longer : {s : St} {h : List Event} → Past s h → (l : Lists) → Octets l.bytes → Same s l → Room l s.lists
      → Past (record { rec = s.rec; lists = l }) h

-- ---- what is promised

-- "a plain restore returns counters and used contents as they were then"
pub record Plain (k : St) (o : Whole Done) : Type 0 where
  pub accepted : o.said ≡ says done
  pub counters : o.next.rec ≡ k.rec
  pub contents : Same k o.next.lists

-- the used counts are k's and so much more; all that k used is as it was then; the totals are those of the moment before
pub record Cut (more-atoms more_bytes : ℕ) (k s s' : St) : Type 0 where
  pub atom-slots : s'.rec.used.atoms ≡ k.rec.used.atoms + more-atoms
  pub pair-slots : s'.rec.used.pairs ≡ k.rec.used.pairs
  pub bytes : s'.rec.used.bytes ≡ k.rec.used.bytes + more_bytes
  pub limit : s'.rec.limit ≡ s.rec.limit
  pub contents : Same k s'.lists
  pub totals : Totals s.rec s'.rec

-- "a transparent one returns the contents and keeps the three totals of the moment before"
pub record Transparent (k s : St) (o : Whole Done) : Type 0 where
  pub accepted : o.said ≡ says done
  pub is_cut : Cut 0 0 k s o.next

-- "leaves for a valid node one that reads the same": m stands for n, by the calls and by the definition of a tree
pub record Stands (s : St) (n m : ℕ) (s' : St) : Type 0 where
  pub valid : ValidIn s' m
  pub reads : (t : Tree) → ReadsAs s n t → ReadsAs s' m t
  pub shows : tree s'.lists m ≡ tree s.lists n

-- the savings
abbrev pub saved_by : St → St → ℕ
saved_by k s = savings k.rec.used s.rec

-- the node is Bytes, of slot i, later than the checkpoint
pub record Later (k s : St) (n i : ℕ) : Type 0 where
  pub is : view n ≡ bytes_at i
  pub after : k.rec.used.atoms ≤ i
  pub used : i < s.rec.used.atoms

-- where that slot starts and ends
abbrev pub from : St → ℕ → ℕ
from s i = start_at s.lists.atoms i

abbrev pub to : St → ℕ → ℕ
to s i = end_at s.lists.atoms i

abbrev pub answer : Restoring → St → Whole Restoring
answer x s = record { said = says x; next = s }

abbrev pub refusal : ℕ → St → Whole Restoring
refusal code s = record { said = refuses code nil; next = s }

-- "maybe_restore_with_node aborts, is refused or restores exactly when document 01 says":
-- its rule at a live checkpoint, case by case; none has 1, 3, 11, 12 or 15
pub data MaybeIs (k s : St) (n : ℕ) : Whole Restoring → Type 0 where
  little : saved_by k s < 1024 → MaybeIs k s n (answer aborted s)
  invalid : 1024 ≤ saved_by k s → (ValidIn s n → ⊥) → MaybeIs k s n (refusal 5 s)
  before : {s' : St} → 1024 ≤ saved_by k s → ValidIn s n → ValidIn k n
      → Cut 0 0 k s s' → Stands s n n s' → MaybeIs k s n (answer no_replace s')
  later-pair : (i : ℕ) → 1024 ≤ saved_by k s → view n ≡ pair_at i → k.rec.used.pairs ≤ i → i < s.rec.used.pairs
      → MaybeIs k s n (answer aborted s)
  old_bytes : {s' : St} (i : ℕ) → 1024 ≤ saved_by k s → Later k s n i → from s i < k.rec.used.bytes
      → Cut 1 0 k s s' → Stands s n (bytes_node k.rec.used.atoms) s' → MaybeIs k s n (answer (replace (bytes_node k.rec.used.atoms)) s')
  too_long : (i : ℕ) → 1024 ≤ saved_by k s → Later k s n i → k.rec.used.bytes ≤ from s i → 48 < to s i - from s i
      → MaybeIs k s n (answer aborted s)
  over-limit : (i : ℕ) → 1024 ≤ saved_by k s → Later k s n i → k.rec.used.bytes ≤ from s i → to s i - from s i ≤ 48
      → s.rec.limit < heap s.rec → MaybeIs k s n (refusal 2 s)
  new-small : {s' : St} (i v : ℕ) → 1024 ≤ saved_by k s → Later k s n i → k.rec.used.bytes ≤ from s i → to s i - from s i ≤ 48
      → heap s.rec ≤ s.rec.limit → fits (slice (from s i) (to s i) s.lists.bytes) ≡ some v
      → Cut 0 0 k s s' → Stands s n (small_node v) s' → MaybeIs k s n (answer (replace (small_node v)) s')
  new-bytes : {s' : St} (i : ℕ) → 1024 ≤ saved_by k s → Later k s n i → k.rec.used.bytes ≤ from s i → to s i - from s i ≤ 48
      → heap s.rec ≤ s.rec.limit → fits (slice (from s i) (to s i) s.lists.bytes) ≡ none
      → Cut 1 (to s i - from s i) k s s' → Stands s n (bytes_node k.rec.used.atoms) s'
      → MaybeIs k s n (answer (replace (bytes_node k.rec.used.atoms)) s')

-- the number of a case: two that hold at once are one (proofs/Cases.antt)
abbrev pub case_of : {k s : St} {n : ℕ} {o : Whole Restoring} → MaybeIs k s n o → ℕ
case_of (little h) = 1
case_of (invalid h g) = 2
case_of (before h u v c t) = 3
case_of (later-pair i h e a b) = 4
case_of (old_bytes i h l a c t) = 5
case_of (too_long i h l a b) = 6
case_of (over-limit i h l a b c) = 7
case_of (new-small i v h l a b c e d t) = 8
case_of (new-bytes i h l a b c e d t) = 9

-- what a live checkpoint, taken in the state k, is good for in the state s
pub record Kept (k s : St) : Type 0 where
  -- "no restore gets 11 or 12"
  pub usable : (way : Way) → (code_of (restore way k s).said ≢ 11) × (code_of (restore way k s).said ≢ 12)
  -- "each node valid when it was taken reads as the same tree": it is valid still, by the calls it reads as that tree,
  -- every read call answers for it as it did then, and the definition of its tree says the same
  pub valid : (n : ℕ) → ValidIn k n → ValidIn s n
  pub reads : (n : ℕ) (t : Tree) → ValidIn k n → ReadsAs k n t → ReadsAs s n t
  pub answers : (n : ℕ) → ValidIn k n → SameAnswers k s n
  pub trees : (n : ℕ) → ValidIn k n → tree s.lists n ≡ tree k.lists n
  pub plain-is : Plain k (plain k s)
  pub transparent-is : Transparent k s (transparent k s)
  pub maybe-is : (n : ℕ) → MaybeIs k s n (maybe k n s)

abbrev pub Demand3 : Type 0
Demand3 = (s k : St) (h : List Event) (c : ℕ) → Past s h → LiveAt c k h → Kept k s

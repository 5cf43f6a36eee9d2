-- What each request does: the machine after it, the code and the node that it is told, and the lent lists.
use Rattle.std.specs.Prelude.{ℕ, ◌+◌, cond, ltb, get_or, set, replicate, Option, None, Some}
use Rattle.std.proofs.Math.Option as math
use Rattle.rules.specs.declared.Counts.{Counts}
use Rattle.rules.specs.declared.Allocator.{Allocator}
use Rattle.rules.specs.declared.Checkpoint.{Checkpoint}
use Rattle.rules.specs.declared.Stores.{Stores}
use Rattle.rules.specs.Lent.{SameStore, SamePairStore}
use Rattle.rules.specs.Node.{nil}
use Rattle.rules.specs.Said.{Said, says, refuses}
use Rattle.rules.specs.State.{Lists, counts}
use Rattle.rules.specs.Record.{fresh, checkpoint}
use Rattle.rules.specs.Restores.{Restoring, no_replace, replace, aborted, savings}
use Rattle.rules.specs.Whole.{St, Whole, call, Way, plainly, transparently, with_node, restore_to}
use Rattle.request.specs.Request.{Request, making, taking, restoring, bad}
use Rattle.machine.specs.declared.Machine.{Machine}
use Rattle.machine.specs.declared.Told.{Told}

-- ---- the machine

-- an empty place among the checkpoints
abbrev pub no_checkpoint : Checkpoint
no_checkpoint = record { used = counts 0 0 0; ghosts = counts 0 0 0 }

-- limit 4,294,967,295; ghosts 2, 0, 1; no row shown, nothing released, no checkpoint taken
abbrev pub fresh_machine : Machine
fresh_machine = record { state = fresh 4294967295; shown = 0; released = 0; taken = 0; checkpoints = replicate 32 no_checkpoint }

abbrev pub with_state : Machine → Allocator → Machine
with_state m a = record { state = a; shown = m.shown; released = m.released; taken = m.taken; checkpoints = m.checkpoints }

-- one checkpoint more; its number is how many there were
abbrev pub with_checkpoint : Machine → Checkpoint → Machine
with_checkpoint m k = record {
  state = m.state;
  shown = m.shown;
  released = m.released;
  taken = m.taken + 1;
  checkpoints = set m.checkpoints m.taken k;
}

-- an accepted restore to k, which left the record a: the savings figure is released
abbrev pub with_restored : Machine → Counts → Allocator → Machine
with_restored m k a = record {
  state = a;
  shown = m.shown;
  released = m.released + savings k m.state;
  taken = m.taken;
  checkpoints = m.checkpoints;
}

-- the checkpoint of a number
abbrev pub checkpoint_at : Machine → ℕ → Checkpoint
checkpoint_at m i = get_or m.checkpoints i no_checkpoint

-- a record beside all five lists
abbrev pub state_in : Allocator → Lists → St
state_in a l = record { rec = a; lists = l }

abbrev pub state_of : Machine → Lists → St
state_of m l = state_in m.state l

-- the structs still hold the caller's own slices
abbrev pub SameStores : Stores → Stores → Type 0
SameStores s t = SameStore s.atoms t.atoms × SamePairStore s.pairs t.pairs

-- ---- the row's code and node

abbrev pub told_of : ℕ → Option ℕ → Told
told_of code node = record { code = code; node = node }

-- a creating call names its node, and a ghost call none; a refusal the node of document 01's table
abbrev pub tells : Said (math.Option ℕ) → Told
tells (says (math.some n)) = told_of 0 (Some n)
tells (says math.none) = told_of 0 None
tells (refuses code node) = told_of code (Some node)

-- a call as it is told, beside the state that it leaves
pub record Came : Type 0 where
  pub told : Told
  pub next : St

abbrev pub came_of : Whole (math.Option ℕ) → Came
came_of o = record { told = tells o.said; next = o.next }

-- a request did something: the machine after it, and what it is told
pub record Did : Type 0 where
  pub machine : Machine
  pub told : Told

abbrev pub did_of : Machine → Told → Did
did_of m told = record { machine = m; told = told }

-- a bad record: 16, and `-`
abbrev pub did_bad : Machine → Did
did_bad m = did_of m (told_of 16 None)

-- a checkpoint taken shows `-`; the 33rd is refused with 15
abbrev pub did_take : Machine → Said Checkpoint → Did
did_take m (says k) = cond (ltb m.taken 32) (did_of (with_checkpoint m k) (told_of 0 None)) (did_of m (told_of 15 (Some nil)))
did_take m (refuses code node) = did_of m (told_of code (Some node))

-- NoReplace shows the node given; a plain or transparent restore is given none, and shows `-`
abbrev pub shown_by : Way → Option ℕ
shown_by plainly = None
shown_by transparently = None
shown_by (with_node n) = Some n

-- a restore to k; Aborted shows `-` and releases nothing
abbrev pub did_restore : Machine → Counts → Way → Said Restoring → Allocator → Did
did_restore m k way (says no_replace) a = did_of (with_restored m k a) (told_of 0 (shown_by way))
did_restore m k way (says (replace n)) a = did_of (with_restored m k a) (told_of 0 (Some n))
did_restore m k way (says aborted) a = did_of (with_state m a) (told_of 0 None)
did_restore m k way (refuses code node) a = did_of (with_state m a) (told_of code (Some node))

-- ---- what a request did, with all five lists as it leaves them

pub record Acted : Type 0 where
  pub did : Did
  pub left : Lists

abbrev pub acted : Did → Lists → Acted
acted d l = record { did = d; left = l }

-- a call leaves the rest of the machine as it is
abbrev pub called : Machine → Came → Acted
called m c = acted (did_of (with_state m c.next.rec) c.told) c.next.lists

abbrev pub went_back : Machine → Counts → Way → Whole Restoring → Acted
went_back m k way o = acted (did_restore m k way o.said o.next.rec) o.next.lists

-- an untaken number gives 11, before any look at the node
abbrev pub act_of : Machine → Lists → Request → Acted
act_of m l (making c) = called m (came_of (call c (state_of m l)))
act_of m l taking = acted (did_take m (checkpoint m.state)) l
act_of m l (restoring way i) =
    cond (ltb i m.taken) (went_back m (checkpoint_at m i).used way (restore_to way (checkpoint_at m i) (state_of m l)))
    (acted (did_of m (told_of 11 (Some nil))) l)
act_of m l bad = acted (did_bad m) l

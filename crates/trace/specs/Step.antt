-- One record: what it does, its row, and how many bytes it takes.
use Rattle.std.specs.Prelude.{ℕ, ◌+◌, List, Option, None, Some}
use Rattle.rules.specs.State.{Lists, atoms, pairs, heap}
use Rattle.text.specs.declared.Row.{Row}
use Rattle.machine.specs.declared.Machine.{Machine}
use Rattle.machine.specs.declared.Told.{Told}
use Rattle.request.specs.Request.{Request, making, taking, restoring, bad, frame_of, frame_size, request_at}
use Rattle.machine.specs.Machine.{Acted, act_of}

-- one row more is shown
abbrev pub with_row : Machine → Machine
with_row m = record { state = m.state; shown = m.shown + 1; released = m.released; taken = m.taken; checkpoints = m.checkpoints }

-- record number from 1, code, node, and the totals after the record: used + ghost; the machine has counted the row
abbrev pub row_of : Machine → Told → Row
row_of m told = record {
  n = m.shown;
  code = told.code;
  node = told.node;
  atoms = atoms m.state;
  pairs = pairs m.state;
  heap = heap m.state;
}

-- a bad record ends the run; each other one takes its n bytes
abbrev pub bytes_of : Request → ℕ → Option ℕ
bytes_of (making c) n = Some n
bytes_of taking n = Some n
bytes_of (restoring way number) n = Some n
bytes_of bad n = None

pub record Stepped : Type 0 where
  pub machine : Machine
  pub row : Row
  pub size : Option ℕ
  pub left : Lists

abbrev pub stepped : Acted → Option ℕ → Stepped
stepped a size = record { machine = with_row a.did.machine; row = row_of (with_row a.did.machine) a.did.told; size = size; left = a.left }

-- the record at the front of the input i
abbrev pub step_on : Machine → Lists → List ℕ → Stepped
step_on m l i = stepped (act_of m l (request_at i)) (bytes_of (request_at i) (frame_size (frame_of i)))

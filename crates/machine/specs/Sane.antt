-- What every machine of a run has, so that no sum of the program wraps.
use Rattle.std.specs.Prelude.{◌*◌, ◌≤◌}
use Rattle.rules.specs.State.{Lists}
use Rattle.rules.proofs.Limits.{Limits}
use Rattle.runs.specs.Wf.{WF}
use Rattle.machine.specs.declared.Machine.{Machine}
use Rattle.machine.specs.Machine.{state_of}

-- a sound record; one restore releases less than 2^33, and there are fewer than 2^29 records
pub record Sane (m : Machine) : Type 0 where
  pub limits : Limits m.state
  pub checkpoints_taken : m.taken ≤ 32
  pub rows-shown : m.shown ≤ 536870912
  pub released_most : m.released ≤ m.shown * 8589934592

-- beside the lists: the state is well-formed
pub record Ready (m : Machine) (l : Lists) : Type 0 where
  pub formed : WF (state_of m l)
  pub sane : Sane m

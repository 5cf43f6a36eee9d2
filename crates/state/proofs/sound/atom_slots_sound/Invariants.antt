-- `state::sound::atom_slots_sound` meets its contract: the slots passed are sound.
use Rattle.std.proofs.Common.{◌≡◌, true}
use Rattle.rules.specs.State.{all, atom_slots, atom_slot_sound}
use Rattle.state.proofs.sound.atom_slots_sound.Given as goal

abbrev pub invariant-loop-i : goal.invariant-loop-i
invariant-loop-i l = all (atom_slot_sound l.used.bytes (atom_slots l.atoms.starts.now l.atoms.ends.now)) l.i ≡ true

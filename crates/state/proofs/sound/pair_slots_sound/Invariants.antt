-- `state::sound::pair_slots_sound` meets its contract: the slots passed are sound.
use Rattle.std.proofs.Common.{◌≡◌, true}
use Rattle.rules.specs.State.{all, pair_slots, pair_slot_sound}
use Rattle.state.proofs.sound.pair_slots_sound.Given as goal

abbrev pub invariant-loop-i : goal.invariant-loop-i
invariant-loop-i l = all (pair_slot_sound l.used.atoms (pair_slots l.pairs.firsts.now l.pairs.rests.now)) l.i ≡ true

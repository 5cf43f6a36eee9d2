-- `state::sound::atom_slots_sound` meets its contract: the slots passed are sound.
use Rattle.std.proofs.Common.{sym, ◌∙◌}
use Rattle.rules.proofs.Alls.{all_none, all_more, all_false}
use Rattle.state.proofs.sound.atom_slots_sound.Goals as goal

pub loop-i-init : goal.loop-i-init
loop-i-init c = all_none _

pub loop-i-preserved : goal.loop-i-preserved
loop-i-preserved c =
    all_more _ c.loop-i.i c.loop-i.invariant (sym c.range_sound.ensures ∙ c.if-not-range_sound.false)

pub returns-then-not-range_sound : goal.returns-then-not-range_sound
returns-then-not-range_sound c =
    sym (all_false _ c.args.used.now.atoms c.loop-i.i c.loop-i-test.true (sym c.range_sound.ensures ∙ c.if-not-range_sound.true))

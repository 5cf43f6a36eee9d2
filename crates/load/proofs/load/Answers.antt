-- `load` meets its contract.
use mathlib.Core.Path.{sym, ◌∙◌}
use Rattle.rules.specs.Lent.{lists_in}
use Rattle.load.proofs.Readings.{load-unsound}
use Rattle.load.proofs.load.Goals as goal

pub returns-then-not-lists_sound : goal.returns-then-not-lists_sound
returns-then-not-lists_sound c =
    let a = c.args in
    let l = lists_in a.bytes.now a.starts.now a.ends.now a.firsts.now a.rests.now in
    c.fault.ensures a.a.now l ∙ load-unsound a.f.now a.a.now l (sym c.lists_sound.ensures.value ∙ c.if-not-lists_sound.true)

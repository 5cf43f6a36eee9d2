-- `restores::course::course_of` meets its contract: what is chosen can be done. Assumes nothing.
use Rattle.restores.proofs.Ables.{told_able}
use borrow.Author.Tests.{le-ltb}
use Rattle.rules.specs.Paper.{said_by}
use Rattle.rules.specs.Restores.{course}
use Rattle.rules.specs.Said.{need}
use Rattle.rules.specs.State.{lists, atom_slots, pair_slots}
use Rattle.restores.specs.Course.{course_paper}
use mathlib.Core.Path.{◌≡◌}
use Rattle.restores.proofs.course.course_of.Goals as goal

pub returns-clause-facts : goal.returns-clause-facts
unfolding course need
returns-clause-facts c =
    let s = c.args in
    let l = lists s.bytes.now (atom_slots s.atoms.starts.now s.atoms.ends.now) (pair_slots s.pairs.firsts.now s.pairs.rests.now) in
    let chosen : said_by course_paper c.node_course.result ≡ course s.k.now s.n s.a.now l =
    simp (
      c.node_course.ensures,
      ← c.lists_sound.ensures.value,
      c.in_ok-need.ensures,
      ← c.usable.ensures.value,
      c.in_ok-need-2.ensures,
      le-ltb _ _ (rw c.savings.ensures.value at c.if-savings-lt-MIN_SAVINGS.false),
    ) in
    told_able s.k.now s.n s.a.now l c.node_course.result chosen

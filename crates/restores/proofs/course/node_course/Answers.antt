-- `restores::course::node_course` meets its contract: a later pair. Assumes nothing.
use Rattle.restores.proofs.Visits.{course_by_arg}
use Rattle.rules.specs.Said.{says}
use Rattle.rules.specs.Paper.{arg_paper}
use Rattle.rules.specs.Reads.{pair_arg}
use Rattle.rules.specs.State.{atom_slots, pair_slots}
use borrow.Author.Tests.{le-ltb}
use mathlib.Core.Path.{sym, ap, ◌∙◌}
use Rattle.restores.proofs.course.node_course.Goals as goal

pub returns-in-Pair-2 : goal.returns-in-Pair-2
returns-in-Pair-2 c =
    let s = c.args in
    let t = atom_slots s.atoms.starts.now s.atoms.ends.now in
    let p = pair_slots s.pairs.firsts.now s.pairs.rests.now in
    let is = sym c.in_ok-arg.ensures.value ∙ ap (λ x. says (arg_paper x)) c.in-Pair.is in
    simp (← c.in_ok-arg.ensures.value, c.in-Pair.is, le-ltb _ _ c.if-i-k.false)
    (c.new_course.ensures ∙ course_by_arg s.a.now t p s.n (pair_arg c.in-Pair.i) c.requires is)

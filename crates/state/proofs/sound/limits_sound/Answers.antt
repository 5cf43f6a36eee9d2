-- `state::sound::limits_sound` meets its contract: a capped sum passes a test exactly where the sum does. Assumes nothing.
use Prim.Native.Nat.{◌+◌, ◌*◌, ◌≤◌, ◌<◌}
use native.Mathlib.Omega.{arith}
use Rattle.rules.proofs.Tests.{tests, same-leb}
use Rattle.rules.specs.State.{limits_sound, atoms, pairs, heap}
use Rattle.rules.proofs.Limits.{limits}
use Rattle.state.proofs.Laws.{on_true}
use Rattle.std.proofs.Common.{sym, ◌∙◌}
use Rattle.state.proofs.sound.limits_sound.Goals as goal

pub returns-then-a-gt-TOP : goal.returns-then-a-gt-TOP
unfolding limits_sound
returns-then-a-gt-TOP c = search (tests, arith)

pub returns-then-a-gt-TOP-2 : goal.returns-then-a-gt-TOP-2
unfolding limits_sound
returns-then-a-gt-TOP-2 c = search (tests, arith)

pub returns-then-all_atoms-gt-MOST : goal.returns-then-all_atoms-gt-MOST
unfolding limits_sound
returns-then-all_atoms-gt-MOST c =
    let h : 62500000 < atoms c.args.a.now = omega arith in
    search tests

pub returns-then-all_pairs-gt-MOST : goal.returns-then-all_pairs-gt-MOST
unfolding limits_sound
returns-then-all_pairs-gt-MOST c =
    let a = c.args.a.now in
    let h : atoms a ≤ 62500000 = omega arith in
    let k : 62500000 < pairs a = omega arith in
    search tests

pub returns-clause-value : goal.returns-clause-value
unfolding limits_sound
returns-clause-value c =
    let a = c.args.a.now in
    let h : atoms a ≤ 62500000 = omega arith in
    let k : pairs a ≤ 62500000 = omega arith in
    search (tests, same-leb c.total.result (a.limit + 3 * c.total-all_atoms.result) (heap a) (a.limit + 3 * atoms a) (λ z. omega arith) (λ z. omega arith))

pub returns-clause-facts : goal.returns-clause-facts
returns-clause-facts c = on_true _ (λ h. limits c.args.a.now (sym (returns-clause-value c) ∙ h))

-- `concat::sizes::measure` meets its contract.
use Rattle.std.proofs.Common.{rules, ◌∙◌}
use Rattle.rules.specs.Said.{says, need}
use Rattle.rules.specs.Lent.{atoms_of}
use Rattle.concat.proofs.Scans.{scan_cons, scan-end}
use Rattle.concat.proofs.sizes.measure.Goals as goal

pub returns-in_err-counter : goal.returns-in_err-counter
returns-in_err-counter c =
    let s = c.args in
    let l = c.loop-n in
    let e = scan_cons s.a.now (atoms_of s.atoms) s.size s.nodes.now l.n-index l.counter _ c.loop-n-test.true c.in_err-counter.ensures.value in
    simp (l.invariant.0, e) (search rules)

pub loop-n-preserved : goal.loop-n-preserved
loop-n-preserved c =
    let s = c.args in
    let l = c.loop-n in
    let to = c.in_ok-counter in
    let e = scan_cons s.a.now (atoms_of s.atoms) s.size s.nodes.now l.n-index l.counter (says to.counter) c.loop-n-test.true to.ensures.value in
    (l.invariant.0 ∙ e, to.ensures.bound)

pub returns : goal.returns
unfolding need
returns c =
    let s = c.args in
    let l = c.loop-n in
    simp (l.invariant.0, scan-end s.a.now (atoms_of s.atoms) s.size s.nodes.now l.n-index l.counter c.loop-n-test.false) (search rules)

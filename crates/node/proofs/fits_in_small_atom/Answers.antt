-- `node::fits_in_small_atom` meets its contract: each return has what the tests before it say, and that settles the five tests of the definition.
use Prim.Native.Nat.{◌≤◌}
use mathlib.Core.Path.{◌≡◌}
use native.Mathlib.Omega.{arith}
use lib.ListN.{get_or}
use Rattle.rules.specs.Small.{fits, unfit}
use Rattle.rules.proofs.Tests.{tests}
use Rattle.rules.proofs.Smalls.{fits-value}
use Rattle.std.proofs.Common.{sym}
use Rattle.node.proofs.fits_in_small_atom.Goals as goal

pub returns-then-n-eq0 : goal.returns-then-n-eq0
unfolding fits unfit
returns-then-n-eq0 c = search (tests, arith)

pub returns-then-n-gt4 : goal.returns-then-n-gt4
unfolding fits unfit
returns-then-n-gt4 c = search (tests, arith)

pub returns-then-first-ge128 : goal.returns-then-first-ge128
unfolding fits unfit
returns-then-first-ge128 c =
    let z : get_or c.args.v.now 0 0 ≡ 0 → ⊥ = omega arith in
    search (tests, arith)

pub returns-then-n-eq1 : goal.returns-then-n-eq1
unfolding fits unfit
returns-then-n-eq1 c = search (tests, arith)

pub returns-then-v-lt128 : goal.returns-then-v-lt128
unfolding fits unfit
returns-then-v-lt128 c = search (tests, arith)

pub returns-then-first-eq0-clause-value : goal.returns-then-first-eq0-clause-value
unfolding fits unfit
returns-then-first-eq0-clause-value c =
    let z : get_or c.args.v.now 0 0 ≤ 3 = omega arith in
    search (tests, arith, c.big.ensures)

pub returns-then-first-gt3 : goal.returns-then-first-gt3
unfolding fits unfit
returns-then-first-gt3 c = search (tests, arith)

pub returns-then-n-eq4-clause-value : goal.returns-then-n-eq4-clause-value
unfolding fits unfit
returns-then-n-eq4-clause-value c = search (tests, arith, c.big-then-n-eq4.ensures)

pub returns-clause-value : goal.returns-clause-value
unfolding fits unfit
returns-clause-value c = search (tests, arith, c.big-2.ensures)

pub returns-then-first-eq0-clause-low : goal.returns-then-first-eq0-clause-low
returns-then-first-eq0-clause-low c = fits-value c.args.v.now _ (λ i. omega (arith, c.type_inv.v i)) (sym (returns-then-first-eq0-clause-value c))

pub returns-then-n-eq4-clause-low : goal.returns-then-n-eq4-clause-low
returns-then-n-eq4-clause-low c = fits-value c.args.v.now _ (λ i. omega (arith, c.type_inv.v i)) (sym (returns-then-n-eq4-clause-value c))

pub returns-clause-low : goal.returns-clause-low
returns-clause-low c = fits-value c.args.v.now _ (λ i. omega (arith, c.type_inv.v i)) (sym (returns-clause-value c))

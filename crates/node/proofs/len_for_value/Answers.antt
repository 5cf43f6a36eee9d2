-- `node::len_for_value` meets its contract: the code and the definition have the same chain of limits.
use native.Mathlib.Omega.{arith}
use Rattle.rules.specs.Small.{len_for}
use Rattle.rules.proofs.Tests.{tests}
use Rattle.node.proofs.len_for_value.Goals as goal

pub returns-then-v-eq0 : goal.returns-then-v-eq0
unfolding len_for
returns-then-v-eq0 c = search (tests, arith)

pub returns-then-v-lt128 : goal.returns-then-v-lt128
unfolding len_for
returns-then-v-lt128 c = search (tests, arith)

pub returns-then-v-lt32768 : goal.returns-then-v-lt32768
unfolding len_for
returns-then-v-lt32768 c = search (tests, arith)

pub returns-then-v-lt8388608 : goal.returns-then-v-lt8388608
unfolding len_for
returns-then-v-lt8388608 c = search (tests, arith)

pub returns-then-v-lt2147483648 : goal.returns-then-v-lt2147483648
unfolding len_for
returns-then-v-lt2147483648 c = search (tests, arith)

pub returns-else-v-lt2147483648 : goal.returns-else-v-lt2147483648
unfolding len_for
returns-else-v-lt2147483648 c = search (tests, arith)

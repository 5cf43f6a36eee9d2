-- `creates::substr::part_of_small` meets its contract: the part of the value's own bytes.
use Rattle.std.proofs.Common.{length, arith, ap, ◌∙◌}
use Rattle.rules.specs.Small.{len_for, small_bytes}
use Rattle.rules.proofs.Lists.{part_slice}
use Rattle.rules.proofs.Smalls.{length-be}
use Rattle.creates.proofs.substr.part_of_small.Goals as goal

pub slice_bounds-small_or-end : goal.slice_bounds-small_or-end
slice_bounds-small_or-end c =
    let e = ap length c.small_bytes-from.ensures.bytes ∙ length-be (len_for c.args.v) c.args.v in
    omega (arith, e, c.requires.part)

pub returns-clause-value : goal.returns-clause-value
returns-clause-value c =
    simp (c.small_or.ensures.value, c.small_bytes-from.ensures.bytes, part_slice _ _ (small_bytes c.args.v) c.requires.part.1)

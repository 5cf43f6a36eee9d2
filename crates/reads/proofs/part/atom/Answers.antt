-- `reads::part::atom` meets its contract.
use Rattle.std.proofs.Common.{arith, length, ◌≡◌, ◌≤◌, ◌<◌}
use Rattle.rules.proofs.Smalls.{small-length}
use Rattle.rules.proofs.Lists.{part_slice}
use Rattle.reads.proofs.part.atom.Goals as goal

pub overflow_sub-from : goal.overflow_sub-from
overflow_sub-from c =
    let f : (c.in-Ok-Value.v < 67108864) × (length c.args.scratch.now ≡ 4) = rw c.in-Ok-Value.field-0-is at c.in-Ok-Value.ensures.facts in
    omega (arith, small-length c.in-Ok-Value.v f.0)

pub returns-in-Ok-Range-clause-part : goal.returns-in-Ok-Range-clause-part
returns-in-Ok-Range-clause-part c =
    let f : (c.in-Ok-Range.start ≤ c.in-Ok-Range.end) × (c.in-Ok-Range.end ≤ length c.args.bytes.now) = rw c.in-Ok-Range.field-0-is at c.in-Ok-Range.ensures.facts in
    simp (← c.in-Ok-Range.ensures.value, c.in-Ok-Range.field-0-is, part_slice _ _ c.args.bytes.now f.0)

-- `reads::eq::equal` meets its contract.
use Rattle.std.proofs.Common.{◌≤◌, length, sym}
use Rattle.rules.specs.Small.{small_bytes}
use Rattle.rules.proofs.Lists.{part_slice}
use Rattle.reads.proofs.Laws.{pointwise_same, same_comm, same-value}
use Rattle.reads.proofs.eq.equal.Goals as goal

pub returns-in-Range-Range : goal.returns-in-Range-Range
returns-in-Range-Range c =
    let m = c.in-Range-Range in
    let p : (m.from ≤ m.to) × (m.to ≤ length c.args.bytes.now) = rw m.is-0 at c.requires.0 in
    let q : (m.start ≤ m.end) × (m.end ≤ length c.args.bytes.now) = rw m.is-1 at c.requires.1 in
    simp (c.eq.ensures, m.is-0, m.is-1, part_slice _ _ c.args.bytes.now p.0, part_slice _ _ c.args.bytes.now q.0) (pointwise_same _ _)

pub returns-in-Range-Value : goal.returns-in-Range-Value
returns-in-Range-Value c =
    let m = c.in-Range-Value in
    let p : (m.start ≤ m.end) × (m.end ≤ length c.args.bytes.now) = rw m.is-0 at c.requires.0 in
    simp (c.same_small.ensures, m.is-0, m.is-1, part_slice _ _ c.args.bytes.now p.0) (same_comm (small_bytes m.v) _)

pub returns-in-Value-Range : goal.returns-in-Value-Range
returns-in-Value-Range c =
    let m = c.in-Value-Range in
    let p : (m.start ≤ m.end) × (m.end ≤ length c.args.bytes.now) = rw m.is-1 at c.requires.1 in
    simp (c.same_small-in-Value-Range.ensures, m.is-0, m.is-1, part_slice _ _ c.args.bytes.now p.0)

pub returns-in-Value-Value : goal.returns-in-Value-Value
returns-in-Value-Value c =
    let m = c.in-Value-Value in
    simp (m.is-0, m.is-1) (sym (same-value m.v m.w (rw m.is-0 at c.requires.0) (rw m.is-1 at c.requires.1)))

-- `concat::copies::copy_range` meets its contract.
use Rattle.concat.proofs.Terms.{range_over}
use Rattle.concat.proofs.copies.copy_range.Goals as goal

pub returns : goal.returns
returns c =
    let s = c.args in
    let r = c.requires in
    let parts = c.split_at_mut-used.ensures in
    simp (c.copy.ensures.value, parts.front, parts.back) (range_over s.bytes.now s.start s.end s.at r.0 r.1)

-- The numbers so far stand at the front.
use Rattle.std.proofs.Common.{◌≡◌, take}
use Rattle.request.specs.Bytes.{u32s_to}
use Rattle.request.proofs.fields.put_u32s.Given as goal

abbrev pub invariant-loop-i : goal.invariant-loop-i
invariant-loop-i l = take l.i l.out ≡ u32s_to l.i l.s

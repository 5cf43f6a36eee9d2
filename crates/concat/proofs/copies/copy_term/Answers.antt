-- `concat::copies::copy_term` meets its contract.
use Rattle.std.proofs.Common.{◌≡◌, length, arith}
use Rattle.rules.proofs.Smalls.{length-be}
use Rattle.rules.specs.Small.{len_for}
use Rattle.rules.specs.Lent.{atoms_of}
use Rattle.rules.specs.Reads.{atom_of}
use Rattle.rules.specs.Creates.{term_bytes}
use Rattle.concat.proofs.copies.copy_term.Goals as goal

pub copy_small-requires : goal.copy_small-requires
copy_small-requires c =
    let s = c.args in
    let m = c.in-Ok-Value in
    let len : length (term_bytes s.bytes.now (atom_of s.a.now (atoms_of s.atoms) s.n)) ≡ len_for m.v = simp (← m.ensures.value, m.field-0-is, length-be) in
    omega (arith, len)

pub returns-in-Ok-Value-clause-end : goal.returns-in-Ok-Value-clause-end
returns-in-Ok-Value-clause-end c =
    let m = c.in-Ok-Value in
    simp (c.copy_small.ensures.end, ← m.ensures.value, m.field-0-is, length-be)

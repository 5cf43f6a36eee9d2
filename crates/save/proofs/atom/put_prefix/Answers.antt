-- `save::atom::put_prefix` meets its contract. Assumes nothing.
use Prim.Native.Nat.{◌+◌, ◌≤◌}
use native.Mathlib.Omega.{arith}
use lib.ListN.{length}
use Rattle.save.proofs.Prefixes.{FirstFits, base_fits, byte_fits, first_put}
use Rattle.save.proofs.atom.put_prefix.Goals as goal

pub overflow_cast-file : goal.overflow_cast-file
overflow_cast-file c =
    let fits : FirstFits c.args.len c.extra_for-extra.result = rw c.extra_for-extra.ensures.0 (base_fits c.args.len c.requires.0) in
    omega (arith, fits, c.base.ensures)

pub overflow_add-file : goal.overflow_add-file
overflow_add-file c =
    let room : c.args.at + (1 + c.extra_for-extra.result) ≤ length c.args.file.now = omega (arith, c.extra_for-extra.ensures.0, c.requires.1) in
    let fits : FirstFits c.args.len c.extra_for-extra.result = rw c.extra_for-extra.ensures.0 (base_fits c.args.len c.requires.0) in
    let a = c.args in
    omega (arith, byte_fits a.file.now c.put_be.new.buf a.at c.extra_for-extra.result a.len c.base.result room c.put_be.ensures fits c.base.ensures)

pub returns : goal.returns
returns c =
    let room : c.args.at + (1 + c.extra_for-extra.result) ≤ length c.args.file.now = omega (arith, c.extra_for-extra.ensures.0, c.requires.1) in
    let fits : FirstFits c.args.len c.extra_for-extra.result = rw c.extra_for-extra.ensures.0 (base_fits c.args.len c.requires.0) in
    let a = c.args in
    let k = c.extra_for-extra.ensures.0 in record { written = rw (← k) (first_put a.file.now c.put_be.new.buf a.at c.extra_for-extra.result a.len c.base.result room c.put_be.ensures fits c.base.ensures); end = omega (arith, k) }

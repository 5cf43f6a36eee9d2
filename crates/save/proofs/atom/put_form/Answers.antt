-- `save::atom::put_form` meets its contract. Assumes nothing.
use Prim.Native.Nat.{◌+◌, ◌≤◌}
use mathlib.Core.Path.{sym, ap, ◌∙◌}
use native.Mathlib.Omega.{arith}
use lib.ListN.{length, length-take, length-drop}
use Rattle.save.proofs.Prefixes.{alone-form, alone_put, prefix-room, bytes-room, bytes_next, behind_put}
use Rattle.save.proofs.atom.put_form.Goals as goal

pub copy-requires : goal.copy-requires
copy-requires c =
    simp (length-take, length-drop) (omega (arith, ap length (alone-form c.args.v.now (sym c.alone.ensures ∙ c.if-alone.true))))

pub returns-then-alone : goal.returns-then-alone
returns-then-alone c =
    let h = sym c.alone.ensures ∙ c.if-alone.true in record { written = alone_put c.args.file.now c.args.v.now c.copy.new.to c.args.at h c.requires.1 c.copy.ensures.value; end = ap (λ w. c.args.at + length w) (sym (alone-form c.args.v.now h)) }

pub put_prefix-from-requires : goal.put_prefix-from-requires
put_prefix-from-requires c =
    (c.requires.0, prefix-room c.args.file.now c.args.v.now c.args.at (sym c.alone.ensures ∙ c.if-alone.false) c.requires.1)

pub slice_bounds-copy-count-2 : goal.slice_bounds-copy-count-2
slice_bounds-copy-count-2 c =
    let room : c.put_prefix-from.result + length c.args.v.now ≤ length c.put_prefix-from.new.file =
    bytes-room c.args.file.now c.args.v.now c.args.at (sym c.alone.ensures ∙ c.if-alone.false) c.requires.1 c.put_prefix-from.new.file c.put_prefix-from.result c.put_prefix-from.ensures.written c.put_prefix-from.ensures.end in
    omega (arith, room)

pub slice_bounds-copy-start-2 : goal.slice_bounds-copy-start-2
slice_bounds-copy-start-2 c =
    let room : c.put_prefix-from.result + length c.args.v.now ≤ length c.put_prefix-from.new.file =
    bytes-room c.args.file.now c.args.v.now c.args.at (sym c.alone.ensures ∙ c.if-alone.false) c.requires.1 c.put_prefix-from.new.file c.put_prefix-from.result c.put_prefix-from.ensures.written c.put_prefix-from.ensures.end in
    omega (arith, room)

pub copy-requires-2 : goal.copy-requires-2
copy-requires-2 c =
    let room : c.put_prefix-from.result + length c.args.v.now ≤ length c.put_prefix-from.new.file =
    bytes-room c.args.file.now c.args.v.now c.args.at (sym c.alone.ensures ∙ c.if-alone.false) c.requires.1 c.put_prefix-from.new.file c.put_prefix-from.result c.put_prefix-from.ensures.written c.put_prefix-from.ensures.end in
    simp (length-take, length-drop) (omega (arith, room))

pub overflow_add-result-2 : goal.overflow_add-result-2
overflow_add-result-2 c =
    let room : c.put_prefix-from.result + length c.args.v.now ≤ length c.put_prefix-from.new.file =
    bytes-room c.args.file.now c.args.v.now c.args.at (sym c.alone.ensures ∙ c.if-alone.false) c.requires.1 c.put_prefix-from.new.file c.put_prefix-from.result c.put_prefix-from.ensures.written c.put_prefix-from.ensures.end in
    omega (arith, room)

pub returns : goal.returns
returns c =
    let h = sym c.alone.ensures ∙ c.if-alone.false in
    record { written = behind_put c.args.file.now c.args.v.now c.args.at h c.requires.1 c.put_prefix-from.new.file c.put_prefix-from.result c.put_prefix-from.ensures.written c.put_prefix-from.ensures.end c.copy-2.new.to c.copy-2.ensures.value; end = bytes_next c.args.file.now c.args.v.now c.args.at h c.requires.1 c.put_prefix-from.new.file c.put_prefix-from.result c.put_prefix-from.ensures.written c.put_prefix-from.ensures.end }

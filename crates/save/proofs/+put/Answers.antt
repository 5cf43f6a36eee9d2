-- `save::put` meets its contract.
use Rattle.std.proofs.Common.{arith, ap, ◌∙◌, ◌+◌, ◌-◌, ◌≤◌, ◌<◌, length}
use lib.ListN.{length-take, length-drop, length-set}
use Rattle.rules.specs.Said.{says}
use Rattle.rules.specs.State.{over}
use Rattle.rules.specs.Reads.{children}
use Rattle.rules.specs.Lent.{lists_of}
use Rattle.save.proofs.Forms.{seen, some_level, not_refused, put_buffer, put_number, open_room, first_accepted, rest_room, rest_accepted, pair_put, pair-next}
use Rattle.save.proofs.+put.Goals as goal

pub put_form-requires : goal.put_form-requires
put_form-requires t c =
    let a = c.args in
    let b = c.in-Ok-Buffer in
    let f : (b.start ≤ b.end) × (b.end ≤ a.a.now.used.bytes) = rw b.field-0-is at b.ensures.facts in
    let p = put_buffer a.a.now (lists_of a.lists.now) a.levels (length a.file.now - a.at) a.n c.requires.fits.1 b.start b.end
    (seen a.a.now (lists_of a.lists.now) a.n _ c.requires.sound (rw b.field-0-is at b.ensures.value)) f.0 in
    (simp (length-take, length-drop) (omega (arith, f, c.requires.lent.slots.atoms.limits.bytes)), omega (arith, p.1, ap length p.0, c.requires.fits.0))

pub put_small-requires : goal.put_small-requires
put_small-requires t c =
    let a = c.args in
    let b = c.in-Ok-U32 in
    let f : b.v < 67108864 = rw b.field-0-is at b.ensures.facts in
    let p = put_number a.a.now (lists_of a.lists.now) a.levels (length a.file.now - a.at) a.n c.requires.fits.1 b.v
    (seen a.a.now (lists_of a.lists.now) a.n _ c.requires.sound (rw b.field-0-is at b.ensures.value)) in
    (f, omega (arith, p.1, ap length p.0, c.requires.fits.0))

pub overflow_sub-less : goal.overflow_sub-less
overflow_sub-less t c =
    let a = c.args in
    let some = some_level a.a.now (lists_of a.lists.now) a.levels (length a.file.now - a.at) a.n c.requires.fits.1 in
    omega (arith, some)

pub bounds-file-at : goal.bounds-file-at
bounds-file-at t c =
    let a = c.args in
    let b = c.in-Ok-Pair in
    omega (
      arith,
      open_room a.a.now (lists_of a.lists.now) a.levels a.n a.file.now a.at c.requires.fits.1 b.first b.rest
          (seen a.a.now (lists_of a.lists.now) a.n _ c.requires.sound (rw b.field-0-is at b.ensures.value)),
    )

pub put-mid-requires : goal.put-mid-requires
put-mid-requires t c =
    let a = c.args in
    let b = c.in-Ok-Pair in
    let p = seen a.a.now (lists_of a.lists.now) a.n (says (children b.first b.rest)) c.requires.sound (rw b.field-0-is at b.ensures.value) in
    let some = some_level a.a.now (lists_of a.lists.now) a.levels (length a.file.now - a.at) a.n c.requires.fits.1 in
    let room = open_room a.a.now (lists_of a.lists.now) a.levels a.n a.file.now a.at c.requires.fits.1 b.first b.rest p in
    let fits = first_accepted a.a.now (lists_of a.lists.now) a.levels a.n a.file.now a.at c.requires.fits.1 b.first b.rest p in
    (omega (arith, some, c.decreases), (c.requires.sound, (c.requires.lent, (omega (arith, room, length-set a.file.now a.at 255), fits))))

pub put-requires : goal.put-requires
put-requires t c =
    let a = c.args in
    let b = c.in-Ok-Pair in
    let m = c.put-mid in
    let p = seen a.a.now (lists_of a.lists.now) a.n (says (children b.first b.rest)) c.requires.sound (rw b.field-0-is at b.ensures.value) in
    let some = some_level a.a.now (lists_of a.lists.now) a.levels (length a.file.now - a.at) a.n c.requires.fits.1 in
    let room = rest_room a.a.now (lists_of a.lists.now) a.levels a.n a.file.now a.at c.requires.fits.1 b.first b.rest p m.new.file m.result
    m.ensures.written m.ensures.end in
    let fits = rest_accepted a.a.now (lists_of a.lists.now) a.levels a.n a.file.now a.at c.requires.fits.1 b.first b.rest p m.new.file m.result
    m.ensures.written m.ensures.end in
    (omega (arith, some, c.decreases), (c.requires.sound, (c.requires.lent, (room, fits))))

pub returns-in-Ok-Buffer : goal.returns-in-Ok-Buffer
returns-in-Ok-Buffer t c =
    let a = c.args in
    let b = c.in-Ok-Buffer in
    let f : (b.start ≤ b.end) × (b.end ≤ a.a.now.used.bytes) = rw b.field-0-is at b.ensures.facts in
    let p = put_buffer a.a.now (lists_of a.lists.now) a.levels (length a.file.now - a.at) a.n c.requires.fits.1 b.start b.end
    (seen a.a.now (lists_of a.lists.now) a.n _ c.requires.sound (rw b.field-0-is at b.ensures.value)) f.0 in
    record { written = c.put_form.ensures.written ∙ ap (λ w. over a.file.now a.at w) p.0; end = c.put_form.ensures.end ∙ ap (λ w. a.at + length w) p.0 }

pub returns-in-Ok-U32 : goal.returns-in-Ok-U32
returns-in-Ok-U32 t c =
    let a = c.args in
    let b = c.in-Ok-U32 in
    let p = put_number a.a.now (lists_of a.lists.now) a.levels (length a.file.now - a.at) a.n c.requires.fits.1 b.v
    (seen a.a.now (lists_of a.lists.now) a.n _ c.requires.sound (rw b.field-0-is at b.ensures.value)) in
    record { written = c.put_small.ensures.written ∙ ap (λ w. over a.file.now a.at w) p.0; end = c.put_small.ensures.end ∙ ap (λ w. a.at + length w) p.0 }

pub returns-in-Ok-Pair : goal.returns-in-Ok-Pair
returns-in-Ok-Pair t c =
    let a = c.args in
    let b = c.in-Ok-Pair in
    let m = c.put-mid in
    let p = seen a.a.now (lists_of a.lists.now) a.n (says (children b.first b.rest)) c.requires.sound (rw b.field-0-is at b.ensures.value) in
    record {
      written = pair_put a.a.now (lists_of a.lists.now) a.levels a.n a.file.now a.at c.requires.fits.1 b.first b.rest p
          m.new.file m.result m.ensures.written m.ensures.end c.put.new.file c.put.ensures.written;
      end = pair-next a.a.now (lists_of a.lists.now) a.levels a.n a.file.now a.at c.requires.fits.1 b.first b.rest p m.new.file m.result m.ensures.written
          m.ensures.end c.put.result c.put.ensures.end;
    }

pub returns-in-Err : goal.returns-in-Err
returns-in-Err t c =
    let a = c.args in
    absurd (not_refused a.a.now (lists_of a.lists.now) a.levels (length a.file.now - a.at) a.n c.requires.fits.1 _ _
    (seen a.a.now (lists_of a.lists.now) a.n _ c.requires.sound c.in-Err.ensures.value))

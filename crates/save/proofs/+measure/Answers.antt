-- `save::measure` meets its contract.
use Rattle.std.proofs.Common.{rules, arith, ◌∙◌, ◌-◌, ◌≤◌, ◌≡◌}
use Rattle.rules.specs.Said.{says}
use Rattle.rules.specs.Reads.{children}
use Rattle.rules.specs.Lent.{lists_of}
use Rattle.save.proofs.Forms.{seen, length-fits, form-deep, measured_buffer, measured_number}
use Rattle.save.proofs.Forms.{measured_refused, measured_full, measured_first, measured_rest, measured_pair}
use Rattle.save.proofs.+measure.Goals as goal

pub returns-in_err-need : goal.returns-in_err-need
returns-in_err-need t c =
    let a = c.args in
    let n : a.levels ≡ 0 = grind (arith, c.in_err-need.ensures) in
    rw (form-deep a.a.now (lists_of a.lists.now) a.levels a.room a.n n) (search rules)

pub returns-in_err-start : goal.returns-in_err-start
returns-in_err-start t c =
    let a = c.args in
    rw (← measured_refused a.a.now (lists_of a.lists.now) a.levels a.room a.n (grind (arith, c.in_ok-need.ensures)) _ _
    (seen a.a.now (lists_of a.lists.now) a.n _ c.requires.sound c.in_err-start.ensures.value)) (search rules)

pub returns-in_err-need-in-Pair : goal.returns-in_err-need-in-Pair
returns-in_err-need-in-Pair t c =
    let a = c.args in
    let p = seen a.a.now (lists_of a.lists.now) a.n (says (children c.in-Pair.first c.in-Pair.rest)) c.requires.sound (rw c.in-Pair.is at
    c.in_ok-start.ensures.value) in
    rw (← measured_full a.a.now (lists_of a.lists.now) a.levels a.room a.n (grind (arith, c.in_ok-need.ensures)) c.in-Pair.first c.in-Pair.rest p
    (grind (arith, c.in_err-need-in-Pair.ensures))) (search rules)

pub returns-in_err-one-in-Pair : goal.returns-in_err-one-in-Pair
returns-in_err-one-in-Pair t c =
    let a = c.args in
    let p = seen a.a.now (lists_of a.lists.now) a.n (says (children c.in-Pair.first c.in-Pair.rest)) c.requires.sound (rw c.in-Pair.is at
    c.in_ok-start.ensures.value) in
    rw (← measured_first a.a.now (lists_of a.lists.now) a.levels a.room a.n (grind (arith, c.in_ok-need.ensures)) c.in-Pair.first c.in-Pair.rest p _ _
    (grind (arith, c.in_ok-need-in-Pair.ensures)) c.in_err-one-in-Pair.ensures) (search rules)

pub overflow_sub-left-in-Pair : goal.overflow_sub-left-in-Pair
overflow_sub-left-in-Pair t c =
    length-fits c.args.a.now (lists_of c.args.lists.now) (c.args.levels - 1) (c.args.room - 1) c.in-Pair.first c.in_ok-one-in-Pair.one c.in_ok-one-in-Pair.ensures

pub returns-in_err-other-in-Pair : goal.returns-in_err-other-in-Pair
returns-in_err-other-in-Pair t c =
    let a = c.args in
    let p = seen a.a.now (lists_of a.lists.now) a.n (says (children c.in-Pair.first c.in-Pair.rest)) c.requires.sound (rw c.in-Pair.is at
    c.in_ok-start.ensures.value) in
    rw (← measured_rest a.a.now (lists_of a.lists.now) a.levels a.room a.n (grind (arith, c.in_ok-need.ensures)) c.in-Pair.first c.in-Pair.rest p _ _
    c.in_ok-one-in-Pair.one
    (grind (arith, c.in_ok-need-in-Pair.ensures)) c.in_ok-one-in-Pair.ensures c.in_err-other-in-Pair.ensures) (search rules)

pub overflow_add-result : goal.overflow_add-result
overflow_add-result t c =
    let a = c.args in
    omega (
      arith,
      length-fits a.a.now (lists_of a.lists.now) (a.levels - 1) (a.room - 1) c.in-Pair.first c.in_ok-one-in-Pair.one
          c.in_ok-one-in-Pair.ensures,
      c.ranges.room,
    )

pub overflow_add-result-in-Pair : goal.overflow_add-result-in-Pair
overflow_add-result-in-Pair t c =
    let a = c.args in
    let one = length-fits a.a.now (lists_of a.lists.now) (a.levels - 1) (a.room - 1) c.in-Pair.first c.in_ok-one-in-Pair.one c.in_ok-one-in-Pair.ensures in
    let other = length-fits a.a.now (lists_of a.lists.now) (a.levels - 1) (a.room - 1 - c.in_ok-one-in-Pair.one) c.in-Pair.rest
    c.in_ok-other-in-Pair.other c.in_ok-other-in-Pair.ensures in
    let some : (a.room ≡ 0 → ⊥) = grind (arith, c.in_ok-need-in-Pair.ensures) in
    omega (arith, one, other, c.ranges.room, some)

pub returns-in-Buffer : goal.returns-in-Buffer
returns-in-Buffer t c =
    let a = c.args in
    let f : (c.in-Buffer.start ≤ c.in-Buffer.end) × (c.in-Buffer.end ≤ a.a.now.used.bytes) = rw c.in-Buffer.is at c.in_ok-start.ensures.facts in
    c.fitted.ensures
    ∙ measured_buffer a.a.now (lists_of a.lists.now) a.levels a.room a.n (grind (arith, c.in_ok-need.ensures)) c.in-Buffer.start c.in-Buffer.end c.form_len.result
    (seen a.a.now (lists_of a.lists.now) a.n _ c.requires.sound (rw c.in-Buffer.is at c.in_ok-start.ensures.value)) f.0 c.form_len.ensures

pub returns-in-U32 : goal.returns-in-U32
returns-in-U32 t c =
    let a = c.args in
    c.fitted-in-U32.ensures
    ∙ measured_number a.a.now (lists_of a.lists.now) a.levels a.room a.n (grind (arith, c.in_ok-need.ensures)) c.in-U32.v c.small_len.result
    (seen a.a.now (lists_of a.lists.now) a.n _ c.requires.sound (rw c.in-U32.is at c.in_ok-start.ensures.value)) c.small_len.ensures

pub returns-in_ok-other-in-Pair : goal.returns-in_ok-other-in-Pair
returns-in_ok-other-in-Pair t c =
    let a = c.args in
    let p = seen a.a.now (lists_of a.lists.now) a.n (says (children c.in-Pair.first c.in-Pair.rest)) c.requires.sound (rw c.in-Pair.is at
    c.in_ok-start.ensures.value) in
    measured_pair a.a.now (lists_of a.lists.now) a.levels a.room a.n (grind (arith, c.in_ok-need.ensures)) c.in-Pair.first c.in-Pair.rest p
    c.in_ok-one-in-Pair.one c.in_ok-other-in-Pair.other (grind (arith, c.in_ok-need-in-Pair.ensures)) c.in_ok-one-in-Pair.ensures c.in_ok-other-in-Pair.ensures

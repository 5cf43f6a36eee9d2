-- `count` meets its contract: no bits are zero's, and any other number takes what its magnitude does. Assumes nothing.
use Rattle.std.proofs.Common.{◌∙◌, sym, ap}
use Rattle.std.specs.Int.{w64, cast_unsigned}
use Rattle.rules.specs.Integer.{count_from}
use Rattle.integer.proofs.Counts.{count_zero, count-some}
use Rattle.integer.proofs.Words.{bits_zero}
use Rattle.integer.proofs.count.Goals as goal

pub returns-then-bits-eq0 : goal.returns-then-bits-eq0
returns-then-bits-eq0 g c =
    let z = g.T.Integer.value c.args.x in
    sym (count_zero z (bits_zero z c.bits.ensures.fits (sym c.bits.ensures.value ∙ c.if-bits-eq0.true)))

pub returns-else-bits-eq0 : goal.returns-else-bits-eq0
returns-else-bits-eq0 g c =
    let z = g.T.Integer.value c.args.x in
    c.width.ensures ∙ ap (count_from 8 1) c.magnitude.ensures
    ∙ sym (count-some z (λ e. c.if-bits-eq0.false (c.bits.ensures.value ∙ ap (cast_unsigned w64) e)))

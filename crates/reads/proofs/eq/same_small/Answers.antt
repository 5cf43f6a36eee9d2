-- `reads::eq::same_small` meets its contract: only the bytes that fit a small atom are those of one.
use Rattle.std.proofs.Common.{sym, ◌∙◌, arith}
use Rattle.reads.proofs.Laws.{same-found}
use Rattle.reads.proofs.eq.same_small.Goals as goal

pub returns : goal.returns
returns c =
    c.eq.ensures ∙ sym (same-found c.args.v c.fits_in_small_atom.result c.args.x.now c.requires (λ i. omega (arith, c.type_inv.x i)) c.fits_in_small_atom.ensures.value)

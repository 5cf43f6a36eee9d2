-- `save::atom::form_len` meets its contract. Assumes nothing.
use mathlib.Core.Path.{sym, ap, ◌∙◌}
use native.Mathlib.Omega.{arith}
use lib.ListN.{length}
use Rattle.save.proofs.Prefixes.{alone-form, alone-length, behind-length}
use Rattle.save.proofs.atom.form_len.Goals as goal

pub returns-then-alone : goal.returns-then-alone
returns-then-alone c =
    let v = c.args.v.now in
    let h = sym c.alone.ensures ∙ c.if-alone.true in
    sym (ap length (alone-form v h) ∙ alone-length v h)

pub returns : goal.returns
returns c =
    let v = c.args.v.now in
    omega (arith, behind-length v (sym c.alone.ensures ∙ c.if-alone.false), c.extra_for.ensures.0)

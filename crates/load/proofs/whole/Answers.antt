-- `whole` meets its contract.
use mathlib.Core.Path.{◌∙◌}
use borrow.Author.Tests.{ne_eqb}
use lib.ListN.{length}
use Rattle.rules.specs.Lent.{lists_in}
use Rattle.load.proofs.whole.Goals as goal

pub returns-else-root-f : goal.returns-else-root-f
returns-else-root-f c =
    let m = c.item.new in
    let root = c.in_ok-root.root in
    c.fault.ensures m.a (lists_in m.bytes m.starts m.ends m.firsts m.rests)
    ∙ rw (← c.in_ok-root.ensures, ne_eqb root.next (length c.args.f.now) c.if-root-f.false)

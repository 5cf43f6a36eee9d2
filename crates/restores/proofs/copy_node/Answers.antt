-- `restores::copy_node` meets its contract: new_atom would accept the saved bytes, so that its tests are passed. Assumes nothing.
use Rattle.restores.proofs.Saved.{cloned_atom, settled, unrefused}
use Rattle.rules.specs.Lent.{store_lent}
use mathlib.Core.Path.{◌∙◌}
use Rattle.restores.proofs.copy_node.Goals as goal

pub returns-clause-value : goal.returns-clause-value
returns-clause-value c =
    let s = c.args in
    let st = store_lent s.store.now in
    let clone = cloned_atom s.k.now s.a.now st s.start s.end _ c.requires c.kept_bytes-saved.ensures in
    let left = store_lent c.small_or.new.store in
    settled s.a.now c.small_or.new.a st left c.small_or.result _ _ c.in_ok-n.was (c.small_or.ensures.value ∙ simp (c.less_ghosts-less.ensures, c.cut.ensures) clone)

pub returns-in_err-n-clause-value : goal.returns-in_err-n-clause-value
returns-in_err-n-clause-value c =
    let s = c.args in
    let st = store_lent s.store.now in
    let clone = cloned_atom s.k.now s.a.now st s.start s.end _ c.requires c.kept_bytes-saved.ensures in
    unrefused s.k.now s.a.now st s.start s.end _ _ c.small_or.result _ c.requires c.in_err-n.was
    (c.small_or.ensures.value ∙ simp (c.less_ghosts-less.ensures, c.cut.ensures) clone)

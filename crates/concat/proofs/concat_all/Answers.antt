-- `concat::concat_all` meets its contract: terms that pass the measuring have the size in all.
use Rattle.std.proofs.Common.{rules, ◌≡◌, length}
use Rattle.rules.specs.Said.{need}
use Rattle.rules.specs.Lent.{store_lent}
use Rattle.rules.specs.Creates.{joined, store_atom}
use Rattle.concat.proofs.Scans.{scan_size}
use Rattle.concat.proofs.concat_all.Goals as goal

pub returns-in_err-need-clause-value : goal.returns-in_err-need-clause-value
unfolding need store_atom
returns-in_err-need-clause-value c =
    let a = c.args in
    let e = rw c.slots.ensures at c.in_ok-measure.ensures in
    simp (← e, scan_size a.a.now (store_lent a.store.now) a.size a.nodes.now c.requires.lent.bytes_fit e) (search rules)

pub copy_terms-requires-clause-fits : goal.copy_terms-requires-clause-fits
copy_terms-requires-clause-fits c =
    let a = c.args in
    let e = rw c.slots.ensures at c.in_ok-measure.ensures in
    simp (scan_size a.a.now (store_lent a.store.now) a.size a.nodes.now c.requires.lent.bytes_fit e) (search rules)

pub returns-clause-value : goal.returns-clause-value
unfolding need store_atom
returns-clause-value c =
    let a = c.args in
    let s = store_lent a.store.now in
    let e = rw c.slots.ensures at c.in_ok-measure.ensures in
    let long : length (joined a.a.now s a.nodes.now) ≡ a.size = scan_size a.a.now s a.size a.nodes.now c.requires.lent.bytes_fit e in
    simp (← e, long) (search rules)

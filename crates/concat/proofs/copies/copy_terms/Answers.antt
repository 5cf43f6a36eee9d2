-- `concat::copies::copy_terms` meets its contract.
use Rattle.rules.specs.State.{store}
use Rattle.rules.specs.Lent.{atoms_of}
use Rattle.concat.proofs.Terms.{copied_room, copied_more, copied_all}
use Rattle.concat.proofs.copies.copy_terms.Goals as goal

pub copy_term-at-requires-clause-fits : goal.copy_term-at-requires-clause-fits
copy_term-at-requires-clause-fits c =
    let l = c.loop-n in
    copied_room c.args.a.now (store c.args.bytes.now (atoms_of c.args.atoms)) c.args.nodes.now l.bytes l.at l.n-index l.invariant c.loop-n-test.true

pub loop-n-preserved : goal.loop-n-preserved
loop-n-preserved c =
    let l = c.loop-n in
    let e = c.copy_term-at.ensures in
    copied_more c.args.a.now (store c.args.bytes.now (atoms_of c.args.atoms)) c.args.nodes.now l.bytes l.at l.n-index l.invariant c.loop-n-test.true
    _ _ e.written e.end

pub returns : goal.returns
returns c =
    let l = c.loop-n in
    copied_all c.args.a.now (store c.args.bytes.now (atoms_of c.args.atoms)) c.args.nodes.now l.bytes l.at l.n-index l.invariant c.loop-n-test.false

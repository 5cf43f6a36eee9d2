-- `concat::copies::copy_terms` meets its contract: what is copied, with what is left to copy, is the whole.
use Rattle.rules.specs.State.{store}
use Rattle.rules.specs.Lent.{atoms_of}
use Rattle.concat.proofs.Terms.{Copied}
use Rattle.concat.proofs.copies.copy_terms.Given as goal

abbrev pub invariant-loop-n : goal.invariant-loop-n
invariant-loop-n l = Copied l.a (store l.initial.bytes (atoms_of l.atoms)) l.nodes l.bytes l.at l.n-index

-- Each call of itself has a level less left.
use Rattle.outline.proofs.Tree.+subtree.Given as goal

abbrev pub decreases-subtree : goal.decreases-subtree
decreases-subtree g l = l.left

-- `save::put` calls itself with fewer levels left.
use Rattle.save.proofs.+put.Given as goal

abbrev pub decreases-put : goal.decreases-put
decreases-put l = l.levels

-- `save::measure` calls itself with fewer levels left.
use Rattle.save.proofs.+measure.Given as goal

abbrev pub decreases-measure : goal.decreases-measure
decreases-measure l = l.levels

-- Which number of the record, and of a checkpoint, is which word of the memory in which it lies: the order of the C header's structs.
use Rattle.std.specs.Prelude.{ℕ, List, [], ◌∷◌}
use Rattle.rules.specs.declared.Counts.{Counts}
use Rattle.rules.specs.declared.Allocator.{Allocator}
use Rattle.rules.specs.declared.Checkpoint.{Checkpoint}

abbrev pub counts_words : Counts → List ℕ
counts_words k = k.atoms ∷ k.pairs ∷ k.bytes ∷ []

abbrev pub plain_words : Checkpoint → List ℕ
plain_words k = k.used.atoms ∷ k.used.pairs ∷ k.used.bytes ∷ k.ghosts.atoms ∷ k.ghosts.pairs ∷ k.ghosts.bytes ∷ []

abbrev pub record_words : Allocator → List ℕ
record_words a = a.used.atoms ∷ a.used.pairs ∷ a.used.bytes ∷ a.ghosts.atoms ∷ a.ghosts.pairs ∷ a.ghosts.bytes ∷ a.limit ∷ []

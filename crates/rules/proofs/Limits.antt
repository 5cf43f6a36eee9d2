-- What a record within its limits has, as facts about numbers. Assumes nothing.
use Prim.Native.Nat.{◌+◌, ◌*◌, ◌≤◌}
use mathlib.Core.Path.{◌≡◌}
use mathlib.Core.Bool.{true}
use borrow.Author.Tests.{le-leb, leb-true}
use Rattle.rules.specs.declared.Counts.{Counts}
use Rattle.rules.specs.declared.Allocator.{Allocator}
use Rattle.rules.specs.State.{limits_sound}
use Rattle.rules.proofs.Tests.{both}

pub record Limits (a : Allocator) : Type 0 where
  pub bytes : a.used.bytes ≤ 4294967295
  pub limit : a.limit ≤ 4294967295
  pub atoms : a.used.atoms + a.ghosts.atoms ≤ 62500000
  pub pairs : a.used.pairs + a.ghosts.pairs ≤ 62500000
  pub heap : a.used.bytes + a.ghosts.bytes ≤ a.limit + 3 * (a.used.atoms + a.ghosts.atoms)

-- no count of k above that of used
abbrev pub Below : Counts → Counts → Type 0
Below k used = (k.atoms ≤ used.atoms) × (k.pairs ≤ used.pairs) × (k.bytes ≤ used.bytes)

pub limits : (a : Allocator) → limits_sound a ≡ true → Limits a
unfolding limits_sound
limits a h =
    let h4 = both _ _ h in
    let h3 = both _ _ h4.0 in
    let h2 = both _ _ h3.0 in
    let h1 = both _ _ h2.0 in
    record {
      bytes = leb-true _ _ h1.0;
      limit = leb-true _ _ h1.1;
      atoms = leb-true _ _ h2.1;
      pairs = leb-true _ _ h3.1;
      heap = leb-true _ _ h4.1;
    }

pub limits_hold : (a : Allocator) → Limits a → limits_sound a ≡ true
unfolding limits_sound
limits_hold a l = simp (le-leb _ _ l.bytes, le-leb _ _ l.limit, le-leb _ _ l.atoms, le-leb _ _ l.pairs, le-leb _ _ l.heap)

-- What a record that is sound beside the slices lent to a call has, as facts about numbers. Assumes nothing.
use Prim.Native.Nat.{ℕ, ◌≤◌}
use mathlib.Core.Path.{◌≡◌}
use mathlib.Core.Bool.{true, ◌&&◌}
use borrow.Author.Tests.{leb-true}
use lib.ListN.{length}
use Rattle.rules.specs.declared.Allocator.{Allocator}
use Rattle.rules.specs.declared.Slices.{Slices}
use Rattle.rules.specs.State.{limits_sound, atoms_fit, pairs_fit, bytes_fit}
use Rattle.rules.proofs.Tests.{both}
use Rattle.rules.proofs.Limits.{Limits, limits}

-- the lengths are those of the slices lent
pub record AtomsLent (a : Allocator) (starts ends : ℕ) : Type 0 where
  pub limits : Limits a
  pub starts_fit : a.used.atoms ≤ starts
  pub ends-fit : a.used.atoms ≤ ends

pub record PairsLent (a : Allocator) (firsts rests : ℕ) : Type 0 where
  pub limits : Limits a
  pub firsts-fit : a.used.pairs ≤ firsts
  pub rests-fit : a.used.pairs ≤ rests

pub record SlotsLent (a : Allocator) (starts ends firsts rests : ℕ) : Type 0 where
  pub atoms : AtomsLent a starts ends
  pub pairs : PairsLent a firsts rests

pub record StoreLent (a : Allocator) (bytes starts ends : ℕ) : Type 0 where
  pub atoms : AtomsLent a starts ends
  pub bytes_fit : a.used.bytes ≤ bytes

pub record ListsLent (a : Allocator) (bytes starts ends firsts rests : ℕ) : Type 0 where
  pub slots : SlotsLent a starts ends firsts rests
  pub bytes_fit : a.used.bytes ≤ bytes

-- the same of the five slices by one name
abbrev pub SlicesLent : Allocator → Slices → Type 0
SlicesLent a s =
    ListsLent a (length s.bytes.now) (length s.atoms.starts.now) (length s.atoms.ends.now) (length s.pairs.firsts.now) (length s.pairs.rests.now)

module _ (a : Allocator) where
  pub atoms-lent : (starts ends : ℕ) → (limits_sound a && atoms_fit a starts ends) ≡ true → AtomsLent a starts ends
  atoms-lent starts ends h =
      let p = both (limits_sound a) _ h in
      let q = both _ _ p.1 in
      record { limits = limits a p.0; starts_fit = leb-true _ _ q.0; ends-fit = leb-true _ _ q.1 }

  pub slots_lent : (starts ends firsts rests : ℕ) → (limits_sound a && atoms_fit a starts ends && pairs_fit a firsts rests) ≡ true → SlotsLent a starts ends firsts rests
  slots_lent starts ends firsts rests h =
      let p = both (limits_sound a && atoms_fit a starts ends) _ h in
      let q = both _ _ p.1 in
      let t = atoms-lent starts ends p.0 in
      record { atoms = t; pairs = record { limits = t.limits; firsts-fit = leb-true _ _ q.0; rests-fit = leb-true _ _ q.1 } }

  pub store-lent : (bytes starts ends : ℕ) → (limits_sound a && atoms_fit a starts ends && bytes_fit a bytes) ≡ true → StoreLent a bytes starts ends
  store-lent bytes starts ends h =
      let p = both (limits_sound a && atoms_fit a starts ends) _ h in
      record { atoms = atoms-lent starts ends p.0; bytes_fit = leb-true _ _ p.1 }

  pub lists-lent : (bytes starts ends firsts rests : ℕ) → (limits_sound a && atoms_fit a starts ends && pairs_fit a firsts rests && bytes_fit a bytes) ≡ true → ListsLent a bytes starts ends firsts rests
  lists-lent bytes starts ends firsts rests h =
      let p = both (limits_sound a && atoms_fit a starts ends && pairs_fit a firsts rests) _ h in
      record { slots = slots_lent starts ends firsts rests p.0; bytes_fit = leb-true _ _ p.1 }

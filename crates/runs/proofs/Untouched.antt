-- new_atom and new_pair on every state, sound or not: what was in use stays in use, unchanged. Assumes nothing.
use Prim.Native.Nat.{ℕ, ◌≤◌}
use mathlib.Core.Path.{refl}
use mathlib.Core.List.{List}
use mathlib.Core.Option.{Option, none, some}
use native.Mathlib.Nat.{le_refl}
use native.Mathlib.Omega.{arith}
use lib.ListN.{length}
use Rattle.rules.specs.Small.{fits}
use Rattle.rules.specs.Creates.{store_atom, atom_tests, atom_put, pair_tests}
use Rattle.rules.proofs.Sound.{store-lent}
use Rattle.rules.proofs.Overs.{take-over}
use Rattle.rules.specs.Whole.{St, store_of, on_store, new_atom, new_pair}
use Rattle.runs.specs.Wf.{Same}
use Rattle.runs.specs.Makes.{Outcome, accepted}
use Rattle.runs.proofs.Extend.{agree_trans, atoms_trans, pairs_trans, atoms_put, pairs_put, same_refl}
use Rattle.runs.proofs.Guards.{guard, guard_pairs}

-- s uses all that k uses, and there it is unchanged
pub record Untouched (k s : St) : Type 0 where
  pub bytes : k.rec.used.bytes ≤ s.rec.used.bytes
  pub atoms : k.rec.used.atoms ≤ s.rec.used.atoms
  pub pairs : k.rec.used.pairs ≤ s.rec.used.pairs
  pub same : Same k s.lists

pub untouched_refl : (s : St) → Untouched s s
untouched_refl s = record { bytes = le_refl _; atoms = le_refl _; pairs = le_refl _; same = same_refl s }

pub untouched_trans : {k s t : St} → Untouched k s → Untouched s t → Untouched k t
untouched_trans x y = record {
  bytes = omega arith;
  atoms = omega arith;
  pairs = omega arith;
  same = record {
    bytes = agree_trans _ _ _ _ _ x.bytes x.same.bytes y.same.bytes;
    atoms = atoms_trans x.atoms x.same.atoms y.same.atoms;
    pairs = pairs_trans x.pairs x.same.pairs y.same.pairs;
  };
}

module _ (s : St) where
  -- bytes and one slot, where the used bytes fit their list
  stored : (v : List ℕ) → s.rec.used.bytes ≤ length s.lists.bytes → Outcome s (λ n t. Untouched s t) (on_store s (store_atom s.rec v (store_of s)))
  unfolding store_atom
  stored v h = guard _ _ _ _ _ λ t. accepted _ _ (record {
    bytes = omega arith;
    atoms = omega arith;
    pairs = le_refl _;
    same = record {
      bytes = take-over s.lists.bytes v s.rec.used.bytes s.rec.used.bytes (le_refl _) h;
      atoms = atoms_put _ _ (le_refl _) (same_refl s).atoms;
      pairs = (same_refl s).pairs;
    };
  })

  put : (f : Option ℕ) (v : List ℕ) → s.rec.used.bytes ≤ length s.lists.bytes → Outcome s (λ n t. Untouched s t) (on_store s (atom_put f s.rec v (store_of s)))
  put (some n) v h = accepted _ _ (record { bytes = le_refl _; atoms = le_refl _; pairs = le_refl _; same = same_refl s })
  put none v h = stored v h

  pub atom_untouched : (v : List ℕ) → Outcome s (λ n t. Untouched s t) (new_atom v s)
  unfolding atom_tests
  atom_untouched v = guard _ _ _ _ _ λ t₁. guard _ _ _ _ _ λ t₂. guard _ _ _ _ _ λ t₃.
      put (fits v) v (store-lent s.rec _ _ _ t₁).bytes_fit

  pub pair_untouched : (first rest : ℕ) → Outcome s (λ n t. Untouched s t) (new_pair first rest s)
  unfolding pair_tests
  pair_untouched first rest =
      guard_pairs _ _ _ _ _ λ t₁. guard_pairs _ _ _ _ _ λ t₂. guard_pairs _ _ _ _ _ λ t₃. guard_pairs _ _ _ _ _ λ t₄. guard_pairs _ _ _ _ _ λ t₅.
      accepted _ _ (record {
        bytes = le_refl _;
        atoms = le_refl _;
        pairs = omega arith;
        same = record { bytes = refl; atoms = (same_refl s).atoms; pairs = pairs_put first rest (le_refl _) (same_refl s).pairs };
      })

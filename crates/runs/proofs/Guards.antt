-- A call's tests, one by one: what its refusals leave is the state as it was. Assumes nothing.
use Prim.Native.Nat.{ℕ}
use mathlib.Core.Path.{◌≡◌, subst}
use mathlib.Core.Bool.{Bool, true}
use native.Mathlib.Omega.{arith}
use Rattle.rules.specs.Said.{Said, says, need, NoLists, no_lists, Out, settle}
use Rattle.rules.specs.State.{Store, PairStore}
use Rattle.rules.proofs.Needs.{need_ind}
use Rattle.rules.specs.Whole.{St, Whole, store_of, pairs_of, alone, on_pairs, on_store}
use Rattle.runs.specs.Makes as M
use Rattle.runs.specs.Makes.{Outcome, Under}

module _ {A B : Type 0} {s : St} {P : B → St → Type 0} (b : Bool) (code node : ℕ) (next : Said A) where
  pub guard : (f : A → Out B Store) → (b ≡ true → Outcome s P (on_store s (settle next s.rec (store_of s) f)))
      → Outcome s P (on_store s (settle (need b code node next) s.rec (store_of s) f))
  guard f g = need_ind (λ r. Outcome s P (on_store s (settle r s.rec (store_of s) f))) b code node next (λ t. M.refused code node) g

  pub guard_pairs : (f : A → Out B PairStore) → (b ≡ true → Outcome s P (on_pairs s (settle next s.rec (pairs_of s) f)))
      → Outcome s P (on_pairs s (settle (need b code node next) s.rec (pairs_of s) f))
  guard_pairs f g = need_ind (λ r. Outcome s P (on_pairs s (settle r s.rec (pairs_of s) f))) b code node next (λ t. M.refused code node) g

  pub guard_alone : (f : A → Out B NoLists) → (b ≡ true → Outcome s P (alone s (settle next s.rec no_lists f)))
      → Outcome s P (alone s (settle (need b code node next) s.rec no_lists f))
  guard_alone f g = need_ind (λ r. Outcome s P (alone s (settle r s.rec no_lists f))) b code node next (λ t. M.refused code node) g

-- what an accepted call leaves
pub outcome_says : {A : Type 0} {s : St} {P : A → St → Type 0} {o : Whole A} {x : A} → Outcome s P o → o.said ≡ says x → P x o.next
outcome_says (M.refused code node) e = let z : ◌≡◌ {A = ℕ} 0 1 = cc in absurd (omega arith)
outcome_says {P = P} {x = x} (M.accepted y s' p) e = let q : y ≡ x = cc in subst (λ z. P z s') q p

-- the condition under which a call was accepted
pub under : {A C : Type 0} {s : St} {P : A → St → Type 0} {o : Whole A} → C → Outcome s P o → Outcome s (λ x s'. Under C (P x s')) o
under c (M.refused code node) = M.refused code node
under c (M.accepted x s' p) = M.accepted x s' (record { given = c; made = p })

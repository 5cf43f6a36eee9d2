-- Demand 1 over whole states: in every state, sound or not, a refused call leaves the record and all lists as they were. Assumes nothing.
use Prim.Native.Nat.{ℕ}
use mathlib.Core.List.{List, [], ◌∷◌}
use mathlib.Core.Option.{Option, none, some}
use lib.IntN.{pos}
use lib.ListN.{length}
use lib.Seq.{slice}
use Rattle.rules.specs.declared.Counts.{Counts}
use Rattle.rules.specs.declared.Checkpoint.{Checkpoint}
use Rattle.rules.specs.Small.{fits, small_bytes}
use Rattle.rules.specs.Integer.{int_bytes}
use Rattle.rules.specs.Said.{Said, says, refuses, Done, NoLists, no_lists, Out, settle}
use Rattle.rules.specs.State.{Store, PairStore}
use Rattle.rules.specs.Reads.{Atom, range, value, atom_of}
use Rattle.rules.specs.Creates as C
use Rattle.rules.specs.Creates.{small_or, store_atom, atom_tests, small_tests, pair_tests, share_range, substr_put, substr_tests, one_term, scan, joined, concat_put, concat_tests}
use Rattle.rules.specs.Whole.{St, Whole, store_of, pairs_of, alone, on_pairs, on_store, new_atom, Making, atom, small-number, u64, i64, pair, substr, concat, ghost_pairs, fewer_ghost_pairs, ghost_atoms, answers_node, answers_none, call, plain_to, transparent_to, maybe_to}
use Rattle.runs.specs.Makes.{Outcome, refused, accepted, Harmless}
use Rattle.runs.proofs.Guards.{guard, guard_alone}
use Rattle.runs.proofs.Restoring.{transparent_keeps, plain-forms, maybe_keeps}

harmless : {A : Type 0} {s : St} {P : A → St → Type 0} {o : Whole A} → Outcome s P o → Harmless s o
harmless (refused code node) = refused code node
harmless (accepted x s' p) = accepted x s' tt

node-harmless : {s : St} {o : Whole ℕ} → Harmless s o → Harmless s (answers_node o)
node-harmless (refused code node) = refused code node
node-harmless (accepted x s' p) = accepted (some x) s' tt

none_harmless : {s : St} {o : Whole Done} → Harmless s o → Harmless s (answers_none o)
none_harmless (refused code node) = refused code node
none_harmless (accepted x s' p) = accepted none s' tt

module _ (s : St) where
  -- the tests refuse, or the rest does what it does
  settled : {A B : Type 0} (r : Said A) (f : A → Out B Store) → ((x : A) → Harmless s (on_store s (f x))) → Harmless s (on_store s (settle r s.rec (store_of s) f))
  settled (says x) f g = g x
  settled (refuses code node) f g = refused code node

  settled_alone : {A B : Type 0} (r : Said A) (f : A → Out B NoLists) → ((x : A) → Harmless s (alone s (f x))) → Harmless s (alone s (settle r s.rec no_lists f))
  settled_alone (says x) f g = g x
  settled_alone (refuses code node) f g = refused code node

  settled_pairs : {A B : Type 0} (r : Said A) (f : A → Out B PairStore) → ((x : A) → Harmless s (on_pairs s (f x))) → Harmless s (on_pairs s (settle r s.rec (pairs_of s) f))
  settled_pairs (says x) f g = g x
  settled_pairs (refuses code node) f g = refused code node

  stored : (v : List ℕ) → Harmless s (on_store s (store_atom s.rec v (store_of s)))
  unfolding store_atom
  stored v = guard _ _ _ _ _ λ t. accepted _ _ tt

  put : (f : Option ℕ) (counted : ℕ) (v : List ℕ) → Harmless s (on_store s (small_or f counted s.rec v (store_of s)))
  put (some n) counted v = accepted _ _ tt
  put none counted v = stored v

  substr-put : (x : Atom) (start end : ℕ) → Harmless s (on_store s (substr_put x s.rec start end (store_of s)))
  unfolding share_range
  substr-put (range from to) start end = guard _ _ _ _ _ λ t. accepted _ _ tt
  substr-put (value v) start end = put (fits (slice start end (small_bytes v))) 0 (slice start end (small_bytes v))

  concat-put : (size : ℕ) (ns : List ℕ) → Harmless s (on_store s (concat_put s.rec size ns (store_of s)))
  concat-put size [] = guard _ _ _ _ _ λ t. accepted _ _ tt
  concat-put size (n ∷ []) = settled (one_term size (atom_of s.rec s.lists.atoms n)) _ λ d. accepted _ _ tt
  concat-put size (n ∷ m ∷ ns) = settled (scan s.rec s.lists.atoms size (n ∷ m ∷ ns) 0) _ λ d. stored (joined s.rec (store_of s) (n ∷ m ∷ ns))

  atom-refused : (v : List ℕ) → Harmless s (new_atom v s)
  atom-refused v = settled (atom_tests s.rec (length v) (store_of s)) _ λ d. put (fits v) (length v) v

  pub call-refused : (m : Making) → Harmless s (call m s)
  unfolding C.add_ghost_pair C.remove_ghost_pair C.add_ghost_atom
  call-refused (atom v) = node-harmless (atom-refused v)
  call-refused (small-number v) = node-harmless (settled_alone (small_tests s.rec v) _ λ d. accepted _ _ tt)
  call-refused (u64 x) = node-harmless (atom-refused (int_bytes (pos x)))
  call-refused (i64 z) = node-harmless (atom-refused (int_bytes z))
  call-refused (pair first rest) = node-harmless (settled_pairs (pair_tests s.rec first rest (pairs_of s)) _ λ d. accepted _ _ tt)
  call-refused (substr n start end) = node-harmless (settled (substr_tests s.rec n start end (store_of s)) _ λ x. substr-put x start end)
  call-refused (concat size ns) = node-harmless (settled (concat_tests s.rec size (store_of s)) _ λ d. concat-put size ns)
  call-refused (ghost_pairs amount) = none_harmless (guard_alone _ _ _ _ _ λ t₁. guard_alone _ _ _ _ _ λ t₂. accepted _ _ tt)
  call-refused (fewer_ghost_pairs amount) = none_harmless (guard_alone _ _ _ _ _ λ t₁. guard_alone _ _ _ _ _ λ t₂. accepted _ _ tt)
  call-refused (ghost_atoms amount) = none_harmless (guard_alone _ _ _ _ _ λ t₁. guard_alone _ _ _ _ _ λ t₂. accepted _ _ tt)

-- the restores, to any checkpoint
pub plain-refused : (k : Checkpoint) (s : St) → Harmless s (plain_to k s)
plain-refused k s = harmless (plain-forms k s)

pub transparent-refused : (k : Counts) (s : St) → Harmless s (transparent_to k s)
transparent-refused k s = harmless (transparent_keeps k s)

pub maybe-refused : (k : Counts) (n : ℕ) (s : St) → Harmless s (maybe_to k n s)
maybe-refused k n s = harmless (maybe_keeps k n s)

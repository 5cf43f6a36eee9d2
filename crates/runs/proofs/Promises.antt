-- From contracts to runs: whatever meets the promise of a call, handed the last record and the same slots, leaves a run a run.
-- Each premise is the equation in the call's `ensures`; new_integer's is that of new_i64, of which new_u64's is the case of a u64. Assumes nothing.
use Prim.Native.Nat.{ℕ, ◌<◌}
use Rattle.std.specs.Prelude.{Result, Ok, Err}
use mathlib.Core.Path.{◌≡◌, sym, ap, subst}
use mathlib.Core.List.{List, []}
use lib.IntN.{ℤ}
use lib.Signed.{mag}
use Rattle.rules.specs.declared.Allocator.{Allocator}
use Rattle.rules.specs.declared.Refusal.{Refusal}
use Rattle.rules.specs.declared.Fault.{Fault}
use Rattle.rules.specs.declared.MaybeRestore.{MaybeRestore}
use Rattle.rules.specs.declared.Loaded.{Loaded}
use Rattle.rules.specs.Small.{Octets}
use Rattle.rules.specs.Said.{Said, says_of, Done, NoLists, no_lists, Out}
use Rattle.rules.specs.State.{Lists, lists, Store, PairStore}
use Rattle.rules.specs.Record.{new_limited, checkpoint_of}
use Rattle.rules.specs.Creates as C
use Rattle.rules.specs.Restores as R
use Rattle.rules.specs.Restores.{Restoring, no_replace}
use Rattle.rules.specs.Load as L
use Rattle.rules.specs.Load.{Reading}
use Rattle.rules.specs.Paper.{said_by, verdict_paper, maybe_paper, made, changed, restored, loaded}
use Rattle.rules.specs.Whole.{St, store_of, pairs_of, slots_of, alone, on_pairs, on_store, left, atom, small-number, u64, i64, pair, substr, concat, ghost_pairs, fewer_ghost_pairs, ghost_atoms, plainly, transparently, with_node}
use Rattle.runs.specs.Runs as Run
use Rattle.runs.specs.Runs.{Event, LiveAt, noted, Past}

-- the state that the code leaves: its record, the lists that it was lent as they are now, and the others as they were
abbrev pub after_store : St → Allocator → Store → St
after_store s a t = record { rec = a; lists = lists t.bytes t.atoms s.lists.pairs }

abbrev pub after_pairs : St → Allocator → PairStore → St
after_pairs s a p = record { rec = a; lists = lists s.lists.bytes s.lists.atoms p.pairs }

abbrev pub after_alone : St → Allocator → St
after_alone s a = record { rec = a; lists = s.lists }

-- ---- one law for each sort of lending, whatever the call

module _ {A : Type 0} (s : St) {h : List Event} where
  by_store : (o p : Out A Store) → o ≡ p → Past (on_store s p).next h → Past (on_store s o).next h
  by_store o p e x = subst (λ q. Past q h) (sym (ap (λ q. (on_store s q).next) e)) x

  by_pairs : (o p : Out A PairStore) → o ≡ p → Past (on_pairs s p).next h → Past (on_pairs s o).next h
  by_pairs o p e x = subst (λ q. Past q h) (sym (ap (λ q. (on_pairs s q).next) e)) x

  by_alone : (o p : Out A NoLists) → o ≡ p → Past (alone s p).next h → Past (alone s o).next h
  by_alone o p e x = subst (λ q. Past q h) (sym (ap (λ q. (alone s q).next) e)) x

-- ---- the first call

pub start_code : (limit : ℕ) (l : Lists) → Octets l.bytes → (r : Result (Unit {0}) Refusal) (a : Allocator)
    → changed r a ≡ new_limited limit → Past (record { rec = a; lists = l }) []
start_code limit l o r a e =
    subst (λ (b : Allocator). Past (record { rec = b; lists = l }) []) (sym (ap (λ (q : Out Done NoLists). q.rec) e)) (Run.fresh limit l o)

-- ---- the calls that count

module _ {s : St} {h : List Event} (run : Past s h) where
  pub new_atom_code : (v : List ℕ) → Octets v → (r : Result ℕ Refusal) (a : Allocator) (t : Store) → made r a t ≡ C.new_atom s.rec v (store_of s)
      → Past (after_store s a t) h
  new_atom_code v o r a t e = by_store s (made r a t) _ e (Run.made run (atom v) o)

  pub new_small_number_code : (v : ℕ) (r : Result ℕ Refusal) (a : Allocator) → made r a no_lists ≡ C.new_small_number s.rec v → Past (after_alone s a) h
  new_small_number_code v r a e = by_alone s (made r a no_lists) _ e (Run.made run (small-number v) tt)

  pub new_u64_code : (x : ℕ) → x < 18446744073709551616 → (r : Result ℕ Refusal) (a : Allocator) (t : Store)
      → made r a t ≡ C.new_u64 s.rec x (store_of s) → Past (after_store s a t) h
  new_u64_code x b r a t e = by_store s (made r a t) _ e (Run.made run (u64 x) b)

  pub new_i64_code : (z : ℤ) → mag z < 9223372036854775808 → (r : Result ℕ Refusal) (a : Allocator) (t : Store)
      → made r a t ≡ C.new_i64 s.rec z (store_of s) → Past (after_store s a t) h
  new_i64_code z b r a t e = by_store s (made r a t) _ e (Run.made run (i64 z) b)

  pub new_pair_code : (first rest : ℕ) (r : Result ℕ Refusal) (a : Allocator) (p : PairStore) → made r a p ≡ C.new_pair s.rec first rest (pairs_of s)
      → Past (after_pairs s a p) h
  new_pair_code first rest r a p e = by_pairs s (made r a p) _ e (Run.made run (pair first rest) tt)

  pub new_substr_code : (n start end : ℕ) (r : Result ℕ Refusal) (a : Allocator) (t : Store) → made r a t ≡ C.new_substr s.rec n start end (store_of s)
      → Past (after_store s a t) h
  new_substr_code n start end r a t e = by_store s (made r a t) _ e (Run.made run (substr n start end) tt)

  pub new_concat_code : (size : ℕ) (ns : List ℕ) (r : Result ℕ Refusal) (a : Allocator) (t : Store) → made r a t ≡ C.new_concat s.rec size ns (store_of s)
      → Past (after_store s a t) h
  new_concat_code size ns r a t e = by_store s (made r a t) _ e (Run.made run (concat size ns) tt)

  pub add_ghost_pair_code : (amount : ℕ) (r : Result (Unit {0}) Refusal) (a : Allocator) → changed r a ≡ C.add_ghost_pair s.rec amount
      → Past (after_alone s a) h
  add_ghost_pair_code amount r a e = by_alone s (changed r a) _ e (Run.made run (ghost_pairs amount) tt)

  pub remove_ghost_pair_code : (amount : ℕ) (r : Result (Unit {0}) Refusal) (a : Allocator) → changed r a ≡ C.remove_ghost_pair s.rec amount
      → Past (after_alone s a) h
  remove_ghost_pair_code amount r a e = by_alone s (changed r a) _ e (Run.made run (fewer_ghost_pairs amount) tt)

  pub add_ghost_atom_code : (amount : ℕ) (r : Result (Unit {0}) Refusal) (a : Allocator) → changed r a ≡ C.add_ghost_atom s.rec amount
      → Past (after_alone s a) h
  add_ghost_atom_code amount r a e = by_alone s (changed r a) _ e (Run.made run (ghost_atoms amount) tt)

  -- ---- a program file

  pub load_code : (f : List ℕ) → Octets f → (r : Result Loaded Fault) (a : Allocator) (l : Lists) → loaded r a l ≡ L.load f s.rec s.lists
      → Past (record { rec = a; lists = l }) h
  load_code f o (Ok r) a l e = subst (λ (q : Reading). Past (left q).next h) (sym e) (Run.loaded run f o)
  load_code f o (Err r) a l e = subst (λ (q : Reading). Past (left q).next h) (sym e) (Run.loaded run f o)

  -- ---- the restores: to the checkpoint that was taken in k, as the call handed it out then

  -- what the events are told of a plain or transparent restore
  abbrev pub told : Result (Unit {0}) Refusal → Said Restoring
  told r = says_of (λ d. no_replace) (verdict_paper r)

  module _ {k : St} {c : ℕ} (live : LiveAt c k h) where
    pub restore_checkpoint_code : (r : Result (Unit {0}) Refusal) (a : Allocator) → changed r a ≡ R.restore_plain (checkpoint_of k.rec) s.rec (slots_of s)
        → Past (after_alone s a) (noted (told r) c h)
    restore_checkpoint_code r a e =
        subst (λ (q : Out Done NoLists). Past (alone s q).next (noted (says_of (λ d. no_replace) q.said) c h)) (sym e) (Run.back run plainly live)

    pub restore_transparent_checkpoint_code : (r : Result (Unit {0}) Refusal) (a : Allocator)
        → changed r a ≡ R.restore_transparent k.rec.used s.rec (slots_of s)
        → Past (after_alone s a) (noted (told r) c h)
    restore_transparent_checkpoint_code r a e =
        subst (λ (q : Out Done NoLists). Past (alone s q).next (noted (says_of (λ d. no_replace) q.said) c h)) (sym e) (Run.back run transparently live)

    pub maybe_restore_code : (n : ℕ) (r : Result MaybeRestore Refusal) (a : Allocator) (t : Store)
        → restored r a t ≡ R.maybe_restore k.rec.used n s.rec (store_of s) (pairs_of s)
        → Past (after_store s a t) (noted (said_by maybe_paper r) c h)
    maybe_restore_code n r a t e =
        subst (λ (q : Out Restoring Store). Past (on_store s q).next (noted q.said c h)) (sym e) (Run.back run (with_node n) live)

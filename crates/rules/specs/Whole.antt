-- A whole state, the record beside all five lists, and each call of document 01 upon it.
-- The rules know only the lists that a call is lent; here those that it is not lent stay as they are.
use Rattle.std.specs.Prelude.{ℕ, ◌<◌, List, ℤ}
use Rattle.std.proofs.Math.Option.{Option, none, some}
use Rattle.std.specs.Int.Signed.{mag}
use Rattle.rules.specs.declared.Counts.{Counts}
use Rattle.rules.specs.declared.Allocator.{Allocator}
use Rattle.rules.specs.declared.Checkpoint.{Checkpoint}
use Rattle.rules.specs.Small.{Octets}
use Rattle.rules.specs.Said.{Said, says_of, onward, or_else, Done, NoLists, Out}
use Rattle.rules.specs.State.{Lists, Store, store, PairStore, pair_store, together, Slots, slots}
use Rattle.rules.specs.Record.{checkpoint_of}
use Rattle.rules.specs.Creates as C
use Rattle.rules.specs.Restores as R
use Rattle.rules.specs.Restores.{Restoring, no_replace}
use Rattle.rules.specs.Load as L
use Rattle.rules.specs.Load.{Reading}

pub record St : Type 0 where
  pub rec : Allocator
  pub lists : Lists

-- what a call says, and the state that it leaves
pub record Whole (A : Type 0) : Type 0 where
  pub said : Said A
  pub next : St

-- what a call says of a record and all five lists
abbrev pub whole : {A : Type 0} → Said A → Allocator → Lists → Whole A
whole said a l = record { said = said; next = record { rec = a; lists = l } }

-- on with the node in the state that a call left, or stop at the first refusal
abbrev pub after : Whole ℕ → (ℕ → St → Whole ℕ) → Whole ℕ
after o f = onward o.said o (λ n. f n o.next)

-- a refusal gives back the record of s; the lists stay as the accepted calls left them
abbrev pub or_back : St → Whole ℕ → Whole ℕ
or_back s o = or_else o.said o (whole o.said s.rec o.next.lists)

-- ---- what a call is lent of a state, and what of it a call leaves: a list that is not lent stays as it is

abbrev pub store_of : St → Store
store_of s = store s.lists.bytes s.lists.atoms

abbrev pub pairs_of : St → PairStore
pairs_of s = pair_store s.lists.pairs

abbrev pub slots_of : St → Slots
slots_of s = slots s.lists.atoms s.lists.pairs

-- a call that may write no list
abbrev pub alone : {A : Type 0} → St → Out A NoLists → Whole A
alone s o = whole o.said o.rec s.lists

-- a call that may write the pair slots
abbrev pub on_pairs : {A : Type 0} → St → Out A PairStore → Whole A
on_pairs s o = whole o.said o.rec (together (store_of s) o.lent)

-- a call that may write the bytes and the atom slots
abbrev pub on_store : {A : Type 0} → St → Out A Store → Whole A
on_store s o = whole o.said o.rec (together o.lent (pairs_of s))

-- ---- the calls that count

abbrev pub new_atom : List ℕ → St → Whole ℕ
new_atom v s = on_store s (C.new_atom s.rec v (store_of s))

abbrev pub new_small_number : ℕ → St → Whole ℕ
new_small_number v s = alone s (C.new_small_number s.rec v)

abbrev pub new_u64 : ℕ → St → Whole ℕ
new_u64 x s = on_store s (C.new_u64 s.rec x (store_of s))

abbrev pub new_i64 : ℤ → St → Whole ℕ
new_i64 z s = on_store s (C.new_i64 s.rec z (store_of s))

abbrev pub new_pair : ℕ → ℕ → St → Whole ℕ
new_pair first rest s = on_pairs s (C.new_pair s.rec first rest (pairs_of s))

abbrev pub new_substr : ℕ → ℕ → ℕ → St → Whole ℕ
new_substr n start end s = on_store s (C.new_substr s.rec n start end (store_of s))

abbrev pub new_concat : ℕ → List ℕ → St → Whole ℕ
new_concat size ns s = on_store s (C.new_concat s.rec size ns (store_of s))

abbrev pub add_ghost_pair : ℕ → St → Whole Done
add_ghost_pair amount s = alone s (C.add_ghost_pair s.rec amount)

abbrev pub remove_ghost_pair : ℕ → St → Whole Done
remove_ghost_pair amount s = alone s (C.remove_ghost_pair s.rec amount)

abbrev pub add_ghost_atom : ℕ → St → Whole Done
add_ghost_atom amount s = alone s (C.add_ghost_atom s.rec amount)

-- one call of these, with its arguments
pub data Making : Type 0 where
  atom : List ℕ → Making
  small-number : ℕ → Making
  u64 : ℕ → Making
  i64 : ℤ → Making
  pair : (first rest : ℕ) → Making
  substr : (n start end : ℕ) → Making
  concat : (size : ℕ) → List ℕ → Making
  ghost_pairs : ℕ → Making
  fewer_ghost_pairs : ℕ → Making
  ghost_atoms : ℕ → Making

-- the arguments are as their types in the code have them
abbrev pub Typed : Making → Type 0
Typed (atom v) = Octets v
Typed (small-number v) = Unit {0}
Typed (u64 x) = x < 18446744073709551616
Typed (i64 z) = mag z < 9223372036854775808
Typed (pair first rest) = Unit {0}
Typed (substr n start end) = Unit {0}
Typed (concat size ns) = Unit {0}
Typed (ghost_pairs amount) = Unit {0}
Typed (fewer_ghost_pairs amount) = Unit {0}
Typed (ghost_atoms amount) = Unit {0}

-- the node that it makes; a ghost call makes none
abbrev pub answers_node : Whole ℕ → Whole (Option ℕ)
answers_node o = record { said = says_of some o.said; next = o.next }

abbrev pub answers_none : Whole Done → Whole (Option ℕ)
answers_none o = record { said = says_of (λ d. none) o.said; next = o.next }

abbrev pub call : Making → St → Whole (Option ℕ)
call (atom v) s = answers_node (new_atom v s)
call (small-number v) s = answers_node (new_small_number v s)
call (u64 x) s = answers_node (new_u64 x s)
call (i64 z) s = answers_node (new_i64 z s)
call (pair first rest) s = answers_node (new_pair first rest s)
call (substr n start end) s = answers_node (new_substr n start end s)
call (concat size ns) s = answers_node (new_concat size ns s)
call (ghost_pairs amount) s = answers_none (add_ghost_pair amount s)
call (fewer_ghost_pairs amount) s = answers_none (remove_ghost_pair amount s)
call (ghost_atoms amount) s = answers_none (add_ghost_atom amount s)

-- the state that it leaves
abbrev pub make : Making → St → St
make m s = (call m s).next

-- ---- loading a program file

-- what a reading says, and the state that it leaves
abbrev pub left : Reading → Whole ℕ
left r = whole r.said r.rec r.lists

abbrev pub load : List ℕ → St → Whole ℕ
load f s = left (L.load f s.rec s.lists)

-- ---- the three restores, to any checkpoint

abbrev pub plain_to : Checkpoint → St → Whole Done
plain_to k s = alone s (R.restore_plain k s.rec (slots_of s))

abbrev pub transparent_to : Counts → St → Whole Done
transparent_to k s = alone s (R.restore_transparent k s.rec (slots_of s))

abbrev pub maybe_to : Counts → ℕ → St → Whole Restoring
maybe_to k n s = on_store s (R.maybe_restore k n s.rec (store_of s) (pairs_of s))

-- to the one that was taken in the state k, and has not been altered since
abbrev pub plain : St → St → Whole Done
plain k s = plain_to (checkpoint_of k.rec) s

abbrev pub transparent : St → St → Whole Done
transparent k s = transparent_to k.rec.used s

abbrev pub maybe : St → ℕ → St → Whole Restoring
maybe k n s = maybe_to k.rec.used n s

pub data Way : Type 0 where
  plainly : Way
  transparently : Way
  with_node : ℕ → Way

-- an accepted plain or transparent restore has no node to replace
abbrev pub nodeless : Whole Done → Whole Restoring
nodeless o = record { said = says_of (λ d. no_replace) o.said; next = o.next }

-- to any checkpoint; but for a plain restore its used counts alone are the checkpoint
abbrev pub restore_to : Way → Checkpoint → St → Whole Restoring
restore_to plainly k s = nodeless (plain_to k s)
restore_to transparently k s = nodeless (transparent_to k.used s)
restore_to (with_node n) k s = maybe_to k.used n s

-- to the one that was taken in the state k
abbrev pub restore : Way → St → St → Whole Restoring
restore way k s = restore_to way (checkpoint_of k.rec) s

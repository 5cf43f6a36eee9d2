-- What is lent to a call, by one name: the lists behind its references, as its contract speaks of them.
-- `store_in bytes.old ..` is what a call finds there, `store_in bytes.new ..` what it leaves; what is lent to be read is `bytes.now`.
use Rattle.std.specs.Prelude.{ℕ, ◌≡◌, ◌≤◌, List, length}
use Rattle.rules.specs.declared.Allocator.{Allocator}
use Rattle.rules.specs.declared.AtomSlots as Lent
use Rattle.rules.specs.declared.PairSlots as Pairs
use Rattle.rules.specs.declared.Slices.{Slices}
use Rattle.rules.specs.declared.AtomStore.{AtomStore}
use Rattle.rules.specs.declared.PairStore as LentPairs
use Rattle.rules.specs.declared.Stores.{Stores}
use Rattle.rules.specs.State.{AtomSlots, atom_slots, PairSlots, pair_slots, Lists, lists, Store, store, PairStore, pair_store, together, Slots, slots}

-- what a reference to a lent list leads to: the list
abbrev pub Ref : Type 0
Ref = List ℕ

-- ---- to a read

abbrev pub atom_slots_in : Ref → Ref → AtomSlots
atom_slots_in starts ends = atom_slots starts ends

abbrev pub pair_slots_in : Ref → Ref → PairSlots
pair_slots_in firsts rests = pair_slots firsts rests

abbrev pub lists_in : Ref → Ref → Ref → Ref → Ref → Lists
lists_in bytes starts ends firsts rests = lists bytes (atom_slots_in starts ends) (pair_slots_in firsts rests)

-- the same of the structs by which reads hand them on
abbrev pub atoms_of : Lent.AtomSlots → AtomSlots
atoms_of s = atom_slots_in s.starts.now s.ends.now

abbrev pub pairs_of : Pairs.PairSlots → PairSlots
pairs_of s = pair_slots_in s.firsts.now s.rests.now

abbrev pub slots_of : Lent.AtomSlots → Pairs.PairSlots → Slots
slots_of t p = slots (atoms_of t) (pairs_of p)

abbrev pub lists_of : Slices → Lists
lists_of s = lists s.bytes.now (atoms_of s.atoms) (pairs_of s.pairs)

-- ---- to a call that creates, or restores

abbrev pub store_in : Ref → Ref → Ref → Store
store_in bytes starts ends = store bytes (atom_slots_in starts ends)

abbrev pub pair_store_in : Ref → Ref → PairStore
pair_store_in firsts rests = pair_store (pair_slots_in firsts rests)

abbrev pub pair_store_of : Pairs.PairSlots → PairStore
pair_store_of p = pair_store (pairs_of p)

abbrev pub slots_in : Ref → Ref → Ref → Ref → Slots
slots_in starts ends firsts rests = slots (atom_slots_in starts ends) (pair_slots_in firsts rests)

-- the same of the structs by which such calls hand them on
abbrev pub store_lent : AtomStore → Store
store_lent s = store_in s.bytes.now s.starts.now s.ends.now

abbrev pub pair_store_lent : LentPairs.PairStore → PairStore
pair_store_lent s = pair_store_in s.firsts.now s.rests.now

abbrev pub lists_lent : Stores → Lists
lists_lent s = together (store_lent s.atoms) (pair_store_lent s.pairs)

-- such a call writes into the lists that it was lent, and lends no others in their place: by this its caller knows what its own lists hold
abbrev pub SameStore : AtomStore → AtomStore → Type 0
SameStore s t = (t.bytes.ghost_name ≡ s.bytes.ghost_name) × (t.starts.ghost_name ≡ s.starts.ghost_name) × (t.ends.ghost_name ≡ s.ends.ghost_name)

abbrev pub SamePairStore : LentPairs.PairStore → LentPairs.PairStore → Type 0
SamePairStore s t = (t.firsts.ghost_name ≡ s.firsts.ghost_name) × (t.rests.ghost_name ≡ s.rests.ghost_name)

-- ---- what a helper asks of its caller: the used atoms, or pairs, are within the lent slots

abbrev pub AtomsWithin : Allocator → Ref → Ref → Type 0
AtomsWithin a starts ends = (a.used.atoms ≤ length starts) × (a.used.atoms ≤ length ends)

abbrev pub PairsWithin : Allocator → Ref → Ref → Type 0
PairsWithin a firsts rests = (a.used.pairs ≤ length firsts) × (a.used.pairs ≤ length rests)

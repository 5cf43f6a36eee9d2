-- A state: the record, the lent lists, and when they are sound (document 01, "What a state is").
use Rattle.std.specs.Prelude.{ℕ, zero, suc, ◌+◌, ◌-◌, ◌*◌, Bool, true, ◌&&◌, List, ◌++◌, leb, length, get_or, take, drop, set}
use Rattle.rules.specs.declared.Counts.{Counts}
use Rattle.rules.specs.declared.Allocator.{Allocator}
use Rattle.rules.specs.declared.Checkpoint.{Checkpoint}
use Rattle.rules.specs.Node.{valid_node}

-- ---- the lent lists: what reads see of them

-- the atom slots: where each atom's bytes start and end
pub record AtomSlots : Type 0 where
  pub starts : List ℕ
  pub ends : List ℕ

abbrev pub atom_slots : List ℕ → List ℕ → AtomSlots
atom_slots starts ends = record { starts = starts; ends = ends }

-- the pair slots: the two children of each pair
pub record PairSlots : Type 0 where
  pub firsts : List ℕ
  pub rests : List ℕ

abbrev pub pair_slots : List ℕ → List ℕ → PairSlots
pair_slots firsts rests = record { firsts = firsts; rests = rests }

-- all five lists
pub record Lists : Type 0 where
  pub bytes : List ℕ
  pub atoms : AtomSlots
  pub pairs : PairSlots

abbrev pub lists : List ℕ → AtomSlots → PairSlots → Lists
lists bytes atoms pairs = record { bytes = bytes; atoms = atoms; pairs = pairs }

-- ---- the same as views of the calls that create and restore: a list that only they keep (document 02, W3 and W13) joins a
-- view, and no read moves

-- bytes and atom slots
pub record Store : Type 0 where
  pub bytes : List ℕ
  pub atoms : AtomSlots

abbrev pub store : List ℕ → AtomSlots → Store
store bytes atoms = record { bytes = bytes; atoms = atoms }

-- pair slots
pub record PairStore : Type 0 where
  pub pairs : PairSlots

abbrev pub pair_store : PairSlots → PairStore
pair_store pairs = record { pairs = pairs }

-- the two side by side are all five lists
abbrev pub together : Store → PairStore → Lists
together s p = lists s.bytes s.atoms p.pairs

-- atom slots and pair slots, for a restore that neither reads nor writes a byte
pub record Slots : Type 0 where
  pub atoms : AtomSlots
  pub pairs : PairSlots

abbrev pub slots : AtomSlots → PairSlots → Slots
slots atoms pairs = record { atoms = atoms; pairs = pairs }

-- ---- single entries

abbrev pub start_at : AtomSlots → ℕ → ℕ
start_at t i = get_or t.starts i 0

abbrev pub end_at : AtomSlots → ℕ → ℕ
end_at t i = get_or t.ends i 0

abbrev pub first_at : PairSlots → ℕ → ℕ
first_at t i = get_or t.firsts i 0

abbrev pub rest_at : PairSlots → ℕ → ℕ
rest_at t i = get_or t.rests i 0

-- ---- totals: used + ghost

abbrev pub atoms : Allocator → ℕ
atoms a = a.used.atoms + a.ghosts.atoms

abbrev pub pairs : Allocator → ℕ
pairs a = a.used.pairs + a.ghosts.pairs

abbrev pub heap : Allocator → ℕ
heap a = a.used.bytes + a.ghosts.bytes

-- ---- sound records

-- used bytes and limit at most 4,294,967,295; atoms and pairs at most 62,500,000 each; heap at most limit + 3 × atoms
unfoldable pub limits_sound : Allocator → Bool
limits_sound a =
    leb a.used.bytes 4294967295
    && leb a.limit 4294967295
    && leb (atoms a) 62500000
    && leb (pairs a) 62500000
    && leb (heap a) (a.limit + 3 * atoms a)

-- the used counts fit slices of these lengths
abbrev pub bytes_fit : Allocator → ℕ → Bool
bytes_fit a bytes = leb a.used.bytes bytes

abbrev pub atoms_fit : Allocator → ℕ → ℕ → Bool
atoms_fit a starts ends = leb a.used.atoms starts && leb a.used.atoms ends

abbrev pub pairs_fit : Allocator → ℕ → ℕ → Bool
pairs_fit a firsts rests = leb a.used.pairs firsts && leb a.used.pairs rests

-- the record is sound beside slices of these lengths: atom slots, pair slots, both, bytes and atom slots, or all
abbrev pub atoms_sound_at : Allocator → ℕ → ℕ → Bool
atoms_sound_at a starts ends = limits_sound a && atoms_fit a starts ends

abbrev pub pairs_sound_at : Allocator → ℕ → ℕ → Bool
pairs_sound_at a firsts rests = limits_sound a && pairs_fit a firsts rests

abbrev pub slots_sound_at : Allocator → ℕ → ℕ → ℕ → ℕ → Bool
slots_sound_at a starts ends firsts rests = atoms_sound_at a starts ends && pairs_fit a firsts rests

abbrev pub bytes_sound_at : Allocator → ℕ → ℕ → ℕ → Bool
bytes_sound_at a bytes starts ends = atoms_sound_at a starts ends && bytes_fit a bytes

abbrev pub lists_sound_at : Allocator → ℕ → ℕ → ℕ → ℕ → ℕ → Bool
lists_sound_at a bytes starts ends firsts rests = slots_sound_at a starts ends firsts rests && bytes_fit a bytes

-- and so beside what a read is lent
abbrev pub atoms_sound : Allocator → AtomSlots → Bool
atoms_sound a t = atoms_sound_at a (length t.starts) (length t.ends)

abbrev pub pairs_sound : Allocator → PairSlots → Bool
pairs_sound a p = pairs_sound_at a (length p.firsts) (length p.rests)

abbrev pub slots_sound : Allocator → AtomSlots → PairSlots → Bool
slots_sound a t p = slots_sound_at a (length t.starts) (length t.ends) (length p.firsts) (length p.rests)

abbrev pub bytes_sound : Allocator → List ℕ → AtomSlots → Bool
bytes_sound a bytes t = bytes_sound_at a (length bytes) (length t.starts) (length t.ends)

abbrev pub lists_sound : Allocator → Lists → Bool
lists_sound a l = slots_sound a l.atoms l.pairs && bytes_fit a (length l.bytes)

-- and beside the view of a call that creates or restores
abbrev pub store_sound : Allocator → Store → Bool
store_sound a s = bytes_sound a s.bytes s.atoms

abbrev pub restore_sound : Allocator → Slots → Bool
restore_sound a s = slots_sound a s.atoms s.pairs

-- ---- sound slots

-- start ≤ end ≤ used bytes
abbrev pub range_sound : ℕ → ℕ → ℕ → Bool
range_sound bytes start end = leb start end && leb end bytes

abbrev pub atom_slot_sound : ℕ → AtomSlots → ℕ → Bool
atom_slot_sound bytes t i = range_sound bytes (start_at t i) (end_at t i)

-- both nodes valid, a pair child's index below the slot's own
abbrev pub children_sound : ℕ → ℕ → ℕ → ℕ → Bool
children_sound atoms i first rest = valid_node atoms i first && valid_node atoms i rest

abbrev pub pair_slot_sound : ℕ → PairSlots → ℕ → Bool
pair_slot_sound atoms p i = children_sound atoms i (first_at p i) (rest_at p i)

-- a test holds of every index below n
unfoldable pub all : (ℕ → Bool) → ℕ → Bool
all test zero = true
all test (suc n) = all test n && test n

-- the first n atom slots lie within that many bytes, and the first n pair slots have children among those
abbrev pub atom_slots_sound : Counts → AtomSlots → Bool
atom_slots_sound used t = all (atom_slot_sound used.bytes t) used.atoms

abbrev pub pair_slots_sound : Counts → PairSlots → Bool
pair_slots_sound used p = all (pair_slot_sound used.atoms p) used.pairs

-- well-formed: record and all used slots are sound
unfoldable pub well_formed : Allocator → Lists → Bool
well_formed a l =
    lists_sound a l && atom_slots_sound a.used l.atoms && pair_slots_sound a.used l.pairs

-- ---- how a record changes: each call changes it by one of these

abbrev pub counts : ℕ → ℕ → ℕ → Counts
counts atoms pairs bytes = record { atoms = atoms; pairs = pairs; bytes = bytes }

-- other counts under the same limit: the one place where a record is made from another
abbrev pub moved : Counts → Counts → Allocator → Allocator
moved used ghosts a = record { used = used; ghosts = ghosts; limit = a.limit }

-- one stored atom more, of len bytes
abbrev pub used_atom : ℕ → Allocator → Allocator
used_atom len a = moved (counts (a.used.atoms + 1) a.used.pairs (a.used.bytes + len)) a.ghosts a

-- one pair more
abbrev pub used_pair : Allocator → Allocator
used_pair a = moved (counts a.used.atoms (a.used.pairs + 1) a.used.bytes) a.ghosts a

-- one ghost atom more, of len ghost bytes
abbrev pub ghost_atom : ℕ → Allocator → Allocator
ghost_atom len a = moved a.used (counts (a.ghosts.atoms + 1) a.ghosts.pairs (a.ghosts.bytes + len)) a

-- other ghosts, of atoms or of pairs
abbrev pub with_ghosts : ℕ → ℕ → Allocator → Allocator
with_ghosts atoms pairs a = moved a.used (counts atoms pairs a.ghosts.bytes) a

-- the used counts cut to k, and what was cut added to the ghosts
abbrev pub cut : Counts → Allocator → Allocator
cut k a =
    moved k
    (counts
    (a.ghosts.atoms + (a.used.atoms - k.atoms))
    (a.ghosts.pairs + (a.used.pairs - k.pairs))
    (a.ghosts.bytes + (a.used.bytes - k.bytes)))
    a

-- the used counts and the ghosts of a plain checkpoint
abbrev pub cut_plain : Checkpoint → Allocator → Allocator
cut_plain k a = moved k.used k.ghosts a

-- one ghost atom less, and len ghost bytes less
abbrev pub less_ghosts : ℕ → Allocator → Allocator
less_ghosts len a = moved a.used (counts (a.ghosts.atoms - 1) a.ghosts.pairs (a.ghosts.bytes - len)) a

-- ---- how the lists change

-- l with v written over it from index i on
abbrev pub over : List ℕ → ℕ → List ℕ → List ℕ
over l i v = take i l ++ (v ++ drop (i + length v) l)

-- atom slot i with a range
abbrev pub put_slot : ℕ → ℕ → ℕ → AtomSlots → AtomSlots
put_slot i start end t = atom_slots (set t.starts i start) (set t.ends i end)

-- pair slot i with two children
abbrev pub put_pair : ℕ → ℕ → ℕ → PairSlots → PairSlots
put_pair i first rest p = pair_slots (set p.firsts i first) (set p.rests i rest)

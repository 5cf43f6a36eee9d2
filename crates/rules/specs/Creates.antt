-- The calls that count: atoms, integers, pairs, ghosts, substr, concat (document 01, "Rules call by call").
use Rattle.std.specs.Prelude.{ℕ, ◌+◌, ◌-◌, Bool, ◌&&◌, List, [], ◌∷◌, ◌++◌, leb, ltb, eqb, ℤ, pos, length}
use Rattle.std.proofs.Math.Option.{Option, none, some}
use Rattle.std.proofs.Math.Seq.{slice}
use Rattle.rules.specs.declared.Allocator.{Allocator}
use Rattle.rules.specs.Node.{pair_node, bytes_node, small_node, nil, valid_node}
use Rattle.rules.specs.Small.{fits, len_for, small_bytes}
use Rattle.rules.specs.Integer.{int_bytes}
use Rattle.rules.specs.Said.{Said, says, refuses, need, Done, done, NoLists, no_lists, Out, out, settle}
use Rattle.rules.specs.State.{AtomSlots, Store, store, PairStore, pair_store, atoms, pairs, heap, limits_sound, pairs_sound_at, store_sound, used_atom, used_pair, ghost_atom, with_ghosts, over, put_slot, put_pair}
use Rattle.rules.specs.Reads.{Atom, range, value, atom_of, atom_length, atom_bytes}

-- ---- the limits: 2 if heap + length > limit, 3 if atoms = 62,500,000

abbrev pub heap_holds : Allocator → ℕ → Bool
heap_holds a len = leb (heap a + len) a.limit

abbrev pub atoms_left : Allocator → Bool
atoms_left a = ltb (atoms a) 62500000

-- 15: every other test passed, but the lent slices (or 4,294,967,295 bytes) cannot hold the result; first by their lengths
abbrev pub slot_room_at : Allocator → ℕ → ℕ → Bool
slot_room_at a starts ends = ltb a.used.atoms starts && ltb a.used.atoms ends

abbrev pub store_room_at : Allocator → ℕ → ℕ → ℕ → ℕ → Bool
store_room_at a len bytes starts ends =
    leb (a.used.bytes + len) 4294967295
    && leb (a.used.bytes + len) bytes
    && slot_room_at a starts ends

abbrev pub slot_room : Allocator → AtomSlots → Bool
slot_room a t = slot_room_at a (length t.starts) (length t.ends)

abbrev pub store_room : Allocator → ℕ → Store → Bool
store_room a len s = store_room_at a len (length s.bytes) (length s.atoms.starts) (length s.atoms.ends)

-- bytes and one slot: the store with v behind its used bytes, and the slot over v
abbrev pub put_atom : Allocator → List ℕ → Store → Store
put_atom a v s =
    store (over s.bytes a.used.bytes v)
    (put_slot a.used.atoms a.used.bytes (a.used.bytes + length v) s.atoms)

unfoldable pub store_atom : Allocator → List ℕ → Store → Out ℕ Store
store_atom a v s =
    settle (need (store_room a (length v) s) 15 nil (says done)) a s
    (λ d. out (bytes_node a.used.atoms) (used_atom (length v) a) (put_atom a v s))

-- ---- new_atom: 1 unsound, 2 out of memory, 3 too many atoms; a fitting value becomes small, otherwise bytes and one slot

abbrev pub limit_tests : Allocator → ℕ → Said Done
limit_tests a len = need (heap_holds a len) 2 nil (need (atoms_left a) 3 nil (says done))

unfoldable pub atom_tests : Allocator → ℕ → Store → Said Done
atom_tests a len s = need (store_sound a s) 1 nil (limit_tests a len)

-- a small atom is a ghost, of so many ghost bytes
abbrev pub small_or : Option ℕ → ℕ → Allocator → List ℕ → Store → Out ℕ Store
small_or (some n) counted a v s = out (small_node n) (ghost_atom counted a) s
small_or none counted a v s = store_atom a v s

abbrev pub atom_put : Option ℕ → Allocator → List ℕ → Store → Out ℕ Store
atom_put fit a v s = small_or fit (length v) a v s

abbrev pub new_atom : Allocator → List ℕ → Store → Out ℕ Store
new_atom a v s = settle (atom_tests a (length v) s) a s (λ d. atom_put (fits v) a v s)

-- ---- new_small_number: 1 unsound, 13 too large, 2 out of memory, 3 too many atoms

unfoldable pub small_tests : Allocator → ℕ → Said Done
small_tests a v =
    need (limits_sound a) 1 nil
    (need (leb v 67108863) 13 nil
    (limit_tests a (len_for v)))

abbrev pub new_small_number : Allocator → ℕ → Out ℕ NoLists
new_small_number a v =
    settle (small_tests a v) a no_lists (λ d. out (small_node v) (ghost_atom (len_for v) a) no_lists)

-- ---- new_u64, new_i64: shortest big-endian two's complement, zero empty, through new_atom

abbrev pub new_u64 : Allocator → ℕ → Store → Out ℕ Store
new_u64 a x s = new_atom a (int_bytes (pos x)) s

abbrev pub new_i64 : Allocator → ℤ → Store → Out ℕ Store
new_i64 a z s = new_atom a (int_bytes z) s

-- ---- new_pair: 1 unsound, 5 not valid for first, then rest; 4 too many pairs, if pairs = 62,500,000; 15 full

-- the tests beside pair slots of these lengths
abbrev pub pair_tests_at : Allocator → ℕ → ℕ → ℕ → ℕ → Said Done
pair_tests_at a first rest firsts rests =
    need (pairs_sound_at a firsts rests) 1 nil
    (need (valid_node a.used.atoms a.used.pairs first) 5 nil
    (need (valid_node a.used.atoms a.used.pairs rest) 5 nil
    (need (ltb (pairs a) 62500000) 4 nil
    (need (ltb a.used.pairs firsts && ltb a.used.pairs rests) 15 nil
    (says done)))))

unfoldable pub pair_tests : Allocator → ℕ → ℕ → PairStore → Said Done
pair_tests a first rest p = pair_tests_at a first rest (length p.pairs.firsts) (length p.pairs.rests)

abbrev pub new_pair : Allocator → ℕ → ℕ → PairStore → Out ℕ PairStore
new_pair a first rest p =
    settle (pair_tests a first rest p) a p
    (λ d. out (pair_node a.used.pairs) (used_pair a) (pair_store (put_pair a.used.pairs first rest p.pairs)))

-- ---- ghost calls: 4 or 3 if the room up to 62,500,000 is under the amount; removal 14

unfoldable pub add_ghost_pair : Allocator → ℕ → Out Done NoLists
add_ghost_pair a amount =
    settle (need (limits_sound a) 1 nil (need (leb (pairs a + amount) 62500000) 4 nil (says done))) a no_lists
    (λ d. out done (with_ghosts a.ghosts.atoms (a.ghosts.pairs + amount) a) no_lists)

unfoldable pub remove_ghost_pair : Allocator → ℕ → Out Done NoLists
remove_ghost_pair a amount =
    settle (need (limits_sound a) 1 nil (need (leb amount a.ghosts.pairs) 14 nil (says done))) a no_lists
    (λ d. out done (with_ghosts a.ghosts.atoms (a.ghosts.pairs - amount) a) no_lists)

unfoldable pub add_ghost_atom : Allocator → ℕ → Out Done NoLists
add_ghost_atom a amount =
    settle (need (limits_sound a) 1 nil (need (leb (atoms a + amount) 62500000) 3 nil (says done))) a no_lists
    (λ d. out done (with_ghosts (a.ghosts.atoms + amount) a.ghosts.pairs a) no_lists)

-- ---- new_substr: 1 unsound, 3 too many atoms, 5 not valid, 1 unsound slot, 6 a pair; then, with the node, 7 start and 8 end out of
-- bounds, 9 start past end

abbrev pub bounded : ℕ → ℕ → ℕ → Said Atom → Said Atom
bounded n start end (says x) =
    need (leb start (atom_length x)) 7 n
    (need (leb end (atom_length x)) 8 n
    (need (leb start end) 9 n
    (says x)))
bounded n start end (refuses code node) = refuses code node

unfoldable pub substr_tests : Allocator → ℕ → ℕ → ℕ → Store → Said Atom
substr_tests a n start end s =
    need (store_sound a s) 1 nil
    (need (atoms_left a) 3 nil
    (bounded n start end (atom_of a s.atoms n)))

-- a new slot over bytes that are there
unfoldable pub share_range : Allocator → ℕ → ℕ → Store → Out ℕ Store
share_range a start end s =
    settle (need (slot_room a s.atoms) 15 nil (says done)) a s
    (λ d. out (bytes_node a.used.atoms) (used_atom 0 a) (store s.bytes (put_slot a.used.atoms start end s.atoms)))

-- a part of a small atom: small if it fits, with the heap unchanged, else bytes and a slot, with no heap test
abbrev pub part_put : Option ℕ → Allocator → List ℕ → Store → Out ℕ Store
part_put fit a v s = small_or fit 0 a v s

-- of Bytes: a new slot over the same bytes, never small
abbrev pub substr_put : Atom → Allocator → ℕ → ℕ → Store → Out ℕ Store
substr_put (range from to) a start end s = share_range a (from + start) (from + end) s
substr_put (value v) a start end s =
    part_put (fits (slice start end (small_bytes v))) a (slice start end (small_bytes v)) s

abbrev pub new_substr : Allocator → ℕ → ℕ → ℕ → Store → Out ℕ Store
new_substr a n start end s = settle (substr_tests a n start end s) a s (λ x. substr_put x a start end s)

-- ---- new_concat: 1 unsound, 3 too many atoms, 2 out of memory, then the nodes

unfoldable pub concat_tests : Allocator → ℕ → Store → Said Done
concat_tests a size s =
    need (store_sound a s) 1 nil
    (need (atoms_left a) 3 nil
    (need (heap_holds a size) 2 nil
    (says done)))

-- one node: 5 not valid, 1 unsound slot, 6 a pair; length ≠ size gives 10 with nil
abbrev pub one_term : ℕ → Said Atom → Said Done
one_term size (says x) = need (eqb (atom_length x) size) 10 nil (says done)
one_term size (refuses code node) = refuses code node

-- one of several terms, after which the running length goes on: 5 not valid, 1 unsound slot, 6 a pair;
-- a Bytes term after which it is past size gives 10 with that node; a small term is added untested
abbrev pub term : ℕ → ℕ → ℕ → Said Atom → (ℕ → Said Done) → Said Done
term size n length (says (range start end)) go =
    need (leb (length + (end - start)) size) 10 n (go (length + (end - start)))
term size n length (says (value v)) go = go (length + len_for v)
term size n length (refuses code node) go = refuses code node

-- left to right, stopping at the first faulty term; at the end a wrong length gives 10 with nil
unfoldable pub scan : Allocator → AtomSlots → ℕ → List ℕ → ℕ → Said Done
scan a t size [] length = need (eqb length size) 10 nil (says done)
scan a t size (n ∷ ns) length = term size n length (atom_of a t n) (scan a t size ns)

-- the bytes of the terms, joined
abbrev pub term_bytes : List ℕ → Said Atom → List ℕ
term_bytes bytes (says x) = atom_bytes bytes x
term_bytes bytes (refuses code node) = []

unfoldable pub joined : Allocator → Store → List ℕ → List ℕ
joined a s [] = []
joined a s (n ∷ ns) = term_bytes s.bytes (atom_of a s.atoms n) ++ joined a s ns

-- no nodes: size not 0 gives 10 with nil, else nil; one: that node; two or more: always Bytes
abbrev pub concat_put : Allocator → ℕ → List ℕ → Store → Out ℕ Store
concat_put a size [] s =
    settle (need (eqb 0 size) 10 nil (says done)) a s (λ d. out nil (ghost_atom 0 a) s)
concat_put a size (n ∷ []) s =
    settle (one_term size (atom_of a s.atoms n)) a s (λ d. out n (ghost_atom size a) s)
concat_put a size (n ∷ m ∷ ns) s =
    settle (scan a s.atoms size (n ∷ m ∷ ns) 0) a s (λ d. store_atom a (joined a s (n ∷ m ∷ ns)) s)

abbrev pub new_concat : Allocator → ℕ → List ℕ → Store → Out ℕ Store
new_concat a size ns s = settle (concat_tests a size s) a s (λ d. concat_put a size ns s)

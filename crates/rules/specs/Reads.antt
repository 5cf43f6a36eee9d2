-- The calls that only read (document 01, "Rules call by call"): each gives its answer on all input.
use Rattle.std.specs.Prelude.{ℕ, ◌-◌, Bool, true, false, cond, ◌&&◌, List, [], ◌∷◌, ltb, eqb, drop}
use Rattle.std.proofs.Math.Option.{Option, none, some}
use Rattle.std.proofs.Math.Seq.{slice}
use Rattle.rules.specs.declared.Counts.{Counts}
use Rattle.rules.specs.declared.Allocator.{Allocator}
use Rattle.rules.specs.Node.{Node, pair_at, bytes_at, small, bad, view, index_of, nil}
use Rattle.rules.specs.Small.{fits, len_for, be, small_bytes}
use Rattle.rules.specs.Said.{Said, says, refuses, need, says_of}
use Rattle.rules.specs.State.{AtomSlots, PairSlots, start_at, end_at, first_at, rest_at, atoms_sound, pairs_sound, slots_sound, bytes_sound, atom_slot_sound, pair_slot_sound}

-- ---- NodePtr: 5 for a kind above 2

pub data Kind : Type 0 where
  pair_kind : Kind
  bytes_kind : Kind
  small_kind : Kind

-- the kinds, as a node's top bits number them
abbrev pub kind_number : Kind → ℕ
kind_number pair_kind = 0
kind_number bytes_kind = 1
kind_number small_kind = 2

unfoldable pub object_type_of : Node → Said Kind
object_type_of (pair_at i) = says pair_kind
object_type_of (bytes_at i) = says bytes_kind
object_type_of (small v) = says small_kind
object_type_of bad = refuses 5 nil

abbrev pub object_type : ℕ → Said Kind
object_type n = object_type_of (view n)

abbrev pub is_pair_kind : Kind → Bool
is_pair_kind pair_kind = true
is_pair_kind bytes_kind = false
is_pair_kind small_kind = false

abbrev pub is_atom_kind : Kind → Bool
is_atom_kind pair_kind = false
is_atom_kind bytes_kind = true
is_atom_kind small_kind = true

abbrev pub node_index : ℕ → Said ℕ
node_index n = says_of (λ kind. index_of n) (object_type n)

abbrev pub is_atom : ℕ → Said Bool
is_atom n = says_of is_atom_kind (object_type n)

abbrev pub is_pair : ℕ → Said Bool
is_pair n = says_of is_pair_kind (object_type n)

-- ---- a node argument: 5 not valid, then 1 unsound for its atom slot

pub data Arg : Type 0 where
  pair_arg : ℕ → Arg
  bytes_arg : (index start end : ℕ) → Arg
  small_arg : ℕ → Arg

unfoldable pub arg_of : Allocator → AtomSlots → Node → Said Arg
arg_of a t (pair_at i) = need (ltb i a.used.pairs) 5 nil (says (pair_arg i))
arg_of a t (bytes_at i) =
    need (ltb i a.used.atoms) 5 nil
    (need (atom_slot_sound a.used.bytes t i) 1 nil
    (says (bytes_arg i (start_at t i) (end_at t i))))
arg_of a t (small v) = says (small_arg v)
arg_of a t bad = refuses 5 nil

abbrev pub arg : Allocator → AtomSlots → ℕ → Said Arg
arg a t n = arg_of a t (view n)

-- where an atom's bytes are: a range of the byte store, or the value itself
pub data Atom : Type 0 where
  range : (start end : ℕ) → Atom
  value : ℕ → Atom

-- 6 for a pair, after 5 and 1
abbrev pub atom_arg : ℕ → Said Arg → Said Atom
atom_arg n (says (pair_arg i)) = refuses 6 n
atom_arg n (says (bytes_arg i start end)) = says (range start end)
atom_arg n (says (small_arg v)) = says (value v)
atom_arg n (refuses code node) = refuses code node

abbrev pub atom_of : Allocator → AtomSlots → ℕ → Said Atom
atom_of a t n = atom_arg n (arg a t n)

abbrev pub atom_length : Atom → ℕ
atom_length (range start end) = end - start
atom_length (value v) = len_for v

abbrev pub atom_bytes : List ℕ → Atom → List ℕ
atom_bytes bytes (range start end) = slice start end bytes
atom_bytes bytes (value v) = small_bytes v

-- ---- atom_len, atom: 5 not valid, 1 unsound slot, 6 a pair

unfoldable pub atom_len : Allocator → AtomSlots → ℕ → Said ℕ
atom_len a t n = need (atoms_sound a t) 1 nil (says_of atom_length (atom_of a t n))

-- the part that atom hands back is one of the byte store, or the last bytes of the scratch; 15 for a scratch of another length
abbrev pub part_of : ℕ → Said Atom → Said Atom
part_of scratch (says (range start end)) = says (range start end)
part_of scratch (says (value v)) = need (eqb scratch 4) 15 nil (says (value v))
part_of scratch (refuses code node) = refuses code node

unfoldable pub atom : Allocator → List ℕ → AtomSlots → ℕ → ℕ → Said Atom
atom a bytes t n scratch = need (bytes_sound a bytes t) 1 nil (part_of scratch (atom_of a t n))

-- the scratch then holds a small atom's value big-endian; else it is left as it was
abbrev pub scratch_after : Said Atom → List ℕ → List ℕ
scratch_after (says (range start end)) scratch = scratch
scratch_after (says (value v)) scratch = be 4 v
scratch_after (refuses code node) scratch = scratch

-- the bytes of the part; none on a refusal
abbrev pub part_bytes : List ℕ → List ℕ → Said Atom → List ℕ
part_bytes bytes scratch (says (range start end)) = slice start end bytes
part_bytes bytes scratch (says (value v)) = drop (4 - len_for v) scratch
part_bytes bytes scratch (refuses code node) = []

-- ---- small_number: 5 not valid, 1 unsound slot; a pair has none

abbrev pub number_of : List ℕ → Arg → Option ℕ
number_of bytes (pair_arg i) = none
number_of bytes (bytes_arg i start end) = fits (slice start end bytes)
number_of bytes (small_arg v) = some v

unfoldable pub small_number : Allocator → List ℕ → AtomSlots → ℕ → Said (Option ℕ)
small_number a bytes t n = need (bytes_sound a bytes t) 1 nil (says_of (number_of bytes) (arg a t n))

-- ---- atom_eq: 5 not valid and 1 unsound slot of the left, then of the right; then 6 a pair, with the left if it is one, else the right

unfoldable pub same_bytes : List ℕ → List ℕ → Bool
same_bytes [] [] = true
same_bytes [] (y ∷ ys) = false
same_bytes (x ∷ xs) [] = false
same_bytes (x ∷ xs) (y ∷ ys) = eqb x y && same_bytes xs ys

abbrev pub eq_atoms : List ℕ → Said Atom → Said Atom → Said Bool
eq_atoms bytes (says x) (says y) = says (same_bytes (atom_bytes bytes x) (atom_bytes bytes y))
eq_atoms bytes (refuses code node) y = refuses code node
eq_atoms bytes (says x) (refuses code node) = refuses code node

-- both arguments pass 5 and 1 before either is told that it is a pair
abbrev pub eq_args : List ℕ → ℕ → ℕ → Said Arg → Said Arg → Said Bool
eq_args bytes left right (refuses code node) y = refuses code node
eq_args bytes left right (says x) (refuses code node) = refuses code node
eq_args bytes left right (says x) (says y) = eq_atoms bytes (atom_arg left (says x)) (atom_arg right (says y))

unfoldable pub atom_eq : Allocator → List ℕ → AtomSlots → ℕ → ℕ → Said Bool
atom_eq a bytes t left right =
    need (bytes_sound a bytes t) 1 nil (eq_args bytes left right (arg a t left) (arg a t right))

-- ---- node, sexp, next: 5 not valid, then 1 unsound for the slot read

pub data Visited : Type 0 where
  buffer : (start end : ℕ) → Visited
  number : ℕ → Visited
  children : (first rest : ℕ) → Visited

-- the children of pair i: its slot for 1
unfoldable pub children_of : {A : Type 0} → Allocator → PairSlots → ℕ → (ℕ → ℕ → A) → Said A
children_of a p i f =
    need (pair_slot_sound a.used.atoms p i) 1 nil (says (f (first_at p i) (rest_at p i)))

abbrev pub visited : Allocator → PairSlots → Said Arg → Said Visited
visited a p (says (pair_arg i)) = children_of a p i children
visited a p (says (bytes_arg i start end)) = says (buffer start end)
visited a p (says (small_arg v)) = says (number v)
visited a p (refuses code node) = refuses code node

unfoldable pub node : Allocator → AtomSlots → PairSlots → ℕ → Said Visited
node a t p n = need (slots_sound a t p) 1 nil (visited a p (arg a t n))

-- sexp and next read pair slots only
pub data Sexp : Type 0 where
  atomic : Sexp
  branch : (first rest : ℕ) → Sexp

abbrev pub sexp_of : Allocator → PairSlots → Node → Said Sexp
sexp_of a p (pair_at i) = need (ltb i a.used.pairs) 5 nil (children_of a p i branch)
sexp_of a p (bytes_at i) = need (ltb i a.used.atoms) 5 nil (says atomic)
sexp_of a p (small v) = says atomic
sexp_of a p bad = refuses 5 nil

unfoldable pub sexp : Allocator → PairSlots → ℕ → Said Sexp
sexp a p n = need (pairs_sound a p) 1 nil (sexp_of a p (view n))

-- ---- checkpoint_node_status: 5 first

pub data Status : Type 0 where
  before : Status
  after_new_bytes : Status
  after_old_bytes : (start end : ℕ) → Status

-- small: Before; a pair or Bytes below the checkpoint's count: Before; a later pair: AfterNewBytes;
-- later Bytes: AfterOldBytes if start is below the checkpoint's bytes, else AfterNewBytes
abbrev pub status_of : Counts → Arg → Status
status_of k (pair_arg i) = cond (ltb i k.pairs) before after_new_bytes
status_of k (bytes_arg i start end) =
    cond (ltb i k.atoms) before (cond (ltb start k.bytes) (after_old_bytes start end) after_new_bytes)
status_of k (small_arg v) = before

-- the slot is tested for 1 only where it is read: later Bytes
abbrev pub node_status_of : Counts → Allocator → AtomSlots → Node → Said Status
node_status_of k a t (pair_at i) = need (ltb i a.used.pairs) 5 nil (says (status_of k (pair_arg i)))
node_status_of k a t (bytes_at i) =
    need (ltb i a.used.atoms) 5 nil
    (cond (ltb i k.atoms) (says before)
    (need (atom_slot_sound a.used.bytes t i) 1 nil
    (says (status_of k (bytes_arg i (start_at t i) (end_at t i))))))
node_status_of k a t (small v) = says before
node_status_of k a t bad = refuses 5 nil

unfoldable pub node_status : Counts → Allocator → AtomSlots → ℕ → Said Status
node_status k a t n = need (atoms_sound a t) 1 nil (node_status_of k a t (view n))

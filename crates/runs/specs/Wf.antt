-- Well-formed states as facts, and when a state extends another (document 01, "What a state is").
use Rattle.std.specs.Prelude.{ℕ, ◌+◌, ◌*◌, ◌≤◌, ◌<◌, ◌≡◌, List, length, take}
use Rattle.rules.specs.declared.Allocator.{Allocator}
use Rattle.rules.specs.Node.{Node, pair_at, bytes_at, small, bad, view}
use Rattle.rules.specs.Small.{Octets}
use Rattle.rules.specs.State.{AtomSlots, PairSlots, Lists, start_at, end_at, first_at, rest_at, atoms, pairs, heap}
use Rattle.rules.specs.Whole.{St}

-- valid: the kind is at most 2, and a pair or Bytes index is below the used count
abbrev pub Valid : ℕ → ℕ → Node → Type 0
Valid atoms pairs (pair_at i) = i < pairs
Valid atoms pairs (bytes_at i) = i < atoms
Valid atoms pairs (small v) = Unit {0}
Valid atoms pairs bad = ⊥

-- a node number is valid in a state
abbrev pub ValidIn : St → ℕ → Type 0
ValidIn s n = Valid s.rec.used.atoms s.rec.used.pairs (view n)

-- sound record: the used counts fit the lists; bytes, limit, atoms and pairs are within their bounds; heap at most limit + 3 × atoms
pub record Sound (a : Allocator) (l : Lists) : Type 0 where
  pub bytes_fit : a.used.bytes ≤ length l.bytes
  pub starts_fit : a.used.atoms ≤ length l.atoms.starts
  pub ends-fit : a.used.atoms ≤ length l.atoms.ends
  pub firsts-fit : a.used.pairs ≤ length l.pairs.firsts
  pub rests-fit : a.used.pairs ≤ length l.pairs.rests
  pub bytes_most : a.used.bytes ≤ 4294967295
  pub limit-most : a.limit ≤ 4294967295
  pub atoms-most : atoms a ≤ 62500000
  pub pairs-most : pairs a ≤ 62500000
  pub heap-most : heap a ≤ a.limit + 3 * atoms a

-- sound atom slot: start ≤ end ≤ used bytes
pub record SlotOk (bytes start end : ℕ) : Type 0 where
  pub order : start ≤ end
  pub inside : end ≤ bytes

-- sound pair slot: both nodes valid, a pair child's index below the slot's own
pub record PairOk (atoms i first rest : ℕ) : Type 0 where
  pub first_ok : Valid atoms i (view first)
  pub rest_ok : Valid atoms i (view rest)

-- all used slots are sound
pub record Shape (s : St) : Type 0 where
  pub slot : (i : ℕ) → i < s.rec.used.atoms
      → SlotOk s.rec.used.bytes (start_at s.lists.atoms i) (end_at s.lists.atoms i)
  pub pair : (i : ℕ) → i < s.rec.used.pairs
      → PairOk s.rec.used.atoms i (first_at s.lists.pairs i) (rest_at s.lists.pairs i)

-- well-formed; that the byte list holds bytes is what its type says in the code
pub record WF (s : St) : Type 0 where
  pub sound : Sound s.rec s.lists
  pub shape : Shape s
  pub octets : Octets s.lists.bytes

-- ---- the used contents

-- the first n entries are the same
abbrev pub Agree : ℕ → List ℕ → List ℕ → Type 0
Agree n l l' = take n l ≡ take n l'

pub record SameAtoms (n : ℕ) (t t' : AtomSlots) : Type 0 where
  pub starts : Agree n t.starts t'.starts
  pub ends : Agree n t.ends t'.ends

pub record SamePairs (n : ℕ) (t t' : PairSlots) : Type 0 where
  pub firsts : Agree n t.firsts t'.firsts
  pub rests : Agree n t.rests t'.rests

-- what k uses of its lists holds in l what it holds in k
pub record Same (k : St) (l : Lists) : Type 0 where
  pub bytes : Agree k.rec.used.bytes l.bytes k.lists.bytes
  pub atoms : SameAtoms k.rec.used.atoms l.atoms k.lists.atoms
  pub pairs : SamePairs k.rec.used.pairs l.pairs k.lists.pairs

-- the lists l have room for all that l' have: the slots lent are the same, or longer ones
pub record RoomAtoms (t t' : AtomSlots) : Type 0 where
  pub starts : length t'.starts ≤ length t.starts
  pub ends : length t'.ends ≤ length t.ends

pub record RoomPairs (t t' : PairSlots) : Type 0 where
  pub firsts : length t'.firsts ≤ length t.firsts
  pub rests : length t'.rests ≤ length t.rests

pub record Room (l l' : Lists) : Type 0 where
  pub bytes : length l'.bytes ≤ length l.bytes
  pub atoms : RoomAtoms l.atoms l'.atoms
  pub pairs : RoomPairs l.pairs l'.pairs

-- ---- one state extends another

-- where an atom slot made after k lies: past k's bytes, or within one of k's own slots
pub data From (k : St) (start end : ℕ) : Type 0 where
  past : k.rec.used.bytes ≤ start → From k start end
  part : (j : ℕ) → j < k.rec.used.atoms → start_at k.lists.atoms j ≤ start → end ≤ end_at k.lists.atoms j → From k start end

-- s has all that k uses, unchanged, and perhaps more; ghosts may differ
pub record Ext (k s : St) : Type 0 where
  pub limit : s.rec.limit ≡ k.rec.limit
  pub bytes : k.rec.used.bytes ≤ s.rec.used.bytes
  pub atoms : k.rec.used.atoms ≤ s.rec.used.atoms
  pub pairs : k.rec.used.pairs ≤ s.rec.used.pairs
  pub same : Same k s.lists
  pub room : Room s.lists k.lists
  pub later : (i : ℕ) → k.rec.used.atoms ≤ i → i < s.rec.used.atoms → From k (start_at s.lists.atoms i) (end_at s.lists.atoms i)

-- s is well-formed and extends k
pub record On (k s : St) : Type 0 where
  pub wf : WF s
  pub ext : Ext k s

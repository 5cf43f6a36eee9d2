-- What a call leaves of a whole state: refused, all as it was; accepted, so much more counted, and a node that shows so much.
use Rattle.std.specs.Prelude.{ℕ, ◌+◌, ◌≤◌, ◌≡◌, List, [], ◌∷◌, ◌++◌, length}
use Rattle.std.proofs.Math.Option.{Option, none, some}
use Rattle.std.proofs.Math.Seq.{slice}
use Rattle.rules.specs.declared.Allocator.{Allocator}
use Rattle.rules.specs.Node.{Node, pair_at, bytes_at, small, bad, view, pair_node, bytes_node, small_node, nil}
use Rattle.rules.specs.Small.{fits, len_for, small_bytes}
use Rattle.rules.specs.Said.{says, refuses, Done}
use Rattle.rules.specs.State.{Lists, atoms, pairs, heap}
use Rattle.rules.specs.Tree.{Tree, leaf, fork, tree}
use Rattle.rules.specs.Whole.{St, Whole}
use Rattle.runs.specs.Wf.{ValidIn, On}

-- a refusal leaves the state as it was; an answer x leaves one of which P holds
pub data Outcome {A : Type 0} (s : St) (P : A → St → Type 0) : Whole A → Type 0 where
  refused : (code node : ℕ) → Outcome s P (record { said = refuses code node; next = s })
  accepted : (x : A) (s' : St) → P x s' → Outcome s P (record { said = says x; next = s' })

-- a refusal changes nothing (demand 1 of document 00); of an answer nothing is said
abbrev pub Harmless : {A : Type 0} → St → Whole A → Type 0
Harmless s o = Outcome s (λ x s'. Unit {0}) o

-- ---- the record

-- each total is what it was and so much more
pub record Counted (more-atoms more-pairs more-heap : ℕ) (a a' : Allocator) : Type 0 where
  pub atoms_now : atoms a' ≡ atoms a + more-atoms
  pub pairs_now : pairs a' ≡ pairs a + more-pairs
  pub heap_now : heap a' ≡ heap a + more-heap

-- each used count is what it was and so much more
pub record Used (more-slots more-pairs more_bytes : ℕ) (a a' : Allocator) : Type 0 where
  pub slots_now : a'.used.atoms ≡ a.used.atoms + more-slots
  pub pairs_now : a'.used.pairs ≡ a.used.pairs + more-pairs
  pub bytes_now : a'.used.bytes ≡ a.used.bytes + more_bytes

-- what a call that makes a node answers, and what it adds to the totals and to the used counts
pub record Effect : Type 0 where
  pub node : ℕ
  pub atoms : ℕ
  pub pairs : ℕ
  pub heap : ℕ
  pub slots : ℕ
  pub bytes : ℕ

-- an atom that is counted and takes nothing: a small one, or a node that is there already
abbrev pub ghostly : ℕ → ℕ → Effect
ghostly n len = record { node = n; atoms = 1; pairs = 0; heap = len; slots = 0; bytes = 0 }

-- bytes and one slot
abbrev pub stored : ℕ → St → Effect
stored len s = record { node = bytes_node s.rec.used.atoms; atoms = 1; pairs = 0; heap = len; slots = 1; bytes = len }

-- one slot, over bytes that are there
abbrev pub shared : St → Effect
shared s = record { node = bytes_node s.rec.used.atoms; atoms = 1; pairs = 0; heap = 0; slots = 1; bytes = 0 }

abbrev pub paired : St → Effect
paired s = record { node = pair_node s.rec.used.pairs; atoms = 0; pairs = 1; heap = 0; slots = 0; bytes = 0 }

-- small where the bytes fit, with len of ghost heap; else bytes and one slot
abbrev pub fitted : Option ℕ → ℕ → List ℕ → St → Effect
fitted (some v) len l s = ghostly (small_node v) len
fitted none len l s = stored (length l) s

-- of Bytes one slot; of a small atom small where the part fits, the heap unchanged, else bytes and one slot
abbrev pub parted : Node → ℕ → ℕ → St → Effect
parted (pair_at i) start end s = shared s
parted (bytes_at i) start end s = shared s
parted (small v) start end s = fitted (fits (slice start end (small_bytes v))) 0 (slice start end (small_bytes v)) s
parted bad start end s = shared s

-- of no nodes nil; of one that node; of more always Bytes
abbrev pub joined_as : List ℕ → ℕ → St → Effect
joined_as [] size s = ghostly nil size
joined_as (n ∷ []) size s = ghostly n size
joined_as (n ∷ m ∷ ns) size s = stored size s

-- ---- what a node shows

-- the bytes of an atom
abbrev pub bytes_of : Tree → List ℕ
bytes_of (leaf v) = v
bytes_of (fork x y) = []

abbrev pub shown : Lists → ℕ → List ℕ
shown l n = bytes_of (tree l n)

-- the bytes of several atoms, joined
abbrev pub shown_all : Lists → List ℕ → List ℕ
shown_all l [] = []
shown_all l (n ∷ ns) = shown l n ++ shown_all l ns

-- ---- the calls

-- a call that makes a node: the state is well-formed again and extends what it was, the record counts the node, and it shows t
pub record Made (s : St) (e : Effect) (t : Tree) (n : ℕ) (s' : St) : Type 0 where
  pub on : On s s'
  pub node-is : n ≡ e.node
  pub counted : Counted e.atoms e.pairs e.heap s.rec s'.rec
  pub used : Used e.slots e.pairs e.bytes s.rec s'.rec
  pub valid : ValidIn s' n
  pub shows : tree s'.lists n ≡ t

-- accepted only where C holds, with that effect
pub record Under (C P : Type 0) : Type 0 where
  pub given : C
  pub made : P

abbrev pub Makes : St → Type 0 → Effect → Tree → Whole ℕ → Type 0
Makes s C e t = Outcome s (λ n s'. Under C (Made s e t n s'))

-- the heap stays within the limit (code 2)
abbrev pub Within : St → ℕ → Type 0
Within s more = heap s.rec + more ≤ s.rec.limit

-- new_atom, new_u64 and new_i64 of the bytes v
abbrev pub MakesAtom : St → List ℕ → Whole ℕ → Type 0
MakesAtom s v = Makes s (Within s (length v)) (fitted (fits v) (length v) v s) (leaf v)

-- new_small_number: the value has 26 bits
abbrev pub MakesNumber : St → ℕ → Whole ℕ → Type 0
MakesNumber s v = Makes s (Within s (len_for v) × v ≤ 67108863) (ghostly (small_node v) (len_for v)) (leaf (small_bytes v))

-- new_pair: both children are valid
abbrev pub MakesPair : St → ℕ → ℕ → Whole ℕ → Type 0
MakesPair s first rest = Makes s (ValidIn s first × ValidIn s rest) (paired s) (fork (tree s.lists first) (tree s.lists rest))

-- a valid node that is an atom
pub record AtomIn (s : St) (n : ℕ) : Type 0 where
  pub valid : ValidIn s n
  pub leaf-is : tree s.lists n ≡ leaf (shown s.lists n)

abbrev pub AllAtoms : St → List ℕ → Type 0
AllAtoms s [] = Unit {0}
AllAtoms s (n ∷ ns) = AtomIn s n × AllAtoms s ns

-- new_substr: the node is an atom, and the part lies within its bytes
pub record PartGiven (s : St) (n start end : ℕ) : Type 0 where
  pub node : AtomIn s n
  pub order : start ≤ end
  pub inside : end ≤ length (shown s.lists n)

abbrev pub MakesPart : St → ℕ → ℕ → ℕ → Whole ℕ → Type 0
MakesPart s n start end = Makes s (PartGiven s n start end) (parted (view n) start end s) (leaf (slice start end (shown s.lists n)))

-- new_concat: the nodes are atoms, the size is the length of their bytes, and the heap stays within the limit
pub record JoinGiven (s : St) (size : ℕ) (ns : List ℕ) : Type 0 where
  pub nodes : AllAtoms s ns
  pub size_is : length (shown_all s.lists ns) ≡ size
  pub within : Within s size

abbrev pub MakesJoin : St → ℕ → List ℕ → Whole ℕ → Type 0
MakesJoin s size ns = Makes s (JoinGiven s size ns) (joined_as ns size s) (leaf (shown_all s.lists ns))

-- a ghost call
pub record Moved (s : St) (more-atoms more-pairs : ℕ) (x : Done) (s' : St) : Type 0 where
  pub on : On s s'
  pub counted : Counted more-atoms more-pairs 0 s.rec s'.rec
  pub used : Used 0 0 0 s.rec s'.rec

-- ghost pairs taken off
pub record Fewer (s : St) (fewer-pairs : ℕ) (x : Done) (s' : St) : Type 0 where
  pub on : On s s'
  pub counted : Counted 0 fewer-pairs 0 s'.rec s.rec
  pub used : Used 0 0 0 s.rec s'.rec

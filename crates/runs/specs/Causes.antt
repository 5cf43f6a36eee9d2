-- Why a call is refused in a well-formed state: document 01's codes with their nodes, in the order of its tests. Code 1 is not among them.
use Rattle.std.specs.Prelude.{ℕ, ◌+◌, ◌≤◌, ◌<◌, ◌≡◌, ◌≢◌, List, [], ◌∷◌, pos, length}
use Rattle.rules.specs.Node.{pair_at, bytes_at, small, view, nil}
use Rattle.rules.specs.Small.{fits, len_for}
use Rattle.rules.specs.Integer.{int_bytes}
use Rattle.rules.specs.Said.{Said, says, refuses}
use Rattle.rules.specs.State.{atoms, pairs, heap}
use Rattle.rules.specs.Whole.{St, Making, atom, small-number, u64, i64, pair, substr, concat, ghost_pairs, fewer_ghost_pairs, ghost_atoms}
use Rattle.runs.specs.Wf.{ValidIn}
use Rattle.runs.specs.Makes.{Effect, fitted, paired, parted, joined_as, shown, Within, AtomIn, PartGiven, JoinGiven}

-- a refusal has a cause
abbrev pub RefusedBy : {A : Type 0} → (ℕ → ℕ → Type 0) → Said A → Type 0
RefusedBy R (says x) = Unit {0}
RefusedBy R (refuses code node) = R code node

-- ---- what a call may lack

-- 2: heap + so much is past the limit
abbrev pub Beyond : St → ℕ → Type 0
Beyond s more = s.rec.limit < heap s.rec + more

-- 3: atoms = 62,500,000, or not
abbrev pub Full : St → Type 0
Full s = atoms s.rec ≡ 62500000

abbrev pub Free : St → Type 0
Free s = atoms s.rec < 62500000

-- 15: the lent slices (or 4,294,967,295 bytes) hold the result
pub record RoomFor (s : St) (e : Effect) : Type 0 where
  pub most : s.rec.used.bytes + e.bytes ≤ 4294967295
  pub bytes : s.rec.used.bytes + e.bytes ≤ length s.lists.bytes
  pub starts : s.rec.used.atoms + e.slots ≤ length s.lists.atoms.starts
  pub ends : s.rec.used.atoms + e.slots ≤ length s.lists.atoms.ends
  pub firsts : s.rec.used.pairs + e.pairs ≤ length s.lists.pairs.firsts
  pub rests : s.rec.used.pairs + e.pairs ≤ length s.lists.pairs.rests

-- ---- the calls

-- new_atom, new_u64 and new_i64 of the bytes v
pub data AtomCause (s : St) (v : List ℕ) : ℕ → ℕ → Type 0 where
  memory : Beyond s (length v) → AtomCause s v 2 nil
  full : Within s (length v) → Full s → AtomCause s v 3 nil
  room : Within s (length v) → Free s → (RoomFor s (fitted (fits v) (length v) v s) → ⊥) → AtomCause s v 15 nil

pub data NumberCause (s : St) (v : ℕ) : ℕ → ℕ → Type 0 where
  large : 67108863 < v → NumberCause s v 13 nil
  memory : v ≤ 67108863 → Beyond s (len_for v) → NumberCause s v 2 nil
  full : v ≤ 67108863 → Within s (len_for v) → Full s → NumberCause s v 3 nil

pub data PairCause (s : St) (first rest : ℕ) : ℕ → ℕ → Type 0 where
  bad_first : (ValidIn s first → ⊥) → PairCause s first rest 5 nil
  bad_rest : ValidIn s first → (ValidIn s rest → ⊥) → PairCause s first rest 5 nil
  full : ValidIn s first → ValidIn s rest → pairs s.rec ≡ 62500000 → PairCause s first rest 4 nil
  room : ValidIn s first → ValidIn s rest → pairs s.rec < 62500000 → (RoomFor s (paired s) → ⊥) → PairCause s first rest 15 nil

-- the ghost calls
pub data MorePairsCause (s : St) (amount : ℕ) : ℕ → ℕ → Type 0 where
  many : 62500000 < pairs s.rec + amount → MorePairsCause s amount 4 nil

pub data FewerPairsCause (s : St) (amount : ℕ) : ℕ → ℕ → Type 0 where
  few : s.rec.ghosts.pairs < amount → FewerPairsCause s amount 14 nil

pub data MoreAtomsCause (s : St) (amount : ℕ) : ℕ → ℕ → Type 0 where
  many : 62500000 < atoms s.rec + amount → MoreAtomsCause s amount 3 nil

-- a node that must be an atom
pub data NodeCause (s : St) (n : ℕ) : ℕ → ℕ → Type 0 where
  invalid : (ValidIn s n → ⊥) → NodeCause s n 5 nil
  a_pair : (i : ℕ) → view n ≡ pair_at i → i < s.rec.used.pairs → NodeCause s n 6 n

pub data PartCause (s : St) (n start end : ℕ) : ℕ → ℕ → Type 0 where
  full : Full s → PartCause s n start end 3 nil
  node : {code m : ℕ} → Free s → NodeCause s n code m → PartCause s n start end code m
  start_past : Free s → AtomIn s n → length (shown s.lists n) < start → PartCause s n start end 7 n
  end-past : Free s → AtomIn s n → start ≤ length (shown s.lists n) → length (shown s.lists n) < end → PartCause s n start end 8 n
  order : Free s → AtomIn s n → start ≤ length (shown s.lists n) → end ≤ length (shown s.lists n) → end < start → PartCause s n start end 9 n
  room : Free s → PartGiven s n start end → (RoomFor s (parted (view n) start end s) → ⊥) → PartCause s n start end 15 nil

-- several terms, len bytes before them: the first faulty one, or at the end a wrong length
pub data ScanCause (s : St) (size : ℕ) : List ℕ → ℕ → ℕ → ℕ → Type 0 where
  wrong : {len : ℕ} → len ≢ size → ScanCause s size [] len 10 nil
  node : {n : ℕ} {ns : List ℕ} {len code m : ℕ} → NodeCause s n code m → ScanCause s size (n ∷ ns) len code m
  past_size : {n : ℕ} {ns : List ℕ} {len : ℕ} (i : ℕ) → AtomIn s n → view n ≡ bytes_at i → size < len + length (shown s.lists n)
      → ScanCause s size (n ∷ ns) len 10 n
  after-bytes : {n : ℕ} {ns : List ℕ} {len code m : ℕ} (i : ℕ) → AtomIn s n → view n ≡ bytes_at i → len + length (shown s.lists n) ≤ size
      → ScanCause s size ns (len + length (shown s.lists n)) code m → ScanCause s size (n ∷ ns) len code m
  after_small : {n : ℕ} {ns : List ℕ} {len code m : ℕ} (v : ℕ) → AtomIn s n → view n ≡ small v
      → ScanCause s size ns (len + length (shown s.lists n)) code m → ScanCause s size (n ∷ ns) len code m

pub data JoinCause (s : St) (size : ℕ) : List ℕ → ℕ → ℕ → Type 0 where
  full : {ns : List ℕ} → Full s → JoinCause s size ns 3 nil
  memory : {ns : List ℕ} → Free s → Beyond s size → JoinCause s size ns 2 nil
  none_wrong : Free s → Within s size → 0 ≢ size → JoinCause s size [] 10 nil
  one_node : {n code m : ℕ} → Free s → Within s size → NodeCause s n code m → JoinCause s size (n ∷ []) code m
  one_wrong : {n : ℕ} → Free s → Within s size → AtomIn s n → length (shown s.lists n) ≢ size → JoinCause s size (n ∷ []) 10 nil
  terms : {n m code l : ℕ} {ns : List ℕ} → Free s → Within s size → ScanCause s size (n ∷ m ∷ ns) 0 code l → JoinCause s size (n ∷ m ∷ ns) code l
  room : {ns : List ℕ} → Free s → JoinGiven s size ns → (RoomFor s (joined_as ns size s) → ⊥) → JoinCause s size ns 15 nil

-- of one call
abbrev pub Cause : Making → St → ℕ → ℕ → Type 0
Cause (atom v) s = AtomCause s v
Cause (small-number v) s = NumberCause s v
Cause (u64 x) s = AtomCause s (int_bytes (pos x))
Cause (i64 z) s = AtomCause s (int_bytes z)
Cause (pair first rest) s = PairCause s first rest
Cause (substr n start end) s = PartCause s n start end
Cause (concat size ns) s = JoinCause s size ns
Cause (ghost_pairs amount) s = MorePairsCause s amount
Cause (fewer_ghost_pairs amount) s = FewerPairsCause s amount
Cause (ghost_atoms amount) s = MoreAtomsCause s amount

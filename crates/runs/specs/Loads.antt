-- Loading a program file as the calls that it makes (document 02, W1): those of a tree, those of a file, and what a load leaves.
use Rattle.std.specs.Prelude.{ℕ, ◌<◌, ◌≡◌, List, length}
use Rattle.std.proofs.Math.Seq.{slice}
use Rattle.rules.specs.Node.{nil}
use Rattle.rules.specs.Small.{fits}
use Rattle.rules.specs.Said.{says, refuses, done}
use Rattle.rules.specs.State.{pairs}
use Rattle.rules.specs.Tree.{Tree, leaf, fork}
use Rattle.rules.specs.Whole.{St, Whole, after, new_atom, new_pair, plain}
use Rattle.runs.specs.Wf.{ValidIn}
use Rattle.runs.specs.Makes.{fitted, paired, Within}
use Rattle.runs.specs.Causes.{Beyond, Full, Free, RoomFor}

-- ---- the calls that make a tree

-- an atom by new_atom; first, rest, then new_pair
unfoldable pub build : Tree → St → Whole ℕ
build (leaf v) s = new_atom v s
build (fork x y) s = after (build x s) λ first t. after (build y t) λ rest u. new_pair first rest u

-- ---- the calls that a file makes

-- accepted calls lead from s to here: new_atom of a range of the file, and new_pair
pub data Calls (f : List ℕ) (s : St) : St → Type 0 where
  no_call : Calls f s s
  atom-call : {t : St} → Calls f s t → (from to n : ℕ) → (new_atom (slice from to f) t).said ≡ says n → Calls f s (new_atom (slice from to f) t).next
  pair-call : {t : St} → Calls f s t → (first rest n : ℕ) → (new_pair first rest t).said ≡ says n → Calls f s (new_pair first rest t).next

-- why a load stops in a well-formed state t: its file is at fault (the crate loads says where), or the call that comes next is refused.
-- Neither 1 nor 5 is among the codes.
pub data Stops (f : List ℕ) (t : St) : ℕ → Type 0 where
  bad_encoding : Stops f t 17
  too_deep : Stops f t 18
  memory : (from to : ℕ) → Beyond t (length (slice from to f)) → Stops f t 2
  atoms-full : (from to : ℕ) → Within t (length (slice from to f)) → Full t → Stops f t 3
  pairs-full : pairs t.rec ≡ 62500000 → Stops f t 4
  no_atom_room : (from to : ℕ) → Within t (length (slice from to f)) → Free t
      → (RoomFor t (fitted (fits (slice from to f)) (length (slice from to f)) (slice from to f) t) → ⊥) → Stops f t 15
  no_pair_room : pairs t.rec < 62500000 → (RoomFor t (paired t) → ⊥) → Stops f t 15

-- ---- what a load leaves

-- of every state: accepted, what its calls left; refused, the record as it was beside the lists that they left
pub data LoadLeaves (f : List ℕ) (s : St) : Whole ℕ → Type 0 where
  accepted : {t : St} (n : ℕ) → Calls f s t → LoadLeaves f s (record { said = says n; next = t })
  refused : {t : St} (code node : ℕ) → Calls f s t
      → LoadLeaves f s (record { said = refuses code node; next = record { rec = s.rec; lists = t.lists } })

-- of a well-formed one: accepted with a node that is valid there; refused for a cause, and then as after a plain restore to its start
pub data LoadIs (f : List ℕ) (s : St) : Whole ℕ → Type 0 where
  accepted : {t : St} (n : ℕ) → Calls f s t → ValidIn t n → LoadIs f s (record { said = says n; next = t })
  refused : {t : St} (code : ℕ) → Calls f s t → Stops f t code → (plain s t).said ≡ says done
      → LoadIs f s (record { said = refuses code nil; next = (plain s t).next })

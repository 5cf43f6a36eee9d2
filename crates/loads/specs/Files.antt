-- What loading a file comes to (document 02, W1): which files are accepted, what the root shows, and where and why a load stops.
use Rattle.std.specs.Prelude.{ℕ, ◌≤◌, ◌≡◌, ◌≢◌, true, false, List, length}
use Rattle.std.proofs.Math.Seq.{slice}
use Rattle.rules.specs.Node.{nil}
use Rattle.rules.specs.Said.{says, refuses}
use Rattle.rules.specs.State.{lists_sound}
use Rattle.rules.specs.Tree.{Tree, tree}
use Rattle.rules.specs.Serial.{Form, height, opening, string, token, Parsed, parsed, fault, parse}
use Rattle.rules.specs.Load.{Reading, reading, levels_of}
use Rattle.rules.specs.Whole.{St, Whole, or_back, new_atom, new_pair, load}
use Rattle.runs.specs.Wf.{ValidIn, On}
use Rattle.runs.specs.Loads.{build, Calls}
use Rattle.saves.specs.Saves.{save}

-- what a file is, whatever the memory
abbrev pub parse_file : List ℕ → Parsed
parse_file f = parse f levels_of 0

-- ---- answers

abbrev pub answer : ℕ → St → Whole ℕ
answer n s = record { said = says n; next = s }

abbrev pub Refused : Whole ℕ → ℕ → ℕ → Type 0
Refused o code node = o.said ≡ refuses code node

-- ---- a file that is accepted

-- the record is sound beside the lists, the whole file is a tree's, and the calls that make the tree are all accepted, with node n and the state s'
pub record Loads (f : List ℕ) (s : St) (n : ℕ) (s' : St) : Type 0 where
  pub sound : lists_sound s.rec s.lists ≡ true
  pub root : Tree
  pub parses : parse_file f ≡ parsed root (length f)
  pub builds : build root s ≡ answer n s'

-- the same by the serialised form: the whole file is a form of a tree of at most so many levels
pub record LoadsForm (f : List ℕ) (s : St) (n : ℕ) (s' : St) : Type 0 where
  pub sound : lists_sound s.rec s.lists ≡ true
  pub root : Tree
  pub form : Form root f
  pub levels_fit : height root ≤ levels_of
  pub builds : build root s ≡ answer n s'

-- n shows t in s', which is well-formed and extends s
pub record Shows (s : St) (t : Tree) (n : ℕ) (s' : St) : Type 0 where
  pub on : On s s'
  pub valid : ValidIn s' n
  pub shows : tree s'.lists n ≡ t

-- n shows the tree of the file
pub record ShowsFile (f : List ℕ) (s : St) (n : ℕ) (s' : St) : Type 0 where
  pub root : Tree
  pub parses : parse_file f ≡ parsed root (length f)
  pub shows : Shows s root n s'

-- ---- where a load stops, and why

-- the call of the item at a place is refused in the state t: an atom's, or a pair's once both its parts are made
pub data CallRefused (f : List ℕ) (t : St) (code node place : ℕ) : Type 0 where
  atom-refused : (from to : ℕ) → token f place ≡ string from to → Refused (new_atom (slice from to f) t) code node → CallRefused f t code node place
  pair-refused : (first rest : ℕ) → token f place ≡ opening → Refused (new_pair first rest t) code node → CallRefused f t code node place

-- a refused load: a code, its node, and where the item at fault starts
pub data LoadStops (f : List ℕ) (s : St) : ℕ → ℕ → ℕ → Type 0 where
  unsound : lists_sound s.rec s.lists ≡ false → LoadStops f s 1 nil 0
  at-fault : {code place : ℕ} → parse_file f ≡ fault code place → LoadStops f s code nil place
  bytes_left : {place : ℕ} (t : Tree) → parse_file f ≡ parsed t place → place ≢ length f → LoadStops f s 17 nil place
  at_call : {t : St} {code node place : ℕ} → Calls f s t → CallRefused f t code node place → LoadStops f s code node place

-- what of it is the file's
pub data FileStops (f : List ℕ) : ℕ → ℕ → ℕ → Type 0 where
  at-fault : {code place : ℕ} → parse_file f ≡ fault code place → FileStops f code nil place
  bytes_left : {place : ℕ} (t : Tree) → parse_file f ≡ parsed t place → place ≢ length f → FileStops f 17 nil place

-- what a load gives of a file that has a fault at a place: that code and place, or the refusal of a call made before it was met
pub data Stopped (f : List ℕ) (s : St) (code place : ℕ) : Reading → Type 0 where
  by_file : {t : St} → Calls f s t → Stopped f s code place (reading (refuses code nil) place s.rec t.lists)
  by_call : {t : St} (c n p : ℕ) → Calls f s t → CallRefused f t c n p → Stopped f s code place (reading (refuses c n) p s.rec t.lists)

-- ---- what was saved in s, loaded in s'

-- the bytes that a save of n wrote
abbrev pub file_of : ℕ → ℕ → List ℕ → St → List ℕ
file_of len n file s = slice 0 len (save n file s).file

-- the load makes the calls of the very tree that n shows, so that only they can refuse it; and a root that it answers shows an equal tree
pub record ReadsBack (f : List ℕ) (t : Tree) (s' : St) : Type 0 where
  pub builds : load f s' ≡ or_back s' (build t s')
  pub shows : (m : ℕ) → (load f s').said ≡ says m → Shows s' t m (load f s').next

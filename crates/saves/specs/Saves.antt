-- What is said of a saved program file: of which nodes there is one, which bytes it is, and why a write is refused.
use Rattle.std.specs.Prelude.{ℕ, zero, suc, ◌+◌, ◌≤◌, ◌<◌, ◌≡◌, List, length}
use Rattle.std.proofs.Math.Seq.{slice}
use Rattle.rules.specs.Node.{nil}
use Rattle.rules.specs.Small.{Octets}
use Rattle.rules.specs.Said.{Said, says, refuses}
use Rattle.rules.specs.State.{over}
use Rattle.rules.specs.Tree.{Tree, leaf, fork, tree}
use Rattle.rules.specs.Serial.{height, shortest, Form, parsed, parse}
use Rattle.rules.specs.Load.{levels_of}
use Rattle.rules.specs.Save as S
use Rattle.rules.specs.Save.{Saving, form_of}
use Rattle.rules.specs.Whole.{St}
use Rattle.runs.specs.Wf.{ValidIn}

-- ---- saving on a whole state: it changes neither the record nor a list

-- a node's bytes, with so many levels and so much room left
abbrev pub form : ℕ → ℕ → ℕ → St → Said (List ℕ)
form levels room n s = form_of s.rec s.lists levels room n

-- a node written over a file
abbrev pub save : ℕ → List ℕ → St → Saving
save n file s = S.save s.rec s.lists n file

-- what a node shows
abbrev pub tree_of : St → ℕ → Tree
tree_of s n = tree s.lists n

-- ---- what writing a tree gives

-- the first item, in the order of the file, that lies deeper than so many levels; and how many bytes stand before it
pub data TooDeep : ℕ → Tree → ℕ → Type 0 where
  here : {t : Tree} → TooDeep zero t zero
  in_first : {levels place : ℕ} {x y : Tree} → TooDeep levels x place → TooDeep (suc levels) (fork x y) (suc place)
  in_rest : {levels place : ℕ} {x y : Tree} → height x ≤ levels → TooDeep levels y place
      → TooDeep (suc levels) (fork x y) (suc (length (shortest x) + place))

-- a tree has such an item
pub record Deep (levels : ℕ) (t : Tree) : Type 0 where
  pub place : ℕ
  pub item : TooDeep levels t place

-- the shortest form where levels and room are enough; 18 where an item too deep starts within the room;
-- 19 where the room is short, and an item too deep, if there is one, starts past it
pub data Writes (levels room : ℕ) (t : Tree) : Said (List ℕ) → Type 0 where
  whole : height t ≤ levels → length (shortest t) ≤ room → Writes levels room t (says (shortest t))
  deep : (place : ℕ) → TooDeep levels t place → place ≤ room → Writes levels room t (refuses 18 nil)
  long : room < length (shortest t) → ((place : ℕ) → TooDeep levels t place → room < place) → Writes levels room t (refuses 19 nil)

-- ---- a node, in a well-formed state

-- it is written: exactly then its bytes are given
pub record Written (s : St) (levels room n : ℕ) (v : List ℕ) : Type 0 where
  pub valid : ValidIn s n
  pub levels_fit : height (tree_of s n) ≤ levels
  pub room_fits : length (shortest (tree_of s n)) ≤ room
  pub bytes_are : v ≡ shortest (tree_of s n)

-- why it is not: 18 with no level left, whatever the node; then 5; then what writing its tree gives. Code 1 is not among them
pub data FormCause (s : St) (levels room n : ℕ) : ℕ → ℕ → Type 0 where
  bad-node : 1 ≤ levels → (ValidIn s n → ⊥) → FormCause s levels room n 5 nil
  deep : (1 ≤ levels → ValidIn s n) → (place : ℕ) → TooDeep levels (tree_of s n) place → place ≤ room → FormCause s levels room n 18 nil
  long : ValidIn s n → room < length (shortest (tree_of s n)) → ((place : ℕ) → TooDeep levels (tree_of s n) place → room < place)
      → FormCause s levels room n 19 nil

-- ---- save, in a well-formed state

-- a valid node of at most 4,096 levels, whose shortest form the file can hold: that form's length is answered
pub record Saved (s : St) (n : ℕ) (file : List ℕ) (len : ℕ) : Type 0 where
  pub valid : ValidIn s n
  pub levels_fit : height (tree_of s n) ≤ levels_of
  pub length-is : len ≡ length (shortest (tree_of s n))
  pub room_fits : len ≤ length file

-- why it is refused
abbrev pub SaveCause : St → ℕ → List ℕ → ℕ → ℕ → Type 0
SaveCause s n file = FormCause s levels_of (length file) n

-- every atom's numbers are bytes
abbrev pub AtomsOctets : Tree → Type 0
AtomsOctets (leaf v) = Octets v
AtomsOctets (fork x y) = AtomsOctets x × AtomsOctets y

-- what an accepted save leaves of a file
pub record Stored (t : Tree) (file after : List ℕ) (len : ℕ) : Type 0 where
  -- the shortest form from the start on, the rest as it was
  pub file-is : after ≡ over file 0 (shortest t)
  pub long : length after ≡ length file
  pub bytes_are : slice 0 len after ≡ shortest t
  pub octets : Octets (slice 0 len after)
  pub form : Form t (slice 0 len after)
  -- no form of the tree is shorter
  pub least : (l : List ℕ) → Form t l → len ≤ length l
  -- read from the start, with as many levels as a load has, it is the tree, and ends where the answer says
  pub reads : parse after levels_of 0 ≡ parsed t len

-- What the theorems about the serialised form say: of the table, of a token, of what was parsed, of a fault.
use Rattle.std.specs.Prelude.{ℕ, ◌+◌, ◌≤◌, ◌<◌, ◌≡◌, ◌⊎◌, List, length, get_or}
use Rattle.std.proofs.Math.Seq.{slice}
use Rattle.rules.specs.Tree.{Tree, leaf, fork}
use Rattle.rules.specs.Serial.{limit_of, Form, height, Token, broken, opening, string}

-- r is the first of k, k + 1, .., k + n - 1 whose bound is above x, or k + n where none is
pub record First (bound : ℕ → ℕ) (n k x r : ℕ) : Type 0 where
  pub low : k ≤ r
  pub high : r ≤ k + n
  pub past : (j : ℕ) → k ≤ j → j < r → bound j ≤ x
  pub found : r < k + n → x < bound r

-- every atom is short enough to have a form
abbrev pub AtomsFit : Tree → Type 0
AtomsFit (leaf v) = length v < limit_of 4
AtomsFit (fork x y) = AtomsFit x × AtomsFit y

-- ---- what stands at a place

pub record StringIn (f : List ℕ) (at from to : ℕ) : Type 0 where
  pub order : from ≤ to
  pub inside : to ≤ length f
  pub onward : at < to

pub record OpeningIn (f : List ℕ) (at : ℕ) : Type 0 where
  pub inside : at < length f
  pub byte : get_or f at 0 ≡ 0xff

abbrev pub TokenIn : List ℕ → ℕ → Token → Type 0
TokenIn f at broken = Unit {0}
TokenIn f at opening = OpeningIn f at
TokenIn f at (string from to) = StringIn f at from to

-- ---- what parsing gives

-- where a tree that was parsed ends, and its height: whatever the numbers of the file are
pub record Ranged (f : List ℕ) (levels at : ℕ) (t : Tree) (next : ℕ) : Type 0 where
  pub onward : at < next
  pub inside : next ≤ length f
  pub levels_fit : height t ≤ levels

-- of bytes: what was parsed is a form of the tree
pub record Parses (f : List ℕ) (levels at : ℕ) (t : Tree) (next : ℕ) : Type 0 where
  pub order : at ≤ next
  pub inside : next ≤ length f
  pub levels_fit : height t ≤ levels
  pub form : Form t (slice at next f)

pub record FaultIn (f : List ℕ) (at code place : ℕ) : Type 0 where
  pub codes : (code ≡ 17) ⊎ (code ≡ 18)
  pub inside : at ≤ length f → place ≤ length f

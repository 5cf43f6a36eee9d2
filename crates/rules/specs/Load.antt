-- Loading a program file: the calls that its items make, and what they leave (document 02, W1).
use Rattle.std.specs.Prelude.{ℕ, zero, suc, ◌+◌, cond, List, eqb, length}
use Rattle.std.proofs.Math.Seq.{slice}
use Rattle.rules.specs.declared.Allocator.{Allocator}
use Rattle.rules.specs.Node.{nil}
use Rattle.rules.specs.Said.{Said, says, refuses, onward, or_else, Out}
use Rattle.rules.specs.State.{Lists, Store, store, PairStore, pair_store, together, lists_sound}
use Rattle.rules.specs.Creates.{new_atom, new_pair}
use Rattle.rules.specs.Serial.{Token, broken, opening, string, token}

-- an item's node, and where in the file the next item starts; or a code, and where the item at fault starts;
-- the record, and all five lists
pub record Reading : Type 0 where
  pub said : Said ℕ
  pub at : ℕ
  pub rec : Allocator
  pub lists : Lists

abbrev pub reading : Said ℕ → ℕ → Allocator → Lists → Reading
reading said at a l = record { said = said; at = at; rec = a; lists = l }

-- a node: on to the next place; a refusal: the item's own
abbrev pub placed : Said ℕ → ℕ → ℕ → ℕ
placed (says n) at next = next
placed (refuses code node) at next = at

-- what new_atom and new_pair leave for the item at a place, with the lists that they are not lent
abbrev pub made_atom : ℕ → ℕ → PairStore → Out ℕ Store → Reading
made_atom at next p o =
    reading o.said (placed o.said at next) o.rec (together o.lent p)

abbrev pub made_pair : ℕ → ℕ → Store → Out ℕ PairStore → Reading
made_pair at next s o =
    reading o.said (placed o.said at next) o.rec (together s o.lent)

abbrev pub read_atom : List ℕ → ℕ → ℕ → ℕ → Allocator → Lists → Reading
read_atom f at from to a l =
    made_atom at to (pair_store l.pairs) (new_atom a (slice from to f) (store l.bytes l.atoms))

abbrev pub read_pair : ℕ → ℕ → ℕ → ℕ → Allocator → Lists → Reading
read_pair at next first rest a l =
    made_pair at next (store l.bytes l.atoms) (new_pair a first rest (pair_store l.pairs))

-- on with the node, or stop at the first refusal
abbrev pub after : Reading → (ℕ → ℕ → Allocator → Lists → Reading) → Reading
after r f = onward r.said r (λ n. f n r.at r.rec r.lists)

-- first, rest, then the pair
abbrev pub pair_item : (ℕ → Allocator → Lists → Reading) → ℕ → Allocator → Lists → Reading
pair_item below at a l =
    after (below (at + 1) a l) λ first mid b m.
    after (below mid b m) λ rest next c n.
    read_pair at next first rest c n

abbrev pub item_as : Token → (ℕ → Allocator → Lists → Reading) → List ℕ → ℕ → Allocator → Lists → Reading
item_as broken below f at a l = reading (refuses 17 nil) at a l
item_as opening below f at a l = pair_item below at a l
item_as (string from to) below f at a l = read_atom f at from to a l

-- with so many levels left: 18 on entering one too many, then 17, then what the calls refuse
unfoldable pub item : List ℕ → ℕ → ℕ → Allocator → Lists → Reading
item f zero at a l = reading (refuses 18 nil) at a l
item f (suc levels) at a l = item_as (token f at) (item f levels) f at a l

-- bytes after the root are bad encoding
abbrev pub at_end : ℕ → Reading → Reading
at_end len r =
    after r λ n at a l. cond (eqb at len) r (reading (refuses 17 nil) at a l)

-- a refusal gives the record back as it was given; past its used lengths the lists hold what the accepted calls wrote
abbrev pub or_back : Allocator → Reading → Reading
or_back a r = or_else r.said r (reading r.said r.at a r.lists)

-- the levels of a file, the root being level 1
abbrev pub levels_of : ℕ
levels_of = 4096

-- 1 for a record that is unsound beside any of the five lists; then the whole file
unfoldable pub load : List ℕ → Allocator → Lists → Reading
load f a l =
    cond (lists_sound a l) (or_back a (at_end (length f) (item f levels_of 0 a l))) (reading (refuses 1 nil) 0 a l)

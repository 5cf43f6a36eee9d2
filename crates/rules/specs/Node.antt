-- A node: its bits, what it is, and when it is valid (document 01, "What a state is").
use Rattle.std.specs.Prelude.{ℕ, ◌+◌, ◌*◌, ◌/◌, ◌%◌, Bool, true, false, cond, ltb, eqb}

-- the kind stands in the top 6 bits, an index or the value in the low 26
abbrev pub kind_of : ℕ → ℕ
kind_of n = n / 67108864

abbrev pub index_of : ℕ → ℕ
index_of n = n % 67108864

abbrev pub node_of : ℕ → ℕ → ℕ
node_of kind index = kind * 67108864 + index

-- kinds: 0 pair, 1 Bytes, 2 SmallAtom
abbrev pub pair_node : ℕ → ℕ
pair_node i = node_of 0 i

abbrev pub bytes_node : ℕ → ℕ
bytes_node i = node_of 1 i

abbrev pub small_node : ℕ → ℕ
small_node v = node_of 2 v

abbrev pub nil : ℕ
nil = 134217728

-- what a number is as a node
pub data Node : Type 0 where
  pair_at : ℕ → Node
  bytes_at : ℕ → Node
  small : ℕ → Node
  bad : Node

unfoldable pub view_of : ℕ → ℕ → Node
view_of kind index =
    cond (eqb kind 0) (pair_at index)
    (cond (eqb kind 1) (bytes_at index)
    (cond (eqb kind 2) (small index)
    bad))

unfoldable pub view : ℕ → Node
view n = view_of (kind_of n) (index_of n)

-- valid: the kind is at most 2, and a pair or Bytes index is below the used count
abbrev pub valid_as : ℕ → ℕ → Node → Bool
valid_as atoms pairs (pair_at i) = ltb i pairs
valid_as atoms pairs (bytes_at i) = ltb i atoms
valid_as atoms pairs (small v) = true
valid_as atoms pairs bad = false

abbrev pub valid_node : ℕ → ℕ → ℕ → Bool
valid_node atoms pairs n = valid_as atoms pairs (view n)

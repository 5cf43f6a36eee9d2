-- The text of numbers, rows, the header, the last line and `too long` (document 01, "The request program").
use Rattle.std.specs.Prelude.{ℕ, List, [], ◌∷◌, ◌++◌, Option, None, Some}
use Rattle.std.specs.Fmt.{decimal}
use lib.Chars.{codes}
use Rattle.text.specs.declared.Row.{Row}

-- a number, and a byte after it
abbrev pub number_text : ℕ → ℕ → List ℕ
number_text n last = decimal n ++ (last ∷ [])

-- the node column: a node, or `-`
abbrev pub node_text : Option ℕ → List ℕ
node_text (Some n) = number_text n 32
node_text None = 45 ∷ 32 ∷ []

-- a row: record number, code, node, total atoms, pairs, heap; one space between columns, a newline at the end
abbrev pub row_text : Row → List ℕ
row_text r =
    number_text r.n 32 ++ number_text r.code 32 ++ node_text r.node
    ++ number_text r.atoms 32 ++ number_text r.pairs 32 ++ number_text r.heap 10

-- the first line
abbrev pub head_text : List ℕ
head_text = codes "n code node atoms pairs heap\n"

-- `end`, the records shown, what was released
abbrev pub end_text : ℕ → ℕ → List ℕ
end_text shown released = codes "end " ++ number_text shown 32 ++ number_text released 10

-- all that is said of an input that is too long
abbrev pub long_text : List ℕ
long_text = codes "too long\n"

-- The text of a whole input: the header, a row for each record, the last line; or `too long`.
use Rattle.std.specs.Prelude.{ℕ, zero, suc, cond, List, [], ◌∷◌, ◌++◌, leb, length, drop, Option, None, Some}
use Rattle.rules.specs.State.{Lists}
use Rattle.text.specs.Text.{row_text, head_text, end_text, long_text}
use Rattle.machine.specs.declared.Machine.{Machine}
use Rattle.machine.specs.Machine.{fresh_machine}
use Rattle.trace.specs.Step.{step_on}

-- the last line: records shown, then released
abbrev pub end_of : Machine → List ℕ
end_of m = end_text m.shown m.released

-- what follows a record of a size: the last line if that record ended the run, else the text of the rest
abbrev pub after : Option ℕ → List ℕ → (ℕ → List ℕ) → List ℕ
after None end next = end
after (Some size) end next = next size

-- the rows of an input of at most f records, and the last line
unfoldable pub trace_to : ℕ → Machine → Lists → List ℕ → List ℕ
trace_to zero m l i = end_of m
trace_to (suc f) m l [] = end_of m
trace_to (suc f) m l (b ∷ i) =
    let t = step_on m l (b ∷ i) in
    row_text t.row ++ after t.size (end_of t.machine) (λ n. trace_to f t.machine t.left (drop n (b ∷ i)))

-- a record takes at least one byte, so there are no more than bytes
unfoldable pub trace_of : Machine → Lists → List ℕ → List ℕ
trace_of m l i = trace_to (length i) m l i

-- all that the program prints of an input, on stores that hold anything at first
unfoldable pub text_of : Lists → List ℕ → List ℕ
text_of l i = cond (leb (length i) 65536) (head_text ++ trace_of fresh_machine l i) long_text

-- What is known of the lines of a file.
use Rattle.std.specs.Prelude.{ℕ}
use Rattle.script.specs.declared.lines.Lines.{Lines}

-- how many bytes the lines that were handed out so far took, with their newlines
abbrev pub bytes_read : {F : Type 0} → Lines F → ℕ
bytes_read lines = lines.at

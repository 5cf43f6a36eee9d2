-- A page: the text so far, and how many bytes it takes in all.
use Rattle.std.specs.Prelude.{ℕ, ◌≡◌, List, length, take}
use Rattle.text.specs.declared.page.Page.{Page}

abbrev pub written : Page → List ℕ
written p = take p.at p.buf.now

abbrev pub capacity : Page → ℕ
capacity p = length p.buf.now

-- the page still holds the caller's own buffer
abbrev pub SamePage : Page → Page → Type 0
SamePage p q = q.buf.ghost_name ≡ p.buf.ghost_name

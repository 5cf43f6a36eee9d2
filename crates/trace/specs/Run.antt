-- What a stretch of records leaves: the rows written, and the text that is still to come.
use Rattle.std.specs.Prelude.{ℕ, ◌+◌, ◌*◌, ◌≤◌, ◌<◌, ◌≡◌, List, [], ◌∷◌, ◌++◌, length, drop, Option, None, Some, IfSome}
use Rattle.rules.specs.State.{Lists}
use Rattle.text.specs.declared.page.Page.{Page}
use Rattle.text.specs.Page.{written, capacity}
use Rattle.machine.specs.declared.Machine.{Machine}
use Rattle.machine.specs.Sane.{Ready}
use Rattle.trace.specs.Trace.{end_of, after, trace_of}

-- what is still to be printed after a record of a size: the last line, or the rest's text
abbrev pub next_of : Option ℕ → Machine → Lists → List ℕ → List ℕ
next_of size m l i = after size (end_of m) (λ n. trace_of m l (drop n i))

-- a record was done and its row written
pub record Advanced (m : Machine) (l : Lists) (i : List ℕ) (p : Page) (m' : Machine) (l' : Lists) (p' : Page) (size : Option ℕ) : Type 0 where
  pub text : written p' ++ next_of size m' l' i ≡ written p ++ trace_of m l i
  pub same-capacity : capacity p' ≡ capacity p
  pub ready : Ready m' l'
  pub counts : m'.shown ≡ m.shown + 1
  pub size_is : IfSome size (λ n. (4 ≤ n) × (n ≤ length i))
  pub room : length (written p') ≤ length (written p) + 126

-- what is still to be printed after a stretch of records: nothing, or the text of the rest
abbrev pub left_of : Option ℕ → Machine → Lists → List ℕ → List ℕ
left_of rest m l i = after rest [] (λ at. trace_of m l (drop at i))

-- the page is full: it has no room for a row and the last line. Each record before took at least 4 bytes of input, and at most 126 of room.
pub record Full (m : Machine) (i : List ℕ) (at : ℕ) (p : Page) (m' : Machine) (p' : Page) (at' : ℕ) : Type 0 where
  pub stops : capacity p < length (written p') + 172
  pub rows : length (written p') + 126 * m.shown ≤ length (written p) + 126 * m'.shown
  pub counts : 4 * m'.shown ≤ at'
  pub moves : at + 4 * m'.shown ≤ at' + 4 * m.shown
  pub within : at' ≤ length i

-- records of the input i, from index at on, were done; their rows stand on the page behind what it had, and after them the last line if all is done
pub record RanFrom (m : Machine) (l : Lists) (i : List ℕ) (at : ℕ) (p : Page) (m' : Machine) (l' : Lists) (p' : Page) (rest : Option ℕ) : Type 0 where
  pub text : written p' ++ left_of rest m' l' i ≡ written p ++ trace_of m l (drop at i)
  pub same-capacity : capacity p' ≡ capacity p
  pub ready : Ready m' l'
  pub room : length (written p') + 126 * m.shown ≤ length (written p) + 126 * m'.shown + 46
  pub counts : 4 * m'.shown ≤ length i + 4
  pub full : IfSome rest (Full m i at p m' p')

-- ---- a text in pieces

unfoldable pub joined : List (List ℕ) → List ℕ
joined [] = []
joined (c ∷ cs) = c ++ joined cs

-- the pieces that a program writes which runs until all is done, each time with an empty page but the first
pub data Pieces (i : List ℕ) : Machine → Lists → ℕ → Page → List (List ℕ) → Type 0 where
  last : {m m' : Machine} {l l' : Lists} {at : ℕ} {p p' : Page} → RanFrom m l i at p m' l' p' None → Pieces i m l at p (written p' ∷ [])
  more : {m m' : Machine} {l l' : Lists} {at at' : ℕ} {p p' next : Page} {cs : List (List ℕ)}
      → RanFrom m l i at p m' l' p' (Some at') → written next ≡ [] → Pieces i m' l' at' next cs → Pieces i m l at p (written p' ∷ cs)

-- How much of the lists is lent.
use Rattle.std.specs.Prelude.{ℕ, ◌+◌}
use Rattle.compare.specs.declared.lists.Lent.{Lent}
use Rattle.compare.specs.declared.lists.Lists.{Lists}

-- the first entries of a list, as many as this, are lent
abbrev pub lent_of : {T : Type 0} → Lent T → ℕ
lent_of list = list.lent

-- how many entries of all lists are
abbrev pub lent_in_all : Lists → ℕ
lent_in_all l = lent_of l.bytes + lent_of l.starts + lent_of l.ends + lent_of l.firsts + lent_of l.rests + lent_of l.file

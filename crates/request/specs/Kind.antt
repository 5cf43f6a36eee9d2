-- The kinds of records and their numbers (document 01, "The request program").
use Rattle.std.specs.Prelude.{ℕ, cond, ◌==◌, Option, None, Some}
use Rattle.request.specs.declared.kind.Kind.{Kind}
use Rattle.request.specs.declared.kind.Kind.TheVariants.{Atom, Pair, Substr, Concat, SmallNumber, Checkpoint, Restore, RestoreTransparent, MaybeRestore, AddGhostPair, RemoveGhostPair, AddGhostAtom}

-- the kind that a number stands for; the other numbers stand for none
abbrev pub kind_of : ℕ → Option Kind
kind_of n =
    cond (n == 1) (Some Atom)
    (cond (n == 2) (Some Pair)
    (cond (n == 3) (Some Substr)
    (cond (n == 4) (Some Concat)
    (cond (n == 5) (Some SmallNumber)
    (cond (n == 6) (Some Checkpoint)
    (cond (n == 7) (Some Restore)
    (cond (n == 8) (Some RestoreTransparent)
    (cond (n == 9) (Some MaybeRestore)
    (cond (n == 10) (Some AddGhostPair)
    (cond (n == 11) (Some RemoveGhostPair)
    (cond (n == 12) (Some AddGhostAtom)
    None)))))))))))

-- Two small files: one that is accepted, and the same cut short. Assumes nothing.
use Prim.Native.Nat.{ℕ}
use mathlib.Core.Path.{◌≡◌, refl}
use mathlib.Core.List.{List, [], ◌∷◌}
use lib.ListN.{replicate}
use Rattle.rules.specs.Node.{view, view_of, nil}
use Rattle.rules.specs.Small.{fits, unfit, big}
use Rattle.rules.specs.Said.{says, refuses, need}
use Rattle.rules.specs.State.{Lists, lists, atom_slots, pair_slots, limits_sound}
use Rattle.rules.specs.Serial.{base_of, first_below, token}
use Rattle.rules.specs.Creates.{store_atom, atom_tests, pair_tests}
use Rattle.rules.specs.Record.{new_limited}
use Rattle.rules.specs.Load.{Reading, item, load}

-- a fresh allocator beside slots with room for four bytes, two atoms and two pairs
abbrev pub slots : Lists
slots = lists (replicate 4 0) (atom_slots (replicate 2 0) (replicate 2 0)) (pair_slots (replicate 2 0) (replicate 2 0))

abbrev pub read : List ℕ → Reading
read f = load f (new_limited 1000).rec slots

-- a pair of the atoms 05 and 00 07
pub accepted : (read (0xff ∷ 0x05 ∷ 0x82 ∷ 0x00 ∷ 0x07 ∷ [])).said ≡ says 0
unfolding load item token base_of first_below new_limited need limits_sound view view_of fits unfit big store_atom atom_tests pair_tests
accepted = refl

pub refused : (read (0xff ∷ 0x05 ∷ 0x82 ∷ 0x00 ∷ [])).said ≡ refuses 17 nil
unfolding load item token base_of first_below new_limited need limits_sound view view_of fits unfit big store_atom atom_tests pair_tests
refused = refl

pub refused-at : (read (0xff ∷ 0x05 ∷ 0x82 ∷ 0x00 ∷ [])).at ≡ 2
unfolding load item token base_of first_below new_limited need limits_sound view view_of fits unfit big store_atom atom_tests pair_tests
refused-at = refl

-- A whole record lies within the input. Assumes nothing.
use Rattle.std.proofs.Common.{ℕ, ◌≤◌, List, length, length-take, length-drop, arith}
use Rattle.std.specs.Prelude.{Option, ltb, ◌+◌}
use borrow.Author.Tests.{ltb-false}
use Rattle.rules.proofs.Tests.{choice}
use Rattle.request.specs.Bytes.{u16_at}
use Rattle.request.specs.Request.{Frame, frame_of, frame_size}

pub frame_fits : (l : List ℕ) → frame_size (frame_of l) ≤ length l
frame_fits l =
    choice Fits (ltb (length l) 4) _ _ (λ e. omega arith) λ e. choice Fits (ltb (length l) (4 + u16_at l 0)) _ _ (λ e. omega arith) λ e.
    simp (length-take, length-drop) (omega (arith, ltb-false _ _ e))
  where
    Fits : Option Frame → Type 0
    Fits f = frame_size f ≤ length l

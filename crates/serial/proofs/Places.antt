-- Where a list stands in another: its parts, its head, the range that it takes; and a range in two. Assumes nothing.
use Prim.Native.Nat.{ℕ, ◌+◌, ◌-◌, ◌≤◌}
use mathlib.Core.Path.{◌≡◌, refl, sym, ap, ◌∙◌}
use mathlib.Core.List.{List, [], ◌∷◌, ◌++◌, append_assoc, append-nil}
use native.Mathlib.Omega.{arith}
use lib.ListN.{length, get_or, take, drop, length-append}
use lib.Seq.{slice, take-add, take_at, drop_at, get_or_at, drop-append-le, length-take-le}
use Rattle.rules.proofs.Lists.{part_slice}

-- l stands in f from at on
pub record Stands (f : List ℕ) (at : ℕ) (l : List ℕ) : Type 0 where
  pub before : List ℕ
  pub after : List ℕ
  pub long : length before ≡ at
  pub whole : f ≡ before ++ (l ++ after)

pub stands_whole : (f : List ℕ) → Stands f 0 f
stands_whole f = record { before = []; after = []; long = refl; whole = sym (append-nil f) }

pub stands_left : (f : List ℕ) (at : ℕ) (x y : List ℕ) → Stands f at (x ++ y) → Stands f at x
stands_left f at x y s = record {
  before = s.before;
  after = y ++ s.after;
  long = s.long;
  whole = s.whole ∙ ap (λ (k : List ℕ). s.before ++ k) (append_assoc x y s.after);
}

pub stands_right : (f : List ℕ) (at : ℕ) (x y : List ℕ) → Stands f at (x ++ y) → Stands f (at + length x) y
stands_right f at x y s = record {
  before = s.before ++ x;
  after = s.after;
  long = omega (arith, s.long, length-append s.before x);
  whole = s.whole ∙ simp append_assoc;
}

pub stands_head : (f : List ℕ) (at b : ℕ) (l : List ℕ) → Stands f at (b ∷ l) → get_or f at 0 ≡ b
stands_head f at b l s = rw s.whole (get_or_at s.before b (l ++ s.after) 0 at s.long)

pub stands_inside : (f : List ℕ) (at : ℕ) (l : List ℕ) → Stands f at l → at + length l ≤ length f
stands_inside f at l s = rw (s.whole, length-append, length-append) (omega (arith, s.long))

pub stands_slice : (f : List ℕ) (at : ℕ) (l : List ℕ) → Stands f at l → slice at (at + length l) f ≡ l
stands_slice f at l s =
    ap (λ (k : List ℕ). drop at (take (at + length l) k)) (s.whole ∙ sym (append_assoc s.before l s.after))
    ∙ ap (drop at) (take_at (s.before ++ l) s.after (at + length l) (omega (arith, s.long, length-append s.before l)))
    ∙ drop_at s.before l at s.long

-- a range in two
pub slice_split : (f : List ℕ) (a b c : ℕ) → a ≤ b → b ≤ c → c ≤ length f → slice a c f ≡ slice a b f ++ slice b c f
slice_split f a b c h k l =
    let e : c ≡ b + (c - b) = omega arith in
    ap (λ (n : ℕ). drop a (take n f)) e
    ∙ ap (drop a) (take-add b (c - b) f)
    ∙ drop-append-le a (take b f) (take (c - b) (drop b f)) (rw (length-take-le b f (omega arith)) h)
    ∙ ap (λ (r : List ℕ). slice a b f ++ r) (part_slice b c f k)

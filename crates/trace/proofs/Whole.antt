-- What is written piece by piece is the whole text, and a stretch of records always gets on. Assumes nothing.
use Rattle.std.proofs.Common.{ℕ, ◌+◌, ◌*◌, ◌≤◌, ◌<◌, ◌≡◌, List, ◌++◌, length, drop, sym, ap, subst, ◌∙◌, arith}
use mathlib.Core.List.{append-nil}
use borrow.Author.Tests.{le-leb, lt-leb}
use Rattle.std.specs.Prelude.{None, Some}
use Rattle.rules.specs.Small.{Octets}
use Rattle.rules.specs.State.{Lists}
use Rattle.text.specs.declared.page.Page.{Page}
use Rattle.text.specs.Page.{written, capacity}
use Rattle.text.specs.Text.{head_text, long_text}
use Rattle.machine.specs.declared.Machine.{Machine}
use Rattle.machine.specs.Machine.{fresh_machine}
use Rattle.machine.specs.Sane.{Ready}
use Rattle.trace.specs.Trace.{trace_of, text_of}
use Rattle.trace.specs.Run.{RanFrom, joined, Pieces, last, more}

-- ---- the first machine

pub fresh-ready : (l : Lists) → Octets l.bytes → Ready fresh_machine l
fresh-ready l o = record {
  formed = record {
    sound = omega arith;
    shape = record { slot = λ i h. absurd (omega arith); pair = λ i h. absurd (omega arith) };
    octets = o;
  };
  sane = record {
    limits = omega arith;
    checkpoints_taken = omega arith;
    rows-shown = omega arith;
    released_most = omega arith;
  };
}

-- ---- progress

module _ (m : Machine) (l : Lists) (i : List ℕ) (at : ℕ) (p : Page) (m' : Machine) (l' : Lists) (p' : Page) where
  -- with room for a row and the last line, a stretch that is not the last one takes input
  pub progress : (at' : ℕ) → RanFrom m l i at p m' l' p' (Some at') → length (written p) + 172 ≤ capacity p → at < at'
  progress at' d h = let f = d.full in omega (arith, f.stops, f.rows, f.moves)

  pub left_none : RanFrom m l i at p m' l' p' None → written p' ≡ written p ++ trace_of m l (drop at i)
  left_none d = sym (append-nil (written p')) ∙ d.text

-- ---- the pieces in order are the whole

pub pieces_text : {i : List ℕ} {m : Machine} {l : Lists} {at : ℕ} {p : Page} {cs : List (List ℕ)} → Pieces i m l at p cs
    → joined cs ≡ written p ++ trace_of m l (drop at i)
unfolding joined
pieces_text {i} {m} {l} {at} {p} (last {m' = m'} {l' = l'} {p' = p'} d) = append-nil (written p') ∙ left_none m l i at p m' l' p' d
pieces_text {i} (more {m' = m'} {l' = l'} {at' = at'} {p' = p'} d n k) =
    ap (λ (x : List ℕ). written p' ++ x) (pieces_text k ∙ ap (λ (x : List ℕ). x ++ trace_of m' l' (drop at' i)) n) ∙ d.text

pub text-short : (l : Lists) (i : List ℕ) → length i ≤ 65536 → text_of l i ≡ head_text ++ trace_of fresh_machine l i
unfolding text_of
text-short l i h = simp (le-leb _ _ h)

pub text-long : (l : Lists) (i : List ℕ) → 65536 < length i → text_of l i ≡ long_text
unfolding text_of
text-long l i h = simp (lt-leb _ _ h)

-- a header, and then the pieces from the first record on
pub whole_pieces : (l : Lists) (i : List ℕ) (p : Page) (cs : List (List ℕ)) → length i ≤ 65536 → written p ≡ head_text
    → Pieces i fresh_machine l 0 p cs → joined cs ≡ text_of l i
whole_pieces l i p cs h e k = pieces_text k ∙ ap (λ (x : List ℕ). x ++ trace_of fresh_machine l i) e ∙ sym (text-short l i h)

-- ---- piece by piece

-- between two pieces: what was sent and what is still to come are as long as the whole text
pub record Sending (l₀ : Lists) (i : List ℕ) (l : Lists) (p : Page) (m : Machine) (at sent : ℕ) : Type 0 where
  pub total : sent + length (written p ++ trace_of m l (drop at i)) ≡ length (text_of l₀ i)
  pub ready : Ready m l
  pub counts : 4 * m.shown ≤ at
  pub within : at ≤ length i
  pub short : length i ≤ 65536
  pub fits : length (written p) + 172 ≤ capacity p
  pub sums : sent + length (written p) ≤ 29 + 126 * m.shown

-- the header stands on the page, and nothing was sent
pub sending_first : (l : Lists) (i : List ℕ) (p : Page) (m : Machine) → Octets l.bytes → length i ≤ 65536 → 201 ≤ capacity p
    → m ≡ fresh_machine → written p ≡ head_text → Sending l i l p m 0 0
sending_first l i p m o h b e k =
    let t : length (written p ++ trace_of fresh_machine l i) ≡ length (text_of l i)
    = ap length (ap (λ (x : List ℕ). x ++ trace_of fresh_machine l i) k ∙ sym (text-short l i h)) in
    let n : length (written p) ≡ 29 = ap length k in
    subst (λ (x : Machine). Sending l i l p x 0 0) (sym e)
    (record {
      total = omega (arith, t);
      ready = fresh-ready l o;
      counts = omega arith;
      within = omega arith;
      short = h;
      fits = omega (arith, n);
      sums = omega (arith, n);
    })

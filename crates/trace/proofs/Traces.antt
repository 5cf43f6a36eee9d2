-- The text of an input, one record at a time; what a stretch of records leaves of it. Assumes nothing.
use Rattle.std.proofs.Common.{ℕ, zero, suc, ◌+◌, ◌*◌, ◌≤◌, ◌<◌, ◌≡◌, List, [], ◌∷◌, ◌++◌, length, drop, refl, sym, ap, subst, ◌∙◌, append_assoc, length-drop, arith}
use mathlib.Core.List.{append-nil}
use Rattle.std.specs.Prelude.{Option, None, Some, IfSome}
use Rattle.rules.specs.Small.{Octets}
use Rattle.rules.specs.State.{Lists}
use Rattle.text.specs.declared.page.Page.{Page}
use Rattle.text.specs.Page.{written, capacity}
use Rattle.text.specs.Text.{row_text}
use Rattle.machine.specs.declared.Machine.{Machine}
use Rattle.machine.specs.Sane.{Ready}
use Rattle.machine.specs.Machine.{Did, acted}
use Rattle.trace.specs.Step.{row_of, with_row, Stepped, stepped, step_on}
use Rattle.trace.specs.Trace.{end_of, after, trace_to, trace_of}
use Rattle.trace.specs.Run.{next_of, Advanced, RanFrom}
use Rattle.trace.proofs.Steps.{size_facts, StepFacts, step_facts}

-- ---- one record at a time

after_same : (s : Option ℕ) (e : List ℕ) (f g : ℕ → List ℕ) → IfSome s (λ n. f n ≡ g n) → after s e f ≡ after s e g
after_same None e f g h = refl
after_same (Some n) e f g h = h

if_some : (s : Option ℕ) (P Q : ℕ → Type 0) → ((n : ℕ) → P n → Q n) → IfSome s P → IfSome s Q
if_some None P Q f h = tt
if_some (Some n) P Q f h = f n h

-- more fuel than bytes changes nothing
trace_more : (f g : ℕ) (m : Machine) (l : Lists) (i : List ℕ) → length i ≤ f → length i ≤ g → trace_to f m l i ≡ trace_to g m l i
unfolding trace_to
trace_more zero zero m l [] h k = refl
trace_more zero (suc g) m l [] h k = refl
trace_more (suc f) zero m l [] h k = refl
trace_more (suc f) (suc g) m l [] h k = refl
trace_more zero zero m l (b ∷ i) h k = absurd (omega arith)
trace_more zero (suc g) m l (b ∷ i) h k = absurd (omega arith)
trace_more (suc f) zero m l (b ∷ i) h k = absurd (omega arith)
trace_more (suc f) (suc g) m l (b ∷ i) h k =
    let t = step_on m l (b ∷ i) in
    ap (λ (x : List ℕ). row_text t.row ++ x)
    (after_same t.size _ _ _ (if_some t.size _ _
    (λ n p. trace_more f g t.machine t.left (drop n (b ∷ i)) (simp length-drop (omega (arith, p))) (simp length-drop (omega (arith, p)))) (size_facts (b ∷ i))))

pub trace_end : (m : Machine) (l : Lists) (i : List ℕ) → length i ≡ 0 → trace_of m l i ≡ end_of m
unfolding trace_of trace_to
trace_end m l [] h = refl
trace_end m l (b ∷ i) h = absurd (omega arith)

pub trace_step : (m : Machine) (l : Lists) (i : List ℕ) → 0 < length i
    → trace_of m l i ≡ (let t = step_on m l i in row_text t.row ++ next_of t.size t.machine t.left i)
unfolding trace_of trace_to
trace_step m l [] h = absurd (omega arith)
trace_step m l (b ∷ i) h =
    let t = step_on m l (b ∷ i) in
    ap (λ (x : List ℕ). row_text t.row ++ x)
    (after_same t.size _ _ _ (if_some t.size _ _
    (λ n p. trace_more (length i) (length (drop n (b ∷ i))) t.machine t.left (drop n (b ∷ i)) (simp length-drop (omega (arith, p))) (omega arith)) (size_facts (b ∷ i))))

module _ (m : Machine) (l : Lists) (i : List ℕ) (p : Page) (h : 0 < length i) (k : Ready m l) (o : Octets i) (n : m.shown < 536870912) where
  written_step : (t : Stepped) (p' : Page) → t ≡ step_on m l i → written p' ≡ written p ++ row_text t.row → capacity p' ≡ capacity p
      → length (written p') ≤ length (written p) + 126 → Advanced m l i p t.machine t.left p' t.size
  written_step t p' e w c b =
      let f : StepFacts m i t = subst (StepFacts m i) (sym e) (step_facts m l i k o n) in
      record {
        text = ap (λ (x : List ℕ). x ++ next_of t.size t.machine t.left i) w ∙ append_assoc (written p) (row_text t.row) _
            ∙ ap (λ (x : Stepped). written p ++ (row_text x.row ++ next_of x.size x.machine x.left i)) e
            ∙ ap (λ (x : List ℕ). written p ++ x) (sym (trace_step m l i h));
        same-capacity = c;
        ready = f.ready;
        counts = f.counts;
        size_is = f.size_is;
        room = b;
      }

  -- a record done and its row written
  pub advanced : (d : Did) (m' : Machine) (l' : Lists) (p' : Page) (size : Option ℕ) → stepped (acted d l') size ≡ step_on m l i → m' ≡ with_row d.machine
      → written p' ≡ written p ++ row_text (row_of (with_row d.machine) d.told) → capacity p' ≡ capacity p
      → length (written p') ≤ length (written p) + 126 → Advanced m l i p m' l' p' size
  advanced d m' l' p' size e f w c b =
      subst (λ (x : Machine). Advanced m l i p x l' p' size) (sym f) (written_step (stepped (acted d l') size) p' e w c b)

-- ---- a stretch of records

-- after some records: the text so far, and what is still to come
pub record Along (m₀ : Machine) (l₀ : Lists) (i : List ℕ) (at₀ : ℕ) (p₀ : Page) (l : Lists) (p : Page) (m : Machine) (at : ℕ) : Type 0 where
  pub text : written p ++ trace_of m l (drop at i) ≡ written p₀ ++ trace_of m₀ l₀ (drop at₀ i)
  pub same-capacity : capacity p ≡ capacity p₀
  pub ready : Ready m l
  pub within : at ≤ length i
  pub counts : 4 * m.shown ≤ at
  pub moves : at₀ + 4 * m.shown ≤ at + 4 * m₀.shown
  pub room : length (written p) + 126 * m₀.shown ≤ length (written p₀) + 126 * m.shown
  pub fits : length (written p) + 46 ≤ capacity p₀

module _ (m₀ : Machine) (l₀ : Lists) (i : List ℕ) (at₀ : ℕ) (p₀ : Page) (l : Lists) (p : Page) (m : Machine) (at : ℕ) (a : Along m₀ l₀ i at₀ p₀ l p m at) where
  -- no record is left: the last line
  pub along_last : (p' : Page) → length i ≤ at → written p' ≡ written p ++ end_of m → capacity p' ≡ capacity p
      → length (written p') ≤ length (written p) + 46 → RanFrom m₀ l₀ i at₀ p₀ m l p' None
  along_last p' h w c b = record {
    text = append-nil (written p') ∙ w
        ∙ ap (λ (x : List ℕ). written p ++ x) (sym (trace_end m l (drop at i) (simp length-drop (omega arith)))) ∙ a.text;
    same-capacity = c ∙ a.same-capacity;
    ready = a.ready;
    room = omega (arith, a.room, b);
    counts = omega (arith, a.counts, a.within);
    full = tt;
  }

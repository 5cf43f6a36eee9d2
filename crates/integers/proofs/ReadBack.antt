-- After an accepted new_u64 or new_i64, small_number of the node answers the number where it is 0 to 67,108,863, else none.
-- About the rules alone. Assumes nothing.
use Prim.Native.Nat.{ℕ, ◌≤◌, ◌<◌}
use mathlib.Core.Path.{◌≡◌, refl, sym, ap, ◌∙◌}
use mathlib.Core.Bool.{cond}
use mathlib.Core.Option.{Option, none, some}
use native.Mathlib.Omega.{arith}
use native.Mathlib.Decide.{dec_lt}
use lib.Dec.{ltb}
use lib.IntN.{ℤ, pos, negsuc}
use lib.Signed.{mag}
use borrow.Author.Tests.{lt-ltb, le-ltb}
use Rattle.rules.specs.Node.{view}
use Rattle.rules.specs.Small.{fits}
use Rattle.rules.specs.Integer.{int_bytes, twos}
use Rattle.rules.specs.Said.{Said, says}
use Rattle.rules.specs.Reads.{small_number}
use Rattle.rules.proofs.Smalls.{fits-value, fits-bytes}
use Rattle.integer.proofs.Shortest.{shortest-bytes}
use Rattle.runs.proofs.Shows.{shown_number, number-shows, int-bytes, int_fits}
use Rattle.rules.specs.Whole.{St, Whole, new_u64, new_i64}
use Rattle.runs.specs.Wf.{WF}
use Rattle.runs.specs.Makes.{Outcome, refused, accepted, MakesAtom}
use Rattle.runs.proofs.Tests.{well-formed, →valid}
use Rattle.runs.proofs.Making.{u64-makes, i64-makes}

-- small_number of a node in a state
abbrev pub small_number_in : St → ℕ → Said (Option ℕ)
small_number_in s n = small_number s.rec s.lists.bytes s.lists.atoms n

-- the number where it is 0 to 67,108,863, else none
abbrev pub small_int : ℤ → Option ℕ
small_int (pos x) = cond (ltb x 67108864) (some x) none
small_int (negsuc m) = none

-- bytes that fit are those of their value, and bytes that are the shortest of two numbers are those of one
only-small : (z : ℤ) (v : ℕ) → mag z < 18446744073709551616 → fits (int_bytes z) ≡ some v → (v < 67108864) × (z ≡ pos v)
only-small z v h e =
    let s = shortest-bytes z h in
    let b = fits-value (int_bytes z) v s.bytes e in
    let same : int_bytes (pos v) ≡ int_bytes z = int-bytes v b ∙ fits-bytes (int_bytes z) v s.bytes e in
    (b, sym s.means ∙ ap twos (sym same) ∙ (shortest-bytes (pos v) (omega arith)).means)

large : (z : ℤ) → mag z < 18446744073709551616 → ((v : ℕ) → v < 67108864 → z ≡ pos v → ⊥) → (o : Option ℕ) → fits (int_bytes z) ≡ o → o ≡ none
large z h f none e = refl
large z h f (some v) e = let p = only-small z v h e in absurd (f v p.0 p.1)

pub int_number : (z : ℤ) → mag z < 18446744073709551616 → fits (int_bytes z) ≡ small_int z
int_number (pos x) h = elim (dec_lt x 67108864) [
  | yes l ↦ rw (lt-ltb x 67108864 l) (int_fits x l)
  | no l ↦ (let g : 67108864 ≤ x = omega arith in
      rw (le-ltb x 67108864 g) (large (pos x) h (λ v b e. let q : x ≡ v = cc in omega arith) (fits (int_bytes (pos x))) refl))
]
int_number (negsuc m) h = large (negsuc m) h (λ v b e. let z : ◌≡◌ {A = ℕ} 0 1 = cc in omega arith) (fits (int_bytes (negsuc m))) refl

-- what an accepted call left
told : {A : Type 0} {s : St} {P : A → St → Type 0} {o : Whole A} (x : A) → Outcome s P o → o.said ≡ says x → P x o.next
told x (refused code node) e = let z : ◌≡◌ {A = ℕ} 0 1 = cc in absurd (omega arith)
told x (accepted y s' p) e = let q : y ≡ x = cc in rw q at p

read_back : (s : St) (z : ℤ) (o : Whole ℕ) (n : ℕ) → mag z < 18446744073709551616 → MakesAtom s (int_bytes z) o → o.said ≡ says n
    → small_number_in o.next n ≡ says (small_int z)
read_back s z o n h m e =
    let p = (told n m e).made in
    let w = p.on.wf in
    let t = o.next in
    number-shows t.rec t.lists ((well-formed t).1 (w.sound, w.shape)) n (→valid t.rec.used.atoms t.rec.used.pairs (view n) p.valid)
    ∙ ap says (ap shown_number p.shows ∙ int_number z h)

pub u64_reads_back : (s : St) → WF s → (x n : ℕ) → x < 18446744073709551616 → (new_u64 x s).said ≡ says n
    → small_number_in (new_u64 x s).next n ≡ says (small_int (pos x))
u64_reads_back s w x n h e = read_back s (pos x) (new_u64 x s) n h (u64-makes w x) e

pub i64_reads_back : (s : St) → WF s → (z : ℤ) (n : ℕ) → mag z < 9223372036854775808 → (new_i64 z s).said ≡ says n
    → small_number_in (new_i64 z s).next n ≡ says (small_int z)
i64_reads_back s w z n h e = read_back s z (new_i64 z s) n (omega arith) (i64-makes w z) e

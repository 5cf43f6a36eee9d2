-- Over all states: what is written fits the room, and more room changes nothing. Assumes nothing.
use Prim.Native.Nat.{ℕ, zero, suc, ◌-◌, ◌≤◌}
use mathlib.Core.Path.{◌≡◌, refl, ap}
use mathlib.Core.List.{List, ◌∷◌, ◌++◌}
use native.Mathlib.Omega.{arith}
use borrow.Author.Tests.{le-leb, leb-true}
use lib.ListN.{length, length-append}
use lib.Seq.{slice}
use Rattle.rules.specs.declared.Allocator.{Allocator}
use Rattle.rules.specs.Said.{Said, says, refuses, need}
use Rattle.rules.specs.State.{Lists}
use Rattle.rules.specs.Reads.{Visited, buffer, number, children, arg, visited}
use Rattle.rules.specs.Small.{small_bytes}
use Rattle.rules.specs.Serial.{shortest_atom}
use Rattle.rules.specs.Save.{next, fitted, form_pair, form_as, form_of}
use Rattle.rules.proofs.Needs.{passed, need_true}

-- ---- the parts of what was written

record Went (r : Said (List ℕ)) (f : List ℕ → Said (List ℕ)) (v : List ℕ) : Type 0 where
  bytes : List ℕ
  first : r ≡ says bytes
  then : f bytes ≡ says v

went : (r : Said (List ℕ)) (f : List ℕ → Said (List ℕ)) (v : List ℕ) → next r f ≡ says v → Went r f v
went (says u) f v e = record { bytes = u; first = refl; then = e }
went (refuses code node) f v e = let z : ◌≡◌ {A = ℕ} 0 1 = cc in absurd (omega arith)

-- a pair that was written: its children, and the room that each had
record Pair (below : ℕ → ℕ → Said (List ℕ)) (room first rest : ℕ) (v : List ℕ) : Type 0 where
  left : List ℕ
  right : List ℕ
  some : 1 ≤ room
  first_is : below (room - 1) first ≡ says left
  rest_is : below (room - 1 - length left) rest ≡ says right
  whole : 0xff ∷ (left ++ right) ≡ v

pair→ : (below : ℕ → ℕ → Said (List ℕ)) (room first rest : ℕ) (v : List ℕ) → form_pair below room first rest ≡ says v
    → Pair below room first rest v
pair→ below room first rest v e =
    let p = passed _ _ _ _ _ e in
    let a = went (below (room - 1) first) _ v p.1 in
    let b = went (below (room - 1 - length a.bytes) rest) _ v a.then in
    record {
      left = a.bytes;
      right = b.bytes;
      some = leb-true 1 room p.0;
      first_is = a.first;
      rest_is = b.first;
      whole = (let g = b.then in cc);
    }

→pair : (below : ℕ → ℕ → Said (List ℕ)) (room first rest : ℕ) (v : List ℕ) → Pair below room first rest v
    → form_pair below room first rest ≡ says v
unfolding need
→pair below room first rest v p = rw (le-leb 1 room p.some, p.first_is, p.rest_is) (ap says p.whole)

-- ---- steady: what is written fits its room, and stays the same with more

record Steady (f : ℕ → Said (List ℕ)) : Type 0 where
  fits : (room : ℕ) (v : List ℕ) → f room ≡ says v → length v ≤ room
  more : (room wider : ℕ) (v : List ℕ) → room ≤ wider → f room ≡ says v → f wider ≡ says v

refused_steady : (code node : ℕ) → Steady (λ room. refuses code node)
refused_steady code node = record {
  fits = λ room v e. let z : ◌≡◌ {A = ℕ} 0 1 = cc in absurd (omega arith);
  more = λ room wider v h e. e;
}

fitted-fits : (u : List ℕ) (room : ℕ) (v : List ℕ) → fitted room u ≡ says v → length v ≤ room
fitted-fits u room v e =
    let p = passed _ _ _ _ _ e in
    let q : u ≡ v = (let g = p.1 in cc) in
    rw (← q) (leb-true (length u) room p.0)

fitted-more : (u : List ℕ) (room wider : ℕ) (v : List ℕ) → room ≤ wider → fitted room u ≡ says v → fitted wider u ≡ says v
fitted-more u room wider v h e =
    let p = passed _ _ _ _ _ e in
    let n : length u ≤ room = leb-true (length u) room p.0 in
    rw (le-leb (length u) wider (omega arith), need_true) p.1

fitted_steady : (u : List ℕ) → Steady (λ room. fitted room u)
fitted_steady u = record { fits = fitted-fits u; more = fitted-more u }

pair_steady : (below : ℕ → ℕ → Said (List ℕ)) → ((n : ℕ) → Steady (λ room. below room n)) → (first rest : ℕ)
    → Steady (λ room. form_pair below room first rest)
pair_steady below s first rest = record { fits = fits; more = more }
  where
    fits : (room : ℕ) (v : List ℕ) → form_pair below room first rest ≡ says v → length v ≤ room
    fits room v e =
        let p = pair→ below room first rest v e in
        let l = (s first).fits _ _ p.first_is in
        let r = (s rest).fits _ _ p.rest_is in
        rw (← p.whole) (omega (arith, length-append p.left p.right, p.some))

    more : (room wider : ℕ) (v : List ℕ) → room ≤ wider → form_pair below room first rest ≡ says v → form_pair below wider first rest ≡ says v
    more room wider v h e =
        let p = pair→ below room first rest v e in
        →pair below wider first rest v (record {
          left = p.left;
          right = p.right;
          some = omega (arith, p.some);
          first_is = (s first).more (room - 1) (wider - 1) _ (omega arith) p.first_is;
          rest_is = (s rest).more (room - 1 - length p.left) (wider - 1 - length p.left) _ (omega arith) p.rest_is;
          whole = p.whole;
        })

form_steady : (a : Allocator) (l : Lists) (levels n : ℕ) → Steady (λ room. form_of a l levels room n)
unfolding form_of
form_steady a l zero n = refused_steady _ _
form_steady a l (suc levels) n = of (visited a l.pairs (arg a l.atoms n)) (form_steady a l levels)
  where
    of : (x : Said Visited) → ((m : ℕ) → Steady (λ room. form_of a l levels room m)) → Steady (λ room. form_as x (form_of a l levels) room l.bytes)
    of (says (buffer start end)) s = fitted_steady (shortest_atom (slice start end l.bytes))
    of (says (number v)) s = fitted_steady (shortest_atom (small_bytes v))
    of (says (children first rest)) s = pair_steady (form_of a l levels) s first rest
    of (refuses code node) s = refused_steady code node

-- ---- the laws

pub form-fits : (a : Allocator) (l : Lists) (levels room n : ℕ) (v : List ℕ) → form_of a l levels room n ≡ says v → length v ≤ room
form-fits a l levels room n v e = (form_steady a l levels n).fits room v e

pub form-more : (a : Allocator) (l : Lists) (levels room wider n : ℕ) (v : List ℕ) → room ≤ wider
    → form_of a l levels room n ≡ says v → form_of a l levels wider n ≡ says v
form-more a l levels room wider n v h e = (form_steady a l levels n).more room wider v h e

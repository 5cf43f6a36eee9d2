-- new_concat: what it leaves. Assumes nothing.
use Prim.Native.Nat.{ℕ, ◌+◌, ◌≤◌, ◌<◌}
use mathlib.Core.Path.{◌≡◌, refl, sym, ap, ap₂, subst}
use mathlib.Core.List.{List, [], ◌∷◌, ◌++◌, append-nil}
use native.Mathlib.Omega.{arith}
use borrow.Author.Tests.{ltb-true, leb-true, eqb-true}
use lib.Dec.{eqb}
use lib.ListN.{length, length-append}
use Rattle.rules.specs.Node.{nil}
use Rattle.rules.specs.Small.{len_for, be, Octets}
use Rattle.rules.specs.Said.{Said, says, Done, done, out, settle}
use Rattle.rules.specs.State.{atoms, heap, ghost_atom}
use Rattle.rules.specs.Reads.{Atom, atom_length, atom_bytes}
use Rattle.rules.specs.Creates.{concat_tests, one_term, term, scan, term_bytes, joined, store_atom, concat_put}
use Rattle.rules.proofs.Needs.{passed, settle_ind}
use Rattle.rules.specs.Whole.{St, store_of, on_store, new_concat}
use Rattle.runs.specs.Wf.{WF}
use Rattle.runs.specs.Makes as M
use Rattle.runs.specs.Makes.{accepted, ghostly, stored, AllAtoms, JoinGiven, MakesJoin, bytes_of, shown_all}
use Rattle.rules.proofs.Bytes.{octets-++}
use Rattle.runs.proofs.Growing.{grown, on, on_refl, ghosts_grown}
use Rattle.runs.proofs.Guards.{guard, under}
use Rattle.runs.proofs.Atoms.{AtomIs, no_atom, in_store, itself, atom-is, Found, found, atom_in}
use Rattle.runs.proofs.Making.{Gives, small-made, bytes-made}

-- v is what the nodes, all of them atoms, show, joined; with len before it, it has the size
pub record Joins (s : St) (ns : List ℕ) (len size : ℕ) (v : List ℕ) : Type 0 where
  pub nodes : AllAtoms s ns
  pub shows : v ≡ shown_all s.lists ns
  pub long : len + length v ≡ size
  pub octets : Octets v

module _ {s : St} (w : WF s) where
  one_more : {n : ℕ} {x : Atom} {ns : List ℕ} {len size : ℕ} {v : List ℕ} → Found s n x → Joins s ns (len + atom_length x) size v
      → Joins s (n ∷ ns) len size (atom_bytes s.lists.bytes x ++ v)
  one_more {x = x} {v = v} f j = record {
    nodes = (atom_in f, j.nodes);
    shows = ap₂ ◌++◌ (sym (ap bytes_of f.shows)) j.shows;
    long = omega (arith, length-append (atom_bytes s.lists.bytes x) v, f.long, j.long);
    octets = octets-++ (atom_bytes s.lists.bytes x) v f.octets j.octets;
  }

  -- a scan that finds no fault: one term, then the rest
  term_joins : {n : ℕ} {ns : List ℕ} {len size : ℕ} {v : List ℕ} {r : Said Atom} (d : Done) (go : ℕ → Said Done)
      → ((len' : ℕ) → go len' ≡ says d → Joins s ns len' size v) → AtomIs s.rec s.lists.atoms n r → term size n len r go ≡ says d
      → Joins s (n ∷ ns) len size (term_bytes s.lists.bytes r ++ v)
  term_joins d go f (no_atom code node c) g = let z : ◌≡◌ {A = ℕ} 0 1 = cc in absurd (omega arith)
  term_joins d go f (in_store i e l ok) g = one_more (found w (in_store i e l ok)) (f _ (passed _ _ _ _ _ g).1)
  term_joins d go f (itself v e) g = one_more (found w (itself v e)) (f _ g)

  pub scanned : (size : ℕ) (ns : List ℕ) (len : ℕ) (d : Done) → scan s.rec s.lists.atoms size ns len ≡ says d → Joins s ns len size (joined s.rec (store_of s) ns)
  unfolding scan joined
  scanned size [] len d h =
      let e : len ≡ size = eqb-true len size (passed (eqb len size) 10 nil (says done) d h).0 in
      record { nodes = tt; shows = refl; long = omega arith; octets = λ i. omega arith }
  scanned size (n ∷ ns) len d h =
      term_joins d (scan s.rec s.lists.atoms size ns) (λ len' g. scanned size ns len' d g) (atom-is s.rec s.lists.atoms n) h

  pub given : {ns : List ℕ} {size : ℕ} {v : List ℕ} → Joins s ns 0 size v → heap s.rec + size ≤ s.rec.limit → JoinGiven s size ns
  given j h = record { nodes = j.nodes; size_is = rw (← j.shows) (let g = j.long in omega arith); within = h }

  -- one node: that node again
  again : {n size : ℕ} {x : Atom} → Found s n x → atom_length x ≡ size → heap s.rec + size ≤ s.rec.limit → atoms s.rec < 62500000
      → MakesJoin s size (n ∷ []) (record { said = says n; next = record { rec = ghost_atom size s.rec; lists = s.lists } })
  again {n} {size} {x} f q h a = under (given (one_more {len = 0} f (record { nodes = tt; shows = refl; long = omega arith; octets = λ i. omega arith })) h)
      (accepted n _ (record {
        on = on (ghosts_grown (grown (on_refl w)) _) (let u = w.sound in omega arith);
        node-is = refl;
        counted = omega arith;
        used = omega arith;
        valid = f.valid;
        shows = rw (f.shows, append-nil);
      }))

  one_made : {n size : ℕ} {r : Said Atom} → AtomIs s.rec s.lists.atoms n r → heap s.rec + size ≤ s.rec.limit → atoms s.rec < 62500000
      → MakesJoin s size (n ∷ []) (on_store s (settle (one_term size r) s.rec (store_of s) (λ d. out n (ghost_atom size s.rec) (store_of s))))
  one_made (no_atom code node c) h a = M.refused code node
  one_made (in_store i e l ok) h a = guard _ _ _ _ _ λ t. again (found w (in_store i e l ok)) (eqb-true _ _ t) h a
  one_made (itself v e) h a = guard _ _ _ _ _ λ t. again (found w (itself v e)) (eqb-true _ _ t) h a

  put_made : (size : ℕ) (ns : List ℕ) → heap s.rec + size ≤ s.rec.limit → atoms s.rec < 62500000
      → MakesJoin s size ns (on_store s (concat_put s.rec size ns (store_of s)))
  unfolding len_for be
  put_made size [] h a = guard _ _ _ _ _ λ t.
      let e : 0 ≡ size = eqb-true 0 size t in
      under (record { nodes = tt; size_is = e; within = h })
      (subst (λ (k : ℕ). Gives s (ghostly nil k) [] (on_store s (out nil (ghost_atom 0 s.rec) (store_of s)))) e
      (accepted nil _ (small-made w 0 0 (omega arith) (omega arith) a)))
  put_made size (n ∷ []) h a = one_made (atom-is s.rec s.lists.atoms n) h a
  put_made size (n ∷ m ∷ ns) h a = settle_ind (λ o. MakesJoin s size (n ∷ m ∷ ns) (on_store s o)) _ _ _ _ (λ code node e. M.refused code node)
      (λ d e.
      let j = scanned size (n ∷ m ∷ ns) 0 d e in
      let v = joined s.rec (store_of s) (n ∷ m ∷ ns) in
      let q : length v ≡ size = (let g = j.long in omega arith) in
      under (given j h) (subst (λ (l : List ℕ). Gives s (stored size s) l (on_store s (store_atom s.rec v (store_of s)))) j.shows
      (subst (λ (k : ℕ). Gives s (stored k s) v (on_store s (store_atom s.rec v (store_of s)))) q (bytes-made w v j.octets (omega arith) a))))

  pub concat-makes : (size : ℕ) (ns : List ℕ) → MakesJoin s size ns (new_concat size ns s)
  unfolding concat_tests
  concat-makes size ns = guard _ _ _ _ _ λ t₁. guard _ _ _ _ _ λ t₂. guard _ _ _ _ _ λ t₃. put_made size ns (leb-true _ _ t₃) (ltb-true _ _ t₂)

-- new_substr: what it leaves, and by how much it can pass the heap limit. Assumes nothing.
use Prim.Native.Nat.{ℕ, ◌+◌, ◌-◌, ◌≤◌, ◌<◌}
use mathlib.Core.Path.{◌≡◌, refl, sym, ◌∙◌, ap}
use mathlib.Core.List.{List}
use mathlib.Core.Option.{Option, none, some}
use native.Mathlib.Nat.{le_refl}
use native.Mathlib.Omega.{arith}
use borrow.Author.Tests.{ltb-true, leb-true}
use native.Mathlib.Decide.{dec_lt}
use lib.ListN.{length, take}
use lib.Seq.{slice, take_all, length-slice, get_or-set_same}
use Rattle.rules.specs.Node.{Node, pair_at, bytes_at, small, bad, view, bytes_node, small_node}
use Rattle.rules.specs.Small.{fits, len_for, small_bytes, Octets}
use Rattle.rules.specs.Said.{Said, settle}
use Rattle.rules.specs.State.{start_at, end_at, atoms, heap}
use Rattle.rules.specs.Reads.{Atom, atom_length}
use Rattle.rules.specs.Creates.{bounded, substr_tests, share_range, part_put, substr_put}
use Rattle.rules.specs.Tree.{leaf}
use Rattle.rules.proofs.Tests.{both}
use Rattle.rules.proofs.Smalls.{length-be, be-octets, fits-value, fits-bytes, part-short}
use Rattle.rules.proofs.Trees.{tree-bytes, tree-small}
use Rattle.rules.specs.Whole.{St, Whole, store_of, on_store, new_substr}
use Rattle.runs.specs.Wf.{WF}
use Rattle.runs.specs.Makes as M
use Rattle.runs.specs.Makes.{accepted, shared, fitted, parted, PartGiven, MakesPart}
use Rattle.rules.proofs.Bytes.{octets-slice}
use Rattle.runs.proofs.Lists.{slice-slice}
use Rattle.runs.proofs.Extend.{ext_refl, from_any, from-within}
use Rattle.runs.proofs.Growing.{Grown, grown, on_refl, grown_on, with_atom, atom_grown}
use Rattle.runs.proofs.Reading.{view-bytes, small_bits}
use Rattle.runs.proofs.Guards.{guard, under}
use Rattle.runs.proofs.Atoms.{AtomIs, no_atom, in_store, itself, atom-is, Found, found, atom_in, shown-length}
use Rattle.runs.proofs.Making.{Gives, small-made, bytes-made}

-- a part of a small atom that does not fit has at most 3 bytes
small-part : (s : St) (v start end : ℕ) → v < 67108864 → end ≤ len_for v → (parted (small v) start end s).heap ≤ 3
small-part s v start end b h = go (fits (slice start end (small_bytes v))) refl
  where
    go : (f : Option ℕ) → fits (slice start end (small_bytes v)) ≡ f → (fitted f 0 (slice start end (small_bytes v)) s).heap ≤ 3
    go (some n) e = omega arith
    go none e =
        let l : length (slice start end (small_bytes v)) ≡ end - start = length-slice start end (small_bytes v) (omega (arith, length-be (len_for v) v)) in
        omega (arith, part-short v start end b h e)

-- so a part adds at most 3 bytes to the heap
pub part-heap : (s : St) (n start end : ℕ) → (parted (view n) start end s).heap ≤ 3
part-heap s n start end = go (view n) refl
  where
    go : (x : Node) → view n ≡ x → (parted x start end s).heap ≤ 3
    go (pair_at i) e = omega arith
    go (bytes_at i) e = omega arith
    go (small v) e = elim (dec_lt (len_for v) end) [
      | yes h ↦ (let q : take end (small_bytes v) ≡ take (len_for v) (small_bytes v) =
          take_all end (small_bytes v) (omega (arith, length-be (len_for v) v)) ∙ sym (take_all (len_for v) (small_bytes v) (omega (arith, length-be (len_for v) v))) in
          rw q (small-part s v start (len_for v) (small_bits n v e) (le_refl _)))
      | no h ↦ small-part s v start end (small_bits n v e) (omega arith)
    ]
    go bad e = omega arith

module _ {s : St} (w : WF s) where
  -- of Bytes: a new slot over the same bytes
  share-makes : (i start end : ℕ) → i < s.rec.used.atoms → start ≤ end → end ≤ end_at s.lists.atoms i - start_at s.lists.atoms i → atoms s.rec < 62500000
      → Gives s (shared s) (slice start end (slice (start_at s.lists.atoms i) (end_at s.lists.atoms i) s.lists.bytes))
      (on_store s (share_range s.rec (start_at s.lists.atoms i + start) (start_at s.lists.atoms i + end) (store_of s)))
  unfolding share_range
  share-makes i start end l h g a = guard _ _ _ _ _ λ t.
      let t₁ = both _ _ t in
      let ls : s.rec.used.atoms < length s.lists.atoms.starts = ltb-true _ _ t₁.0 in
      let le : s.rec.used.atoms < length s.lists.atoms.ends = ltb-true _ _ t₁.1 in
      let ok = w.shape.slot i l in
      let from = start_at s.lists.atoms i in
      let to = end_at s.lists.atoms i in
      let j = s.rec.used.atoms in
      let bits : j < 67108864 = (let u = w.sound in omega arith) in
      let s' = with_atom 0 (from + start) (from + end) s.lists.bytes s in
      let gr : Grown s s' = atom_grown (grown (on_refl w)) 0 (from + start) (from + end) s.lists.bytes refl refl w.octets
      (from-within (from_any (ext_refl s) i l) (omega arith) (omega arith)) (omega arith) (omega arith) ls le in
      accepted (bytes_node j) s' (record {
        on = grown_on gr (λ m. let u = w.sound in omega arith);
        node-is = refl;
        counted = omega arith;
        used = omega arith;
        valid = rw (view-bytes j bits) (omega arith);
        shows = tree-bytes s'.lists (bytes_node j) j (view-bytes j bits)
            ∙ rw (get_or-set_same s.lists.atoms.starts j (from + start) 0 ls, get_or-set_same s.lists.atoms.ends j (from + end) 0 le)
            (ap leaf (sym (slice-slice s.lists.bytes from to start end ok.order g)));
      })

  -- of a small atom: small if the part fits, else bytes and a slot, with no heap test
  part-makes : (f : Option ℕ) (v : List ℕ) → fits v ≡ f → Octets v → (fitted f 0 v s).heap ≤ 3 → atoms s.rec < 62500000
      → Gives s (fitted f 0 v s) v (on_store s (part_put f s.rec v (store_of s)))
  part-makes (some n) v e oc h a =
      accepted (small_node n) _ (rw (fits-bytes v n oc e) at (small-made w n 0 (fits-value v n oc e) (let u = w.sound in omega arith) a))
  part-makes none v e oc h a = bytes-made w v oc (let u = w.sound in omega arith) a

  pub substr-makes : (n start end : ℕ) → MakesPart s n start end (new_substr n start end s)
  unfolding substr_tests
  substr-makes n start end = guard _ _ _ _ _ λ t₁. guard _ _ _ _ _ λ t₂. go (ltb-true _ _ t₂) (atom-is s.rec s.lists.atoms n)
    where
      given : {x : Atom} → Found s n x → start ≤ end → end ≤ atom_length x → PartGiven s n start end
      given f h g = record { node = atom_in f; order = h; inside = omega (arith, shown-length f) }

      go : {r : Said Atom} → atoms s.rec < 62500000 → AtomIs s.rec s.lists.atoms n r
          → MakesPart s n start end (on_store s (settle (bounded n start end r) s.rec (store_of s) (λ x. substr_put x s.rec start end (store_of s))))
      go a (no_atom code node c) = M.refused code node
      go a (in_store i e l ok) =
          guard _ _ _ _ _ λ t₃. guard _ _ _ _ _ λ t₄. guard _ _ _ _ _ λ t₅.
          under (given (found w (in_store i e l ok)) (leb-true _ _ t₅) (leb-true _ _ t₄))
          (rw (e, tree-bytes s.lists n i e) (share-makes i start end l (leb-true _ _ t₅) (leb-true _ _ t₄) a))
      go a (itself v e) =
          guard _ _ _ _ _ λ t₃. guard _ _ _ _ _ λ t₄. guard _ _ _ _ _ λ t₅.
          under (given (found w (itself v e)) (leb-true _ _ t₅) (leb-true _ _ t₄))
          (rw (e, tree-small s.lists n v e) (part-makes (fits (slice start end (small_bytes v))) (slice start end (small_bytes v)) refl
          (octets-slice start end (small_bytes v) (be-octets (len_for v) v)) (small-part s v start end (small_bits n v e) (leb-true _ _ t₄)) a))

  -- the heap can pass the limit by at most 3 bytes an atom, and one substr adds at most 3
  pub substr-heap : (n start end : ℕ) → heap (new_substr n start end s).next.rec ≤ heap s.rec + 3
  substr-heap n start end = go (substr-makes n start end)
    where
      go : {o : Whole ℕ} → MakesPart s n start end o → heap o.next.rec ≤ heap s.rec + 3
      go (M.refused code node) = omega arith
      go (accepted m s' d) = omega (arith, part-heap s n start end, d.made.counted.heap_now)

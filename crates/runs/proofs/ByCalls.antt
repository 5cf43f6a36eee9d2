-- In a well-formed state a valid node reads, by the calls, as its tree and as no other. Assumes nothing.
use Prim.Native.Nat.{ℕ, zero, suc, ◌+◌, ◌-◌, ◌≤◌, ◌<◌}
use mathlib.Core.Path.{◌≡◌, refl, sym, ◌∙◌, ap, ap₂, subst}
use mathlib.Core.List.{List}
use native.Mathlib.Nat.{le_refl}
use native.Mathlib.Omega.{arith}
use borrow.Author.Tests.{lt-ltb, ltb-true}
use lib.ListN.{length, drop, replicate}
use Rattle.rules.specs.Node.{Node, pair_at, bytes_at, small, bad, view}
use Rattle.rules.specs.Small.{be, len_for, small_bytes}
use Rattle.rules.specs.Said.{Said, says, need}
use Rattle.rules.specs.State.{start_at, end_at, first_at, rest_at}
use Rattle.rules.specs.Reads as R
use Rattle.rules.specs.Reads.{Atom, range, value, arg_of, part_of, part_bytes, scratch_after, children_of, branch, sexp_of, sexp}
use Rattle.rules.specs.Tree.{Tree, leaf, fork, tree}
use Rattle.rules.proofs.Needs.{passed}
use Rattle.rules.proofs.Smalls.{be-low, small-length}
use Rattle.rules.proofs.Trees.{tree-bytes, tree-small}
use Rattle.rules.specs.Whole.{St}
use Rattle.runs.specs.Wf.{Valid, ValidIn, WF, On}
use Rattle.runs.specs.ByCalls.{ReadsAs, atom-reads, pair_reads}
use Rattle.runs.proofs.Tests.{valid_mono, →pairs, →store, →slot, →pair}
use Rattle.runs.proofs.Reading.{small_bits, tree-same, tree-pair}
use Rattle.runs.proofs.Atoms.{AtomIs, no_atom, in_store, itself, atom-is}

module _ {s : St} (w : WF s) where
  -- the part that atom hands back holds what the node shows
  part-shows : {n : ℕ} {r : Said Atom} (scratch : List ℕ) (x : Atom) → AtomIs s.rec s.lists.atoms n r → part_of (length scratch) r ≡ says x
      → leaf (part_bytes s.lists.bytes (scratch_after (says x) scratch) (says x)) ≡ tree s.lists n
  part-shows scratch x (no_atom code node c) h = let z : ◌≡◌ {A = ℕ} 0 1 = cc in absurd (omega arith)
  part-shows {n} scratch x (in_store i e l ok) h =
      let q : range (start_at s.lists.atoms i) (end_at s.lists.atoms i) ≡ x = cc in
      subst (λ (y : Atom). leaf (part_bytes s.lists.bytes (scratch_after (says y) scratch) (says y)) ≡ tree s.lists n) q (sym (tree-bytes s.lists n i e))
  part-shows {n} scratch x (itself v e) h =
      let p = passed _ _ _ _ _ h in
      let q : value v ≡ x = (let g = p.1 in cc) in
      let l = small-length v (small_bits n v e) in
      let k : 4 - len_for v + len_for v ≡ 4 = omega arith in
      subst (λ (y : Atom). leaf (part_bytes s.lists.bytes (scratch_after (says y) scratch) (says y)) ≡ tree s.lists n) q
      (ap leaf (subst (λ (m : ℕ). drop (4 - len_for v) (be m v) ≡ small_bytes v) k (be-low (len_for v) (4 - len_for v) v)) ∙ sym (tree-small s.lists n v e))

  -- the children that sexp gives are those of the pair
  sexp-shows : (n first rest : ℕ) → sexp s.rec s.lists.pairs n ≡ says (branch first rest) → fork (tree s.lists first) (tree s.lists rest) ≡ tree s.lists n
  unfolding sexp children_of
  sexp-shows n first rest h = go (view n) refl (passed _ _ _ _ _ h).1
    where
      go : (x : Node) → view n ≡ x → sexp_of s.rec s.lists.pairs x ≡ says (branch first rest) → fork (tree s.lists first) (tree s.lists rest) ≡ tree s.lists n
      go (pair_at i) e g =
          let p = passed _ _ _ _ _ g in
          let q = (passed _ _ _ _ _ p.1).1 in
          let f : first_at s.lists.pairs i ≡ first = cc in
          let r : rest_at s.lists.pairs i ≡ rest = cc in
          sym (tree-pair w.shape n i (ltb-true _ _ p.0) e ∙ ap₂ fork (ap (tree s.lists) f) (ap (tree s.lists) r))
      go (bytes_at i) e g = let p = (passed _ _ _ _ _ g).1 in let z : ◌≡◌ {A = ℕ} 0 1 = cc in absurd (omega arith)
      go (small v) e g = let z : ◌≡◌ {A = ℕ} 0 1 = cc in absurd (omega arith)
      go bad e g = let z : ◌≡◌ {A = ℕ} 0 1 = cc in absurd (omega arith)

  -- no other tree
  pub reads_only : {n : ℕ} {t : Tree} → ReadsAs s n t → t ≡ tree s.lists n
  unfolding R.atom
  reads_only {n} (atom-reads scratch x h) = part-shows scratch x (atom-is s.rec s.lists.atoms n) (passed _ _ _ _ _ h).1
  reads_only {n} (pair_reads first rest h p q) = ap₂ fork (reads_only p) (reads_only q) ∙ sexp-shows n first rest h

  -- and it does read as that one
  there : {n : ℕ} {t : Tree} → ReadsAs s n t → ReadsAs s n (tree s.lists n)
  there {n} r = subst (ReadsAs s n) (reads_only r) r

  bytes_read : (n i : ℕ) → view n ≡ bytes_at i → i < s.rec.used.atoms → ReadsAs s n (tree s.lists n)
  unfolding R.atom need arg_of
  bytes_read n i e l = there (atom-reads (replicate 4 0) (range (start_at s.lists.atoms i) (end_at s.lists.atoms i))
      (rw (→store w.sound, e, lt-ltb i s.rec.used.atoms l, →slot s.rec.used.bytes s.lists.atoms i (w.shape.slot i l))))

  small-reads : (n v : ℕ) → view n ≡ small v → ReadsAs s n (tree s.lists n)
  unfolding R.atom need arg_of
  small-reads n v e = there (atom-reads (replicate 4 0) (value v) (rw (→store w.sound, e)))

  pair_read : (n i : ℕ) → view n ≡ pair_at i → i < s.rec.used.pairs → ((m : ℕ) → Valid s.rec.used.atoms i (view m) → ReadsAs s m (tree s.lists m))
      → ReadsAs s n (tree s.lists n)
  unfolding sexp need children_of
  pair_read n i e l f =
      let ok = w.shape.pair i l in
      there (pair_reads (first_at s.lists.pairs i) (rest_at s.lists.pairs i)
      (rw (→pairs w.sound, e, lt-ltb i s.rec.used.pairs l, →pair s.rec.used.atoms s.lists.pairs i ok))
      (f _ ok.first_ok) (f _ ok.rest_ok))

  -- by the number of pair slots below which its own must lie
  below : (d n : ℕ) → d ≤ s.rec.used.pairs → (x : Node) → view n ≡ x → Valid s.rec.used.atoms d x → ReadsAs s n (tree s.lists n)
  below zero n b (pair_at i) e v = absurd (omega arith)
  below (suc d) n b (pair_at i) e v = pair_read n i e (omega arith) λ m u.
      below d m (omega arith) (view m) refl (valid_mono (view m) (le_refl _) (omega arith) u)
  below zero n b (bytes_at i) e v = bytes_read n i e v
  below (suc d) n b (bytes_at i) e v = bytes_read n i e v
  below zero n b (small u) e v = small-reads n u e
  below (suc d) n b (small u) e v = small-reads n u e
  below zero n b bad e v = absurd v
  below (suc d) n b bad e v = absurd v

  pub reads-tree : (n : ℕ) → ValidIn s n → ReadsAs s n (tree s.lists n)
  reads-tree n v = below s.rec.used.pairs n (le_refl _) (view n) refl v

-- nodes that show the same tree read alike
pub reads_alike : {s s' : St} → WF s → WF s' → (n m : ℕ) → ValidIn s' m → tree s'.lists m ≡ tree s.lists n → (t : Tree) → ReadsAs s n t → ReadsAs s' m t
reads_alike {s' = s'} w w' n m v e t r = subst (ReadsAs s' m) (e ∙ sym (reads_only w r)) (reads-tree w' m v)

-- a node valid in k reads in a state that extends k as it read in k
pub reads_same : {k s : St} → WF k → On k s → (n : ℕ) (t : Tree) → ValidIn k n → ReadsAs k n t → ReadsAs s n t
reads_same w o n t v r = reads_alike w o.wf n n (valid_mono (view n) o.ext.atoms o.ext.pairs v) (tree-same w.shape o.ext.same n v) t r

-- In a well-formed state every atom of a valid node's tree is short enough to have a form, and its numbers are bytes; so are its shortest form's.
-- Assumes nothing.
use Prim.Native.Nat.{ℕ, zero, suc, ◌≤◌, ◌<◌}
use mathlib.Core.Path.{◌≡◌, refl, sym, subst}
use mathlib.Core.Bool.{◌&&◌}
use mathlib.Core.List.{List, ◌∷◌, ◌++◌}
use native.Mathlib.Nat.{le_refl}
use native.Mathlib.Omega.{arith}
use lib.Dec.{ltb, eqb}
use lib.ListN.{length, get_or}
use Rattle.rules.specs.Node.{Node, pair_at, bytes_at, small, bad, view}
use Rattle.rules.specs.Small.{be, Octets}
use Rattle.rules.specs.State.{first_at, rest_at}
use Rattle.rules.specs.Tree.{Tree, leaf, fork}
use Rattle.rules.specs.Serial.{limit_of, prefix, extra_for, shortest_atom, shortest}
use Rattle.rules.proofs.Smalls.{be-octets, small-length}
use Rattle.rules.proofs.Tests.{choice}
use Rattle.serial.specs.Forms.{AtomsFit}
use Rattle.serial.proofs.Table.{bases_grow, last_base, extra-for}
use Rattle.serial.proofs.Digits.{written_first}
use Rattle.rules.specs.Whole.{St}
use Rattle.runs.specs.Wf.{Valid, ValidIn, WF}
use Rattle.runs.proofs.Tests.{valid_mono}
use Rattle.rules.proofs.Bytes.{octets-++}
use Rattle.runs.proofs.Reading.{small_bits, tree-pair}
use Rattle.runs.proofs.Atoms.{in_store, itself, found}
use Rattle.saves.specs.Saves.{tree_of, AtomsOctets}

-- ---- the atoms of a tree

-- what holds of every atom of at most 4,294,967,295 bytes, and of a pair where it holds of both children, holds of a valid node's tree
module _ {s : St} (w : WF s) (P : Tree → Type 0) (atom : (v : List ℕ) → length v ≤ 4294967295 → Octets v → P (leaf v))
    (pair : (x y : Tree) → P x → P y → P (fork x y)) where
  bytes-at : (n i : ℕ) → view n ≡ bytes_at i → i < s.rec.used.atoms → P (tree_of s n)
  bytes-at n i e l =
      let ok = w.shape.slot i l in
      let f = found w {n = n} (in_store i e l ok) in
      subst P (sym f.shows) (atom _ (rw f.long (omega (arith, w.sound.bytes_most, ok.inside))) f.octets)

  small_at : (n v : ℕ) → view n ≡ small v → P (tree_of s n)
  small_at n v e =
      let f = found w {n = n} (itself v e) in
      subst P (sym f.shows) (atom _ (rw f.long (omega (arith, small-length v (small_bits n v e)))) f.octets)

  pair-at : (n i : ℕ) → view n ≡ pair_at i → i < s.rec.used.pairs → ((m : ℕ) → Valid s.rec.used.atoms i (view m) → P (tree_of s m)) → P (tree_of s n)
  pair-at n i e l f =
      let ok = w.shape.pair i l in
      subst P (sym (tree-pair w.shape n i l e)) (pair _ _ (f (first_at s.lists.pairs i) ok.first_ok) (f (rest_at s.lists.pairs i) ok.rest_ok))

  -- by the number of pair slots below which its own must lie
  below : (d n : ℕ) → d ≤ s.rec.used.pairs → (x : Node) → view n ≡ x → Valid s.rec.used.atoms d x → P (tree_of s n)
  below zero n b (pair_at i) e v = absurd (omega arith)
  below (suc d) n b (pair_at i) e v = pair-at n i e (omega arith) λ m u.
      below d m (omega arith) (view m) refl (valid_mono (view m) (le_refl _) (omega arith) u)
  below zero n b (bytes_at i) e v = bytes-at n i e v
  below (suc d) n b (bytes_at i) e v = bytes-at n i e v
  below zero n b (small u) e v = small_at n u e
  below (suc d) n b (small u) e v = small_at n u e
  below zero n b bad e v = absurd v
  below (suc d) n b bad e v = absurd v

  pub tree_ind : (n : ℕ) → ValidIn s n → P (tree_of s n)
  tree_ind n v = below s.rec.used.pairs n (le_refl _) (view n) refl v

limit-last : limit_of 4 ≡ 17179869184
unfolding limit_of
limit-last = refl

pub tree-fits : {s : St} → WF s → (n : ℕ) → ValidIn s n → AtomsFit (tree_of s n)
tree-fits w = tree_ind w AtomsFit (λ v h o. omega (arith, limit-last)) λ x y p q. (p, q)

pub tree-octets : {s : St} → WF s → (n : ℕ) → ValidIn s n → AtomsOctets (tree_of s n)
tree-octets w = tree_ind w AtomsOctets (λ v h o. o) λ x y p q. (p, q)

-- ---- the shortest form

octets-∷ : (b : ℕ) (l : List ℕ) → b < 256 → Octets l → Octets (b ∷ l)
octets-∷ b l h o zero = h
octets-∷ b l h o (suc i) = o i

pub prefix-octets : (k len : ℕ) → k ≤ 4 → len < limit_of k → Octets (prefix k len)
prefix-octets k len h l =
    octets-∷ _ (be k len) (omega (arith, written_first k len h l, bases_grow {i = suc k} {j = 5} (omega arith), last_base)) (be-octets k len)

atom-octets : (v : List ℕ) → length v < limit_of 4 → Octets v → Octets (shortest_atom v)
unfolding shortest_atom
atom-octets v h o =
    let e = extra-for (length v) h in
    choice Octets (eqb (length v) 1 && ltb (get_or v 0 0) 0x80) v _
    (λ t. o)
    λ t. octets-++ (prefix (extra_for (length v)) (length v)) v (prefix-octets (extra_for (length v)) (length v) e.0 e.1) o

pub shortest-octets : (t : Tree) → AtomsFit t → AtomsOctets t → Octets (shortest t)
unfolding shortest
shortest-octets (leaf v) h o = atom-octets v h o
shortest-octets (fork x y) h o =
    octets-∷ 0xff (shortest x ++ shortest y) (omega arith)
    (octets-++ (shortest x) (shortest y) (shortest-octets x h.0 o.0) (shortest-octets y h.1 o.1))

-- Each call that makes a node or counts ghosts: what it leaves. Assumes nothing.
use Prim.Native.Nat.{ℕ, ◌+◌, ◌*◌, ◌≤◌, ◌<◌}
use mathlib.Core.Path.{◌≡◌, refl, ◌∙◌, ap, ap₂}
use mathlib.Core.List.{List}
use mathlib.Core.Option.{Option, none, some}
use native.Mathlib.Nat.{le_refl}
use native.Mathlib.Omega.{arith}
use borrow.Author.Tests.{ltb-true, leb-true}
use lib.IntN.{ℤ, pos}
use lib.ListN.{length}
use lib.Seq.{get_or-set_same}
use Rattle.rules.specs.Node.{view, pair_node, bytes_node, small_node}
use Rattle.rules.specs.Small.{fits, len_for, small_bytes, Octets}
use Rattle.rules.specs.Integer.{int_bytes}
use Rattle.rules.specs.Said.{done}
use Rattle.rules.specs.State.{atoms, pairs, heap, over, ghost_atom}
use Rattle.rules.specs.Creates as C
use Rattle.rules.specs.Creates.{store_atom, atom_tests, atom_put, small_tests, pair_tests}
use Rattle.rules.specs.Tree.{leaf, fork}
use Rattle.rules.proofs.Tests.{both}
use Rattle.rules.proofs.Smalls.{fits-value, fits-bytes, be-octets}
use Rattle.rules.proofs.Overs.{take-over, length_over}
use Rattle.rules.proofs.Trees.{tree-bytes, tree-small}
use Rattle.rules.specs.Whole.{St, Whole, store_of, on_store, new_atom, new_small_number, new_u64, new_i64, new_pair, add_ghost_pair, remove_ghost_pair, add_ghost_atom}
use Rattle.runs.specs.Wf.{ValidIn, WF, past}
use Rattle.runs.specs.Makes.{Outcome, accepted, MakesNumber, Made, MakesAtom, MakesPair, Moved, Fewer, Effect, ghostly, stored, fitted}
use Rattle.runs.proofs.Tests.{holds→, valid→}
use Rattle.runs.proofs.Lists.{slice_over, octets-over}
use Rattle.runs.proofs.Growing.{Grown, grown, on_refl, on, grown_on, with_atom, with_pair, ghosts_grown, atom_grown, pair_grown}
use Rattle.runs.proofs.Reading.{view-pair, view-bytes, view-small, tree-same, tree-pair}
use Rattle.runs.proofs.Guards.{guard, guard_pairs, guard_alone, under}

-- an atom that shows v
abbrev pub Gives : St → Effect → List ℕ → Whole ℕ → Type 0
Gives s e v = Outcome s (Made s e (leaf v))

module _ {s : St} (w : WF s) where
  now : Grown s s
  now = grown (on_refl w)

  -- a small atom: only the ghosts grow
  pub small-made : (v len : ℕ) → v < 67108864 → heap s.rec + len ≤ s.rec.limit + 3 * (atoms s.rec + 1) → atoms s.rec < 62500000
      → Made s (ghostly (small_node v) len) (leaf (small_bytes v)) (small_node v) (record { rec = ghost_atom len s.rec; lists = s.lists })
  small-made v len b h a = record {
    on = on (ghosts_grown now _) (let u = w.sound in omega arith);
    node-is = refl;
    counted = omega arith;
    used = omega arith;
    valid = rw (view-small v b) tt;
    shows = tree-small s.lists (small_node v) v (view-small v b);
  }

  -- bytes and one slot
  pub bytes-made : (v : List ℕ) → Octets v → heap s.rec + length v ≤ s.rec.limit + 3 * (atoms s.rec + 1) → atoms s.rec < 62500000
      → Gives s (stored (length v) s) v (on_store s (store_atom s.rec v (store_of s)))
  unfolding store_atom
  bytes-made v oc h a = guard _ _ _ _ _ λ t.
      let r = holds→ s.rec (length v) (store_of s) t in
      let b = s.rec.used.bytes in
      let i = s.rec.used.atoms in
      let fit : b ≤ length s.lists.bytes = w.sound.bytes_fit in
      let bits : i < 67108864 = (let u = w.sound in omega arith) in
      let same = length_over s.lists.bytes v b r.bytes in
      let g : Grown s (with_atom (length v) b (b + length v) (over s.lists.bytes b v) s) = atom_grown now (length v) b (b + length v) (over s.lists.bytes b v)
      (take-over s.lists.bytes v b b (le_refl _) fit) same (octets-over s.lists.bytes b v w.octets oc) (past (le_refl _)) (omega arith) (le_refl _) r.starts r.ends in
      accepted (bytes_node i) (with_atom (length v) b (b + length v) (over s.lists.bytes b v) s) (record {
        on = grown_on g (λ m. let u = w.sound in omega arith);
        node-is = refl;
        counted = omega arith;
        used = omega arith;
        valid = rw (view-bytes i bits) (omega arith);
        shows = tree-bytes _ (bytes_node i) i (view-bytes i bits)
            ∙ rw (get_or-set_same s.lists.atoms.starts i b 0 r.starts, get_or-set_same s.lists.atoms.ends i (b + length v) 0 r.ends)
            (ap leaf (slice_over s.lists.bytes b v fit));
      })

  -- ---- new_atom

  put_made : (f : Option ℕ) (v : List ℕ) → fits v ≡ f → Octets v → heap s.rec + length v ≤ s.rec.limit → atoms s.rec < 62500000
      → Gives s (fitted f (length v) v s) v (on_store s (atom_put f s.rec v (store_of s)))
  put_made (some n) v e oc h a = accepted (small_node n) _ (rw (fits-bytes v n oc e) at (small-made n (length v) (fits-value v n oc e) (omega arith) a))
  put_made none v e oc h a = bytes-made v oc (omega arith) a

  pub atom-makes : (v : List ℕ) → Octets v → MakesAtom s v (new_atom v s)
  unfolding atom_tests
  atom-makes v oc =
      guard _ _ _ _ _ λ t₁. guard _ _ _ _ _ λ t₂. guard _ _ _ _ _ λ t₃.
      let h : heap s.rec + length v ≤ s.rec.limit = leb-true _ _ t₂ in
      under h (put_made (fits v) v refl oc h (ltb-true _ _ t₃))

  -- ---- new_u64, new_i64

  pub u64-makes : (x : ℕ) → MakesAtom s (int_bytes (pos x)) (new_u64 x s)
  u64-makes x = atom-makes (int_bytes (pos x)) (be-octets _ _)

  pub i64-makes : (z : ℤ) → MakesAtom s (int_bytes z) (new_i64 z s)
  i64-makes z = atom-makes (int_bytes z) (be-octets _ _)

  -- ---- new_small_number

  pub number-makes : (v : ℕ) → MakesNumber s v (new_small_number v s)
  unfolding small_tests
  number-makes v =
      guard_alone _ _ _ _ _ λ t₁. guard_alone _ _ _ _ _ λ t₂. guard_alone _ _ _ _ _ λ t₃. guard_alone _ _ _ _ _ λ t₄.
      let b : v ≤ 67108863 = leb-true _ _ t₂ in
      let h : heap s.rec + len_for v ≤ s.rec.limit = leb-true _ _ t₃ in
      accepted (small_node v) _ (record { given = (h, b); made = small-made v (len_for v) (omega arith) (omega arith) (ltb-true _ _ t₄) })

  -- ---- new_pair

  pub pair-makes : (first rest : ℕ) → MakesPair s first rest (new_pair first rest s)
  unfolding pair_tests
  pair-makes first rest =
      guard_pairs _ _ _ _ _ λ t₁. guard_pairs _ _ _ _ _ λ t₂. guard_pairs _ _ _ _ _ λ t₃. guard_pairs _ _ _ _ _ λ t₄. guard_pairs _ _ _ _ _ λ t₅.
      let vf : ValidIn s first = valid→ _ _ (view first) t₂ in
      let vr : ValidIn s rest = valid→ _ _ (view rest) t₃ in
      let h : pairs s.rec < 62500000 = ltb-true _ _ t₄ in
      let t₆ = both _ _ t₅ in
      let lf : s.rec.used.pairs < length s.lists.pairs.firsts = ltb-true _ _ t₆.0 in
      let lr : s.rec.used.pairs < length s.lists.pairs.rests = ltb-true _ _ t₆.1 in
      let p = s.rec.used.pairs in
      let bits : p < 67108864 = omega arith in
      let s' = with_pair first rest s in
      let g : Grown s s' = pair_grown now first rest vf vr lf lr in
      under (vf, vr) (accepted (pair_node p) s' (record {
        on = grown_on g (λ m. let u = w.sound in omega arith);
        node-is = refl;
        counted = omega arith;
        used = omega arith;
        valid = rw (view-pair p bits) (omega arith);
        shows = tree-pair g.shape (pair_node p) p (omega arith) (view-pair p bits)
            ∙ rw (get_or-set_same s.lists.pairs.firsts p first 0 lf, get_or-set_same s.lists.pairs.rests p rest 0 lr)
            (ap₂ fork (tree-same w.shape g.ext.same first vf) (tree-same w.shape g.ext.same rest vr));
      }))

  -- ---- the ghost calls

  pub ghost_pairs_makes : (amount : ℕ) → Outcome s (Moved s 0 amount) (add_ghost_pair amount s)
  unfolding C.add_ghost_pair
  ghost_pairs_makes amount = guard_alone _ _ _ _ _ λ t₁. guard_alone _ _ _ _ _ λ t₂.
      let h : pairs s.rec + amount ≤ 62500000 = leb-true _ _ t₂ in let u = w.sound in
      accepted done _ (record { on = on (ghosts_grown now _) (omega arith); counted = omega arith; used = omega arith })

  pub fewer_makes : (amount : ℕ) → Outcome s (Fewer s amount) (remove_ghost_pair amount s)
  unfolding C.remove_ghost_pair
  fewer_makes amount = guard_alone _ _ _ _ _ λ t₁. guard_alone _ _ _ _ _ λ t₂.
      let h : amount ≤ s.rec.ghosts.pairs = leb-true _ _ t₂ in let u = w.sound in
      accepted done _ (record { on = on (ghosts_grown now _) (omega arith); counted = omega arith; used = omega arith })

  pub ghost_atoms_makes : (amount : ℕ) → Outcome s (Moved s amount 0) (add_ghost_atom amount s)
  unfolding C.add_ghost_atom
  ghost_atoms_makes amount = guard_alone _ _ _ _ _ λ t₁. guard_alone _ _ _ _ _ λ t₂.
      let h : atoms s.rec + amount ≤ 62500000 = leb-true _ _ t₂ in let u = w.sound in
      accepted done _ (record { on = on (ghosts_grown now _) (omega arith); counted = omega arith; used = omega arith })

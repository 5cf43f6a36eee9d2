-- In a well-formed state a refused call has the cause that document 01 gives its code. Assumes nothing.
use Prim.Native.Nat.{ℕ, ◌+◌, ◌-◌, ◌≤◌}
use mathlib.Core.Path.{◌≡◌, refl, subst}
use mathlib.Core.Bool.{Bool, true, false, ◌&&◌}
use mathlib.Core.List.{List, [], ◌∷◌}
use mathlib.Core.Option.{Option, none, some}
use native.Mathlib.Omega.{arith}
use borrow.Author.Tests.{ltb-true, ltb-false, leb-true, leb-false, eqb-false, lt-ltb}
use lib.Dec.{leb, ltb, eqb}
use lib.IntN.{pos}
use lib.ListN.{length}
use lib.Seq.{slice}
use Rattle.rules.specs.declared.Allocator.{Allocator}
use Rattle.rules.specs.Node.{view}
use Rattle.rules.specs.Small.{fits, len_for, small_bytes}
use Rattle.rules.specs.Integer.{int_bytes}
use Rattle.rules.specs.Said.{Said, says, refuses, need, says_of, Done, Out, out, settle}
use Rattle.rules.specs.State.{start_at, end_at, atoms, pairs, atom_slot_sound, ghost_atom}
use Rattle.rules.specs.Reads.{Atom, atom_length}
use Rattle.rules.specs.Creates as C
use Rattle.rules.specs.Creates.{slot_room, store_room, store_atom, atom_tests, atom_put, small_tests, pair_tests, bounded, substr_tests, share_range, part_put, substr_put, concat_tests, one_term, term, scan, joined, concat_put}
use Rattle.rules.proofs.Needs.{need_ind}
use Rattle.rules.specs.Whole.{St, store_of, new_atom, new_small_number, new_pair, new_substr, new_concat, add_ghost_pair, remove_ghost_pair, add_ghost_atom, Making, atom, small-number, u64, i64, pair, substr, concat, ghost_pairs, fewer_ghost_pairs, ghost_atoms, call}
use Rattle.runs.specs.Wf.{WF}
use Rattle.runs.specs.Makes.{stored, shared, paired, fitted, parted, Within, PartGiven}
use Rattle.runs.specs.Causes as W
use Rattle.runs.specs.Causes.{RefusedBy, Full, Free, RoomFor, AtomCause, NumberCause, PairCause, MorePairsCause, FewerPairsCause, MoreAtomsCause, NodeCause, PartCause, ScanCause, JoinCause, Cause}
use Rattle.runs.proofs.Tests.{and-true, clash, →limits, →pairs, →store, →slot, →holds, valid→, →valid}
use Rattle.runs.proofs.Atoms.{NoAtom, not_valid, bad-slot, a_pair, AtomIs, no_atom, in_store, itself, atom-is, Found, found, atom_in, shown-length}
use Rattle.runs.proofs.Joining.{scanned, given}

-- one test of a call
pub why : {A B L : Type 0} (R : ℕ → ℕ → Type 0) (b : Bool) (code node : ℕ) (next : Said A) (a : Allocator) (l : L) (f : A → Out B L)
    → (b ≡ false → R code node) → (b ≡ true → RefusedBy R (settle next a l f).said) → RefusedBy R (settle (need b code node next) a l f).said
why R b code node next a l f = need_ind (λ r. RefusedBy R (settle r a l f).said) b code node next

-- tests that were told of elsewhere
then_why : {A B L : Type 0} (R : ℕ → ℕ → Type 0) (r : Said A) (a : Allocator) (l : L) (f : A → Out B L)
    → RefusedBy R r → ((x : A) → r ≡ says x → RefusedBy R (f x).said) → RefusedBy R (settle r a l f).said
then_why R (says x) a l f p g = g x refl
then_why R (refuses code node) a l f p g = p

as_well : {A B : Type 0} (R : ℕ → ℕ → Type 0) (f : A → B) (r : Said A) → RefusedBy R r → RefusedBy R (says_of f r)
as_well R f (says x) p = tt
as_well R f (refuses code node) p = p

pub weaker : {A : Type 0} (R Q : ℕ → ℕ → Type 0) (r : Said A) → ((code node : ℕ) → R code node → Q code node) → RefusedBy R r → RefusedBy Q r
weaker R Q (says x) f p = tt
weaker R Q (refuses code node) f p = f code node p

module _ {s : St} (w : WF s) where
  -- ---- 3 and 15

  full : 62500000 ≤ atoms s.rec → Full s
  full h = let u = w.sound in omega arith

  no_store : (len : ℕ) → store_room s.rec len (store_of s) ≡ false → RoomFor s (stored len s) → ⊥
  no_store len t r = clash (store_room s.rec len (store_of s)) t (→holds s.rec len (store_of s) (omega arith))

  no_slot : slot_room s.rec s.lists.atoms ≡ false → RoomFor s (shared s) → ⊥
  no_slot t r = clash (slot_room s.rec s.lists.atoms) t (rw (lt-ltb s.rec.used.atoms (length s.lists.atoms.starts) (omega arith), lt-ltb s.rec.used.atoms (length s.lists.atoms.ends) (omega arith)))

  -- ---- new_atom

  pub atom-cause : (v : List ℕ) → RefusedBy (AtomCause s v) (new_atom v s).said
  unfolding atom_tests store_atom
  atom-cause v =
      why (AtomCause s v) _ _ _ _ _ _ _ (λ t. clash _ t (→store w.sound)) λ t₁.
      why (AtomCause s v) _ _ _ _ _ _ _ (λ t. W.memory (leb-false _ _ t)) λ t₂.
      why (AtomCause s v) _ _ _ _ _ _ _ (λ t. W.full (leb-true _ _ t₂) (full (ltb-false _ _ t))) λ t₃.
      put (fits v) (leb-true _ _ t₂) (ltb-true _ _ t₃) (λ r. r)
    where
      put : (f : Option ℕ) → Within s (length v) → Free s → (RoomFor s (fitted (fits v) (length v) v s) → RoomFor s (fitted f (length v) v s))
          → RefusedBy (AtomCause s v) (atom_put f s.rec v (store_of s)).said
      put (some n) h a g = tt
      put none h a g = why (AtomCause s v) _ _ _ _ _ _ _ (λ t. W.room h a (λ r. no_store (length v) t (g r))) (λ t. tt)

  -- ---- new_small_number, new_pair, the ghost calls

  pub number-cause : (v : ℕ) → RefusedBy (NumberCause s v) (new_small_number v s).said
  unfolding small_tests
  number-cause v =
      why (NumberCause s v) _ _ _ _ _ _ _ (λ t. clash _ t (→limits w.sound)) λ t₁.
      why (NumberCause s v) _ _ _ _ _ _ _ (λ t. W.large (leb-false _ _ t)) λ t₂.
      why (NumberCause s v) _ _ _ _ _ _ _ (λ t. W.memory (leb-true _ _ t₂) (leb-false _ _ t)) λ t₃.
      why (NumberCause s v) _ _ _ _ _ _ _ (λ t. W.full (leb-true _ _ t₂) (leb-true _ _ t₃) (full (ltb-false _ _ t))) λ t₄. tt

  pub pair-cause : (first rest : ℕ) → RefusedBy (PairCause s first rest) (new_pair first rest s).said
  unfolding pair_tests
  pair-cause first rest =
      why (PairCause s first rest) _ _ _ _ _ _ _ (λ t. clash _ t (→pairs w.sound)) λ t₁.
      why (PairCause s first rest) _ _ _ _ _ _ _ (λ t. W.bad_first (λ v. clash _ t (→valid _ _ (view first) v))) λ t₂.
      why (PairCause s first rest) _ _ _ _ _ _ _ (λ t. W.bad_rest (valid→ _ _ (view first) t₂) (λ v. clash _ t (→valid _ _ (view rest) v))) λ t₃.
      why (PairCause s first rest) _ _ _ _ _ _ _ (λ t. W.full (valid→ _ _ (view first) t₂) (valid→ _ _ (view rest) t₃) (most (ltb-false _ _ t))) λ t₄.
      why (PairCause s first rest) _ _ _ _ _ _ _ (λ t. W.room (valid→ _ _ (view first) t₂) (valid→ _ _ (view rest) t₃) (ltb-true _ _ t₄) (λ r. no_pair t r)) λ t₅. tt
    where
      most : 62500000 ≤ pairs s.rec → pairs s.rec ≡ 62500000
      most h = let u = w.sound in omega arith

      no_pair : (ltb s.rec.used.pairs (length s.lists.pairs.firsts) && ltb s.rec.used.pairs (length s.lists.pairs.rests)) ≡ false → RoomFor s (paired s) → ⊥
      no_pair t r = clash _ t (and-true _ _
          (lt-ltb s.rec.used.pairs (length s.lists.pairs.firsts) (omega arith)) (lt-ltb s.rec.used.pairs (length s.lists.pairs.rests) (omega arith)))

  pub more_pairs_cause : (amount : ℕ) → RefusedBy (MorePairsCause s amount) (add_ghost_pair amount s).said
  unfolding C.add_ghost_pair
  more_pairs_cause amount =
      why (MorePairsCause s amount) _ _ _ _ _ _ _ (λ t. clash _ t (→limits w.sound)) λ t₁.
      why (MorePairsCause s amount) _ _ _ _ _ _ _ (λ t. W.MorePairsCause.many (leb-false _ _ t)) λ t₂. tt

  pub fewer_pairs_cause : (amount : ℕ) → RefusedBy (FewerPairsCause s amount) (remove_ghost_pair amount s).said
  unfolding C.remove_ghost_pair
  fewer_pairs_cause amount =
      why (FewerPairsCause s amount) _ _ _ _ _ _ _ (λ t. clash _ t (→limits w.sound)) λ t₁.
      why (FewerPairsCause s amount) _ _ _ _ _ _ _ (λ t. W.few (leb-false _ _ t)) λ t₂. tt

  pub more_atoms_cause : (amount : ℕ) → RefusedBy (MoreAtomsCause s amount) (add_ghost_atom amount s).said
  unfolding C.add_ghost_atom
  more_atoms_cause amount =
      why (MoreAtomsCause s amount) _ _ _ _ _ _ _ (λ t. clash _ t (→limits w.sound)) λ t₁.
      why (MoreAtomsCause s amount) _ _ _ _ _ _ _ (λ t. W.MoreAtomsCause.many (leb-false _ _ t)) λ t₂. tt

  -- ---- new_substr

  node-cause : {n code m : ℕ} → NoAtom s.rec s.lists.atoms n code m → NodeCause s n code m
  node-cause (not_valid h) = W.invalid h
  node-cause (bad-slot i e l h) = clash (atom_slot_sound s.rec.used.bytes s.lists.atoms i) h (→slot s.rec.used.bytes s.lists.atoms i (w.shape.slot i l))
  node-cause (a_pair i e l) = W.a_pair i e l

  -- the three tests of a part, on an atom that was found
  part_why : (n start end : ℕ) {x : Atom} → Found s n x → Free s
      → (PartGiven s n start end → RefusedBy (PartCause s n start end) (substr_put x s.rec start end (store_of s)).said)
      → RefusedBy (PartCause s n start end) (settle (bounded n start end (says x)) s.rec (store_of s) (λ y. substr_put y s.rec start end (store_of s))).said
  part_why n start end {x} f a g =
      let q = shown-length f in
      why (PartCause s n start end) (leb start (atom_length x)) _ _ _ _ _ _ (λ t. let h = leb-false start (atom_length x) t in W.start_past a (atom_in f) (omega arith)) λ t₁.
      why (PartCause s n start end) (leb end (atom_length x)) _ _ _ _ _ _
      (λ t. let h = leb-false end (atom_length x) t in let i = leb-true start (atom_length x) t₁ in W.end-past a (atom_in f) (omega arith) (omega arith)) λ t₂.
      why (PartCause s n start end) (leb start end) _ _ _ _ _ _
      (λ t. let h = leb-true end (atom_length x) t₂ in let i = leb-true start (atom_length x) t₁ in W.order a (atom_in f) (omega arith) (omega arith) (leb-false start end t)) λ t₃.
      let h = leb-true end (atom_length x) t₂ in g (record { node = atom_in f; order = leb-true start end t₃; inside = omega arith })

  pub part-cause : (n start end : ℕ) → RefusedBy (PartCause s n start end) (new_substr n start end s).said
  unfolding substr_tests share_range store_atom
  part-cause n start end =
      why (PartCause s n start end) _ _ _ _ _ _ _ (λ t. clash _ t (→store w.sound)) λ t₁.
      why (PartCause s n start end) _ _ _ _ _ _ _ (λ t. W.full (full (ltb-false _ _ t))) λ t₂.
      go (ltb-true _ _ t₂) (atom-is s.rec s.lists.atoms n)
    where
      put : (f : Option ℕ) (v : List ℕ) → (RoomFor s (parted (view n) start end s) → RoomFor s (fitted f 0 v s)) → Free s → PartGiven s n start end
          → RefusedBy (PartCause s n start end) (part_put f s.rec v (store_of s)).said
      put (some u) v r a g = tt
      put none v r a g = why (PartCause s n start end) _ _ _ _ _ _ _ (λ t. W.room a g (λ h. no_store (length v) t (r h))) (λ t. tt)

      go : {r : Said Atom} → Free s → AtomIs s.rec s.lists.atoms n r
          → RefusedBy (PartCause s n start end) (settle (bounded n start end r) s.rec (store_of s) (λ y. substr_put y s.rec start end (store_of s))).said
      go a (no_atom code node c) = W.PartCause.node a (node-cause c)
      go a (in_store i e l ok) = part_why n start end (found w (in_store i e l ok)) a λ g.
          why (PartCause s n start end) _ _ _ _ _ _ _ (λ t. W.room a g (rw e (no_slot t))) (λ t. tt)
      go a (itself v e) = part_why n start end (found w (itself v e)) a λ g.
          put (fits (slice start end (small_bytes v))) (slice start end (small_bytes v)) (rw e (λ r. r)) a g

  -- ---- new_concat

  term-cause : (size n : ℕ) (ns : List ℕ) (len : ℕ) {r : Said Atom} (go : ℕ → Said Done) → ((len' : ℕ) → RefusedBy (ScanCause s size ns len') (go len'))
      → AtomIs s.rec s.lists.atoms n r → RefusedBy (ScanCause s size (n ∷ ns) len) (term size n len r go)
  term-cause size n ns len go f (no_atom code node c) = W.ScanCause.node (node-cause c)
  term-cause size n ns len go f (in_store i e l ok) =
      let d = found w (in_store i e l ok) in
      let q = shown-length d in
      need_ind (RefusedBy (ScanCause s size (n ∷ ns) len)) (leb (len + (end_at s.lists.atoms i - start_at s.lists.atoms i)) size) _ _ _
      (λ t. let h = leb-false (len + (end_at s.lists.atoms i - start_at s.lists.atoms i)) size t in W.past_size i (atom_in d) e (omega arith))
      (λ t. let h = leb-true (len + (end_at s.lists.atoms i - start_at s.lists.atoms i)) size t in
      weaker _ _ (go (len + (end_at s.lists.atoms i - start_at s.lists.atoms i)))
      (λ code node c. W.after-bytes i (atom_in d) e (omega arith) (rw q c)) (f _))
  term-cause size n ns len go f (itself v e) =
      let d = found w (itself v e) in
      weaker _ _ (go (len + len_for v)) (λ code node c. W.after_small v (atom_in d) e (rw (shown-length d) c)) (f _)

  scan-cause : (size : ℕ) (ns : List ℕ) (len : ℕ) → RefusedBy (ScanCause s size ns len) (scan s.rec s.lists.atoms size ns len)
  unfolding scan
  scan-cause size [] len = need_ind (RefusedBy (ScanCause s size [] len)) (eqb len size) _ _ _ (λ t. W.wrong (eqb-false len size t)) (λ t. tt)
  scan-cause size (n ∷ ns) len = term-cause size n ns len (scan s.rec s.lists.atoms size ns) (λ len'. scan-cause size ns len') (atom-is s.rec s.lists.atoms n)

  one_cause : (size n : ℕ) {r : Said Atom} → Free s → Within s size → AtomIs s.rec s.lists.atoms n r
      → RefusedBy (JoinCause s size (n ∷ [])) (settle (one_term size r) s.rec (store_of s) (λ d. out n (ghost_atom size s.rec) (store_of s))).said
  one_cause size n a h (no_atom code node c) = W.one_node a h (node-cause c)
  one_cause size n a h (in_store i e l ok) =
      let d = found w (in_store i e l ok) in
      why (JoinCause s size (n ∷ [])) (eqb (end_at s.lists.atoms i - start_at s.lists.atoms i) size) _ _ _ _ _ _
      (λ t. W.one_wrong a h (atom_in d) (rw (shown-length d) (eqb-false _ _ t))) (λ t. tt)
  one_cause size n a h (itself v e) =
      let d = found w (itself v e) in
      why (JoinCause s size (n ∷ [])) (eqb (len_for v) size) _ _ _ _ _ _ (λ t. W.one_wrong a h (atom_in d) (rw (shown-length d) (eqb-false _ _ t))) (λ t. tt)

  pub join_cause : (size : ℕ) (ns : List ℕ) → RefusedBy (JoinCause s size ns) (new_concat size ns s).said
  unfolding concat_tests store_atom
  join_cause size ns =
      why (JoinCause s size ns) _ _ _ _ _ _ _ (λ t. clash _ t (→store w.sound)) λ t₁.
      why (JoinCause s size ns) _ _ _ _ _ _ _ (λ t. W.JoinCause.full (full (ltb-false _ _ t))) λ t₂.
      why (JoinCause s size ns) _ _ _ _ _ _ _ (λ t. W.JoinCause.memory (ltb-true _ _ t₂) (leb-false _ _ t)) λ t₃.
      put ns (ltb-true _ _ t₂) (leb-true _ _ t₃)
    where
      put : (ns : List ℕ) → Free s → Within s size → RefusedBy (JoinCause s size ns) (concat_put s.rec size ns (store_of s)).said
      put [] a h = why (JoinCause s size []) (eqb 0 size) _ _ _ _ _ _ (λ t. W.none_wrong a h (eqb-false 0 size t)) (λ t. tt)
      put (n ∷ []) a h = one_cause size n a h (atom-is s.rec s.lists.atoms n)
      put (n ∷ m ∷ ns) a h = then_why (JoinCause s size (n ∷ m ∷ ns)) (scan s.rec s.lists.atoms size (n ∷ m ∷ ns) 0) _ _ _
          (weaker _ _ (scan s.rec s.lists.atoms size (n ∷ m ∷ ns) 0) (λ code node c. W.terms a h c) (scan-cause size (n ∷ m ∷ ns) 0))
          (λ d e.
          let j = scanned w size (n ∷ m ∷ ns) 0 d e in
          let v = joined s.rec (store_of s) (n ∷ m ∷ ns) in
          let q : length v ≡ size = (let g = j.long in omega arith) in
          why (JoinCause s size (n ∷ m ∷ ns)) (store_room s.rec (length v) (store_of s)) _ _ _ _ _ _
          (λ t. W.JoinCause.room a (given w j h) (subst (λ (k : ℕ). RoomFor s (stored k s) → ⊥) q (no_store (length v) t))) (λ t. tt))

  -- ---- every call

  pub call-cause : (m : Making) → RefusedBy (Cause m s) (call m s).said
  call-cause (atom v) = as_well (AtomCause s v) some (new_atom v s).said (atom-cause v)
  call-cause (small-number v) = as_well (NumberCause s v) some (new_small_number v s).said (number-cause v)
  call-cause (u64 x) = as_well (AtomCause s (int_bytes (pos x))) some (new_atom (int_bytes (pos x)) s).said (atom-cause (int_bytes (pos x)))
  call-cause (i64 z) = as_well (AtomCause s (int_bytes z)) some (new_atom (int_bytes z) s).said (atom-cause (int_bytes z))
  call-cause (pair first rest) = as_well (PairCause s first rest) some (new_pair first rest s).said (pair-cause first rest)
  call-cause (substr n start end) = as_well (PartCause s n start end) some (new_substr n start end s).said (part-cause n start end)
  call-cause (concat size ns) = as_well (JoinCause s size ns) some (new_concat size ns s).said (join_cause size ns)
  call-cause (ghost_pairs amount) = as_well (MorePairsCause s amount) (λ d. none) (add_ghost_pair amount s).said (more_pairs_cause amount)
  call-cause (fewer_ghost_pairs amount) = as_well (FewerPairsCause s amount) (λ d. none) (remove_ghost_pair amount s).said (fewer_pairs_cause amount)
  call-cause (ghost_atoms amount) = as_well (MoreAtomsCause s amount) (λ d. none) (add_ghost_atom amount s).said (more_atoms_cause amount)

-- In a well-formed state a call is accepted wherever its conditions hold and there is room: none of the causes of a refusal is there.
-- Assumes nothing.
use Prim.Native.Nat.{ℕ, ◌+◌, ◌≤◌, ◌<◌}
use mathlib.Core.Path.{◌≡◌, refl, sym, ◌∙◌, ap}
use mathlib.Core.List.{List, append-nil}
use native.Mathlib.Omega.{arith}
use lib.ListN.{length, length-append}
use Rattle.rules.specs.Node.{view}
use Rattle.rules.specs.Small.{fits, len_for}
use Rattle.rules.specs.Said.{Said, says, refuses}
use Rattle.rules.specs.State.{atoms, pairs}
use Rattle.rules.specs.Whole.{St, new_atom, new_small_number, new_pair, new_substr, new_concat, add_ghost_pair, remove_ghost_pair, add_ghost_atom}
use Rattle.runs.specs.Wf.{ValidIn, WF}
use Rattle.runs.specs.Makes.{paired, fitted, parted, joined_as, shown, shown_all, Within, AtomIn, AllAtoms, PartGiven, JoinGiven}
use Rattle.runs.specs.Causes as W
use Rattle.runs.specs.Causes.{RefusedBy, Free, RoomFor, AtomCause, NumberCause, PairCause, MorePairsCause, FewerPairsCause, MoreAtomsCause, NodeCause, PartCause, ScanCause, JoinCause}
use Rattle.runs.proofs.Reading.{tree-pair}
use Rattle.runs.proofs.Causes.{atom-cause, number-cause, pair-cause, more_pairs_cause, fewer_pairs_cause, more_atoms_cause, part-cause, join_cause}

abbrev pub Accepts : {A : Type 0} → Said A → Type 0
Accepts {A} r = (x : A) × r ≡ says x

no_cause : {A : Type 0} (R : ℕ → ℕ → Type 0) (r : Said A) → RefusedBy R r → ((code node : ℕ) → R code node → ⊥) → Accepts r
no_cause R (says x) p f = (x, refl)
no_cause R (refuses code node) p f = absurd (f code node p)

module _ {s : St} (w : WF s) where
  pub atom-accepts : (v : List ℕ) → Within s (length v) → Free s → RoomFor s (fitted (fits v) (length v) v s) → Accepts (new_atom v s).said
  atom-accepts v h a r = no_cause (AtomCause s v) (new_atom v s).said (atom-cause w v) λ code node c. none c
    where
      none : {code node : ℕ} → AtomCause s v code node → ⊥
      none (W.AtomCause.memory b) = omega arith
      none (W.AtomCause.full g e) = omega arith
      none (W.AtomCause.room g b f) = f r

  pub number-accepts : (v : ℕ) → v ≤ 67108863 → Within s (len_for v) → Free s → Accepts (new_small_number v s).said
  number-accepts v b h a = no_cause (NumberCause s v) (new_small_number v s).said (number-cause w v) λ code node c. none c
    where
      none : {code node : ℕ} → NumberCause s v code node → ⊥
      none (W.NumberCause.large l) = omega arith
      none (W.NumberCause.memory l g) = omega arith
      none (W.NumberCause.full l g e) = omega arith

  pub pair-accepts : (first rest : ℕ) → ValidIn s first → ValidIn s rest → pairs s.rec < 62500000 → RoomFor s (paired s) → Accepts (new_pair first rest s).said
  pair-accepts first rest f g h r = no_cause (PairCause s first rest) (new_pair first rest s).said (pair-cause w first rest) λ code node c. none c
    where
      none : {code node : ℕ} → PairCause s first rest code node → ⊥
      none (W.PairCause.bad_first n) = n f
      none (W.PairCause.bad_rest b n) = n g
      none (W.PairCause.full b c e) = omega arith
      none (W.PairCause.room b c e n) = n r

  pub more_pairs_accepts : (amount : ℕ) → pairs s.rec + amount ≤ 62500000 → Accepts (add_ghost_pair amount s).said
  more_pairs_accepts amount h = no_cause (MorePairsCause s amount) (add_ghost_pair amount s).said (more_pairs_cause w amount) λ code node c. none c
    where
      none : {code node : ℕ} → MorePairsCause s amount code node → ⊥
      none (W.MorePairsCause.many g) = omega arith

  pub fewer_pairs_accepts : (amount : ℕ) → amount ≤ s.rec.ghosts.pairs → Accepts (remove_ghost_pair amount s).said
  fewer_pairs_accepts amount h = no_cause (FewerPairsCause s amount) (remove_ghost_pair amount s).said (fewer_pairs_cause w amount) λ code node c. none c
    where
      none : {code node : ℕ} → FewerPairsCause s amount code node → ⊥
      none (W.FewerPairsCause.few g) = omega arith

  pub more_atoms_accepts : (amount : ℕ) → atoms s.rec + amount ≤ 62500000 → Accepts (add_ghost_atom amount s).said
  more_atoms_accepts amount h = no_cause (MoreAtomsCause s amount) (add_ghost_atom amount s).said (more_atoms_cause w amount) λ code node c. none c
    where
      none : {code node : ℕ} → MoreAtomsCause s amount code node → ⊥
      none (W.MoreAtomsCause.many g) = omega arith

  -- a valid atom has no cause of its own
  no_node : {n code node : ℕ} → AtomIn s n → NodeCause s n code node → ⊥
  no_node i (W.NodeCause.invalid f) = f i.valid
  no_node {n} i (W.NodeCause.a_pair j e l) = let p = i.leaf-is in let q = tree-pair w.shape n j l e in let z : ◌≡◌ {A = ℕ} 0 1 = cc in omega arith

  pub substr-accepts : (n start end : ℕ) → PartGiven s n start end → Free s → RoomFor s (parted (view n) start end s) → Accepts (new_substr n start end s).said
  substr-accepts n start end g a r = no_cause (PartCause s n start end) (new_substr n start end s).said (part-cause w n start end) λ code node c. none c
    where
      none : {code node : ℕ} → PartCause s n start end code node → ⊥
      none (W.PartCause.full e) = omega arith
      none (W.PartCause.node b c) = no_node g.node c
      none (W.PartCause.start_past b i l) = let p = g.order in let q = g.inside in omega arith
      none (W.PartCause.end-past b i l h) = let q = g.inside in omega arith
      none (W.PartCause.order b i l h e) = let p = g.order in omega arith
      none (W.PartCause.room b i f) = f r

  no_scan : {size : ℕ} {ns : List ℕ} {len code node : ℕ} → AllAtoms s ns → len + length (shown_all s.lists ns) ≡ size → ScanCause s size ns len code node → ⊥
  no_scan i e (W.ScanCause.wrong h) = h (omega arith)
  no_scan i e (W.ScanCause.node c) = no_node i.0 c
  no_scan i e (W.ScanCause.past_size {n = n} {ns = ns} j a v l) = omega (arith, length-append (shown s.lists n) (shown_all s.lists ns))
  no_scan i e (W.ScanCause.after-bytes {n = n} {ns = ns} j a v l c) = no_scan i.1 (omega (arith, length-append (shown s.lists n) (shown_all s.lists ns))) c
  no_scan i e (W.ScanCause.after_small {n = n} {ns = ns} v a b c) = no_scan i.1 (omega (arith, length-append (shown s.lists n) (shown_all s.lists ns))) c

  pub concat-accepts : (size : ℕ) (ns : List ℕ) → JoinGiven s size ns → Free s → RoomFor s (joined_as ns size s) → Accepts (new_concat size ns s).said
  concat-accepts size ns g a r = no_cause (JoinCause s size ns) (new_concat size ns s).said (join_cause w size ns) λ code node c. none c g r
    where
      none : {ns : List ℕ} {code node : ℕ} → JoinCause s size ns code node → JoinGiven s size ns → RoomFor s (joined_as ns size s) → ⊥
      none (W.JoinCause.full e) g r = omega arith
      none (W.JoinCause.memory b l) g r = let h = g.within in omega arith
      none (W.JoinCause.none_wrong b h e) g r = e g.size_is
      none (W.JoinCause.one_node b h c) g r = no_node g.nodes.0 c
      none (W.JoinCause.one_wrong {n = n} b h i e) g r = e (sym (ap length (append-nil (shown s.lists n))) ∙ g.size_is)
      none (W.JoinCause.terms b h c) g r = no_scan g.nodes (let q = g.size_is in omega arith) c
      none (W.JoinCause.room b i f) g r = f r

-- The tests of the rules as facts, and back: records, slots, nodes, checkpoints. Assumes nothing.
use Prim.Native.Nat.{ℕ, ◌+◌, ◌≤◌, ◌<◌}
use mathlib.Core.Path.{◌≡◌, refl, sym, ◌∙◌}
use mathlib.Core.Logic.{◌↔◌}
use mathlib.Core.Bool.{Bool, true, false, ◌&&◌, false≢true}
use native.Mathlib.Omega.{arith}
use borrow.Author.Tests.{lt-ltb, le-leb, ltb-true, leb-true}
use lib.ListN.{length}
use Rattle.rules.specs.declared.Counts.{Counts}
use Rattle.rules.specs.declared.Allocator.{Allocator}
use Rattle.rules.specs.Node.{Node, pair_at, bytes_at, small, bad, view, valid_as, valid_node}
use Rattle.rules.specs.State.{AtomSlots, PairSlots, Store, Lists, start_at, end_at, first_at, rest_at, limits_sound, atoms_sound, pairs_sound, slots_sound, store_sound, lists_sound, atom_slot_sound, pair_slot_sound, atom_slots_sound, pair_slots_sound, well_formed}
use Rattle.rules.specs.Creates.{store_room}
use Rattle.rules.specs.Restores.{usable}
use Rattle.rules.proofs.Tests.{both}
use Rattle.rules.proofs.Alls.{all-at, all_hold}
use Rattle.rules.proofs.Limits.{limits_hold}
use Rattle.rules.proofs.Sound.{lists-lent}
use Rattle.rules.specs.Whole.{St}
use Rattle.runs.specs.Wf.{Valid, Sound, SlotOk, PairOk, Shape}

pub and-true : (x y : Bool) → x ≡ true → y ≡ true → (x && y) ≡ true
and-true x y h g = rw (h, g)

pub clash : {A : Type 0} (b : Bool) → b ≡ false → b ≡ true → A
clash b h g = absurd (false≢true (sym h ∙ g))

-- ---- records

pub sound→ : (a : Allocator) (l : Lists) → lists_sound a l ≡ true → Sound a l
sound→ a l h = let r = lists-lent a _ _ _ _ _ h in omega arith

-- on a sound record every test of lent lists passes
module _ {a : Allocator} {l : Lists} (h : Sound a l) where
  pub →limits : limits_sound a ≡ true
  →limits = limits_hold a (omega arith)

  pub →atoms : atoms_sound a l.atoms ≡ true
  →atoms = rw (→limits, le-leb _ _ h.starts_fit, le-leb _ _ h.ends-fit)

  pub →pairs : pairs_sound a l.pairs ≡ true
  →pairs = rw (→limits, le-leb _ _ h.firsts-fit, le-leb _ _ h.rests-fit)

  pub →slots : slots_sound a l.atoms l.pairs ≡ true
  →slots = rw (→limits, le-leb _ _ h.starts_fit, le-leb _ _ h.ends-fit, le-leb _ _ h.firsts-fit, le-leb _ _ h.rests-fit)

  pub →store : store_sound a (record { bytes = l.bytes; atoms = l.atoms }) ≡ true
  →store = rw (→limits, le-leb _ _ h.starts_fit, le-leb _ _ h.ends-fit, le-leb _ _ h.bytes_fit)

  pub →sound : lists_sound a l ≡ true
  →sound = rw (→slots, le-leb _ _ h.bytes_fit)

-- room for one atom of len bytes
pub record Holds (a : Allocator) (len : ℕ) (s : Store) : Type 0 where
  pub most : a.used.bytes + len ≤ 4294967295
  pub bytes : a.used.bytes + len ≤ length s.bytes
  pub starts : a.used.atoms < length s.atoms.starts
  pub ends : a.used.atoms < length s.atoms.ends

pub holds→ : (a : Allocator) (len : ℕ) (s : Store) → store_room a len s ≡ true → Holds a len s
holds→ a len s t =
    let t₁ = both _ _ t in
    let t₂ = both _ _ t₁.0 in
    let t₃ = both _ _ t₁.1 in
    record { most = leb-true _ _ t₂.0; bytes = leb-true _ _ t₂.1; starts = ltb-true _ _ t₃.0; ends = ltb-true _ _ t₃.1 }

pub →holds : (a : Allocator) (len : ℕ) (s : Store) → Holds a len s → store_room a len s ≡ true
→holds a len s h = rw (le-leb _ _ h.most, le-leb _ _ h.bytes, lt-ltb _ _ h.starts, lt-ltb _ _ h.ends)

-- ---- nodes

pub valid→ : (a p : ℕ) (v : Node) → valid_as a p v ≡ true → Valid a p v
valid→ a p (pair_at i) t = ltb-true i p t
valid→ a p (bytes_at i) t = ltb-true i a t
valid→ a p (small v) t = tt
valid→ a p bad t = absurd (false≢true t)

pub →valid : (a p : ℕ) (v : Node) → Valid a p v → valid_as a p v ≡ true
→valid a p (pair_at i) t = lt-ltb i p t
→valid a p (bytes_at i) t = lt-ltb i a t
→valid a p (small v) t = refl
→valid a p bad t = absurd t

-- valid against smaller counts is valid against larger ones
pub valid_mono : {a a' p p' : ℕ} (v : Node) → a ≤ a' → p ≤ p' → Valid a p v → Valid a' p' v
valid_mono (pair_at i) h g t = omega arith
valid_mono (bytes_at i) h g t = omega arith
valid_mono (small v) h g t = tt
valid_mono bad h g t = t

-- ---- slots

pub slot→ : (b : ℕ) (t : AtomSlots) (i : ℕ) → atom_slot_sound b t i ≡ true → SlotOk b (start_at t i) (end_at t i)
slot→ b t i h = let g = both _ _ h in record { order = leb-true _ _ g.0; inside = leb-true _ _ g.1 }

pub →slot : (b : ℕ) (t : AtomSlots) (i : ℕ) → SlotOk b (start_at t i) (end_at t i) → atom_slot_sound b t i ≡ true
→slot b t i h = rw (le-leb _ _ h.order, le-leb _ _ h.inside)

pub pair→ : (a : ℕ) (p : PairSlots) (i : ℕ) → pair_slot_sound a p i ≡ true → PairOk a i (first_at p i) (rest_at p i)
pair→ a p i h =
    let g = both (valid_node a i (first_at p i)) (valid_node a i (rest_at p i)) h in
    record { first_ok = valid→ a i (view (first_at p i)) g.0; rest_ok = valid→ a i (view (rest_at p i)) g.1 }

pub →pair : (a : ℕ) (p : PairSlots) (i : ℕ) → PairOk a i (first_at p i) (rest_at p i) → pair_slot_sound a p i ≡ true
→pair a p i h = rw (→valid a i (view (first_at p i)) h.first_ok, →valid a i (view (rest_at p i)) h.rest_ok)

-- the slots below the counts k, within the bytes and atoms of k
pub record Slots (k : Counts) (t : AtomSlots) (p : PairSlots) : Type 0 where
  pub slot : (i : ℕ) → i < k.atoms → SlotOk k.bytes (start_at t i) (end_at t i)
  pub pair : (i : ℕ) → i < k.pairs → PairOk k.atoms i (first_at p i) (rest_at p i)

pub slots→ : (k : Counts) (t : AtomSlots) (p : PairSlots) → atom_slots_sound k t ≡ true → pair_slots_sound k p ≡ true → Slots k t p
slots→ k t p h g = record {
  slot = λ i l. slot→ k.bytes t i (all-at (atom_slot_sound k.bytes t) k.atoms i h l);
  pair = λ i l. pair→ k.atoms p i (all-at (pair_slot_sound k.atoms p) k.pairs i g l);
}

pub →slots-atoms : (k : Counts) (t : AtomSlots) (p : PairSlots) → Slots k t p → atom_slots_sound k t ≡ true
→slots-atoms k t p h = all_hold (atom_slot_sound k.bytes t) k.atoms (λ i l. →slot k.bytes t i (h.slot i l))

pub →slots-pairs : (k : Counts) (t : AtomSlots) (p : PairSlots) → Slots k t p → pair_slots_sound k p ≡ true
→slots-pairs k t p h = all_hold (pair_slot_sound k.atoms p) k.pairs (λ i l. →pair k.atoms p i (h.pair i l))

-- ---- the public check says yes exactly on well-formed states

pub well-formed : (s : St) → well_formed s.rec s.lists ≡ true ↔ Sound s.rec s.lists × Shape s
unfolding well_formed
well-formed s = (to, from)
  where
    to : (lists_sound s.rec s.lists && atom_slots_sound s.rec.used s.lists.atoms && pair_slots_sound s.rec.used s.lists.pairs) ≡ true
        → Sound s.rec s.lists × Shape s
    to h =
        let g = both _ (pair_slots_sound s.rec.used s.lists.pairs) h in
        let f = both (lists_sound s.rec s.lists) _ g.0 in
        let z = slots→ s.rec.used s.lists.atoms s.lists.pairs f.1 g.1 in
        (sound→ s.rec s.lists f.0, record { slot = z.slot; pair = z.pair })

    from : Sound s.rec s.lists × Shape s
        → (lists_sound s.rec s.lists && atom_slots_sound s.rec.used s.lists.atoms && pair_slots_sound s.rec.used s.lists.pairs) ≡ true
    from h =
        let z : Slots s.rec.used s.lists.atoms s.lists.pairs = record { slot = h.1.slot; pair = h.1.pair } in
        and-true _ _ (and-true _ _ (→sound h.0) (→slots-atoms _ _ _ z)) (→slots-pairs _ _ _ z)

-- ---- checkpoints

pub record Usable (k : Counts) (a : Allocator) (t : AtomSlots) (p : PairSlots) : Type 0 where
  pub bytes : k.bytes ≤ a.used.bytes
  pub atoms : k.atoms ≤ a.used.atoms
  pub pairs : k.pairs ≤ a.used.pairs
  pub slots : Slots k t p

pub usable→ : (k : Counts) (a : Allocator) (t : AtomSlots) (p : PairSlots) → usable k a t p ≡ true → Usable k a t p
unfolding usable
usable→ k a t p h =
    let h₁ = both _ (pair_slots_sound k p) h in
    let h₂ = both _ (atom_slots_sound k t) h₁.0 in
    let h₃ = both _ _ h₂.0 in
    let h₄ = both _ _ h₃.0 in
    record {
      bytes = leb-true _ _ h₄.0;
      atoms = leb-true _ _ h₄.1;
      pairs = leb-true _ _ h₃.1;
      slots = slots→ k t p h₂.1 h₁.1;
    }

pub →usable : (k : Counts) (a : Allocator) (t : AtomSlots) (p : PairSlots) → Usable k a t p → usable k a t p ≡ true
unfolding usable
→usable k a t p h =
    rw (le-leb _ _ h.bytes, le-leb _ _ h.atoms, le-leb _ _ h.pairs, →slots-atoms k t p h.slots, →slots-pairs k t p h.slots)

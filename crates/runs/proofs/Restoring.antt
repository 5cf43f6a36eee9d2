-- Restores to any checkpoint, in any state: accepted, they keep the totals and leave a well-formed state well-formed. Assumes nothing.
use Prim.Native.Nat.{ℕ, ◌≤◌, ◌<◌}
use mathlib.Core.Path.{refl}
use mathlib.Core.Option.{Option, none, some}
use native.Mathlib.Omega.{arith}
use lib.ListN.{length, length-set}
use Rattle.rules.specs.declared.Counts.{Counts}
use Rattle.rules.specs.declared.Checkpoint.{Checkpoint}
use Rattle.rules.specs.Node.{bytes_node}
use Rattle.rules.specs.Small.{fits}
use Rattle.rules.specs.Said.{Said, done, settle}
use Rattle.rules.specs.State.{start_at, end_at, heap, cut, cut_plain, less_ghosts}
use Rattle.rules.specs.Restores.{Course, no_replace, replace, aborted, cloned, clone, restore_by, restore_plain, restore_transparent}
use Rattle.rules.proofs.Sound.{slots_lent}
use Rattle.rules.specs.Whole.{St, store_of, on_store, plain_to, transparent_to, maybe_to}
use Rattle.runs.specs.Wf.{WF}
use Rattle.runs.specs.Makes as M
use Rattle.runs.specs.Makes.{Outcome, accepted, MakesAtom}
use Rattle.runs.specs.Back.{Totals, KeepsTotals}
use Rattle.runs.proofs.Tests.{Usable, usable→}
use Rattle.rules.proofs.Bytes.{octets-slice}
use Rattle.runs.proofs.Growing.{with_atom, atom-shape}
use Rattle.runs.proofs.Guards.{guard_alone, outcome_says}
use Rattle.runs.proofs.Making.{atom-makes}
use Rattle.runs.proofs.Courses.{Open, LaterSlot, CourseIs, unsound, unusable, little, invalid, bad-slot, early, later-pair, shared, astride, too_long, over-limit, copied, course-is}
use Rattle.runs.proofs.Arise.{atom_done, saved, lessened, saved_length, lessened_sound, clone-done}

-- ---- a transparent restore

-- the state cut to k
abbrev pub cut_at : Counts → St → St
cut_at k s = record { rec = cut k s.rec; lists = s.lists }

module _ (k : Counts) (s : St) (u : Usable k s.rec s.lists.atoms s.lists.pairs) where
  pub cut-totals : Totals s.rec (cut k s.rec)
  cut-totals = omega arith

  pub cut-wf : WF s → WF (cut_at k s)
  cut-wf w = record {
    sound = let a = w.sound in omega arith;
    shape = record { slot = u.slots.slot; pair = u.slots.pair };
    octets = w.octets;
  }

  pub cut_keeps : {A : Type 0} {x : A} → KeepsTotals s x (cut_at k s)
  cut_keeps = record { totals = cut-totals; forms = cut-wf }

pub transparent_keeps : (k : Counts) (s : St) → Outcome s (KeepsTotals s) (transparent_to k s)
unfolding restore_transparent
transparent_keeps k s = guard_alone _ _ _ _ _ λ t₁. guard_alone _ _ _ _ _ λ t₂.
    let u = usable→ k s.rec s.lists.atoms s.lists.pairs t₂ in
    accepted done (cut_at k s) (cut_keeps k s u)

-- ---- a plain restore

pub plain-forms : (k : Checkpoint) (s : St) → Outcome s (λ d s'. WF s → WF s') (plain_to k s)
unfolding restore_plain
plain-forms k s = guard_alone _ _ _ _ _ λ t₁. guard_alone _ _ _ _ _ λ t₂. guard_alone _ _ _ _ _ λ t₃.
    let u = usable→ k.used s.rec s.lists.atoms s.lists.pairs t₂ in
    let r = slots_lent (cut_plain k s.rec) _ _ _ _ t₃ in
    accepted done (record { rec = cut_plain k s.rec; lists = s.lists }) (λ w. record {
      sound = let a = w.sound in omega arith;
      shape = record { slot = u.slots.slot; pair = u.slots.pair };
      octets = w.octets;
    })

-- ---- maybe_restore_with_node

module _ {k : Counts} {n : ℕ} {s : St} {i : ℕ} (o : Open k s.rec s.lists) (h : LaterSlot k s.rec s.lists n i) where
  abbrev pub one_less : St
  one_less = record { rec = less_ghosts 0 (cut k s.rec); lists = s.lists }

  -- the same range in a new slot
  abbrev pub shared_at : St
  shared_at = with_atom 0 (start_at s.lists.atoms i) (end_at s.lists.atoms i) s.lists.bytes one_less

  pub share_keeps : end_at s.lists.atoms i ≤ k.bytes → KeepsTotals s (replace (bytes_node k.atoms)) shared_at
  share_keeps b = record { totals = totals; forms = forms }
    where
      totals : Totals s.rec shared_at.rec
      totals = let u = o.usable in let q = h.after in let r = h.used in omega arith

      forms : WF s → WF shared_at
      forms w =
          let u = o.usable in let q = h.after in let r = h.used in
          let ls : k.atoms < length s.lists.atoms.starts = (let v = o.sound in omega arith) in
          let le : k.atoms < length s.lists.atoms.ends = (let v = o.sound in omega arith) in
          record {
            sound = (let v = o.sound in
                omega (arith, length-set s.lists.atoms.starts k.atoms (start_at s.lists.atoms i), length-set s.lists.atoms.ends k.atoms (end_at s.lists.atoms i)));
            shape = atom-shape {s = one_less} 0 (start_at s.lists.atoms i) (end_at s.lists.atoms i) s.lists.bytes (record { slot = u.slots.slot; pair = u.slots.pair }) h.ok.order (omega arith) ls le;
            octets = w.octets;
          }

  module _ (b : k.bytes ≤ start_at s.lists.atoms i) (g : heap s.rec ≤ s.rec.limit) where
    -- the state in which the saved bytes go through new_atom
    abbrev pub cleared : St
    cleared = record { rec = lessened o h b g; lists = s.lists }

    pub cleared_wf : WF s → WF cleared
    cleared_wf w = record {
      sound = lessened_sound o h b g;
      shape = record { slot = o.usable.slots.slot; pair = o.usable.slots.pair };
      octets = w.octets;
    }

    -- what new_atom makes of them there
    pub clone-makes : WF s → MakesAtom cleared (saved o h b g) (on_store cleared (atom_done (fits (saved o h b g)) (lessened o h b g) (saved o h b g) (store_of s)))
    clone-makes w = rw (clone-done o h b g) at (atom-makes (cleared_wf w) (saved o h b g)
        (octets-slice (start_at s.lists.atoms i) (end_at s.lists.atoms i) s.lists.bytes w.octets))

    pub clone-totals : (f : Option ℕ) → Totals s.rec (atom_done f (lessened o h b g) (saved o h b g) (store_of s)).rec
    clone-totals (some v) = let u = o.usable in let q = h.after in let r = h.used in let z = h.ok in let e = saved_length o h b g in omega arith
    clone-totals none = let u = o.usable in let q = h.after in let r = h.used in let z = h.ok in let e = saved_length o h b g in omega arith

    clone_keeps : Outcome s (KeepsTotals s) (on_store s (clone k (start_at s.lists.atoms i) (end_at s.lists.atoms i) s.rec (store_of s)))
    clone_keeps = rw (clone-done o h b g) (put (fits (saved o h b g)) clone-makes)
      where
        put : (f : Option ℕ) → (WF s → MakesAtom cleared (saved o h b g) (on_store cleared (atom_done f (lessened o h b g) (saved o h b g) (store_of s))))
            → Outcome s (KeepsTotals s) (on_store s (cloned s.rec (store_of s) (atom_done f (lessened o h b g) (saved o h b g) (store_of s))))
        put (some v) c = accepted _ _ (record { totals = clone-totals (some v); forms = λ w. (outcome_says (c w) refl).made.on.wf })
        put none c = accepted _ _ (record { totals = clone-totals none; forms = λ w. (outcome_says (c w) refl).made.on.wf })

pub maybe_keeps : (k : Counts) (n : ℕ) (s : St) → Outcome s (KeepsTotals s) (maybe_to k n s)
maybe_keeps k n s = go (course-is k n s.rec s.lists)
  where
    stays : KeepsTotals s aborted s
    stays = record { totals = omega arith; forms = λ w. w }

    go : {r : Said Course} → CourseIs k n s.rec s.lists r → Outcome s (KeepsTotals s) (on_store s (settle r s.rec (store_of s) (restore_by k s.rec (store_of s))))
    go (unsound h) = M.refused _ _
    go (unusable h g) = M.refused _ _
    go (little h) = accepted aborted s stays
    go (invalid o h) = M.refused _ _
    go (bad-slot i e h g) = M.refused _ _
    go (early o h) = accepted no_replace (cut_at k s) (cut_keeps k s o.usable)
    go (later-pair i o e h g) = accepted aborted s stays
    go (shared i o h p q) = accepted (replace (bytes_node k.atoms)) (shared_at o h) (share_keeps o h q)
    go (astride i o h p q) = M.refused _ _
    go (too_long i o h p q) = accepted aborted s stays
    go (over-limit i o h p q g) = M.refused _ _
    go (copied i o h p q g) = clone_keeps o h p g

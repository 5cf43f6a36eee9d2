-- The three restores to a checkpoint whose state the present one extends. Assumes nothing.
use Prim.Native.Nat.{ℕ, ◌+◌, ◌-◌, ◌≤◌, ◌<◌}
use mathlib.Core.Path.{◌≡◌, refl, sym, ◌∙◌, ap}
use mathlib.Core.Bool.{true}
use mathlib.Core.Option.{Option, none, some}
use native.Mathlib.Nat.{le_trans}
use native.Mathlib.Omega.{arith}
use lib.ListN.{length}
use lib.Seq.{get_or-set_same}
use Rattle.rules.specs.Node.{view, bytes_node, small_node}
use Rattle.rules.specs.Small.{fits}
use Rattle.rules.specs.Said.{Said, says, refuses, need, done, settle}
use Rattle.rules.specs.State.{heap, cut_plain, lists_sound, atom_slot_sound}
use Rattle.rules.specs.Record.{checkpoint_of}
use Rattle.rules.specs.Restores.{Course, usable, savings, Restoring, no_replace, replace, aborted, cloned, clone, restore_by, restore_plain, restore_transparent}
use Rattle.rules.specs.Tree.{tree}
use Rattle.rules.proofs.Trees.{tree-bytes}
use Rattle.rules.specs.Whole.{St, Whole, store_of, on_store, plain, transparent, maybe}
use Rattle.runs.specs.Wf.{ValidIn, WF, From, past, part, Ext, On}
use Rattle.runs.specs.Makes.{MakesAtom}
use Rattle.runs.specs.Runs.{Plain, Cut, Transparent, Stands, Later, from, to, answer, MaybeIs}
use Rattle.runs.specs.Runs as Case
use Rattle.runs.proofs.Tests.{clash, valid_mono, →slots, →sound, →slot, Usable, →usable}
use Rattle.runs.proofs.Extend.{from_any}
use Rattle.runs.proofs.Growing.{Grown, grown, on, on_trans, kept_slots, cut_grown, atom_grown}
use Rattle.runs.proofs.Reading.{view-bytes}
use Rattle.runs.proofs.Guards.{outcome_says}
use Rattle.runs.proofs.ByCalls.{reads_alike}
use Rattle.runs.proofs.Courses.{Open, LaterSlot, CourseIs, unsound, unusable, little, invalid, bad-slot, early, later-pair, shared, astride, too_long, over-limit, copied, course-is}
use Rattle.runs.proofs.Arise.{atom_done, saved, lessened, saved_length, clone-done}
use Rattle.runs.proofs.Restoring.{cut_at, cut-totals, cut-wf, one_less, shared_at, share_keeps, cleared, clone-makes, clone-totals}

-- the state after maybe_restore_with_node, by its answer: the same, or one that extends k
pub data After (k s : St) : Whole Restoring → Type 0 where
  refused_one : (code node : ℕ) → After k s (record { said = refuses code node; next = s })
  aborted_one : After k s (answer aborted s)
  kept_one : {s' : St} → On k s' → After k s (answer no_replace s')
  replaced_one : {s' : St} (m : ℕ) → On k s' → After k s (answer (replace m) s')

pub record Both (k s : St) (n : ℕ) (o : Whole Restoring) : Type 0 where
  pub is : MaybeIs k s n o
  pub after : After k s o

module _ {k s : St} (w : WF k) (o : On k s) where
  x : Ext k s
  x = o.ext

  usable_now : Usable k.rec.used s.rec s.lists.atoms s.lists.pairs
  usable_now = record { bytes = x.bytes; atoms = x.atoms; pairs = x.pairs; slots = kept_slots w.shape x.same }

  usable_test : usable k.rec.used s.rec s.lists.atoms s.lists.pairs ≡ true
  usable_test = →usable k.rec.used s.rec s.lists.atoms s.lists.pairs usable_now

  -- ---- transparent

  pub transparent-on : On k (cut_at k.rec.used s)
  transparent-on = on (cut_grown _ w.shape (grown o)) (cut-wf k.rec.used s usable_now o.wf).sound

  pub transparent_eq : transparent k s ≡ record { said = says done; next = cut_at k.rec.used s }
  unfolding restore_transparent need
  transparent_eq = rw (→slots o.wf.sound, usable_test)

  cut-is : Cut 0 0 k s (cut_at k.rec.used s)
  cut-is = record {
    atom-slots = omega arith;
    pair-slots = refl;
    bytes = omega arith;
    limit = refl;
    contents = x.same;
    totals = cut-totals k.rec.used s usable_now;
  }

  pub transparent-is : Transparent k s (transparent k s)
  transparent-is = rw transparent_eq (record { accepted = refl; is_cut = cut-is })

  -- ---- plain

  abbrev plain_at : St
  plain_at = record { rec = cut_plain (checkpoint_of k.rec) s.rec; lists = s.lists }

  pub plain-on : On k plain_at
  plain-on = on (cut_grown _ w.shape (grown o)) (let u = o.wf.sound in let v = w.sound in let y = x in omega arith)

  pub plain_eq : plain k s ≡ record { said = says done; next = plain_at }
  unfolding restore_plain need
  plain_eq = rw (→slots o.wf.sound, usable_test, →slots plain-on.wf.sound)

  pub plain-is : Plain k (plain k s)
  plain-is = rw plain_eq (record { accepted = refl; counters = counters; contents = x.same })
    where
      counters : plain_at.rec ≡ k.rec
      counters = λ i. record { used = k.rec.used; ghosts = k.rec.ghosts; limit = o.ext.limit i }

  -- ---- maybe_restore_with_node

  module _ (n : ℕ) where
    stands : {s' : St} (m : ℕ) → WF s' → ValidIn s' m → tree s'.lists m ≡ tree s.lists n → Stands s n m s'
    stands m w' v e = record { valid = v; reads = reads_alike o.wf w' n m v e; shows = e }

    stays : 1024 ≤ savings k.rec.used s.rec → ValidIn k n → Both k s n (answer no_replace (cut_at k.rec.used s))
    stays big v = record {
      is = Case.before big (valid_mono (view n) x.atoms x.pairs v) v cut-is (stands n transparent-on.wf v refl);
      after = kept_one transparent-on;
    }

    module _ (i : ℕ) (op : Open k.rec.used s.rec s.lists) (h : LaterSlot k.rec.used s.rec s.lists n i) where
      later : Later k s n i
      later = record { is = h.is; after = h.after; used = h.used }

      -- a slot made since, that starts in k's bytes, lies within one of k's slots
      old_end : from s i < k.rec.used.bytes → to s i ≤ k.rec.used.bytes
      old_end a = go (from_any x i h.used)
        where
          go : From k (from s i) (to s i) → to s i ≤ k.rec.used.bytes
          go (past b) = omega arith
          go (part j m p q) = le_trans q (w.shape.slot j m).inside

      bits : k.rec.used.atoms < 67108864
      bits = let v = w.sound in omega arith

      room-starts : k.rec.used.atoms < length s.lists.atoms.starts
      room-starts = let u = op.sound in let q = h.after in let r = h.used in omega arith

      room-ends : k.rec.used.atoms < length s.lists.atoms.ends
      room-ends = let u = op.sound in let q = h.after in let r = h.used in omega arith

      old : from s i < k.rec.used.bytes → to s i ≤ k.rec.used.bytes → Both k s n (answer (replace (bytes_node k.rec.used.atoms)) (shared_at op h))
      old a b =
          let g : Grown k (one_less op h) = cut_grown _ w.shape (grown o) in
          let p : Grown k (shared_at op h) = atom_grown g 0 (from s i) (to s i) s.lists.bytes refl refl o.wf.octets (from_any x i h.used) h.ok.order (omega arith) room-starts room-ends in
          let keeps = share_keeps op h b in
          record {
            is = Case.old_bytes i op.big later a
                (record { atom-slots = refl; pair-slots = refl; bytes = refl; limit = refl; contents = p.ext.same; totals = keeps.totals })
                (stands (bytes_node k.rec.used.atoms) (keeps.forms o.wf)
                (rw (view-bytes k.rec.used.atoms bits) (omega arith))
                (tree-bytes (shared_at op h).lists (bytes_node k.rec.used.atoms) k.rec.used.atoms (view-bytes k.rec.used.atoms bits)
                ∙ rw (get_or-set_same s.lists.atoms.starts k.rec.used.atoms (from s i) 0 room-starts, get_or-set_same s.lists.atoms.ends k.rec.used.atoms (to s i) 0 room-ends)
                (sym (tree-bytes s.lists n i h.is))));
            after = replaced_one (bytes_node k.rec.used.atoms) (on p (keeps.forms o.wf).sound);
          }

      module _ (a : k.rec.used.bytes ≤ from s i) (b : to s i - from s i ≤ 48) (c : heap s.rec ≤ s.rec.limit) where
        extends : Ext k (cleared op h a c)
        extends = (cut_grown _ w.shape (grown o)).ext

        put : (f : Option ℕ) → fits (saved op h a c) ≡ f
            → MakesAtom (cleared op h a c) (saved op h a c) (on_store (cleared op h a c) (atom_done f (lessened op h a c) (saved op h a c) (store_of s)))
            → Both k s n (on_store s (cloned s.rec (store_of s) (atom_done f (lessened op h a c) (saved op h a c) (store_of s))))
        put (some v) e c' =
            let m = (outcome_says c' refl).made in
            let p = on_trans extends m.on in
            let same-atoms : k.rec.used.atoms ≡ k.rec.used.atoms + 0 = omega arith in
            let same_bytes : k.rec.used.bytes ≡ k.rec.used.bytes + 0 = omega arith in
            record {
              is = Case.new-small i v op.big later a b c e
                  (record { atom-slots = same-atoms; pair-slots = refl; bytes = same_bytes; limit = refl; contents = p.ext.same; totals = clone-totals op h a c (some v) })
                  (stands (small_node v) p.wf m.valid (m.shows ∙ sym (tree-bytes s.lists n i h.is)));
              after = replaced_one (small_node v) p;
            }
        put none e c' =
            let m = (outcome_says c' refl).made in
            let p = on_trans extends m.on in
            record {
              is = Case.new-bytes i op.big later a b c e
                  (record {
                    atom-slots = refl;
                    pair-slots = refl;
                    bytes = ap (λ l. k.rec.used.bytes + l) (saved_length op h a c);
                    limit = refl;
                    contents = p.ext.same;
                    totals = clone-totals op h a c none;
                  })
                  (stands (bytes_node k.rec.used.atoms) p.wf m.valid (m.shows ∙ sym (tree-bytes s.lists n i h.is)));
              after = replaced_one (bytes_node k.rec.used.atoms) p;
            }

        new : Both k s n (on_store s (clone k.rec.used (from s i) (to s i) s.rec (store_of s)))
        new = rw (clone-done op h a c) (put (fits (saved op h a c)) refl (clone-makes op h a c o.wf))

    by_course : {r : Said Course} → CourseIs k.rec.used n s.rec s.lists r
        → Both k s n (on_store s (settle r s.rec (store_of s) (restore_by k.rec.used s.rec (store_of s))))
    by_course (unsound h) = clash (lists_sound s.rec s.lists) h (→sound o.wf.sound)
    by_course (unusable h g) = clash _ g usable_test
    by_course (little h) = record { is = Case.little h; after = aborted_one }
    by_course (invalid p h) = record { is = Case.invalid p.big h; after = refused_one _ _ }
    by_course (bad-slot i e h g) = clash (atom_slot_sound s.rec.used.bytes s.lists.atoms i) g (→slot s.rec.used.bytes s.lists.atoms i (o.wf.shape.slot i h))
    by_course (early p h) = stays p.big h
    by_course (later-pair i p e h g) = record { is = Case.later-pair i p.big e h g; after = aborted_one }
    by_course (shared i p h a b) = old i p h a b
    by_course (astride i p h a b) = absurd (omega (arith, old_end i p h a))
    by_course (too_long i p h a b) = record { is = Case.too_long i p.big (later i p h) a b; after = aborted_one }
    by_course (over-limit i p h a b c) = record { is = Case.over-limit i p.big (later i p h) a b c; after = refused_one _ _ }
    by_course (copied i p h a b c) = new i p h a b c

    pub maybe_both : Both k s n (maybe k n s)
    maybe_both = by_course (course-is k.rec.used n s.rec s.lists)

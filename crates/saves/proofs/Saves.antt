-- Saving a node: which saves are accepted, what they leave of the file, and why one is refused. Assumes nothing.
use Prim.Native.Nat.{ℕ, ◌+◌, ◌≤◌}
use mathlib.Core.Path.{◌≡◌, refl, sym, ap, ◌∙◌, subst}
use mathlib.Core.Logic.{◌↔◌}
use mathlib.Core.Bool.{false}
use mathlib.Core.List.{List, []}
use native.Mathlib.Nat.{zero-add}
use native.Mathlib.Omega.{arith}
use lib.ListN.{length, drop}
use lib.Seq.{slice}
use Rattle.rules.specs.declared.Allocator.{Allocator}
use Rattle.rules.specs.Node.{nil}
use Rattle.rules.specs.Small.{Octets}
use Rattle.rules.specs.Said.{Said, says, refuses, need}
use Rattle.rules.specs.State.{Lists, lists_sound, over}
use Rattle.rules.specs.Tree.{Tree}
use Rattle.rules.specs.Serial.{height, shortest, Form, parsed, parse}
use Rattle.rules.specs.Load.{levels_of}
use Rattle.rules.specs.Save as R
use Rattle.rules.specs.Save.{form_of, written}
use Rattle.rules.proofs.Needs.{need_true, need_false, need_ind}
use Rattle.rules.proofs.Overs.{length_over}
use Rattle.serial.proofs.Places.{stands_whole}
use Rattle.serial.proofs.Parses.{stands_parse, forms-parse}
use Rattle.serial.proofs.Shortest.{shortest-form, shortest-least}
use Rattle.rules.specs.Whole.{St}
use Rattle.runs.specs.Wf.{WF}
use Rattle.runs.proofs.Tests.{→sound}
use Rattle.runs.proofs.Lists.{slice_over}
use Rattle.saves.specs.Saves.{form, save, tree_of, Written, Saved, SaveCause, Stored}
use Rattle.saves.proofs.Rooms.{form-fits}
use Rattle.saves.proofs.Atoms.{tree-fits, tree-octets, shortest-octets}
use Rattle.saves.proofs.Forms.{form-says, form-refuses}

-- ---- a node's bytes, read back

module _ {s : St} (w : WF s) (levels room n : ℕ) (v : List ℕ) (e : form levels room n s ≡ says v) where
  is-written : Written s levels room n v
  is-written = (form-says w levels room n v).0 e

  -- they are a form of its tree
  pub saved_form : Form (tree_of s n) v
  saved_form = rw is-written.bytes_are (shortest-form (tree_of s n) (tree-fits w n is-written.valid))

  -- the shortest
  pub saved_least : {l : List ℕ} → Form (tree_of s n) l → length v ≤ length l
  saved_least p = rw is-written.bytes_are (shortest-least p)

  pub saved_octets : Octets v
  saved_octets =
      rw is-written.bytes_are (shortest-octets (tree_of s n) (tree-fits w n is-written.valid) (tree-octets w n is-written.valid))

  -- and parse to an equal tree, with as many levels as they were written with
  pub saved_parses : parse v levels 0 ≡ parsed (tree_of s n) (length v)
  saved_parses =
      stands_parse saved_form levels is-written.levels_fit v 0 (stands_whole v) ∙ ap (parsed (tree_of s n)) (zero-add (length v))

-- ---- save, in every state

-- an accepted write: its bytes
record Gave (r : Said (List ℕ)) (file : List ℕ) (len : ℕ) : Type 0 where
  bytes : List ℕ
  is : r ≡ says bytes
  long : length bytes ≡ len

gave : (r : Said (List ℕ)) (file : List ℕ) (len : ℕ) → (written r file).said ≡ says len → Gave r file len
gave (says v) file len e = record { bytes = v; is = refl; long = cc }
gave (refuses code node) file len e = let z : ◌≡◌ {A = ℕ} 0 1 = cc in absurd (omega arith)

left : (r : Said (List ℕ)) (file : List ℕ) (code node : ℕ) → (written r file).said ≡ refuses code node → (r ≡ refuses code node) × ((written r file).file ≡ file)
left (says v) file code node e = let z : ◌≡◌ {A = ℕ} 0 1 = cc in absurd (omega arith)
left (refuses c m) file code node e = (cc, refl)

-- a refused save changes no byte
pub save-refused : (a : Allocator) (l : Lists) (n : ℕ) (file : List ℕ) (code node : ℕ) → (R.save a l n file).said ≡ refuses code node
    → (R.save a l n file).file ≡ file
unfolding R.save
save-refused a l n file code node e = (left (need (lists_sound a l) 1 nil (form_of a l levels_of (length file) n)) file code node e).1

-- no save changes the file's length
pub save-length : (a : Allocator) (l : Lists) (n : ℕ) (file : List ℕ) → length (R.save a l n file).file ≡ length file
unfolding R.save
save-length a l n file = need_ind (λ r. length (written r file).file ≡ length file) (lists_sound a l) _ _ _ (λ t. refl)
    λ t. of (form_of a l levels_of (length file) n) refl
  where
    of : (r : Said (List ℕ)) → form_of a l levels_of (length file) n ≡ r → length (written r file).file ≡ length file
    of (says v) e = length_over file v 0 (omega (arith, form-fits a l levels_of (length file) n v e))
    of (refuses code node) e = refl

-- 1 for an unsound record, before all else
pub save-unsound : (a : Allocator) (l : Lists) (n : ℕ) (file : List ℕ) → lists_sound a l ≡ false → (R.save a l n file).said ≡ refuses 1 nil
unfolding R.save
save-unsound a l n file h = rw (h, need_false)

-- ---- save, in a well-formed state

module _ {s : St} (w : WF s) (n : ℕ) (file : List ℕ) where
  save-is : save n file s ≡ written (form levels_of (length file) n s) file
  unfolding R.save
  save-is = rw (→sound w.sound, need_true)

  saved_is : {len : ℕ} → Saved s n file len → form levels_of (length file) n s ≡ says (shortest (tree_of s n))
  saved_is g = (form-says w levels_of (length file) n (shortest (tree_of s n))).1
      (record { valid = g.valid; levels_fit = g.levels_fit; room_fits = omega (arith, g.length-is, g.room_fits); bytes_are = refl })

  -- accepted exactly so
  pub save-accepts : (len : ℕ) → ((save n file s).said ≡ says len) ↔ Saved s n file len
  save-accepts len = (to, from)
    where
      to : (save n file s).said ≡ says len → Saved s n file len
      to e =
          let g = gave (form levels_of (length file) n s) file len (rw save-is at e) in
          let r = (form-says w levels_of (length file) n g.bytes).0 g.is in
          let l : len ≡ length (shortest (tree_of s n)) = sym g.long ∙ ap length r.bytes_are in
          record { valid = r.valid; levels_fit = r.levels_fit; length-is = l; room_fits = omega (arith, r.room_fits) }

      from : Saved s n file len → (save n file s).said ≡ says len
      from g = rw (save-is, saved_is g) (ap says (sym g.length-is))

  -- and refused exactly so
  pub save-refuses : (code node : ℕ) → ((save n file s).said ≡ refuses code node) ↔ SaveCause s n file code node
  save-refuses code node = (to, from)
    where
      to : (save n file s).said ≡ refuses code node → SaveCause s n file code node
      to e = (form-refuses w levels_of (length file) n code node).0 (left (form levels_of (length file) n s) file code node (rw save-is at e)).0

      from : SaveCause s n file code node → (save n file s).said ≡ refuses code node
      from c = rw (save-is, (form-refuses w levels_of (length file) n code node).1 c)

  -- what an accepted one leaves
  pub save_stores : (len : ℕ) → (save n file s).said ≡ says len → Stored (tree_of s n) file (save n file s).file len
  save_stores len e =
      let g = (save-accepts len).0 e in
      let r = saved_is g in
      let f = saved_form w levels_of (length file) n (shortest (tree_of s n)) r in
      let is : (save n file s).file ≡ over file 0 (shortest (tree_of s n)) = rw (save-is, r) in
      let b : slice 0 len (save n file s).file ≡ shortest (tree_of s n) = rw (is, g.length-is) (back (shortest (tree_of s n))) in
      record {
        file-is = is;
        long = save-length s.rec s.lists n file;
        bytes_are = b;
        octets = subst Octets (sym b) (saved_octets w levels_of (length file) n (shortest (tree_of s n)) r);
        form = subst (Form (tree_of s n)) (sym b) f;
        least = λ l p. rw g.length-is (shortest-least p);
        reads = reads is g.length-is f g.levels_fit;
      }
    where
      back : (v : List ℕ) → slice 0 (length v) (over file 0 v) ≡ v
      back v = subst (λ (m : ℕ). slice 0 m (over file 0 v) ≡ v) (zero-add (length v)) (slice_over file 0 v (omega arith))

      reads : {f v : List ℕ} {t : Tree} {m : ℕ} → f ≡ over file 0 v → m ≡ length v → Form t v → height t ≤ levels_of → parse f levels_of 0 ≡ parsed t m
      reads {v = v} {t = t} p q c h =
          rw (p, q) (forms-parse c levels_of h [] (drop (0 + length v) file) ∙ ap (parsed t) (zero-add (length v)))

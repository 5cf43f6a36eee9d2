-- What a load leaves: on every state its calls and the record on a refusal; in a well-formed one its causes, and a well-formed state again.
-- Assumes nothing.
use Prim.Native.Nat.{ℕ, zero, suc, ◌+◌}
use mathlib.Core.Path.{◌≡◌, refl, subst}
use mathlib.Core.List.{List}
use native.Mathlib.Omega.{arith}
use lib.Dec.{eqb}
use lib.ListN.{length}
use lib.Seq.{slice}
use Rattle.rules.specs.declared.Allocator.{Allocator}
use Rattle.rules.specs.Node.{view, nil}
use Rattle.rules.specs.Small.{Octets}
use Rattle.rules.specs.Said.{Said, says, refuses, onward}
use Rattle.rules.specs.State.{Lists, lists_sound}
use Rattle.rules.specs.Serial.{Token, broken, opening, string, token}
use Rattle.rules.specs.Load as L
use Rattle.rules.specs.Load.{Reading, reading, placed, item_as, read_pair, item, at_end, or_back, levels_of}
use Rattle.rules.proofs.Tests.{choice}
use Rattle.rules.specs.Whole.{St, Whole, new_atom, new_pair, left, load}
use Rattle.runs.specs.Wf.{ValidIn, WF, Same, On}
use Rattle.runs.specs.Makes.{Outcome}
use Rattle.runs.specs.Makes as M
use Rattle.runs.specs.Causes as W
use Rattle.runs.specs.Causes.{RefusedBy, AtomCause, PairCause}
use Rattle.runs.specs.Loads.{Calls, no_call, atom-call, pair-call, Stops, bad_encoding, too_deep, memory, atoms-full, pairs-full, no_atom_room, no_pair_room, LoadLeaves, LoadIs}
use Rattle.runs.proofs.Tests.{valid_mono, →sound}
use Rattle.rules.proofs.Bytes.{octets-slice}
use Rattle.runs.proofs.Growing.{on_refl, on_trans, longer-on}
use Rattle.runs.proofs.Guards.{outcome_says}
use Rattle.runs.proofs.Making.{atom-makes, pair-makes}
use Rattle.runs.proofs.Causes.{weaker, atom-cause, pair-cause}
use Rattle.runs.proofs.Live.{plain-is}
use Rattle.runs.proofs.Untouched.{Untouched, untouched_refl, untouched_trans, atom_untouched, pair_untouched}

-- ---- accepted calls

pub calls_on : {f : List ℕ} {s t : St} → Octets f → WF s → Calls f s t → On s t
calls_on o w no_call = on_refl w
calls_on {f} o w (atom-call c from to n e) =
    let p = calls_on o w c in
    on_trans p.ext (outcome_says (atom-makes p.wf (slice from to f) (octets-slice from to f o)) e).made.on
calls_on o w (pair-call c first rest n e) =
    let p = calls_on o w c in
    on_trans p.ext (outcome_says (pair-makes p.wf first rest) e).made.on

pub calls_untouched : {f : List ℕ} {s t : St} → Calls f s t → Untouched s t
calls_untouched {f} {s} no_call = untouched_refl s
calls_untouched {f} {s} (atom-call {t = t} c from to n e) = untouched_trans (calls_untouched c) (outcome_says (atom_untouched t (slice from to f)) e)
calls_untouched {f} {s} (pair-call {t = t} c first rest n e) = untouched_trans (calls_untouched c) (outcome_says (pair_untouched t first rest) e)

pub calls_trans : {f : List ℕ} {s t u : St} → Calls f s t → Calls f t u → Calls f s u
calls_trans c no_call = c
calls_trans c (atom-call d from to n e) = atom-call (calls_trans c d) from to n e
calls_trans c (pair-call d first rest n e) = pair-call (calls_trans c d) first rest n e

-- ---- every state: an item's calls

module _ (f : List ℕ) where
  -- a refused call leaves the state that it found, an accepted one is one call more
  one_more : {k s : St} {P : ℕ → St → Type 0} {o : Whole ℕ} → Outcome s P o → Calls f k s → ((n : ℕ) → o.said ≡ says n → Calls f k o.next) → Calls f k o.next
  one_more (M.refused code node) c g = c
  one_more (M.accepted n t p) c g = g n refl

  then_calls : {k : St} (r : Reading) (g : ℕ → ℕ → Allocator → Lists → Reading) → Calls f k (left r).next
      → ((n : ℕ) → Calls f k (left (g n r.at r.rec r.lists)).next) → Calls f k (left (L.after r g)).next
  then_calls {k} r g c h = by r.said
    where
      by : (x : Said ℕ) → Calls f k (left (onward x r (λ n. g n r.at r.rec r.lists))).next
      by (says n) = h n
      by (refuses code node) = c

  item-more : {k : St} (levels at : ℕ) (s : St) → Calls f k s → Calls f k (left (item f levels at s.rec s.lists)).next
  unfolding item
  item-more zero at s c = c
  item-more {k} (suc levels) at s c = by (token f at) (item-more levels)
    where
      by : (t : Token) → ((at : ℕ) (u : St) → Calls f k u → Calls f k (left (item f levels at u.rec u.lists)).next)
          → Calls f k (left (item_as t (item f levels) f at s.rec s.lists)).next
      by broken below = c
      by (string from to) below = one_more (atom_untouched s (slice from to f)) c (atom-call c from to)
      by opening below =
          let x = item f levels (at + 1) s.rec s.lists in
          let d = below (at + 1) s c in
          then_calls x (λ first mid a l. L.after (item f levels mid a l) λ rest next b m. L.read_pair at next first rest b m) d λ first.
          let y = item f levels x.at x.rec x.lists in
          let e = below x.at (left x).next d in
          then_calls y (λ rest next b m. L.read_pair at next first rest b m) e λ rest. one_more (pair_untouched (left y).next first rest) e (pair-call e first rest)

  pub item_calls : (levels at : ℕ) (s : St) → Calls f s (left (item f levels at s.rec s.lists)).next
  item_calls levels at s = item-more levels at s no_call

  -- ---- every state: what a load leaves

  end_leaves : {s : St} (x : Said ℕ) (at : ℕ) (t : St) → Calls f s t
      → LoadLeaves f s (left (or_back s.rec (at_end (length f) (reading x at t.rec t.lists))))
  end_leaves {s} (says n) at t c = choice (λ (r : Reading). LoadLeaves f s (left (or_back s.rec r))) (eqb at (length f)) _ _
      (λ h. LoadLeaves.accepted n c) (λ h. LoadLeaves.refused 17 nil c)
  end_leaves (refuses code node) at t c = LoadLeaves.refused code node c

  pub load_leaves : (s : St) → LoadLeaves f s (load f s)
  unfolding L.load
  load_leaves s =
      let r = item f levels_of 0 s.rec s.lists in
      choice (λ (r : Reading). LoadLeaves f s (left r)) (lists_sound s.rec s.lists) _ _
      (λ h. end_leaves r.said r.at (left r).next (item_calls levels_of 0 s)) (λ h. LoadLeaves.refused 1 nil no_call)

  -- a refused load gives back the record as it was given
  pub load_refused_rec : (s : St) (code node : ℕ) → (load f s).said ≡ refuses code node → (load f s).next.rec ≡ s.rec
  load_refused_rec s code node e = go (load_leaves s) e
    where
      go : {o : Whole ℕ} → LoadLeaves f s o → o.said ≡ refuses code node → o.next.rec ≡ s.rec
      go (LoadLeaves.accepted n c) e = let z : ◌≡◌ {A = ℕ} 0 1 = cc in absurd (omega arith)
      go (LoadLeaves.refused code node c) e = refl

  -- accepted or refused, what was in use holds what it held
  pub load_same : (s : St) → Same s (load f s).next.lists
  load_same s = go (load_leaves s)
    where
      go : {o : Whole ℕ} → LoadLeaves f s o → Same s o.next.lists
      go (LoadLeaves.accepted n c) = (calls_untouched c).same
      go (LoadLeaves.refused code node c) = (calls_untouched c).same

-- ---- well-formed states: the causes

-- an item made a valid node, or the load stops there
data ItemIs (f : List ℕ) (s : St) : Reading → Type 0 where
  made : {t : St} (n at : ℕ) → Calls f s t → ValidIn t n → ItemIs f s (reading (says n) at t.rec t.lists)
  stop : {t : St} (code at : ℕ) → Calls f s t → Stops f t code → ItemIs f s (reading (refuses code nil) at t.rec t.lists)

-- the same, after other calls
later : {f : List ℕ} {s t : St} {r : Reading} → Calls f s t → ItemIs f t r → ItemIs f s r
later c (made n at d v) = made n at (calls_trans c d) v
later c (stop code at d h) = stop code at (calls_trans c d) h

-- a refusal of one call, with the node nil
data Stopping (f : List ℕ) (t : St) : ℕ → ℕ → Type 0 where
  stopping : {code : ℕ} → Stops f t code → Stopping f t code nil

module _ (f : List ℕ) {t : St} where
  atom-stops : (from to : ℕ) {code m : ℕ} → AtomCause t (slice from to f) code m → Stopping f t code m
  atom-stops from to (W.AtomCause.memory h) = stopping (memory from to h)
  atom-stops from to (W.AtomCause.full h g) = stopping (atoms-full from to h g)
  atom-stops from to (W.AtomCause.room h g n) = stopping (no_atom_room from to h g n)

  pair-stops : {first rest code m : ℕ} → ValidIn t first → ValidIn t rest → PairCause t first rest code m → Stopping f t code m
  pair-stops v u (W.PairCause.bad_first n) = absurd (n v)
  pair-stops v u (W.PairCause.bad_rest h n) = absurd (n u)
  pair-stops v u (W.PairCause.full h g e) = stopping (pairs-full e)
  pair-stops v u (W.PairCause.room h g l n) = stopping (no_pair_room l n)

  -- a call that is made for the item at a place
  call-item : {P : ℕ → St → Type 0} {o : Whole ℕ} (at next : ℕ) → Outcome t P o → ((n : ℕ) → o.said ≡ says n → Calls f t o.next)
      → ((n : ℕ) (u : St) → P n u → ValidIn u n) → RefusedBy (Stopping f t) o.said
      → ItemIs f t (reading o.said (placed o.said at next) o.next.rec o.next.lists)
  call-item at next (M.accepted n u p) c v r = made n next (c n refl) (v n u p)
  call-item at next (M.refused code m) c v (stopping h) = stop code at no_call h

module _ (f : List ℕ) (o : Octets f) where
  -- first, rest, then the pair
  rest_item : {s t : St} (at first : ℕ) → WF t → Calls f s t → ValidIn t first → {r : Reading} → ItemIs f t r
      → ItemIs f s (L.after r λ rest next b m. read_pair at next first rest b m)
  rest_item at first w c v (made {t = u} rest next d g) =
      let p = calls_on o w d in
      let h : ValidIn u first = valid_mono (view first) p.ext.atoms p.ext.pairs v in
      later (calls_trans c d)
      (call-item f at next (pair-makes p.wf first rest) (pair-call no_call first rest) (λ n x q. q.made.valid)
      (weaker _ _ (new_pair first rest u).said (λ code m. pair-stops f h g) (pair-cause p.wf first rest)))
  rest_item at first w c v (stop code place d h) = later c (stop code place d h)

  first_item : {s : St} (at : ℕ) (below : ℕ → Allocator → Lists → Reading) → ((at : ℕ) (t : St) → WF t → ItemIs f t (below at t.rec t.lists)) → WF s
      → {r : Reading} → ItemIs f s r → ItemIs f s (L.after r λ first mid b m. L.after (below mid b m) λ rest next c n. read_pair at next first rest c n)
  first_item at below g w (made {t = t} first mid c v) = let p = calls_on o w c in rest_item at first p.wf c v (g mid t p.wf)
  first_item at below g w (stop code place c h) = stop code place c h

  item-is : (levels at : ℕ) (s : St) → WF s → ItemIs f s (item f levels at s.rec s.lists)
  unfolding item
  item-is zero at s w = stop 18 at no_call too_deep
  item-is (suc levels) at s w = by (token f at) (item-is levels)
    where
      by : (t : Token) → ((at : ℕ) (t : St) → WF t → ItemIs f t (item f levels at t.rec t.lists)) → ItemIs f s (item_as t (item f levels) f at s.rec s.lists)
      by broken below = stop 17 at no_call bad_encoding
      by opening below = first_item at (item f levels) below w (below (at + 1) s w)
      by (string from to) below =
          call-item f at to (atom-makes w (slice from to f) (octets-slice from to f o)) (atom-call no_call from to) (λ n u q. q.made.valid)
          (weaker _ _ (new_atom (slice from to f) s).said (λ code m. atom-stops f from to) (atom-cause w (slice from to f)))

  -- a refused load is a plain restore to its start
  back_is : {s t : St} (code : ℕ) → WF s → Calls f s t → Stops f t code
      → LoadIs f s (record { said = refuses code nil; next = record { rec = s.rec; lists = t.lists } })
  back_is {s} {t} code w c h =
      let p = plain-is w (calls_on o w c) in
      subst (λ (a : Allocator). LoadIs f s (record { said = refuses code nil; next = record { rec = a; lists = t.lists } })) p.counters
      (LoadIs.refused code c h p.accepted)

  end_is : {s : St} {r : Reading} → WF s → ItemIs f s r → LoadIs f s (left (or_back s.rec (at_end (length f) r)))
  end_is {s} w (made n at c v) = choice (λ (r : Reading). LoadIs f s (left (or_back s.rec r))) (eqb at (length f)) _ _
      (λ h. LoadIs.accepted n c v) (λ h. back_is 17 w c bad_encoding)
  end_is w (stop code at c h) = back_is code w c h

module _ {s : St} (w : WF s) (f : List ℕ) (o : Octets f) where
  pub load_is : LoadIs f s (load f s)
  unfolding L.load
  load_is = rw (→sound w.sound) (end_is f o w (item-is f o levels_of 0 s w))

  -- the state is well-formed again, and extends what it was
  pub load-on : On s (load f s).next
  load-on = go (load_leaves f s)
    where
      go : {q : Whole ℕ} → LoadLeaves f s q → On s q.next
      go (LoadLeaves.accepted n c) = calls_on o w c
      go (LoadLeaves.refused code node c) = let p = calls_on o w c in longer-on w p.wf.octets p.ext.same p.ext.room

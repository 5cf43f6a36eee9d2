-- Laws of a node's form: what the measuring pass says of it, and what the writing pass leaves. Assumes nothing.
use Prim.Native.Nat.{ℕ, zero, suc, ◌+◌, ◌-◌, ◌≤◌, ◌<◌}
use mathlib.Core.Path.{◌≡◌, refl, sym, ap, subst, ◌∙◌}
use mathlib.Core.Bool.{Bool, true, false}
use mathlib.Core.List.{List, [], ◌∷◌, ◌++◌}
use native.Mathlib.Omega.{arith}
use borrow.Author.Tests.{le-leb, lt-leb, leb-true}
use lib.Dec.{leb}
use lib.ListN.{length, take, drop, set, length-append, length-set}
use lib.Seq.{slice, set_split}
use Rattle.rules.specs.declared.Allocator.{Allocator}
use Rattle.rules.specs.Node.{nil}
use Rattle.rules.specs.Small.{small_bytes}
use Rattle.rules.specs.Said.{Said, says, refuses, need, says_of}
use Rattle.rules.specs.State.{Lists, slots_sound, lists_sound, over}
use Rattle.rules.specs.Reads.{arg, Visited, buffer, number, children, visited, node}
use Rattle.rules.specs.Serial.{shortest_atom}
use Rattle.rules.specs.Save.{next, fitted, form_pair, form_as, form_of}
use Rattle.rules.proofs.Tests.{both}
use Rattle.rules.proofs.Needs.{need_true, passed}
use Rattle.rules.proofs.Lists.{part_slice}
use Rattle.rules.proofs.Overs.{length_over, over-over}
use Rattle.save.specs.Saves.{formed, Accepted}

-- ---- parts of a pair's form

-- what is made of an accepted form, or its refusal
next-says : (s : Said (List ℕ)) (f : List ℕ → Said (List ℕ)) (x : Said ℕ) (u : ℕ) → says u ≡ says_of length s
    → ((v : List ℕ) → s ≡ says v → u ≡ length v → x ≡ says_of length (f v)) → x ≡ says_of length (next s f)
next-says (says v) f x u h g = g v refl (cc)
next-says (refuses code node) f x u h g = let z : ◌≡◌ {A = ℕ} 0 1 = cc in absurd (omega arith)

next-refuses : (s : Said (List ℕ)) (f : List ℕ → Said (List ℕ)) (code node : ℕ) → refuses code node ≡ says_of length s
    → refuses code node ≡ says_of length (next s f)
next-refuses (says v) f code node h = let z : ◌≡◌ {A = ℕ} 0 1 = cc in absurd (omega arith)
next-refuses (refuses c n) f code node h = h

-- an accepted pair's form is made of two accepted ones
record PairForm (below : ℕ → ℕ → Said (List ℕ)) (room first rest : ℕ) (v : List ℕ) : Type 0 where
  one : List ℕ
  other : List ℕ
  some : 1 ≤ room
  one_is : below (room - 1) first ≡ says one
  other_is : below (room - 1 - length one) rest ≡ says other
  whole : 0xff ∷ (one ++ other) ≡ v

pair-form : (below : ℕ → ℕ → Said (List ℕ)) (room first rest : ℕ) (v : List ℕ) → form_pair below room first rest ≡ says v → PairForm below room first rest v
pair-form below room first rest v h = let p = passed _ _ _ _ _ h in at (leb-true 1 room p.0) (below (room - 1) first) refl p.1
  where
    last : (u : List ℕ) → 1 ≤ room → below (room - 1) first ≡ says u → (s : Said (List ℕ)) → below (room - 1 - length u) rest ≡ s
        → next s (λ w. says (0xff ∷ (u ++ w))) ≡ says v → PairForm below room first rest v
    last u some e (says w) d k = record { one = u; other = w; some = some; one_is = e; other_is = d; whole = cc }
    last u some e (refuses code node) d k = let z : ◌≡◌ {A = ℕ} 0 1 = cc in absurd (omega arith)

    at : 1 ≤ room → (s : Said (List ℕ)) → below (room - 1) first ≡ s
        → next s (λ u. next (below (room - 1 - length u) rest) (λ w. says (0xff ∷ (u ++ w)))) ≡ says v → PairForm below room first rest v
    at some (says u) e k = last u some e (below (room - 1 - length u) rest) refl k
    at some (refuses code node) e k = let z : ◌≡◌ {A = ℕ} 0 1 = cc in absurd (omega arith)

-- ---- an accepted form fits its room

fits-atom : (room : ℕ) (w v : List ℕ) → fitted room w ≡ says v → (w ≡ v) × (length v ≤ room)
fits-atom room w v h =
    let p = passed _ _ _ _ _ h in
    let e : w ≡ v = same p.1 in
    (e, subst (λ (x : List ℕ). length x ≤ room) e (leb-true _ _ p.0))
  where
    same : says w ≡ says v → w ≡ v
    same q = cc

fits_as : (s : Said Visited) (below : ℕ → ℕ → Said (List ℕ)) (room : ℕ) (bytes v : List ℕ)
    → ((r n : ℕ) (u : List ℕ) → below r n ≡ says u → length u ≤ r) → form_as s below room bytes ≡ says v → length v ≤ room
fits_as (says (buffer start end)) below room bytes v f h = (fits-atom room (shortest_atom (slice start end bytes)) v h).1
fits_as (says (number x)) below room bytes v f h = (fits-atom room (shortest_atom (small_bytes x)) v h).1
fits_as (says (children first rest)) below room bytes v f h =
    let p = pair-form below room first rest v h in
    omega (arith, p.some, f _ _ p.one p.one_is, f _ _ p.other p.other_is, length-append p.one p.other, ap length p.whole)
fits_as (refuses code node) below room bytes v f h = let z : ◌≡◌ {A = ℕ} 0 1 = cc in absurd (omega arith)

form-fits : (a : Allocator) (l : Lists) (levels room n : ℕ) (v : List ℕ) → form_of a l levels room n ≡ says v → length v ≤ room
unfolding form_of
form-fits a l zero room n v h = let z : ◌≡◌ {A = ℕ} 0 1 = cc in absurd (omega arith)
form-fits a l (suc levels) room n v h = fits_as (visited a l.pairs (arg a l.atoms n)) (form_of a l levels) room l.bytes v (form-fits a l levels) h

-- its length too
pub length-fits : (a : Allocator) (l : Lists) (levels room n u : ℕ) → says u ≡ says_of length (form_of a l levels room n) → u ≤ room
length-fits a l levels room n u h = at (form_of a l levels room n) refl h
  where
    at : (s : Said (List ℕ)) → form_of a l levels room n ≡ s → says u ≡ says_of length s → u ≤ room
    at (says v) e q = let k : u ≡ length v = cc in omega (arith, form-fits a l levels room n v e)
    at (refuses code node) e q = let z : ◌≡◌ {A = ℕ} 0 1 = cc in absurd (omega arith)

-- ---- the levels left

pub form-deep : (a : Allocator) (l : Lists) (levels room n : ℕ) → levels ≡ 0 → form_of a l levels room n ≡ refuses 18 nil
unfolding form_of
form-deep a l zero room n h = refl
form-deep a l (suc levels) room n h = absurd (omega arith)

pub some_level : (a : Allocator) (l : Lists) (levels room n : ℕ) → Accepted (form_of a l levels room n) → levels ≡ 0 → ⊥
some_level a l levels room n h k =
    let e = form-deep a l levels room n k in
    let z : ◌≡◌ {A = ℕ} 0 1 = cc in omega arith

form-level : (a : Allocator) (l : Lists) (levels room n : ℕ) → (levels ≡ 0 → ⊥)
    → form_of a l levels room n ≡ form_as (visited a l.pairs (arg a l.atoms n)) (form_of a l (levels - 1)) room l.bytes
unfolding form_of
form-level a l zero room n h = absurd (h refl)
form-level a l (suc levels) room n h = let e : suc levels - 1 ≡ levels = omega arith in rw e

-- ---- what reads::node answers beside a sound record

pub seen : (a : Allocator) (l : Lists) (n : ℕ) (s : Said Visited) → lists_sound a l ≡ true → s ≡ node a l.atoms l.pairs n
    → s ≡ visited a l.pairs (arg a l.atoms n)
unfolding node
seen a l n s sound h =
    let v : Said Visited = visited a l.pairs (arg a l.atoms n) in
    h ∙ ap (λ (b : Bool). need b 1 nil v) (both (slots_sound a l.atoms l.pairs) _ sound).0 ∙ need_true 1 nil v

-- ---- the measuring pass

-- the length of what fits
fitted-length : (w : List ℕ) (b : Bool) → need b 19 nil (says (length w)) ≡ says_of length (need b 19 nil (says w))
unfolding need
fitted-length w true = refl
fitted-length w false = refl

module _ (a : Allocator) (l : Lists) (levels room n : ℕ) (deep : levels ≡ 0 → ⊥) where
  -- s is what the node shows
  form-shown : (s : Said Visited) → s ≡ visited a l.pairs (arg a l.atoms n) → form_of a l levels room n ≡ form_as s (form_of a l (levels - 1)) room l.bytes
  form-shown s e = form-level a l levels room n deep ∙ ap (λ (x : Said Visited). form_as x (form_of a l (levels - 1)) room l.bytes) (sym e)

  measured_atom : (w : List ℕ) (len : ℕ) → len ≡ length w → form_of a l levels room n ≡ fitted room w
      → need (leb len room) 19 nil (says len) ≡ says_of length (form_of a l levels room n)
  measured_atom w len h e = rw (h, e) (fitted-length w (leb (length w) room))

  pub measured_buffer : (start end len : ℕ) → says (buffer start end) ≡ visited a l.pairs (arg a l.atoms n) → start ≤ end
      → len ≡ length (shortest_atom (take (end - start) (drop start l.bytes)))
      → need (leb len room) 19 nil (says len) ≡ says_of length (form_of a l levels room n)
  measured_buffer start end len e o h =
      measured_atom (shortest_atom (slice start end l.bytes)) len (h ∙ ap (λ (w : List ℕ). length (shortest_atom w)) (part_slice start end l.bytes o)) (form-shown (says (buffer start end)) e)

  pub measured_number : (v len : ℕ) → says (number v) ≡ visited a l.pairs (arg a l.atoms n) → len ≡ length (shortest_atom (small_bytes v))
      → need (leb len room) 19 nil (says len) ≡ says_of length (form_of a l levels room n)
  measured_number v len e h = measured_atom (shortest_atom (small_bytes v)) len h (form-shown (says (number v)) e)

  pub measured_refused : (code node : ℕ) → refuses code node ≡ visited a l.pairs (arg a l.atoms n)
      → refuses code node ≡ says_of length (form_of a l levels room n)
  measured_refused code node e = sym (ap (says_of length) (form-shown (refuses code node) e))

  module _ (first rest : ℕ) (e : says (children first rest) ≡ visited a l.pairs (arg a l.atoms n)) where
    abbrev one : Said (List ℕ)
    one = form_of a l (levels - 1) (room - 1) first

    abbrev other : ℕ → Said (List ℕ)
    other u = form_of a l (levels - 1) (room - 1 - u) rest

    abbrev behind : List ℕ → Said (List ℕ)
    behind u = next (other (length u)) λ w. says (0xff ∷ (u ++ w))

    pub measured_full : room ≡ 0 → refuses 19 nil ≡ says_of length (form_of a l levels room n)
    unfolding need
    measured_full h =
        let k : leb 1 room ≡ false = lt-leb 1 room (omega arith) in
        let f : form_of a l levels room n ≡ refuses 19 nil = form-shown (says (children first rest)) e ∙ rw k in
        sym (ap (says_of length) f)

    -- with room for the ff
    form_open : (room ≡ 0 → ⊥) → form_of a l levels room n ≡ next one behind
    unfolding need
    form_open h = let k : leb 1 room ≡ true = le-leb 1 room (omega arith) in form-shown (says (children first rest)) e ∙ rw k

    pub measured_first : (code node : ℕ) → (room ≡ 0 → ⊥) → refuses code node ≡ says_of length one
        → refuses code node ≡ says_of length (form_of a l levels room n)
    measured_first code node h q = rw (form_open h) (next-refuses one behind code node q)

    pub measured_rest : (code node u : ℕ) → (room ≡ 0 → ⊥) → says u ≡ says_of length one → refuses code node ≡ says_of length (other u)
        → refuses code node ≡ says_of length (form_of a l levels room n)
    measured_rest code node u h q r =
        rw (form_open h)
        (next-says one behind (refuses code node) u q λ v d k.
        next-refuses (other (length v)) (λ w. says (0xff ∷ (v ++ w))) code node (rw k at r))

    pub measured_pair : (u w : ℕ) → (room ≡ 0 → ⊥) → says u ≡ says_of length one → says w ≡ says_of length (other u)
        → says (1 + u + w) ≡ says_of length (form_of a l levels room n)
    measured_pair u w h q r =
        rw (form_open h)
        (next-says one behind (says (1 + u + w)) u q λ v d k.
        next-says (other (length v)) (λ x. says (0xff ∷ (v ++ x))) (says (1 + u + w)) w (rw k at r) λ x f m.
        ap says (total v x k m))
      where
        total : (v x : List ℕ) → u ≡ length v → w ≡ length x → 1 + u + w ≡ length (0xff ∷ (v ++ x))
        total v x k m = omega (arith, length-append v x)

-- ---- the writing pass

accept : (s : Said (List ℕ)) (v : List ℕ) → s ≡ says v → Accepted s
accept s v h = rw h

form-is : (s : Said (List ℕ)) (v : List ℕ) → s ≡ says v → formed s ≡ v
form-is s v h = ap formed h

module _ (a : Allocator) (l : Lists) (levels room n : ℕ) (accepted : Accepted (form_of a l levels room n)) where
  abbrev form : List ℕ
  form = formed (form_of a l levels room n)

  shown : (s : Said Visited) → s ≡ visited a l.pairs (arg a l.atoms n) → form_as s (form_of a l (levels - 1)) room l.bytes ≡ says form
  shown s e = sym (form-shown a l levels room n (some_level a l levels room n accepted) s e) ∙ accepted

  pub not_refused : (code node : ℕ) → refuses code node ≡ visited a l.pairs (arg a l.atoms n) → ⊥
  not_refused code node e =
      let h = shown (refuses code node) e in
      let z : ◌≡◌ {A = ℕ} 0 1 = cc in omega arith

  pub put_buffer : (start end : ℕ) → says (buffer start end) ≡ visited a l.pairs (arg a l.atoms n) → start ≤ end
      → (shortest_atom (take (end - start) (drop start l.bytes)) ≡ form) × (length form ≤ room)
  put_buffer start end e o =
      let p = fits-atom room (shortest_atom (slice start end l.bytes)) form (shown (says (buffer start end)) e) in
      (ap shortest_atom (part_slice start end l.bytes o) ∙ p.0, p.1)

  pub put_number : (v : ℕ) → says (number v) ≡ visited a l.pairs (arg a l.atoms n)
      → (shortest_atom (small_bytes v) ≡ form) × (length form ≤ room)
  put_number v e = fits-atom room (shortest_atom (small_bytes v)) form (shown (says (number v)) e)

  parts : (first rest : ℕ) → says (children first rest) ≡ visited a l.pairs (arg a l.atoms n) → PairForm (form_of a l (levels - 1)) room first rest form
  parts first rest e = pair-form (form_of a l (levels - 1)) room first rest form (shown (says (children first rest)) e)

-- a pair at a place of a file: ff, then what writing first leaves, then what writing rest leaves
module _ (a : Allocator) (l : Lists) (levels n : ℕ) (file : List ℕ) (at : ℕ) (accepted : Accepted (form_of a l levels (length file - at) n))
    (first rest : ℕ) (e : says (children first rest) ≡ visited a l.pairs (arg a l.atoms n)) where
  abbrev below : ℕ → ℕ → Said (List ℕ)
  below = form_of a l (levels - 1)

  abbrev opened : List ℕ
  opened = set file at 0xff

  split : PairForm below (length file - at) first rest (formed (form_of a l levels (length file - at) n))
  split = parts a l levels (length file - at) n accepted first rest e

  pub open_room : at < length file
  open_room = omega (arith, split.some)

  opened_is : opened ≡ over file at (0xff ∷ [])
  opened_is = let k : suc at ≡ at + 1 = omega arith in set_split file at 0xff open_room ∙ rw k

  left_is : length opened - (at + 1) ≡ length file - at - 1
  left_is = omega (arith, length-set file at 0xff)

  one_is : below (length opened - (at + 1)) first ≡ says split.one
  one_is = rw left_is split.one_is

  pub first_accepted : Accepted (below (length opened - (at + 1)) first)
  first_accepted = accept _ _ one_is

  one_fits : length split.one ≤ length file - at - 1
  one_fits = form-fits a l (levels - 1) (length file - at - 1) first split.one split.one_is

  module _ (mid : List ℕ) (place : ℕ) (mid-is : mid ≡ over opened (at + 1) (formed (below (length opened - (at + 1)) first)))
      (place_is : place ≡ at + 1 + length (formed (below (length opened - (at + 1)) first))) where
    next-is : place ≡ at + length (0xff ∷ split.one)
    next-is = omega (arith, ap length (form-is _ _ one_is))

    so_far : mid ≡ over file at (0xff ∷ split.one)
    so_far =
        mid-is ∙ ap (λ (v : List ℕ). over opened (at + 1) v) (form-is _ _ one_is)
        ∙ ap (λ (f : List ℕ). over f (at + 1) split.one) opened_is
        ∙ over-over file (0xff ∷ []) split.one at (omega (arith, open_room))

    mid_long : length mid ≡ length file
    mid_long = ap length so_far ∙ length_over file (0xff ∷ split.one) at (omega (arith, one_fits, open_room))

    pub rest_room : place ≤ length mid
    rest_room = omega (arith, next-is, mid_long, one_fits, open_room)

    other_is : below (length mid - place) rest ≡ says split.other
    other_is = let k : length mid - place ≡ length file - at - 1 - length split.one = omega (arith, next-is, mid_long) in rw k split.other_is

    pub rest_accepted : Accepted (below (length mid - place) rest)
    rest_accepted = accept _ _ other_is

    pub pair_put : (after : List ℕ) → after ≡ over mid place (formed (below (length mid - place) rest))
        → after ≡ over file at (formed (form_of a l levels (length file - at) n))
    pair_put after h =
        h ∙ ap (λ (v : List ℕ). over mid place v) (form-is _ _ other_is)
        ∙ ap (λ (f : List ℕ). over f place split.other) so_far
        ∙ ap (λ (i : ℕ). over (over file at (0xff ∷ split.one)) i split.other) next-is
        ∙ over-over file (0xff ∷ split.one) split.other at (omega (arith, one_fits, open_room))
        ∙ ap (λ (v : List ℕ). over file at v) split.whole

    pub pair-next : (end : ℕ) → end ≡ place + length (formed (below (length mid - place) rest))
        → end ≡ at + length (formed (form_of a l levels (length file - at) n))
    pair-next end h =
        omega (arith, next-is, ap length (form-is _ _ other_is), length-append split.one split.other, ap length split.whole)

-- Laws of `Same` and `Ext`: what the invariant of runs is made of. Assumes nothing.
use Prim.Native.Nat.{ℕ, ◌≤◌, ◌<◌}
use mathlib.Core.Path.{◌≡◌, refl, sym, ◌∙◌, ap}
use mathlib.Core.List.{List}
use native.Mathlib.Nat.{le_refl}
use native.Mathlib.Omega.{arith}
use native.Mathlib.Decide.{dec_lt}
use lib.ListN.{get_or, take, set, length-set}
use lib.Seq.{slice, take-take, get_or-take, take-set-le}
use Rattle.rules.specs.State.{AtomSlots, PairSlots, Lists, start_at, end_at, first_at, rest_at, put_slot, put_pair}
use Rattle.rules.proofs.Overs.{slice-same}
use Rattle.rules.specs.Whole.{St}
use Rattle.runs.specs.Wf.{Agree, SameAtoms, SamePairs, Same, RoomAtoms, RoomPairs, Room, From, past, part, Ext}

-- two lists that agree on n entries agree on fewer, at each of them, and after a store past them
pub agree_less : (m n : ℕ) (l l' : List ℕ) → m ≤ n → Agree n l l' → Agree m l l'
agree_less m n l l' h e = sym (take-take m n l h) ∙ ap (take m) e ∙ take-take m n l' h

pub agree_at : (n : ℕ) (l l' : List ℕ) (i : ℕ) → i < n → Agree n l l' → get_or l i 0 ≡ get_or l' i 0
agree_at n l l' i h e = sym (get_or-take n l i 0 h) ∙ ap (λ t. get_or t i 0) e ∙ get_or-take n l' i 0 h

pub agree_trans : (m n : ℕ) (l l' l'' : List ℕ) → m ≤ n → Agree m l' l'' → Agree n l l' → Agree m l l''
agree_trans m n l l' l'' h e f = agree_less m n l l' h f ∙ e

agree-set : (m : ℕ) (l l' : List ℕ) (i x : ℕ) → m ≤ i → Agree m l l' → Agree m (set l i x) l'
agree-set m l l' i x h e = take-set-le m l i x h ∙ e

-- the same for the columns of the atom and of the pair slots: a new column is one more line in each of these
pub atoms_trans : {m n : ℕ} {t t' t'' : AtomSlots} → m ≤ n → SameAtoms m t' t'' → SameAtoms n t t' → SameAtoms m t t''
atoms_trans h e f = record {
  starts = agree_trans _ _ _ _ _ h e.starts f.starts;
  ends = agree_trans _ _ _ _ _ h e.ends f.ends;
}

pub atoms_put : {m n : ℕ} {t t' : AtomSlots} (start end : ℕ) → m ≤ n → SameAtoms m t t' → SameAtoms m (put_slot n start end t) t'
atoms_put start end h f = record {
  starts = agree-set _ _ _ _ start h f.starts;
  ends = agree-set _ _ _ _ end h f.ends;
}

pub pairs_trans : {m n : ℕ} {t t' t'' : PairSlots} → m ≤ n → SamePairs m t' t'' → SamePairs n t t' → SamePairs m t t''
pairs_trans h e f = record {
  firsts = agree_trans _ _ _ _ _ h e.firsts f.firsts;
  rests = agree_trans _ _ _ _ _ h e.rests f.rests;
}

pub pairs_put : {m n : ℕ} {t t' : PairSlots} (x y : ℕ) → m ≤ n → SamePairs m t t' → SamePairs m (put_pair n x y t) t'
pairs_put x y h f = record {
  firsts = agree-set _ _ _ _ x h f.firsts;
  rests = agree-set _ _ _ _ y h f.rests;
}

pub room_put_slot : {t t' : AtomSlots} (n start end : ℕ) → RoomAtoms t t' → RoomAtoms (put_slot n start end t) t'
room_put_slot n start end h = record { starts = rw length-set h.starts; ends = rw length-set h.ends }

pub room_put_pair : {t t' : PairSlots} (n x y : ℕ) → RoomPairs t t' → RoomPairs (put_pair n x y t) t'
room_put_pair n x y h = record { firsts = rw length-set h.firsts; rests = rw length-set h.rests }

room_refl : (l : Lists) → Room l l
room_refl l = omega arith

room_trans : {l l' l'' : Lists} → Room l l' → Room l' l'' → Room l l''
room_trans h g = omega arith

-- each used entry is what it was
module _ {k : St} {l : Lists} (h : Same k l) where
  pub start_same : (i : ℕ) → i < k.rec.used.atoms → start_at l.atoms i ≡ start_at k.lists.atoms i
  start_same i b = agree_at k.rec.used.atoms l.atoms.starts k.lists.atoms.starts i b h.atoms.starts

  pub end_same : (i : ℕ) → i < k.rec.used.atoms → end_at l.atoms i ≡ end_at k.lists.atoms i
  end_same i b = agree_at k.rec.used.atoms l.atoms.ends k.lists.atoms.ends i b h.atoms.ends

  pub first_same : (i : ℕ) → i < k.rec.used.pairs → first_at l.pairs i ≡ first_at k.lists.pairs i
  first_same i b = agree_at k.rec.used.pairs l.pairs.firsts k.lists.pairs.firsts i b h.pairs.firsts

  pub rest_same : (i : ℕ) → i < k.rec.used.pairs → rest_at l.pairs i ≡ rest_at k.lists.pairs i
  rest_same i b = agree_at k.rec.used.pairs l.pairs.rests k.lists.pairs.rests i b h.pairs.rests

  pub part_same : (start end : ℕ) → end ≤ k.rec.used.bytes → slice start end l.bytes ≡ slice start end k.lists.bytes
  part_same start end b = slice-same l.bytes k.lists.bytes start end k.rec.used.bytes b h.bytes

pub same_refl : (s : St) → Same s s.lists
same_refl s = record { bytes = refl; atoms = record { starts = refl; ends = refl }; pairs = record { firsts = refl; rests = refl } }

-- a range within one that lies past k's bytes or within a slot of k does so too
pub from-within : {k : St} {start end start' end' : ℕ} → From k start end → start ≤ start' → end' ≤ end → From k start' end'
from-within (past h) l g = past (omega arith)
from-within (part j h p q) l g = part j h (omega arith) (omega arith)

pub ext_refl : (s : St) → Ext s s
ext_refl s = record {
  limit = refl;
  bytes = le_refl _;
  atoms = le_refl _;
  pairs = le_refl _;
  same = same_refl s;
  room = room_refl s.lists;
  later = λ i h l. absurd (omega arith);
}

-- every slot of s lies past k's bytes or within a slot of k
pub from_any : {k s : St} → Ext k s → (i : ℕ) → i < s.rec.used.atoms → From k (start_at s.lists.atoms i) (end_at s.lists.atoms i)
from_any {k} {s} x i l = elim (dec_lt i k.rec.used.atoms) [
  | yes h ↦ part i h (omega (arith, start_same x.same i h)) (omega (arith, end_same x.same i h))
  | no h ↦ x.later i (omega arith) l
]

pub ext_trans : {k s t : St} → Ext k s → Ext s t → Ext k t
ext_trans {k} {s} {t} x y = record {
  limit = y.limit ∙ x.limit;
  bytes = omega arith;
  atoms = omega arith;
  pairs = omega arith;
  same = record {
    bytes = agree_trans _ _ _ _ _ x.bytes x.same.bytes y.same.bytes;
    atoms = atoms_trans x.atoms x.same.atoms y.same.atoms;
    pairs = pairs_trans x.pairs x.same.pairs y.same.pairs;
  };
  room = room_trans y.room x.room;
  later = λ i h l. later i (from_any y i l) h;
}
  where
    later : (i : ℕ) → From s (start_at t.lists.atoms i) (end_at t.lists.atoms i) → k.rec.used.atoms ≤ i
        → From k (start_at t.lists.atoms i) (end_at t.lists.atoms i)
    later i (past b) h = past (omega arith)
    later i (part j l p q) h = from-within (from_any x j l) p q

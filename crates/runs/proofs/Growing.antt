-- How a state grows over k: an atom slot with or without bytes, a pair; and how it is cut back to k. Ghosts play no part here.
-- Assumes nothing.
use Prim.Native.Nat.{ℕ, ◌+◌, ◌≤◌, ◌<◌}
use mathlib.Core.Path.{◌≡◌, refl}
use mathlib.Core.List.{List}
use native.Mathlib.Nat.{le_refl, le_trans}
use native.Mathlib.Omega.{arith}
use lib.ListN.{length}
use Rattle.rules.specs.declared.Counts.{Counts}
use Rattle.rules.specs.Node.{view}
use Rattle.rules.specs.Small.{Octets}
use Rattle.rules.specs.State.{Lists, lists, first_at, rest_at, moved, used_atom, used_pair, put_slot, put_pair}
use Rattle.rules.specs.Whole.{St}
use Rattle.runs.specs.Wf.{ValidIn, Sound, SlotOk, PairOk, Shape, WF, Agree, Same, Room, From, Ext, On}
use Rattle.runs.proofs.Tests.{Slots, valid_mono}
use Rattle.runs.proofs.Lists.{set₂_ind}
use Rattle.runs.proofs.Extend.{agree_trans, atoms_put, pairs_put, room_put_slot, room_put_pair, start_same, end_same, first_same, rest_same, ext_refl, ext_trans}

-- the slots of s are sound, and s extends k
pub record Grown (k s : St) : Type 0 where
  pub shape : Shape s
  pub octets : Octets s.lists.bytes
  pub ext : Ext k s

pub on : {k s : St} → Grown k s → Sound s.rec s.lists → On k s
on g h = record { wf = record { sound = h; shape = g.shape; octets = g.octets }; ext = g.ext }

pub grown : {k s : St} → On k s → Grown k s
grown o = record { shape = o.wf.shape; octets = o.wf.octets; ext = o.ext }

-- what is left are facts on numbers, from the counts of k and the room
pub grown_on : {k s : St} → Grown k s → (Room s.lists k.lists → Sound s.rec s.lists) → On k s
grown_on g f = on g (f g.ext.room)

pub on_refl : {s : St} → WF s → On s s
on_refl {s} w = record { wf = w; ext = ext_refl s }

pub on_trans : {k s t : St} → Ext k s → On s t → On k t
on_trans x o = record { wf = o.wf; ext = ext_trans x o.ext }

-- s with other ghosts
abbrev pub haunted : Counts → St → St
haunted g s = record { rec = moved s.rec.used g s.rec; lists = s.lists }

-- s with one atom slot more, and len used bytes more, in other bytes
abbrev pub with_atom : ℕ → ℕ → ℕ → List ℕ → St → St
with_atom len start end bytes s = record {
  rec = used_atom len s.rec;
  lists = lists bytes (put_slot s.rec.used.atoms start end s.lists.atoms) s.lists.pairs;
}

abbrev pub with_pair : ℕ → ℕ → St → St
with_pair first rest s = record {
  rec = used_pair s.rec;
  lists = lists s.lists.bytes s.lists.atoms (put_pair s.rec.used.pairs first rest s.lists.pairs);
}

-- a new atom slot leaves the slots sound
pub atom-shape : {s : St} (len start end : ℕ) (bytes : List ℕ) → Shape s → start ≤ end → end ≤ s.rec.used.bytes + len
    → s.rec.used.atoms < length s.lists.atoms.starts → s.rec.used.atoms < length s.lists.atoms.ends → Shape (with_atom len start end bytes s)
atom-shape {s} len start end bytes z h u ls le = record {
  slot = λ i l. set₂_ind (λ i y z. SlotOk (s.rec.used.bytes + len) y z) s.lists.atoms.starts s.lists.atoms.ends s.rec.used.atoms start end i ls le l
      (λ q. record { order = (z.slot i q).order; inside = le_trans (z.slot i q).inside (omega arith) }) (record { order = h; inside = u });
  pair = λ i l. record {
    first_ok = valid_mono (view (first_at s.lists.pairs i)) (omega arith) (le_refl _) (z.pair i l).first_ok;
    rest_ok = valid_mono (view (rest_at s.lists.pairs i)) (omega arith) (le_refl _) (z.pair i l).rest_ok;
  };
}

module _ {k s : St} (g : Grown k s) where
  x : Ext k s
  x = g.ext

  z : Shape s
  z = g.shape

  pub ghosts_grown : (h : Counts) → Grown k (haunted h s)
  ghosts_grown h = record {
    shape = record { slot = z.slot; pair = z.pair };
    octets = g.octets;
    ext = record { limit = x.limit; bytes = x.bytes; atoms = x.atoms; pairs = x.pairs; same = x.same; room = x.room; later = x.later };
  }

  pub atom_grown : (len start end : ℕ) (bytes : List ℕ) → Agree s.rec.used.bytes bytes s.lists.bytes → length bytes ≡ length s.lists.bytes → Octets bytes
      → From k start end → start ≤ end → end ≤ s.rec.used.bytes + len
      → s.rec.used.atoms < length s.lists.atoms.starts → s.rec.used.atoms < length s.lists.atoms.ends → Grown k (with_atom len start end bytes s)
  atom_grown len start end bytes ag lb oc f h u ls le = record {
    shape = atom-shape len start end bytes z h u ls le;
    octets = oc;
    ext = record {
      limit = x.limit;
      bytes = le_trans x.bytes (omega arith);
      atoms = le_trans x.atoms (omega arith);
      pairs = x.pairs;
      same = record { bytes = agree_trans _ _ _ _ _ x.bytes x.same.bytes ag; atoms = atoms_put start end x.atoms x.same.atoms; pairs = x.same.pairs };
      room = record { bytes = rw lb x.room.bytes; atoms = room_put_slot _ start end x.room.atoms; pairs = x.room.pairs };
      later = λ i h l. set₂_ind (λ i y z. From k y z) s.lists.atoms.starts s.lists.atoms.ends s.rec.used.atoms start end i ls le l (x.later i h) f;
    };
  }

  pub pair_grown : (first rest : ℕ) → ValidIn s first → ValidIn s rest
      → s.rec.used.pairs < length s.lists.pairs.firsts → s.rec.used.pairs < length s.lists.pairs.rests → Grown k (with_pair first rest s)
  pair_grown first rest vf vr lf lr = record {
    shape = record {
      slot = z.slot;
      pair = λ i l. set₂_ind (λ i y z. PairOk s.rec.used.atoms i y z) s.lists.pairs.firsts s.lists.pairs.rests s.rec.used.pairs first rest i lf lr l
          (z.pair i) (record { first_ok = vf; rest_ok = vr });
    };
    octets = g.octets;
    ext = record {
      limit = x.limit;
      bytes = x.bytes;
      atoms = x.atoms;
      pairs = le_trans x.pairs (omega arith);
      same = record { bytes = x.same.bytes; atoms = x.same.atoms; pairs = pairs_put first rest x.pairs x.same.pairs };
      room = record { bytes = x.room.bytes; atoms = x.room.atoms; pairs = room_put_pair _ first rest x.room.pairs };
      later = x.later;
    };
  }

-- the slots that k uses are sound in lists that hold what k uses
pub kept_slots : {k : St} {l : Lists} → Shape k → Same k l → Slots k.rec.used l.atoms l.pairs
kept_slots w h = record {
  slot = λ i l. rw (start_same h i l, end_same h i l) (w.slot i l);
  pair = λ i l. rw (first_same h i l, rest_same h i l) (w.pair i l);
}

-- the used counts of k, some ghosts, and the lists of s
abbrev pub cut_to : Counts → Counts → St → St
cut_to k g s = record { rec = moved k g s.rec; lists = s.lists }

pub cut_grown : {k s : St} (h : Counts) → Shape k → Grown k s → Grown k (cut_to k.rec.used h s)
cut_grown {k} {s} h w g =
    let z = kept_slots w g.ext.same in
    record {
      shape = record { slot = z.slot; pair = z.pair };
      octets = g.octets;
      ext = record {
        limit = g.ext.limit;
        bytes = le_refl _;
        atoms = le_refl _;
        pairs = le_refl _;
        same = g.ext.same;
        room = g.ext.room;
        later = λ i h l. absurd (omega arith);
      };
    }

-- the same record beside lists that hold what it uses and have the room
pub longer-on : {s : St} {l : Lists} → WF s → Octets l.bytes → Same s l → Room l s.lists → On s (record { rec = s.rec; lists = l })
longer-on {s} {l} w o h r =
    let z = kept_slots w.shape h in
    let v = w.sound in
    on
    (record {
      shape = record { slot = z.slot; pair = z.pair };
      octets = o;
      ext = record { limit = refl; bytes = le_refl _; atoms = le_refl _; pairs = le_refl _; same = h; room = r; later = λ i h l. absurd (omega arith) };
    })
    (omega arith)

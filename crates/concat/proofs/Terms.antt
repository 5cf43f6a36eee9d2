-- Laws of a concat's terms: their bytes, and what copying them one behind the other leaves. Assumes nothing.
use Prim.Native.Nat.{ℕ, ◌+◌, ◌-◌, ◌≤◌, ◌<◌}
use mathlib.Core.Path.{◌≡◌, refl, sym, ap, ◌∙◌}
use mathlib.Core.List.{List, [], ◌++◌}
use native.Mathlib.Numerals.{add-one}
use native.Mathlib.Omega.{arith}
use borrow.Rule.Slice.PartMut.{put_mid}
use lib.ListN.{length, take, drop, get_or, length-append, drop_of_length-le}
use lib.Seq.{slice, drop-cons, drop-drop, take-take}
use Rattle.rules.specs.declared.Allocator.{Allocator}
use Rattle.rules.specs.Small.{len_for, small_bytes}
use Rattle.rules.specs.Said.{Said, says, refuses}
use Rattle.rules.specs.State.{AtomSlots, Store, over}
use Rattle.rules.specs.Reads.{Atom, range, value, atom_of}
use Rattle.rules.specs.Creates.{term_bytes, joined}
use Rattle.rules.proofs.Lists.{part_slice}
use Rattle.rules.proofs.Args.{AtomIn, atom_in}
use Rattle.rules.proofs.Smalls.{length-be}
use Rattle.rules.proofs.Overs.{tail_over, over_none, take-over, length_over, over-over, slice-same}

-- a range of what stands before a place, copied to the place
pub range_over : (d : List ℕ) (s e at : ℕ) → s ≤ e → e ≤ at
    → take at d ++ (take (e - s) (drop s (take at d)) ++ drop (length (take (e - s) (drop s (take at d)))) (drop at d)) ≡ over d at (slice s e d)
range_over d s e at h k =
    ap (λ (v : List ℕ). take at d ++ (v ++ drop (length v) (drop at d))) (part_slice s e (take at d) h ∙ ap (drop s) (take-take e at d k))
    ∙ ap (λ (r : List ℕ). take at d ++ (slice s e d ++ r)) (drop-drop (length (slice s e d)) at d)

-- a term's bytes are the same in lists whose used bytes are the same
same_at : (a : Allocator) (b k : List ℕ) (r : Said Atom) → ((x : Atom) → r ≡ says x → AtomIn a x)
    → take a.used.bytes b ≡ take a.used.bytes k → term_bytes b r ≡ term_bytes k r
same_at a b k (says (range start end)) f h = slice-same b k start end a.used.bytes (f (range start end) refl).1 h
same_at a b k (says (value v)) f h = refl
same_at a b k (refuses code node) f h = refl

pub term-same : (a : Allocator) (t : AtomSlots) (n : ℕ) (b k : List ℕ)
    → take a.used.bytes b ≡ take a.used.bytes k → term_bytes b (atom_of a t n) ≡ term_bytes k (atom_of a t n)
term-same a t n b k h = same_at a b k (atom_of a t n) (atom_in a t n) h

-- the bytes of the terms from the i-th on
joined_cons : (a : Allocator) (s : Store) (ns : List ℕ) (i : ℕ) → i < length ns
    → joined a s (drop i ns) ≡ term_bytes s.bytes (atom_of a s.atoms (get_or ns i 0)) ++ joined a s (drop (i + 1) ns)
unfolding joined
joined_cons a s ns i h = rw (add-one i, drop-cons ns i 0 h)

joined_none : (a : Allocator) (s : Store) (ns : List ℕ) (i : ℕ) → length ns ≤ i → joined a s (drop i ns) ≡ []
unfolding joined
joined_none a s ns i h = rw (drop_of_length-le ns {i = i} h)

-- where i terms are copied: the bytes before `at` are done, and those of the other terms are to be written from there on
pub record Copied (a : Allocator) (s : Store) (ns b : List ℕ) (at i : ℕ) : Type 0 where
  pub left : over s.bytes a.used.bytes (joined a s ns) ≡ over b at (joined a s (drop i ns))
  pub same : take a.used.bytes b ≡ take a.used.bytes s.bytes
  pub behind : a.used.bytes ≤ at
  pub room : at + length (joined a s (drop i ns)) ≤ length b
  pub long : length b ≡ length s.bytes

module _ (a : Allocator) (s : Store) (ns b : List ℕ) (at i : ℕ) (c : Copied a s ns b at i) where
  pub copied_all : length ns ≤ i → b ≡ over s.bytes a.used.bytes (joined a s ns)
  copied_all h = sym (c.left ∙ ap (over b at) (joined_none a s ns i h) ∙ over_none b at)

  -- the next term's bytes, in the list as it is
  next : List ℕ
  next = term_bytes b (atom_of a s.atoms (get_or ns i 0))

  next_first : i < length ns → joined a s (drop i ns) ≡ next ++ joined a s (drop (i + 1) ns)
  unfolding next
  next_first h =
      joined_cons a s ns i h
      ∙ ap (λ (v : List ℕ). v ++ joined a s (drop (i + 1) ns)) (sym (term-same a s.atoms (get_or ns i 0) b s.bytes c.same))

  next_rest : i < length ns → at + length next + length (joined a s (drop (i + 1) ns)) ≤ length b
  next_rest h = omega (arith, c.room, ap length (next_first h), length-append next (joined a s (drop (i + 1) ns)))

  pub copied_room : i < length ns → at + length (term_bytes b (atom_of a s.atoms (get_or ns i 0))) ≤ length b
  unfolding next
  copied_room h = omega (arith, next_rest h)

  pub copied_more : i < length ns → (b' : List ℕ) (at' : ℕ)
      → b' ≡ over b at (term_bytes b (atom_of a s.atoms (get_or ns i 0)))
      → at' ≡ at + length (term_bytes b (atom_of a s.atoms (get_or ns i 0))) → Copied a s ns b' at' (i + 1)
  unfolding next
  copied_more h b' at' p q = rw (p, q) (more (next_rest h))
    where
      more : at + length next + length (joined a s (drop (i + 1) ns)) ≤ length b → Copied a s ns (over b at next) (at + length next) (i + 1)
      more r = record {
        left = c.left ∙ ap (over b at) (next_first h) ∙ sym (over-over b next (joined a s (drop (i + 1) ns)) at (omega arith));
        same = take-over b next a.used.bytes at c.behind (omega arith) ∙ c.same;
        behind = omega (arith, c.behind);
        room = omega (arith, length_over b next at (omega arith));
        long = length_over b next at (omega arith) ∙ c.long;
      }

-- what copying a small atom's bytes into the lent tail leaves of the list
pub tail_small : (l part e : List ℕ) (v at : ℕ) → part ≡ small_bytes v → at + len_for v ≤ length l
    → e ≡ part ++ drop (length part) (take (length l - at) (drop at l)) → put_mid at (length l - at) l e ≡ over l at (small_bytes v)
tail_small l part e v at p h k =
    tail_over l (small_bytes v) e at (omega (arith, length-be (len_for v) v))
    (k ∙ ap (λ (w : List ℕ). w ++ drop (length w) (take (length l - at) (drop at l))) p)

-- For a node valid in k, every call that reads it answers in a state that extends k as it answered in k. Assumes nothing.
use Prim.Native.Nat.{ℕ, ◌<◌}
use mathlib.Core.Path.{◌≡◌, refl, ◌∙◌, ap, ap₂}
use mathlib.Core.List.{List}
use native.Mathlib.Nat.{le_trans}
use borrow.Author.Tests.{lt-ltb}
use lib.Dec.{eqb}
use Rattle.rules.specs.declared.Counts.{Counts}
use Rattle.rules.specs.Node.{Node, pair_at, bytes_at, small, bad, view, nil}
use Rattle.rules.specs.Small.{fits, small_bytes}
use Rattle.rules.specs.Said.{Said, says, refuses, need, says_of}
use Rattle.rules.specs.State.{bytes_sound}
use Rattle.rules.specs.Reads as R
use Rattle.rules.specs.Reads.{Arg, pair_arg, bytes_arg, small_arg, arg_of, arg, value, atom_arg, atom_length, atom_len, children, branch, part_of, part_bytes, number_of, small_number, same_bytes, eq_atoms, eq_args, atom_eq, children_of, visited, sexp_of, sexp, node_status_of, node_status}
use Rattle.rules.proofs.Needs.{need_ind}
use Rattle.rules.proofs.Args.{ArgIn, arg_in}
use Rattle.rules.specs.Whole.{St}
use Rattle.runs.specs.Wf.{Valid, ValidIn, WF, Ext, On}
use Rattle.runs.specs.ByCalls.{SameAnswers}
use Rattle.runs.proofs.Tests.{→atoms, →pairs, →slots, →store, →slot, →pair}
use Rattle.runs.proofs.Extend.{start_same, end_same, first_same, rest_same, part_same}

module _ {k s : St} (w : WF k) (o : On k s) where
  x : Ext k s
  x = o.ext

  -- ---- a node argument

  arg-at : (v : Node) → Valid k.rec.used.atoms k.rec.used.pairs v → arg_of s.rec s.lists.atoms v ≡ arg_of k.rec k.lists.atoms v
  unfolding arg_of need
  arg-at (pair_at i) l = rw (lt-ltb i s.rec.used.pairs (le_trans l x.pairs), lt-ltb i k.rec.used.pairs l)
  arg-at (bytes_at i) l =
      let l' : i < s.rec.used.atoms = le_trans l x.atoms in
      rw (
        lt-ltb i s.rec.used.atoms l',
        lt-ltb i k.rec.used.atoms l,
        →slot s.rec.used.bytes s.lists.atoms i (o.wf.shape.slot i l'),
        →slot k.rec.used.bytes k.lists.atoms i (w.shape.slot i l),
      )
      (ap₂ (λ a e. says (bytes_arg i a e)) (start_same x.same i l) (end_same x.same i l))
  arg-at (small v) l = refl
  arg-at bad l = refl

  arg-same : (n : ℕ) → ValidIn k n → arg s.rec s.lists.atoms n ≡ arg k.rec k.lists.atoms n
  arg-same n v = arg-at (view n) v

  -- ---- the bytes of one that passed its tests in k

  number_at : (r : Said Arg) → ((y : Arg) → r ≡ says y → ArgIn k.rec k.lists.atoms y) → says_of (number_of s.lists.bytes) r ≡ says_of (number_of k.lists.bytes) r
  number_at (says (pair_arg i)) f = refl
  number_at (says (bytes_arg i a e)) f = ap (λ l. says (fits l)) (part_same x.same a e (f _ refl).inside)
  number_at (says (small_arg v)) f = refl
  number_at (refuses code node) f = refl

  part_at : (n : ℕ) (scratch : List ℕ) (size : ℕ) (r : Said Arg) → ((y : Arg) → r ≡ says y → ArgIn k.rec k.lists.atoms y)
      → part_bytes s.lists.bytes scratch (part_of size (atom_arg n r)) ≡ part_bytes k.lists.bytes scratch (part_of size (atom_arg n r))
  part_at n scratch size (says (pair_arg i)) f = refl
  part_at n scratch size (says (bytes_arg i a e)) f = part_same x.same a e (f _ refl).inside
  part_at n scratch size (says (small_arg v)) f =
      need_ind (λ r. part_bytes s.lists.bytes scratch r ≡ part_bytes k.lists.bytes scratch r) (eqb size 4) 15 nil (says (value v)) (λ t. refl) (λ t. refl)
  part_at n scratch size (refuses code node) f = refl

  -- two of them
  two : (n m : ℕ) (y z : Arg) → ArgIn k.rec k.lists.atoms y → ArgIn k.rec k.lists.atoms z
      → eq_atoms s.lists.bytes (atom_arg n (says y)) (atom_arg m (says z)) ≡ eq_atoms k.lists.bytes (atom_arg n (says y)) (atom_arg m (says z))
  two n m (pair_arg i) z p q = refl
  two n m (bytes_arg i a e) (pair_arg j) p q = refl
  two n m (bytes_arg i a e) (bytes_arg j b f) p q = ap₂ (λ u v. says (same_bytes u v)) (part_same x.same a e p.inside) (part_same x.same b f q.inside)
  two n m (bytes_arg i a e) (small_arg u) p q = ap (λ l. says (same_bytes l (small_bytes u))) (part_same x.same a e p.inside)
  two n m (small_arg v) (pair_arg j) p q = refl
  two n m (small_arg v) (bytes_arg j b f) p q = ap (λ l. says (same_bytes (small_bytes v) l)) (part_same x.same b f q.inside)
  two n m (small_arg v) (small_arg u) p q = refl

  eq_at : (n m : ℕ) (r t : Said Arg) → ((y : Arg) → r ≡ says y → ArgIn k.rec k.lists.atoms y) → ((y : Arg) → t ≡ says y → ArgIn k.rec k.lists.atoms y)
      → eq_args s.lists.bytes n m r t ≡ eq_args k.lists.bytes n m r t
  eq_at n m (refuses code node) t f g = refl
  eq_at n m (says y) (refuses code node) f g = refl
  eq_at n m (says y) (says z) f g = two n m y z (f y refl) (g z refl)

  -- ---- the children of a pair

  children-same : {A : Type 0} (f : ℕ → ℕ → A) (i : ℕ) → i < k.rec.used.pairs → children_of s.rec s.lists.pairs i f ≡ children_of k.rec k.lists.pairs i f
  unfolding children_of need
  children-same f i l =
      rw (→pair s.rec.used.atoms s.lists.pairs i (o.wf.shape.pair i (le_trans l x.pairs)), →pair k.rec.used.atoms k.lists.pairs i (w.shape.pair i l))
      (ap₂ (λ a b. says (f a b)) (first_same x.same i l) (rest_same x.same i l))

  visited-at : (r : Said Arg) → ((y : Arg) → r ≡ says y → ArgIn k.rec k.lists.atoms y) → visited s.rec s.lists.pairs r ≡ visited k.rec k.lists.pairs r
  visited-at (says (pair_arg i)) f = children-same children i (f _ refl)
  visited-at (says (bytes_arg i a e)) f = refl
  visited-at (says (small_arg v)) f = refl
  visited-at (refuses code node) f = refl

  sexp-at : (v : Node) → Valid k.rec.used.atoms k.rec.used.pairs v → sexp_of s.rec s.lists.pairs v ≡ sexp_of k.rec k.lists.pairs v
  unfolding need
  sexp-at (pair_at i) l = rw (lt-ltb i s.rec.used.pairs (le_trans l x.pairs), lt-ltb i k.rec.used.pairs l) (children-same branch i l)
  sexp-at (bytes_at i) l = rw (lt-ltb i s.rec.used.atoms (le_trans l x.atoms), lt-ltb i k.rec.used.atoms l)
  sexp-at (small v) l = refl
  sexp-at bad l = refl

  status_at : (q : Counts) (v : Node) → Valid k.rec.used.atoms k.rec.used.pairs v
      → node_status_of q s.rec s.lists.atoms v ≡ node_status_of q k.rec k.lists.atoms v
  unfolding need
  status_at q (pair_at i) l = rw (lt-ltb i s.rec.used.pairs (le_trans l x.pairs), lt-ltb i k.rec.used.pairs l)
  status_at q (bytes_at i) l =
      let l' : i < s.rec.used.atoms = le_trans l x.atoms in
      rw (
        lt-ltb i s.rec.used.atoms l',
        lt-ltb i k.rec.used.atoms l,
        →slot s.rec.used.bytes s.lists.atoms i (o.wf.shape.slot i l'),
        →slot k.rec.used.bytes k.lists.atoms i (w.shape.slot i l),
        start_same x.same i l,
        end_same x.same i l,
      )
  status_at q (small v) l = refl
  status_at q bad l = refl

  -- ---- the calls

  module _ (n : ℕ) (v : ValidIn k n) where
    args : (y : Arg) → arg k.rec k.lists.atoms n ≡ says y → ArgIn k.rec k.lists.atoms y
    args = arg_in k.rec k.lists.atoms n

    sexp-same : sexp s.rec s.lists.pairs n ≡ sexp k.rec k.lists.pairs n
    unfolding sexp need
    sexp-same = rw (→pairs o.wf.sound, →pairs w.sound) (sexp-at (view n) v)

    node-same : R.node s.rec s.lists.atoms s.lists.pairs n ≡ R.node k.rec k.lists.atoms k.lists.pairs n
    unfolding R.node need
    node-same = rw (→slots o.wf.sound, →slots w.sound) (ap (visited s.rec s.lists.pairs) (arg-same n v) ∙ visited-at (arg k.rec k.lists.atoms n) args)

    len_same : atom_len s.rec s.lists.atoms n ≡ atom_len k.rec k.lists.atoms n
    unfolding atom_len need
    len_same = rw (→atoms o.wf.sound, →atoms w.sound) (ap (λ r. says_of atom_length (atom_arg n r)) (arg-same n v))

    number_same : small_number s.rec s.lists.bytes s.lists.atoms n ≡ small_number k.rec k.lists.bytes k.lists.atoms n
    unfolding small_number need
    number_same = rw (→store o.wf.sound, →store w.sound) (ap (says_of (number_of s.lists.bytes)) (arg-same n v) ∙ number_at (arg k.rec k.lists.atoms n) args)

    atom-same : (size : ℕ) → R.atom s.rec s.lists.bytes s.lists.atoms n size ≡ R.atom k.rec k.lists.bytes k.lists.atoms n size
    unfolding R.atom need
    atom-same size = rw (→store o.wf.sound, →store w.sound) (ap (λ r. part_of size (atom_arg n r)) (arg-same n v))

    bytes_same : (scratch : List ℕ) (size : ℕ)
        → part_bytes s.lists.bytes scratch (R.atom k.rec k.lists.bytes k.lists.atoms n size) ≡ part_bytes k.lists.bytes scratch (R.atom k.rec k.lists.bytes k.lists.atoms n size)
    unfolding R.atom
    bytes_same scratch size = need_ind (λ r. part_bytes s.lists.bytes scratch r ≡ part_bytes k.lists.bytes scratch r) (bytes_sound k.rec k.lists.bytes k.lists.atoms) 1 nil _
        (λ t. refl) (λ t. part_at n scratch size (arg k.rec k.lists.atoms n) args)

    eq_same : (m : ℕ) → ValidIn k m → atom_eq s.rec s.lists.bytes s.lists.atoms n m ≡ atom_eq k.rec k.lists.bytes k.lists.atoms n m
    unfolding atom_eq need
    eq_same m u = rw (→store o.wf.sound, →store w.sound)
        (ap₂ (eq_args s.lists.bytes n m) (arg-same n v) (arg-same m u)
        ∙ eq_at n m (arg k.rec k.lists.atoms n) (arg k.rec k.lists.atoms m) args (arg_in k.rec k.lists.atoms m))

    status_same : (q : Counts) → node_status q s.rec s.lists.atoms n ≡ node_status q k.rec k.lists.atoms n
    unfolding node_status need
    status_same q = rw (→atoms o.wf.sound, →atoms w.sound) (status_at q (view n) v)

    pub same-answers : SameAnswers k s n
    same-answers = record {
      sexp-same = sexp-same;
      node-same = node-same;
      len_same = len_same;
      number_same = number_same;
      atom-same = atom-same;
      bytes_same = bytes_same;
      eq_same = eq_same;
      status_same = status_same;
    }

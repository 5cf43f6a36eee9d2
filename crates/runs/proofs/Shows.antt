-- On a well-formed state a reading call answers every valid node from the tree that the node shows. About the rules alone. Assumes nothing.
use Prim.Native.Nat.{ℕ, ◌*◌, ◌<◌}
use mathlib.Core.Path.{◌≡◌, refl, sym, ap, ap₂, ◌∙◌}
use mathlib.Core.Bool.{Bool, true, ◌&&◌, false≢true}
use mathlib.Core.List.{List, []}
use mathlib.Core.Option.{Option, none, some}
use native.Mathlib.Decide.{dec_lt}
use native.Mathlib.Omega.{arith}
use lib.IntN.{pos}
use lib.ListN.{length}
use lib.Seq.{slice, length-slice}
use borrow.Author.Tests.{lt-ltb, le-ltb, ne_eqb, ltb-true, leb-true}
use Rattle.rules.specs.declared.Allocator.{Allocator}
use Rattle.rules.specs.Node.{Node, pair_at, bytes_at, small, bad, view, valid_as, valid_node}
use Rattle.rules.specs.Small.{fits, len_for, be, small_bytes}
use Rattle.rules.specs.Integer.{count_of, count_from, int_bytes}
use Rattle.rules.specs.Said.{Said, says, refuses, need, says_of}
use Rattle.rules.specs.State.{Lists, start_at, end_at, first_at, rest_at, limits_sound, bytes_fit, atoms_fit, pairs_fit, lists_sound, slots_sound, atoms_sound, atom_slot_sound, pair_slot_sound, atom_slots_sound, well_formed}
use Rattle.rules.specs.Reads.{Arg, pair_arg, bytes_arg, small_arg, arg_of, arg, Atom, range, value, atom_arg, atom_of, atom_length, atom_bytes, atom_len, part_of, atom, number_of, small_number, same_bytes, eq_atoms, atom_eq, Visited, buffer, number, children, children_of, visited, node, Sexp, atomic, branch, sexp_of, sexp}
use Rattle.rules.specs.Tree.{Tree, leaf, fork, tree}
use Rattle.rules.proofs.Tests.{both}
use Rattle.rules.proofs.Alls.{all-at}
use Rattle.rules.proofs.Args.{Low, view-low, Inside, inside}
use Rattle.rules.proofs.Smalls.{length-be, fits-small_bytes}
use Rattle.rules.proofs.Trees.{tree-bytes, tree-small, tree-pair}

-- ---- a valid node: what it is as an argument, for node and for sexp, and the tree it shows; nothing is said of a bad one

abbrev pub arg_at : Lists → Node → Arg
arg_at l (pair_at i) = pair_arg i
arg_at l (bytes_at i) = bytes_arg i (start_at l.atoms i) (end_at l.atoms i)
arg_at l (small v) = small_arg v
arg_at l bad = small_arg 0

abbrev pub visit_at : Lists → Node → Visited
visit_at l (pair_at i) = children (first_at l.pairs i) (rest_at l.pairs i)
visit_at l (bytes_at i) = buffer (start_at l.atoms i) (end_at l.atoms i)
visit_at l (small v) = number v
visit_at l bad = number 0

abbrev pub sexp_at : Lists → Node → Sexp
sexp_at l (pair_at i) = branch (first_at l.pairs i) (rest_at l.pairs i)
sexp_at l (bytes_at i) = atomic
sexp_at l (small v) = atomic
sexp_at l bad = atomic

abbrev pub tree_at : Lists → Node → Tree
tree_at l (pair_at i) = fork (tree l (first_at l.pairs i)) (tree l (rest_at l.pairs i))
tree_at l (bytes_at i) = leaf (slice (start_at l.atoms i) (end_at l.atoms i) l.bytes)
tree_at l (small v) = leaf (small_bytes v)
tree_at l bad = leaf []

-- ---- what a well-formed state has

record Sound (a : Allocator) (l : Lists) : Type 0 where
  limits : limits_sound a ≡ true
  atoms-fit : atoms_fit a (length l.atoms.starts) (length l.atoms.ends) ≡ true
  pairs-fit : pairs_fit a (length l.pairs.firsts) (length l.pairs.rests) ≡ true
  bytes_fit : bytes_fit a (length l.bytes) ≡ true
  atom-slots : (i : ℕ) → i < a.used.atoms → atom_slot_sound a.used.bytes l.atoms i ≡ true
  pair-slots : (i : ℕ) → i < a.used.pairs → pair_slot_sound a.used.atoms l.pairs i ≡ true

sound : (a : Allocator) (l : Lists) → well_formed a l ≡ true → Sound a l
unfolding well_formed
sound a l h =
    let p = both (lists_sound a l && atom_slots_sound a.used l.atoms) _ h in
    let q = both (lists_sound a l) _ p.0 in
    let r = both (slots_sound a l.atoms l.pairs) _ q.0 in
    let t = both (atoms_sound a l.atoms) _ r.0 in
    let u = both (limits_sound a) _ t.0 in
    record {
      limits = u.0;
      atoms-fit = u.1;
      pairs-fit = t.1;
      bytes_fit = r.1;
      atom-slots = λ i k. all-at (atom_slot_sound a.used.bytes l.atoms) a.used.atoms i q.1 k;
      pair-slots = λ i k. all-at (pair_slot_sound a.used.atoms l.pairs) a.used.pairs i p.1 k;
    }

-- ---- the tree of a valid node, one level down

abbrev ValidAs : Allocator → Node → Type 0
ValidAs a w = valid_as a.used.atoms a.used.pairs w ≡ true

module _ (a : Allocator) (l : Lists) (s : Sound a l) where
  tree-at : (n : ℕ) (w : Node) → view n ≡ w → ValidAs a w → tree l n ≡ tree_at l w
  tree-at n (pair_at i) e v = tree-pair a.used.atoms a.used.pairs l s.pair-slots n i (ltb-true i a.used.pairs v) e
  tree-at n (bytes_at i) e v = tree-bytes l n i e
  tree-at n (small x) e v = tree-small l n x e
  tree-at n bad e v = absurd (false≢true v)

  -- ---- each call, by what the node is

  arg-at : (w : Node) → ValidAs a w → arg_of a l.atoms w ≡ says (arg_at l w)
  unfolding arg_of need
  arg-at (pair_at i) v = rw v
  arg-at (bytes_at i) v = rw (v, s.atom-slots i (ltb-true i a.used.atoms v))
  arg-at (small x) v = refl
  arg-at bad v = absurd (false≢true v)

  visit-at : (w : Node) → ValidAs a w → visited a l.pairs (says (arg_at l w)) ≡ says (visit_at l w)
  unfolding children_of need
  visit-at (pair_at i) v = rw (s.pair-slots i (ltb-true i a.used.pairs v))
  visit-at (bytes_at i) v = refl
  visit-at (small x) v = refl
  visit-at bad v = refl

  sexp-at : (w : Node) → ValidAs a w → sexp_of a l.pairs w ≡ says (sexp_at l w)
  unfolding children_of need
  sexp-at (pair_at i) v = rw (v, s.pair-slots i (ltb-true i a.used.pairs v))
  sexp-at (bytes_at i) v = rw v
  sexp-at (small x) v = refl
  sexp-at bad v = absurd (false≢true v)

-- ---- what the answers show

-- the tree of what node says
abbrev pub visited_tree : Lists → Visited → Tree
visited_tree l (buffer start end) = leaf (slice start end l.bytes)
visited_tree l (number v) = leaf (small_bytes v)
visited_tree l (children first rest) = fork (tree l first) (tree l rest)

-- the two trees below a pair, and below what sexp says; an atom has none
abbrev pub fork_of : Tree → Option Tree
fork_of (leaf b) = none
fork_of (fork x y) = some (fork x y)

abbrev pub sexp_tree : Lists → Sexp → Option Tree
sexp_tree l atomic = none
sexp_tree l (branch first rest) = some (fork (tree l first) (tree l rest))

-- the bytes that node n shows: 6 with the node for a pair
abbrev pub shown_bytes : ℕ → Tree → Said (List ℕ)
shown_bytes n (leaf b) = says b
shown_bytes n (fork x y) = refuses 6 n

-- the small number that it shows
abbrev pub shown_number : Tree → Option ℕ
shown_number (leaf b) = fits b
shown_number (fork x y) = none

-- whether two byte strings are equal: the left's refusal goes first
abbrev pub eq_shown : Said (List ℕ) → Said (List ℕ) → Said Bool
eq_shown (says x) (says y) = says (same_bytes x y)
eq_shown (refuses code node) y = refuses code node
eq_shown (says x) (refuses code node) = refuses code node

eq-shown : (bytes : List ℕ) (r q : Said Atom) → eq_atoms bytes r q ≡ eq_shown (says_of (atom_bytes bytes) r) (says_of (atom_bytes bytes) q)
eq-shown bytes (says x) (says y) = refl
eq-shown bytes (refuses code node) q = refl
eq-shown bytes (says x) (refuses code node) = refl

part_four : (r : Said Atom) → part_of 4 r ≡ r
unfolding need
part_four (says (range start end)) = refl
part_four (says (value v)) = refl
part_four (refuses code node) = refl

lengths : (bytes : List ℕ) (r : Said Atom) → Inside (length bytes) r → says_of atom_length r ≡ says_of length (says_of (atom_bytes bytes) r)
lengths bytes (says (range start end)) h = ap says (sym (length-slice start end bytes h.1))
lengths bytes (says (value v)) h = ap says (sym (length-be (len_for v) v))
lengths bytes (refuses code node) h = refl

visit_shown : (l : Lists) (w : Node) → visited_tree l (visit_at l w) ≡ tree_at l w
unfolding len_for be
visit_shown l (pair_at i) = refl
visit_shown l (bytes_at i) = refl
visit_shown l (small v) = refl
visit_shown l bad = refl

sexp-shown : (l : Lists) (w : Node) → sexp_tree l (sexp_at l w) ≡ fork_of (tree_at l w)
sexp-shown l (pair_at i) = refl
sexp-shown l (bytes_at i) = refl
sexp-shown l (small v) = refl
sexp-shown l bad = refl

atom-shown : (l : Lists) (n : ℕ) (w : Node) → says_of (atom_bytes l.bytes) (atom_arg n (says (arg_at l w))) ≡ shown_bytes n (tree_at l w)
unfolding len_for be
atom-shown l n (pair_at i) = refl
atom-shown l n (bytes_at i) = refl
atom-shown l n (small v) = refl
atom-shown l n bad = refl

number-shown : (l : Lists) (w : Node) → Low w → number_of l.bytes (arg_at l w) ≡ shown_number (tree_at l w)
unfolding fits
number-shown l (pair_at i) h = refl
number-shown l (bytes_at i) h = refl
number-shown l (small v) h = sym (fits-small_bytes v h)
number-shown l bad h = refl

-- ---- the theorems: every valid node gets an answer, that of the tree it shows

module _ (a : Allocator) (l : Lists) (h : well_formed a l ≡ true) where
  module _ (n : ℕ) (v : valid_node a.used.atoms a.used.pairs n ≡ true) where
    pub tree_is : tree l n ≡ tree_at l (view n)
    tree_is = tree-at a l (sound a l h) n (view n) refl v

    pub arg-says : arg a l.atoms n ≡ says (arg_at l (view n))
    arg-says = arg-at a l (sound a l h) (view n) v

    pub node-says : node a l.atoms l.pairs n ≡ says (visit_at l (view n))
    unfolding node need
    node-says =
        let s = sound a l h in
        simp (s.limits, s.atoms-fit, s.pairs-fit, arg-says) (visit-at a l s (view n) v)

    pub node-shows : says_of (visited_tree l) (node a l.atoms l.pairs n) ≡ says (tree l n)
    node-shows = rw (node-says, tree_is) (ap says (visit_shown l (view n)))

    pub sexp-says : sexp a l.pairs n ≡ says (sexp_at l (view n))
    unfolding sexp need
    sexp-says = let s = sound a l h in simp (s.limits, s.pairs-fit) (sexp-at a l s (view n) v)

    pub sexp-shows : says_of (sexp_tree l) (sexp a l.pairs n) ≡ says (fork_of (tree l n))
    sexp-shows = rw (sexp-says, tree_is) (ap says (sexp-shown l (view n)))

    -- atom with a scratch of four bytes, and atom_len: the bytes shown, and how many; a pair gets 6
    pub atom-says : atom a l.bytes l.atoms n 4 ≡ atom_arg n (says (arg_at l (view n)))
    unfolding atom need
    atom-says =
        let s = sound a l h in
        simp (s.limits, s.atoms-fit, s.bytes_fit) (part_four (atom_of a l.atoms n) ∙ ap (atom_arg n) arg-says)

    pub atom-shows : says_of (atom_bytes l.bytes) (atom a l.bytes l.atoms n 4) ≡ shown_bytes n (tree l n)
    atom-shows = rw (atom-says, tree_is) (atom-shown l n (view n))

    pub len_shows : atom_len a l.atoms n ≡ says_of length (shown_bytes n (tree l n))
    unfolding atom_len need
    len_shows =
        let s = sound a l h in
        let i = inside a l.atoms n (length l.bytes) (leb-true a.used.bytes (length l.bytes) s.bytes_fit) in
        simp (s.limits, s.atoms-fit, tree_is)
        (lengths l.bytes (atom_of a l.atoms n) i ∙ rw arg-says (ap (says_of length) (atom-shown l n (view n))))

    -- the small number of any atom whose bytes fit one, whatever its kind
    pub number-shows : small_number a l.bytes l.atoms n ≡ says (shown_number (tree l n))
    unfolding small_number need
    number-shows =
        let s = sound a l h in
        simp (s.limits, s.atoms-fit, s.bytes_fit, arg-says, tree_is) (ap says (number-shown l (view n) (view-low n)))

  pub eq_shows : (n m : ℕ) → valid_node a.used.atoms a.used.pairs n ≡ true → valid_node a.used.atoms a.used.pairs m ≡ true
      → atom_eq a l.bytes l.atoms n m ≡ eq_shown (shown_bytes n (tree l n)) (shown_bytes m (tree l m))
  unfolding atom_eq need
  eq_shows n m v w =
      let s = sound a l h in
      simp (s.limits, s.atoms-fit, s.bytes_fit, arg-says n v, arg-says m w)
      (eq-shown l.bytes (atom_arg n (says (arg_at l (view n)))) (atom_arg m (says (arg_at l (view m))))
      ∙ ap₂ eq_shown (atom-shown l n (view n) ∙ sym (ap (shown_bytes n) (tree_is n v))) (atom-shown l m (view m) ∙ sym (ap (shown_bytes m) (tree_is m w))))

  -- so two atoms are told equal exactly by the bytes that they show
  pub eq_leaves : (n m : ℕ) (x y : List ℕ) → valid_node a.used.atoms a.used.pairs n ≡ true → valid_node a.used.atoms a.used.pairs m ≡ true
      → tree l n ≡ leaf x → tree l m ≡ leaf y → atom_eq a l.bytes l.atoms n m ≡ says (same_bytes x y)
  eq_leaves n m x y v w p q = eq_shows n m v w ∙ ap₂ (λ (t u : Tree). eq_shown (shown_bytes n t) (shown_bytes m u)) p q

-- ---- small numbers as integers: below 2^26 the bytes of an integer are those of the small value

count-is : (x : ℕ) → x < 67108864 → count_of (pos x) ≡ len_for x
unfolding count_of count_from len_for
count-is x h = elim (dec_lt x 1) [
  | yes p ↦ (let e : x ≡ 0 = omega arith in rw e)
  | no p ↦ elim (dec_lt x 128) [
    | yes q ↦ simp (ne_eqb x 0 (omega arith), lt-ltb (x * 2) 256 (omega arith), lt-ltb x 128 q)
    | no q ↦ elim (dec_lt x 32768) [
      | yes r ↦ simp (ne_eqb x 0 (omega arith), le-ltb (x * 2) 256 (omega arith), le-ltb x 128 (omega arith), lt-ltb (x * 2) 65536 (omega arith), lt-ltb x 32768 r)
      | no r ↦ elim (dec_lt x 8388608) [
        | yes t ↦ simp (ne_eqb x 0 (omega arith), le-ltb (x * 2) 256 (omega arith), le-ltb x 128 (omega arith), le-ltb (x * 2) 65536 (omega arith), le-ltb x 32768 (omega arith), lt-ltb (x * 2) 16777216 (omega arith), lt-ltb x 8388608 t)
        | no t ↦ simp (ne_eqb x 0 (omega arith), le-ltb (x * 2) 256 (omega arith), le-ltb x 128 (omega arith), le-ltb (x * 2) 65536 (omega arith), le-ltb x 32768 (omega arith), le-ltb (x * 2) 16777216 (omega arith), le-ltb x 8388608 (omega arith), lt-ltb (x * 2) 4294967296 (omega arith), lt-ltb x 2147483648 (omega arith))
      ]
    ]
  ]
]

pub int-bytes : (x : ℕ) → x < 67108864 → int_bytes (pos x) ≡ small_bytes x
int-bytes x h = ap (λ (k : ℕ). be k x) (count-is x h)

pub int_fits : (x : ℕ) → x < 67108864 → fits (int_bytes (pos x)) ≡ some x
int_fits x h = rw (int-bytes x h) (fits-small_bytes x h)

-- a node that shows the bytes of an integer below 2^26 has that small number
pub number_of_int : (a : Allocator) (l : Lists) (n x : ℕ) → well_formed a l ≡ true → valid_node a.used.atoms a.used.pairs n ≡ true
    → x < 67108864 → tree l n ≡ leaf (int_bytes (pos x)) → small_number a l.bytes l.atoms n ≡ says (some x)
number_of_int a l n x h v k e = number-shows a l h n v ∙ ap says (ap shown_number e ∙ int_fits x k)

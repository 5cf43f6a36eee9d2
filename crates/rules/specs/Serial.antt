-- Trees as bytes: the serialised form of the public CLVM documentation, as document 02 gives it (W1).
use Rattle.std.specs.Prelude.{ℕ, zero, suc, max, ◌+◌, ◌-◌, ◌*◌, ◌/◌, ◌^◌, ◌≤◌, ◌<◌, ◌≡◌, cond, ◌&&◌, List, [], ◌∷◌, ◌++◌, leb, ltb, eqb, length, get_or}
use Rattle.std.proofs.Math.Seq.{slice}
use Rattle.rules.specs.Small.{big, be}
use Rattle.rules.specs.Tree.{Tree, leaf, fork}

-- ---- the table: a prefix of k + 1 bytes, k from 0 to 4, starts at base_of k and is for lengths below limit_of k

-- 80, c0, e0, f0, f8; from the next, fc, on no prefix starts
unfoldable pub base_of : ℕ → ℕ
base_of k = 256 - 2 ^ (7 - k)

-- 2^6, 2^13, 2^20, 2^27, 2^34
unfoldable pub limit_of : ℕ → ℕ
limit_of k = 2 ^ (7 * k + 6)

-- the length in k + 1 bytes, big-endian, with the base added to the first
abbrev pub prefix : ℕ → ℕ → List ℕ
prefix k len = (base_of k + len / 256 ^ k) ∷ be k len

-- ---- the forms of a tree

-- an atom: a byte below 80 for itself, or a prefix that holds the length, not always the shortest, and the bytes; 80 is the empty atom's
pub data AtomForm (v : List ℕ) : List ℕ → Type 0 where
  itself : (b : ℕ) → v ≡ b ∷ [] → b < 0x80 → AtomForm v (b ∷ [])
  behind : (k : ℕ) → k ≤ 4 → length v < limit_of k → AtomForm v (prefix k (length v) ++ v)

-- a pair: ff, then first, then rest
pub data Form : Tree → List ℕ → Type 0 where
  atom-form : {v l : List ℕ} → AtomForm v l → Form (leaf v) l
  pair-form : {x y : Tree} {u w : List ℕ} → Form x u → Form y w → Form (fork x y) (0xff ∷ (u ++ w))

-- how many levels a tree has: an atom one
unfoldable pub height : Tree → ℕ
height (leaf v) = 1
height (fork x y) = suc (max (height x) (height y))

-- ---- the shortest form

-- the first of k, k + 1, .., at most n more, whose bound is above x
unfoldable pub first_below : (ℕ → ℕ) → ℕ → ℕ → ℕ → ℕ
first_below bound zero k x = k
first_below bound (suc n) k x = let more = first_below bound n (suc k) x in cond (ltb x (bound k)) k more

-- how many bytes the shortest prefix for a length has after its first
abbrev pub extra_for : ℕ → ℕ
extra_for len = first_below limit_of 4 0 len

unfoldable pub shortest_atom : List ℕ → List ℕ
shortest_atom v =
    cond (eqb (length v) 1 && ltb (get_or v 0 0) 0x80) v (prefix (extra_for (length v)) (length v) ++ v)

unfoldable pub shortest : Tree → List ℕ
shortest (leaf v) = shortest_atom v
shortest (fork x y) = 0xff ∷ (shortest x ++ shortest y)

-- ---- what stands in a file at a place

pub data Token : Type 0 where
  -- nothing that is an item's start, or an atom that the file cuts short
  broken : Token
  -- ff
  opening : Token
  -- an atom, whose bytes lie from one place to another, where the next item starts
  string : (from to : ℕ) → Token

-- how many bytes a prefix that starts with b has after it
abbrev pub extra : ℕ → ℕ
extra b = first_below (λ k. base_of (suc k)) 4 0 b

-- the length in a prefix of k + 1 bytes
abbrev pub length_in : List ℕ → ℕ → ℕ → ℕ
length_in f at k = big ((get_or f at 0 - base_of k) ∷ slice (at + 1) (at + 1 + k) f)

abbrev pub string_from : List ℕ → ℕ → ℕ → Token
string_from f from len = cond (leb (from + len) (length f)) (string from (from + len)) broken

abbrev pub prefixed : List ℕ → ℕ → ℕ → Token
prefixed f at k = cond (leb (at + 1 + k) (length f)) (string_from f (at + 1 + k) (length_in f at k)) broken

-- by the first byte: below 80 itself, ff a pair, fc to fe refused, else a prefix
abbrev pub token_of : List ℕ → ℕ → ℕ → Token
token_of f at b =
    cond (ltb b 0x80) (string at (at + 1))
    (cond (eqb b 0xff) opening
    (cond (leb 0xfc b) broken
    (prefixed f at (extra b))))

unfoldable pub token : List ℕ → ℕ → Token
token f at = cond (leb (length f) at) broken (token_of f at (get_or f at 0))

-- ---- parsing: what the items of a file are, whatever the memory

-- a tree, and where the next item starts; or a code, and where the item at fault starts
pub data Parsed : Type 0 where
  parsed : (t : Tree) (next : ℕ) → Parsed
  fault : (code place : ℕ) → Parsed

abbrev pub and_then : Parsed → (Tree → ℕ → Parsed) → Parsed
and_then (parsed t next) f = f t next
and_then (fault code place) f = fault code place

abbrev pub parsed_pair : (ℕ → Parsed) → ℕ → Parsed
parsed_pair below at = and_then (below (at + 1)) λ x mid. and_then (below mid) λ y next. parsed (fork x y) next

abbrev pub parsed_as : Token → (ℕ → Parsed) → List ℕ → ℕ → Parsed
parsed_as broken below f at = fault 17 at
parsed_as opening below f at = parsed_pair below at
parsed_as (string from to) below f at = parsed (leaf (slice from to f)) to

-- with so many levels left: 18 on entering one too many
unfoldable pub parse : List ℕ → ℕ → ℕ → Parsed
parse f zero at = fault 18 at
parse f (suc levels) at = parsed_as (token f at) (parse f levels) f at

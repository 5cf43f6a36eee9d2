-- Parsing and forms: every form parses to its tree, what parses is a form, and the same bytes are one tree's only. Assumes nothing.
use Prim.Native.Nat.{ℕ, zero, suc, max, ◌+◌, ◌≤◌, ◌<◌}
use mathlib.Core.Path.{◌≡◌, refl, ap, ap₂, ◌∙◌, subst}
use mathlib.Core.Logic.{◌↔◌, inl, inr}
use mathlib.Core.List.{List, [], ◌∷◌, ◌++◌}
use native.Mathlib.Nat.{zero-add}
use native.Mathlib.Numerals.{add-one}
use native.Mathlib.Omega.{arith}
use lib.ListN.{length, length-append}
use lib.Seq.{slice, slice-cons, take-length}
use Rattle.rules.specs.Small.{Octets}
use Rattle.rules.specs.Tree.{Tree, leaf, fork}
use Rattle.rules.specs.Serial.{Form, atom-form, pair-form, height, Token, broken, opening, string, token, Parsed, parsed, fault, and_then, parsed_pair, parsed_as, parse}
use Rattle.serial.specs.Forms.{TokenIn, Ranged, Parses, FaultIn}
use Rattle.serial.proofs.Places.{Stands, stands_whole, stands_left, stands_right, stands_head, stands_inside, slice_split}
use Rattle.serial.proofs.Tokens.{token-opening, form-token, Shown, a_pair, token-shown, shown-form, parse-short}

-- ---- every form parses to its tree

pub stands_parse : {t : Tree} {l : List ℕ} → Form t l → (levels : ℕ) → height t ≤ levels → (f : List ℕ) (at : ℕ) → Stands f at l
    → parse f levels at ≡ parsed t (at + length l)
unfolding height parse
stands_parse (atom-form a) zero h f at s = absurd (omega arith)
stands_parse (atom-form {l = l} a) (suc levels) h f at s =
    let r = form-token a f at s in
    rw r.token-is (ap (λ (v : List ℕ). parsed (leaf v) (at + length l)) r.bytes_are)
stands_parse (pair-form p q) zero h f at s = absurd (omega arith)
stands_parse (pair-form {x = x} {y = y} {u = u} {w = w} p q) (suc levels) h f at s =
    let i = stands_inside f at (0xff ∷ (u ++ w)) s in
    let both : Stands f (at + 1) (u ++ w) = stands_right f at (0xff ∷ []) (u ++ w) s in
    let tok : token f at ≡ opening = token-opening f at (omega arith) (stands_head f at 0xff (u ++ w) s) in
    let first = stands_parse p levels (omega arith) f (at + 1) (stands_left f (at + 1) u w both) in
    let rest = stands_parse q levels (omega arith) f (at + 1 + length u) (stands_right f (at + 1) u w both) in
    let sum : at + 1 + length u + length w ≡ at + length (0xff ∷ (u ++ w)) = omega (arith, length-append u w) in
    rw (tok, first, rest, sum)

pub forms-parse : {t : Tree} {l : List ℕ} → Form t l → (levels : ℕ) → height t ≤ levels → (pre post : List ℕ)
    → parse (pre ++ (l ++ post)) levels (length pre) ≡ parsed t (length pre + length l)
forms-parse {l = l} p levels h pre post =
    stands_parse p levels h (pre ++ (l ++ post)) (length pre) (record { before = pre; after = post; long = refl; whole = refl })

-- ---- what was parsed

-- a first part that parsed, and what it was followed by
record Went (r : Parsed) (g : Tree → ℕ → Parsed) (t : Tree) (next : ℕ) : Type 0 where
  tree : Tree
  mid : ℕ
  first : r ≡ parsed tree mid
  then : g tree mid ≡ parsed t next

went : (r : Parsed) (g : Tree → ℕ → Parsed) (t : Tree) (next : ℕ) → and_then r g ≡ parsed t next → Went r g t next
went (parsed x mid) g t next e = record { tree = x; mid = mid; first = refl; then = e }
went (fault code place) g t next e = let z : ◌≡◌ {A = ℕ} 0 1 = cc in absurd (omega arith)

-- a pair that parsed: its parts
record Pair (below : ℕ → Parsed) (at : ℕ) (t : Tree) (next : ℕ) : Type 0 where
  left : Tree
  right : Tree
  mid : ℕ
  first : below (at + 1) ≡ parsed left mid
  rest : below mid ≡ parsed right next
  tree : fork left right ≡ t

pair : (below : ℕ → Parsed) (at : ℕ) (t : Tree) (next : ℕ) → parsed_pair below at ≡ parsed t next → Pair below at t next
pair below at t next e =
    let a = went (below (at + 1)) _ t next e in
    let b = went (below a.mid) _ t next a.then in
    let n : b.mid ≡ next = cc in
    record {
      left = a.tree;
      right = b.tree;
      mid = a.mid;
      first = a.first;
      rest = b.first ∙ ap (parsed b.tree) n;
      tree = cc;
    }

pub parse-range : (f : List ℕ) (levels at : ℕ) (t : Tree) (next : ℕ) → parse f levels at ≡ parsed t next → Ranged f levels at t next
unfolding height parse
parse-range f zero at t next e = let z : ◌≡◌ {A = ℕ} 0 1 = cc in absurd (omega arith)
parse-range f (suc levels) at t next e = read (token f at) (parse-short f at (token f at) refl) (parse-range f levels) e
  where
    read : (k : Token) → TokenIn f at k → ((at : ℕ) (t : Tree) (next : ℕ) → parse f levels at ≡ parsed t next → Ranged f levels at t next)
        → parsed_as k (parse f levels) f at ≡ parsed t next → Ranged f (suc levels) at t next
    read broken c below e = let z : ◌≡◌ {A = ℕ} 0 1 = cc in absurd (omega arith)
    read opening c below e =
        let p = pair (parse f levels) at t next e in
        let x = below (at + 1) p.left p.mid p.first in
        let y = below p.mid p.right next p.rest in
        rw (← p.tree) (record { onward = omega arith; inside = y.inside; levels_fit = omega arith })
    read (string from to) c below e =
        let n : to ≡ next = cc in
        let l : leaf (slice from to f) ≡ t = cc in
        rw (← n, ← l) (record { onward = c.onward; inside = c.inside; levels_fit = omega arith })

parse-form : (f : List ℕ) → Octets f → (levels at : ℕ) (t : Tree) (next : ℕ) → parse f levels at ≡ parsed t next → Form t (slice at next f)
unfolding parse
parse-form f o zero at t next e = let z : ◌≡◌ {A = ℕ} 0 1 = cc in absurd (omega arith)
parse-form f o (suc levels) at t next e = read (token f at) (token-shown f at) (parse-form f o levels) e
  where
    read : (k : Token) → Shown f at k → ((at : ℕ) (t : Tree) (next : ℕ) → parse f levels at ≡ parsed t next → Form t (slice at next f))
        → parsed_as k (parse f levels) f at ≡ parsed t next → Form t (slice at next f)
    read broken c below e = let z : ◌≡◌ {A = ℕ} 0 1 = cc in absurd (omega arith)
    read opening (a_pair h b) below e =
        let p = pair (parse f levels) at t next e in
        let x = parse-range f levels (at + 1) p.left p.mid p.first in
        let y = parse-range f levels p.mid p.right next p.rest in
        let whole : slice at next f ≡ 0xff ∷ (slice (at + 1) p.mid f ++ slice p.mid next f) =
        slice-cons at next f 0 (omega arith) y.inside
        ∙ ap₂ ◌∷◌ b (rw add-one (slice_split f (suc at) p.mid next (omega arith) (omega arith) y.inside)) in
        rw (← p.tree, whole) (pair-form (below (at + 1) p.left p.mid p.first) (below p.mid p.right next p.rest))
    read (string from to) c below e =
        let n : to ≡ next = cc in
        let l : leaf (slice from to f) ≡ t = cc in
        rw (← n, ← l) (atom-form (shown-form o c))

-- what was parsed from bytes is a form of the tree
pub parse-forms : (f : List ℕ) → Octets f → (levels at : ℕ) (t : Tree) (next : ℕ) → parse f levels at ≡ parsed t next → Parses f levels at t next
parse-forms f o levels at t next e =
    let r = parse-range f levels at t next e in
    record { order = omega arith; inside = r.inside; levels_fit = r.levels_fit; form = parse-form f o levels at t next e }

-- the files that parse to a tree, as a whole, are its forms
pub parse-whole : (f : List ℕ) → Octets f → (levels : ℕ) (t : Tree)
    → (parse f levels 0 ≡ parsed t (length f)) ↔ (Form t f × height t ≤ levels)
parse-whole f o levels t = (read, λ c. stands_parse c.0 levels c.1 f 0 (stands_whole f) ∙ ap (parsed t) (zero-add (length f)))
  where
    read : parse f levels 0 ≡ parsed t (length f) → Form t f × height t ≤ levels
    read e =
        let p = parse-forms f o levels 0 t (length f) e in
        (subst (Form t) (take-length f) p.form, p.levels_fit)

-- the same bytes are a form of one tree only
pub form-only : {t u : Tree} {l : List ℕ} → Form t l → Form u l → t ≡ u
form-only {t} {u} {l} p q =
    let n : ℕ = max (height t) (height u) in
    let a = stands_parse p n (omega arith) l 0 (stands_whole l) in
    let b = stands_parse q n (omega arith) l 0 (stands_whole l) in
    cc

-- ---- a fault

-- a pair's fault is its first's or its rest's
data PairFault (below : ℕ → Parsed) (at code place : ℕ) : Type 0 where
  in_first : below (at + 1) ≡ fault code place → PairFault below at code place
  in_rest : (x : Tree) (mid : ℕ) → below (at + 1) ≡ parsed x mid → below mid ≡ fault code place → PairFault below at code place

pair-fault : (below : ℕ → Parsed) (at code place : ℕ) → parsed_pair below at ≡ fault code place → PairFault below at code place
pair-fault below at code place e = first (below (at + 1)) refl e
  where
    rest : (x : Tree) (r : Parsed) → and_then r (λ y next. parsed (fork x y) next) ≡ fault code place → r ≡ fault code place
    rest x (parsed y next) e = let z : ◌≡◌ {A = ℕ} 0 1 = cc in absurd (omega arith)
    rest x (fault c p) e = e

    first : (r : Parsed) → below (at + 1) ≡ r → and_then r (λ x mid. and_then (below mid) λ y next. parsed (fork x y) next) ≡ fault code place
        → PairFault below at code place
    first (parsed x mid) h e = in_rest x mid h (rest x (below mid) e)
    first (fault c p) h e = in_first (h ∙ e)

pub fault-codes : (f : List ℕ) (levels at code place : ℕ) → parse f levels at ≡ fault code place → FaultIn f at code place
unfolding parse
fault-codes f zero at code place e =
    let c : code ≡ 18 = cc in
    let p : place ≡ at = cc in
    record { codes = inr c; inside = λ h. omega arith }
fault-codes f (suc levels) at code place e = read (token f at) (parse-short f at (token f at) refl) (fault-codes f levels) e
  where
    of : ((at code place : ℕ) → parse f levels at ≡ fault code place → FaultIn f at code place)
        → at < length f → PairFault (parse f levels) at code place → FaultIn f at code place
    of below h (in_first e) =
        let r = below (at + 1) code place e in
        record { codes = r.codes; inside = λ i. r.inside (omega arith) }
    of below h (in_rest x mid p e) =
        let r = below mid code place e in
        record { codes = r.codes; inside = λ i. r.inside (parse-range f levels (at + 1) x mid p).inside }

    read : (k : Token) → TokenIn f at k → ((at code place : ℕ) → parse f levels at ≡ fault code place → FaultIn f at code place)
        → parsed_as k (parse f levels) f at ≡ fault code place → FaultIn f at code place
    read broken c below e =
        let n : code ≡ 17 = cc in
        let p : place ≡ at = cc in
        record { codes = inl n; inside = λ h. omega arith }
    read opening c below e = of below c.inside (pair-fault (parse f levels) at code place e)
    read (string from to) c below e = let z : ◌≡◌ {A = ℕ} 0 1 = cc in absurd (omega arith)

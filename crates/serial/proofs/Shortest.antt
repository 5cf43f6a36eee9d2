-- The shortest form: it is a form, and no form of the tree is shorter. Assumes nothing.
use Prim.Native.Nat.{ℕ, suc, ◌+◌, ◌≤◌, ◌<◌}
use mathlib.Core.Path.{◌≡◌, refl}
use mathlib.Core.Bool.{Bool, ◌&&◌}
use mathlib.Core.List.{List, [], ◌∷◌, ◌++◌}
use native.Mathlib.Omega.{arith}
use lib.Dec.{ltb, eqb}
use lib.ListN.{length, get_or, length-append}
use lib.Seq.{length-slice}
use borrow.Author.Tests.{ltb-true, eqb-true, lt-ltb}
use Rattle.rules.specs.Small.{be, Octets}
use Rattle.rules.specs.Tree.{Tree, leaf, fork}
use Rattle.rules.specs.Serial.{prefix, AtomForm, itself, behind, Form, atom-form, pair-form, extra_for, shortest_atom, shortest, parsed, parse}
use Rattle.rules.proofs.Smalls.{length-be}
use Rattle.rules.proofs.Tests.{both, choice}
use Rattle.serial.specs.Forms.{AtomsFit}
use Rattle.serial.proofs.Table.{extra-for, extra-least}
use Rattle.serial.proofs.Parses.{parse-forms}

-- an atom of one byte below 80
abbrev plain : List ℕ → Bool
plain v = eqb (length v) 1 && ltb (get_or v 0 0) 0x80

plain_form : (v : List ℕ) → length v ≡ 1 → get_or v 0 0 < 0x80 → AtomForm v v
plain_form [] e l = absurd (omega arith)
plain_form (b ∷ []) e l = itself b refl l
plain_form (b ∷ c ∷ v) e l = absurd (omega arith)

atom-shortest : (v : List ℕ) → AtomsFit (leaf v) → AtomForm v (shortest_atom v)
unfolding shortest_atom
atom-shortest v h =
    let e = extra-for (length v) h in
    choice (AtomForm v) (plain v) _ _
    (λ t. let p = both (eqb (length v) 1) _ t in plain_form v (eqb-true (length v) 1 p.0) (ltb-true (get_or v 0 0) 0x80 p.1))
    λ t. behind (extra_for (length v)) e.0 e.1

pub shortest-form : (t : Tree) → AtomsFit t → Form t (shortest t)
unfolding shortest
shortest-form (leaf v) h = atom-form (atom-shortest v h)
shortest-form (fork x y) h = pair-form (shortest-form x h.0) (shortest-form y h.1)

prefix-length : (k : ℕ) (v : List ℕ) → length (prefix k (length v) ++ v) ≡ suc (k + length v)
prefix-length k v = omega (arith, length-append (be k (length v)) v, length-be k (length v))

atom-least : {v l : List ℕ} → AtomForm v l → length (shortest_atom v) ≤ length l
unfolding shortest_atom
atom-least (itself b e l) = rw (e, lt-ltb b 0x80 l) (omega arith)
atom-least {v} (behind k h l) =
    let n = prefix-length k v in
    choice (λ s. length s ≤ length (prefix k (length v) ++ v)) (plain v) v (prefix (extra_for (length v)) (length v) ++ v)
    (λ t. omega arith)
    λ t. omega (arith, prefix-length (extra_for (length v)) v, extra-least (length v) k l)

-- no form is shorter
pub shortest-least : {t : Tree} {l : List ℕ} → Form t l → length (shortest t) ≤ length l
unfolding shortest
shortest-least (atom-form a) = atom-least a
shortest-least (pair-form {x = x} {y = y} {u = u} {w = w} p q) =
    omega (arith, length-append (shortest x) (shortest y), length-append u w, shortest-least p, shortest-least q)

-- what parses to a tree takes no fewer bytes
pub parse-least : (f : List ℕ) → Octets f → (levels at : ℕ) (t : Tree) (next : ℕ) → parse f levels at ≡ parsed t next
    → (at + length (shortest t) ≤ next) × (length (shortest t) ≤ length f)
parse-least f o levels at t next e =
    let p = parse-forms f o levels at t next e in
    let n : at + length (shortest t) ≤ next = omega (arith, shortest-least p.form, length-slice at next f p.inside) in
    (n, omega arith)

-- The root of a loaded file shows the tree that the file is. Assumes nothing.
use Prim.Native.Nat.{ℕ, zero, suc, ◌+◌}
use mathlib.Core.Path.{◌≡◌, refl, ap, ap₂, ◌∙◌, subst}
use mathlib.Core.List.{List}
use native.Mathlib.Omega.{arith}
use Rattle.rules.specs.Small.{Octets}
use Rattle.rules.specs.Said.{Said, says, refuses, onward}
use Rattle.rules.specs.Tree.{Tree, leaf, fork}
use Rattle.rules.specs.Serial.{Token, broken, opening, string, token, Parsed, parsed, fault, and_then, parsed_as, parse}
use Rattle.rules.specs.Load.{levels_of}
use Rattle.rules.specs.Whole.{St, Whole, after, new_pair, load}
use Rattle.runs.specs.Wf.{WF}
use Rattle.runs.specs.Loads.{build}
use Rattle.rules.proofs.Bytes.{octets-slice}
use Rattle.runs.proofs.Growing.{on_trans}
use Rattle.runs.proofs.Reading.{tree-same}
use Rattle.runs.proofs.Guards.{outcome_says}
use Rattle.runs.proofs.Making.{atom-makes, pair-makes}
use Rattle.saves.specs.Saves.{AtomsOctets}
use Rattle.loads.specs.Files.{Shows, ShowsFile}
use Rattle.loads.proofs.Files.{load-parses}

-- ---- the calls that make a tree

-- calls that were accepted to the end: the first part made a node, and the rest was accepted after it
after_ind : (P : Whole ℕ → Type 0) (o : Whole ℕ) (g : ℕ → St → Whole ℕ) (n : ℕ) → (after o g).said ≡ says n
    → ((m : ℕ) → o.said ≡ says m → (g m o.next).said ≡ says n → P (g m o.next)) → P (after o g)
after_ind P o g n e f = go o.said refl e
  where
    go : (x : Said ℕ) → o.said ≡ x → (onward x o (λ m. g m o.next)).said ≡ says n → P (onward x o (λ m. g m o.next))
    go (says m) q e = f m q e
    go (refuses code node) q e = let z : ◌≡◌ {A = ℕ} 0 1 = cc in absurd (omega arith)

-- a pair of two nodes that show their trees
pair-shows : {s t u : St} (x y : Tree) (first rest n : ℕ) → Shows s x first t → Shows t y rest u → (new_pair first rest u).said ≡ says n
    → Shows s (fork x y) n (new_pair first rest u).next
pair-shows x y first rest n a b e =
    let m = (outcome_says (pair-makes b.on.wf first rest) e).made in
    record {
      on = on_trans a.on.ext (on_trans b.on.ext m.on);
      valid = m.valid;
      shows = m.shows ∙ ap₂ fork (tree-same a.on.wf.shape b.on.ext.same first a.valid ∙ a.shows) b.shows;
    }

pub build-shows : {s : St} → WF s → (t : Tree) → AtomsOctets t → (n : ℕ) → (build t s).said ≡ says n → Shows s t n (build t s).next
unfolding build
build-shows w (leaf v) o n e = let m = (outcome_says (atom-makes w v o) e).made in record { on = m.on; valid = m.valid; shows = m.shows }
build-shows {s} w (fork x y) o n e =
    after_ind (λ (q : Whole ℕ). Shows s (fork x y) n q.next) (build x s)
    (λ first t. after (build y t) λ rest u. new_pair first rest u) n e λ first a e₁.
    let p = build-shows w x o.0 first a in
    after_ind (λ (q : Whole ℕ). Shows s (fork x y) n q.next) (build y (build x s).next)
    (λ rest u. new_pair first rest u) n e₁ λ rest b e₂.
    pair-shows x y first rest n p (build-shows {s = (build x s).next} p.on.wf y o.1 rest b) e₂

-- ---- the atoms of a file of bytes are bytes

abbrev OctetParsed : Parsed → Type 0
OctetParsed (parsed t next) = AtomsOctets t
OctetParsed (fault code place) = Unit {0}

parse-octets : (f : List ℕ) → Octets f → (levels at : ℕ) → OctetParsed (parse f levels at)
unfolding parse
parse-octets f o zero at = tt
parse-octets f o (suc levels) at = by (token f at) (parse-octets f o levels)
  where
    rest : (x : Tree) → AtomsOctets x → (p : Parsed) → OctetParsed p → OctetParsed (and_then p λ y next. parsed (fork x y) next)
    rest x h (parsed y next) g = (h, g)
    rest x h (fault code place) g = tt

    first : ((at : ℕ) → OctetParsed (parse f levels at)) → (p : Parsed) → OctetParsed p
        → OctetParsed (and_then p λ x mid. and_then (parse f levels mid) λ y next. parsed (fork x y) next)
    first below (parsed x mid) h = rest x h (parse f levels mid) (below mid)
    first below (fault code place) h = tt

    by : (k : Token) → ((at : ℕ) → OctetParsed (parse f levels at)) → OctetParsed (parsed_as k (parse f levels) f at)
    by broken below = tt
    by opening below = first below (parse f levels (at + 1)) (below (at + 1))
    by (string from to) below = octets-slice from to f o

-- ---- the root

pub root-shows : (f : List ℕ) → Octets f → {s : St} → WF s → (n : ℕ) → (load f s).said ≡ says n → ShowsFile f s n (load f s).next
root-shows f o {s} w n e =
    let l = load-parses f s n e in
    let v : AtomsOctets l.root = subst OctetParsed l.parses (parse-octets f o levels_of 0) in
    let b : (build l.root s).said ≡ says n = ap (λ (q : Whole ℕ). q.said) l.builds in
    record {
      root = l.root;
      parses = l.parses;
      shows = subst (Shows s l.root n) (ap (λ (q : Whole ℕ). q.next) l.builds) (build-shows w l.root v n b);
    }

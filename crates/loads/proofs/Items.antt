-- An item of a file is what parsing says that it is, made by calls: on every state, sound or not. Assumes nothing.
use Prim.Native.Nat.{ℕ, zero, suc, ◌+◌}
use mathlib.Core.Path.{◌≡◌, refl}
use mathlib.Core.List.{List}
use lib.Seq.{slice}
use Rattle.rules.specs.declared.Allocator.{Allocator}
use Rattle.rules.specs.Node.{nil}
use Rattle.rules.specs.Said.{says, refuses}
use Rattle.rules.specs.State.{Lists}
use Rattle.rules.specs.Tree.{Tree, leaf, fork}
use Rattle.rules.specs.Serial.{Token, broken, opening, string, token, Parsed, parsed, fault, and_then, parsed_as, parse}
use Rattle.rules.specs.Load as L
use Rattle.rules.specs.Load.{Reading, reading, placed, read_pair, item_as, item}
use Rattle.rules.specs.Whole.{St, Whole}
use Rattle.runs.specs.Makes.{Outcome}
use Rattle.runs.specs.Makes as M
use Rattle.runs.specs.Loads.{build, Calls, no_call, atom-call, pair-call}
use Rattle.runs.proofs.Untouched.{atom_untouched, pair_untouched}
use Rattle.runs.proofs.Loads.{calls_trans}
use Rattle.loads.specs.Files.{answer, CallRefused, atom-refused, pair-refused}

-- parsed: the reading is what the calls of the tree leave, at the place where the next item starts, or the first of them that was refused;
-- a fault: its code and its place, or a call refused before it was met
pub data Agrees (f : List ℕ) (s : St) : Parsed → Reading → Type 0 where
  made : {t : Tree} {u : St} (n next : ℕ) → build t s ≡ answer n u → Calls f s u → Agrees f s (parsed t next) (reading (says n) next u.rec u.lists)
  stopped : {t : Tree} {u : St} (next code node place : ℕ) → build t s ≡ record { said = refuses code node; next = u } → Calls f s u
      → CallRefused f u code node place → Agrees f s (parsed t next) (reading (refuses code node) place u.rec u.lists)
  at-fault : {u : St} (code place : ℕ) → Calls f s u → Agrees f s (fault code place) (reading (refuses code nil) place u.rec u.lists)
  before-fault : {u : St} (code place c n p : ℕ) → Calls f s u → CallRefused f u c n p → Agrees f s (fault code place) (reading (refuses c n) p u.rec u.lists)

module _ (f : List ℕ) where
  -- the last call of an item
  call_agrees : {s u : St} {P : ℕ → St → Type 0} {o : Whole ℕ} (t : Tree) (at next : ℕ) → Outcome u P o → build t s ≡ o → Calls f s u
      → ((n : ℕ) → o.said ≡ says n → Calls f s o.next) → ((code node : ℕ) → o.said ≡ refuses code node → CallRefused f u code node at)
      → Agrees f s (parsed t next) (reading o.said (placed o.said at next) o.next.rec o.next.lists)
  call_agrees t at next (M.refused code node) b c g h = stopped next code node at b c (h code node refl)
  call_agrees t at next (M.accepted n v p) b c g h = made n next b (g n refl)

  -- the rest of a pair, and the pair
  rest_agrees : {s u : St} (x : Tree) (at first : ℕ) → token f at ≡ opening → build x s ≡ answer first u → Calls f s u
      → {p : Parsed} {r : Reading} → Agrees f u p r
      → Agrees f s (and_then p λ y next. parsed (fork x y) next) (L.after r λ rest next b m. read_pair at next first rest b m)
  unfolding build
  rest_agrees x at first k b c (made {t = y} {u = v} rest next e d) =
      call_agrees (fork x y) at next (pair_untouched v first rest) (rw (b, e)) (calls_trans c d)
      (pair-call (calls_trans c d) first rest) (λ code node h. pair-refused first rest k h)
  rest_agrees x at first k b c (stopped {t = y} {u = v} next code node place e d h) = stopped {t = fork x y} {u = v} next code node place (rw (b, e)) (calls_trans c d) h
  rest_agrees x at first k b c (at-fault code place d) = at-fault code place (calls_trans c d)
  rest_agrees x at first k b c (before-fault code place e n p d h) = before-fault code place e n p (calls_trans c d) h

  first_agrees : {s : St} (at : ℕ) (below : ℕ → Parsed) (under : ℕ → Allocator → Lists → Reading) → token f at ≡ opening
      → ((at : ℕ) (u : St) → Agrees f u (below at) (under at u.rec u.lists)) → {p : Parsed} {r : Reading} → Agrees f s p r
      → Agrees f s (and_then p λ x mid. and_then (below mid) λ y next. parsed (fork x y) next)
      (L.after r λ first mid b m. L.after (under mid b m) λ rest next c n. read_pair at next first rest c n)
  unfolding build
  first_agrees at below under k g (made {t = x} {u = u} first mid e c) = rest_agrees x at first k e c (g mid u)
  first_agrees {s} at below under k g (stopped {t = x} {u = u} mid code node place e c h) = ends (below mid)
    where
      ends : (p : Parsed) → Agrees f s (and_then p λ y next. parsed (fork x y) next) (reading (refuses code node) place u.rec u.lists)
      ends (parsed y next) = stopped {t = fork x y} {u = u} next code node place (rw e) c h
      ends (fault d q) = before-fault d q code node place c h
  first_agrees at below under k g (at-fault code place c) = at-fault code place c
  first_agrees at below under k g (before-fault code place e n p c h) = before-fault code place e n p c h

  leaf_agrees : {s : St} (at from to : ℕ) → token f at ≡ string from to → Agrees f s (parsed (leaf (slice from to f)) to) (L.read_atom f at from to s.rec s.lists)
  unfolding build
  leaf_agrees {s} at from to k = call_agrees (leaf (slice from to f)) at to (atom_untouched s (slice from to f)) refl no_call
      (atom-call no_call from to) (λ code node h. atom-refused from to k h)

  pub item_agrees : (levels at : ℕ) (s : St) → Agrees f s (parse f levels at) (item f levels at s.rec s.lists)
  unfolding item parse
  item_agrees zero at s = at-fault 18 at no_call
  item_agrees (suc levels) at s = by (token f at) refl (item_agrees levels)
    where
      by : (k : Token) → token f at ≡ k → ((at : ℕ) (u : St) → Agrees f u (parse f levels at) (item f levels at u.rec u.lists))
          → Agrees f s (parsed_as k (parse f levels) f at) (item_as k (item f levels) f at s.rec s.lists)
      by broken e below = at-fault 17 at no_call
      by opening e below = first_agrees at (parse f levels) (item f levels) e below (below (at + 1) s)
      by (string from to) e below = leaf_agrees at from to e

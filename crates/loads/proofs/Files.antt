-- Which files a load accepts, and with what; where and why it stops on the others: on every state, sound or not. Assumes nothing.
use Prim.Native.Nat.{ℕ}
use mathlib.Core.Path.{◌≡◌, refl, sym, ap, ◌∙◌, subst}
use mathlib.Core.Logic.{◌≢◌, ◌↔◌}
use mathlib.Core.Bool.{true}
use mathlib.Core.List.{List}
use native.Mathlib.Omega.{arith}
use borrow.Author.Tests.{eq-eqb, ne_eqb, eqb-true, eqb-false}
use lib.Dec.{eqb}
use lib.ListN.{length}
use Rattle.rules.specs.Said.{Said, says, refuses}
use Rattle.rules.specs.State.{lists_sound}
use Rattle.rules.specs.Tree.{Tree}
use Rattle.rules.specs.Serial.{Parsed, parsed, fault}
use Rattle.rules.specs.Load as L
use Rattle.rules.specs.Load.{Reading, item, at_end, levels_of}
use Rattle.rules.proofs.Tests.{choice}
use Rattle.rules.specs.Whole.{St, Whole, or_back, left, load}
use Rattle.runs.specs.Loads.{build}
use Rattle.loads.specs.Files.{parse_file, answer, Loads, LoadStops, Stopped, by_file, by_call}
use Rattle.loads.proofs.Items.{Agrees, made, stopped, at-fault, before-fault, item_agrees}

module _ (f : List ℕ) (s : St) where
  -- how a load goes on with its root
  abbrev ended : Reading → Reading
  ended r = L.or_back s.rec (at_end (length f) r)

  load_ended : lists_sound s.rec s.lists ≡ true → L.load f s.rec s.lists ≡ ended (item f levels_of 0 s.rec s.lists)
  unfolding L.load
  load_ended h = rw h

  -- ---- a file that parses as a whole: the calls of its tree, or a plain restore to the start

  whole : (t : Tree) {p : Parsed} {r : Reading} → Agrees f s p r → p ≡ parsed t (length f) → left (ended r) ≡ or_back s (build t s)
  whole t (made {t = x} n next b c) e =
      let q : x ≡ t = cc in
      let m : next ≡ length f = cc in
      rw (← q, b, eq-eqb next (length f) m)
  whole t (stopped {t = x} next code node place b c h) e = let q : x ≡ t = cc in rw (← q, b)
  whole t (at-fault code place c) e = let z : ◌≡◌ {A = ℕ} 0 1 = cc in absurd (omega arith)
  whole t (before-fault code place k n p c h) e = let z : ◌≡◌ {A = ℕ} 0 1 = cc in absurd (omega arith)

  pub load-builds : (t : Tree) → lists_sound s.rec s.lists ≡ true → parse_file f ≡ parsed t (length f) → load f s ≡ or_back s (build t s)
  load-builds t h e = ap left (load_ended h) ∙ whole t (item_agrees f levels_of 0 s) e

  -- ---- a file that does not: the fault, or a call that was refused before

  faulty : (code place : ℕ) {p : Parsed} {r : Reading} → Agrees f s p r → p ≡ fault code place → Stopped f s code place (ended r)
  faulty code place (made n next b c) e = let z : ◌≡◌ {A = ℕ} 0 1 = cc in absurd (omega arith)
  faulty code place (stopped next k n p b c h) e = let z : ◌≡◌ {A = ℕ} 0 1 = cc in absurd (omega arith)
  faulty code place (at-fault k p c) e =
      let q : k ≡ code = cc in
      let m : p ≡ place = cc in
      rw (q, m) (by_file c)
  faulty code place (before-fault l q k n p c h) e = by_call k n p c h

  pub load_faults : (code place : ℕ) → lists_sound s.rec s.lists ≡ true → parse_file f ≡ fault code place
      → Stopped f s code place (L.load f s.rec s.lists)
  load_faults code place h e = subst (Stopped f s code place) (sym (load_ended h)) (faulty code place (item_agrees f levels_of 0 s) e)

  -- bytes after the root
  leftover : (t : Tree) (place : ℕ) → place ≢ length f → {p : Parsed} {r : Reading} → Agrees f s p r → p ≡ parsed t place → Stopped f s 17 place (ended r)
  leftover t place d (made n next b c) e = let m : next ≡ place = cc in rw (m, ne_eqb place (length f) d) (by_file c)
  leftover t place d (stopped next k n p b c h) e = by_call k n p c h
  leftover t place d (at-fault k p c) e = let z : ◌≡◌ {A = ℕ} 0 1 = cc in absurd (omega arith)
  leftover t place d (before-fault l q k n p c h) e = let z : ◌≡◌ {A = ℕ} 0 1 = cc in absurd (omega arith)

  pub load_leftover : (t : Tree) (place : ℕ) → lists_sound s.rec s.lists ≡ true → parse_file f ≡ parsed t place → place ≢ length f
      → Stopped f s 17 place (L.load f s.rec s.lists)
  load_leftover t place h e d = subst (Stopped f s 17 place) (sym (load_ended h)) (leftover t place d (item_agrees f levels_of 0 s) e)

  -- ---- back from what a load says

  abbrev Told : Said ℕ → ℕ → St → Type 0
  Told (says n) place s' = Loads f s n s'
  Told (refuses code node) place s' = LoadStops f s code node place

  abbrev Tells : Reading → Type 0
  Tells r = Told r.said r.at (left r).next

  end-tells : {p : Parsed} {r : Reading} → lists_sound s.rec s.lists ≡ true → parse_file f ≡ p → Agrees f s p r → Tells (ended r)
  end-tells h e (made {t = t} n next b c) = choice (λ (r : Reading). Tells (L.or_back s.rec r)) (eqb next (length f)) _ _
      (λ g. record { sound = h; root = t; parses = e ∙ ap (parsed t) (eqb-true next (length f) g); builds = b })
      (λ g. LoadStops.bytes_left t e (eqb-false next (length f) g))
  end-tells h e (stopped next code node place b c g) = LoadStops.at_call c g
  end-tells h e (at-fault code place c) = LoadStops.at-fault e
  end-tells h e (before-fault code place k n p c g) = LoadStops.at_call c g

  tells : Tells (L.load f s.rec s.lists)
  unfolding L.load
  tells = choice Tells (lists_sound s.rec s.lists) _ _ (λ h. end-tells h refl (item_agrees f levels_of 0 s)) (λ h. LoadStops.unsound h)

  pub load-parses : (n : ℕ) → (load f s).said ≡ says n → Loads f s n (load f s).next
  load-parses n e = subst (λ (x : Said ℕ). Told x (L.load f s.rec s.lists).at (load f s).next) e tells

  pub load-stops : (code node : ℕ) → (L.load f s.rec s.lists).said ≡ refuses code node → LoadStops f s code node (L.load f s.rec s.lists).at
  load-stops code node e = subst (λ (x : Said ℕ). Told x (L.load f s.rec s.lists).at (load f s).next) e tells

  -- accepted exactly where the whole file is a tree's and all its calls are accepted
  pub load-accepts : (n : ℕ) (s' : St) → (load f s ≡ answer n s') ↔ Loads f s n s'
  load-accepts n s' = (
    λ e. subst (Loads f s n) (ap (λ (o : Whole ℕ). o.next) e) (load-parses n (ap (λ (o : Whole ℕ). o.said) e)),
    λ l. load-builds l.root l.sound l.parses ∙ ap (or_back s) l.builds,
  )

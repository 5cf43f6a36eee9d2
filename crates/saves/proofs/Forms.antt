-- Which nodes are written in a well-formed state, as which bytes, and which are refused, with which code: both ways. Assumes nothing.
use Prim.Native.Nat.{ℕ, zero, suc, ◌≤◌, ◌<◌}
use mathlib.Core.Path.{◌≡◌, refl, sym, ap, ap₂, ◌∙◌}
use mathlib.Core.Logic.{◌↔◌, ◌⊎◌, inl, inr}
use mathlib.Core.List.{List}
use native.Mathlib.Decide.{dec_lt}
use native.Mathlib.Omega.{arith}
use lib.ListN.{length}
use Rattle.rules.specs.declared.Allocator.{Allocator}
use Rattle.rules.specs.Node.{Node, pair_at, bytes_at, small, bad, view, nil}
use Rattle.rules.specs.Said.{Said, says, refuses}
use Rattle.rules.specs.State.{Lists}
use Rattle.rules.specs.Serial.{height, shortest}
use Rattle.rules.specs.Save.{form_of}
use Rattle.rules.specs.Whole.{St}
use Rattle.runs.specs.Wf.{Valid, ValidIn, WF}
use Rattle.saves.specs.Saves.{form, tree_of, here, Writes, Written, FormCause}
use Rattle.saves.specs.Saves as S
use Rattle.saves.proofs.Deep.{deep-height, height-deep, deep-within}
use Rattle.saves.proofs.Nodes.{no_levels, not_valid}
use Rattle.saves.proofs.Writes.{form_writes}

-- every state: a node that is not valid is refused with 5, if there is a level for it
pub form-invalid : (a : Allocator) (l : Lists) (levels room n : ℕ) → 1 ≤ levels → (Valid a.used.atoms a.used.pairs (view n) → ⊥)
    → form_of a l levels room n ≡ refuses 5 nil
form-invalid a l zero room n h v = absurd (omega arith)
form-invalid a l (suc levels) room n h v = not_valid a l levels room n v

valid? : (atoms pairs : ℕ) (x : Node) → Dec (Valid atoms pairs x)
valid? atoms pairs (pair_at i) = dec_lt i pairs
valid? atoms pairs (bytes_at i) = dec_lt i atoms
valid? atoms pairs (small v) = yes tt
valid? atoms pairs bad = no (λ v. v)

-- ---- the outcomes

data Formed (s : St) (levels room n : ℕ) : Said (List ℕ) → Type 0 where
  written : (v : List ℕ) → Written s levels room n v → Formed s levels room n (says v)
  refused : (code node : ℕ) → FormCause s levels room n code node → Formed s levels room n (refuses code node)

module _ {s : St} (levels room n : ℕ) where
  from-tree : {r : Said (List ℕ)} → ValidIn s n → Writes levels room (tree_of s n) r → Formed s levels room n r
  from-tree v (S.whole h l) = written _ (record { valid = v; levels_fit = h; room_fits = l; bytes_are = refl })
  from-tree v (S.deep place d h) = refused 18 nil (S.deep (λ l. v) place d h)
  from-tree v (S.long h f) = refused 19 nil (S.long v h f)

  -- no two causes at once, and none where it is written
  one_cause : {code node other with : ℕ} → FormCause s levels room n code node → FormCause s levels room n other with → (code ≡ other) × (node ≡ with)
  one_cause (S.bad-node h f) (S.bad-node k g) = (refl, refl)
  one_cause (S.bad-node h f) (S.deep v place d l) = absurd (f (v h))
  one_cause (S.bad-node h f) (S.long v l g) = absurd (f v)
  one_cause (S.deep v place d l) (S.bad-node h f) = absurd (f (v h))
  one_cause (S.deep v place d l) (S.deep u p e m) = (refl, refl)
  one_cause (S.deep v place d l) (S.long u m g) = absurd (omega (arith, g place d))
  one_cause (S.long v l g) (S.bad-node h f) = absurd (f v)
  one_cause (S.long v l g) (S.deep u place d m) = absurd (omega (arith, g place d))
  one_cause (S.long v l g) (S.long u m f) = (refl, refl)

  no_cause : {v : List ℕ} {code node : ℕ} → Written s levels room n v → FormCause s levels room n code node → ⊥
  no_cause w (S.bad-node h f) = f w.valid
  no_cause w (S.deep v place d l) = omega (arith, deep-height d, w.levels_fit)
  no_cause w (S.long v l f) = omega (arith, w.room_fits)

  read-says : (r : Said (List ℕ)) → Formed s levels room n r → (v : List ℕ) → (r ≡ says v) ↔ Written s levels room n v
  read-says _ (written u w) v = (
    λ e. (let q : u ≡ v = cc in rw (← q) w),
    λ g. ap says (w.bytes_are ∙ sym g.bytes_are),
  )
  read-says _ (refused code node c) v = (λ e. let z : ◌≡◌ {A = ℕ} 0 1 = cc in absurd (omega arith), λ g. absurd (no_cause g c))

  read-refuses : (r : Said (List ℕ)) → Formed s levels room n r → (code node : ℕ) → (r ≡ refuses code node) ↔ FormCause s levels room n code node
  read-refuses _ (written v w) code node = (λ e. let z : ◌≡◌ {A = ℕ} 0 1 = cc in absurd (omega arith), λ c. absurd (no_cause w c))
  read-refuses _ (refused other with c) code node = (
    λ e. (let p : other ≡ code = cc in let q : with ≡ node = cc in rw (← p, ← q) c),
    λ d. (let e = one_cause c d in ap₂ refuses e.0 e.1),
  )

formed : {s : St} → WF s → (levels room n : ℕ) → Formed s levels room n (form levels room n s)
formed {s} w zero room n = rw (no_levels s.rec s.lists room n) (refused 18 nil (S.deep (λ h. absurd (omega arith)) 0 here (omega arith)))
formed {s} w (suc levels) room n = elim (valid? s.rec.used.atoms s.rec.used.pairs (view n)) [
  | yes v ↦ from-tree (suc levels) room n v (form_writes w (suc levels) room n v)
  | no v ↦ rw (not_valid s.rec s.lists levels room n v) (refused 5 nil (S.bad-node (omega arith) v))
]

-- ---- the laws

module _ {s : St} (w : WF s) (levels room n : ℕ) where
  -- written exactly where valid and within levels and room, and then in the shortest form
  pub form-says : (v : List ℕ) → (form levels room n s ≡ says v) ↔ Written s levels room n v
  form-says v = read-says levels room n (form levels room n s) (formed w levels room n) v

  -- refused exactly where there is a cause
  pub form-refuses : (code node : ℕ) → (form levels room n s ≡ refuses code node) ↔ FormCause s levels room n code node
  form-refuses code node = read-refuses levels room n (form levels room n s) (formed w levels room n) code node

  -- 5, 18 and 19 are all there is; so never 1
  pub form-codes : (code node : ℕ) → form levels room n s ≡ refuses code node → (code ≡ 5) ⊎ ((code ≡ 18) ⊎ (code ≡ 19))
  form-codes code node e = of ((form-refuses code node).0 e)
    where
      of : {c m : ℕ} → FormCause s levels room n c m → (c ≡ 5) ⊎ ((c ≡ 18) ⊎ (c ≡ 19))
      of (S.bad-node h f) = inl refl
      of (S.deep v place d l) = inr (inl refl)
      of (S.long v l f) = inr (inr refl)

  -- 5 exactly where the node is not valid, and there is a level for it
  pub form_5 : (form levels room n s ≡ refuses 5 nil) ↔ (1 ≤ levels × (ValidIn s n → ⊥))
  form_5 = (λ e. of ((form-refuses 5 nil).0 e) refl, λ c. form-invalid s.rec s.lists levels room n c.0 c.1)
    where
      of : {c m : ℕ} → FormCause s levels room n c m → c ≡ 5 → 1 ≤ levels × (ValidIn s n → ⊥)
      of (S.bad-node h f) e = (h, f)
      of (S.deep v place d l) e = absurd (omega arith)
      of (S.long v l f) e = absurd (omega arith)

  -- a valid node too deep for the levels, where the room is enough
  pub form_18 : ValidIn s n → levels < height (tree_of s n) → length (shortest (tree_of s n)) ≤ room → form levels room n s ≡ refuses 18 nil
  form_18 v h l =
      let d = height-deep levels (tree_of s n) h in
      (form-refuses 18 nil).1 (S.deep (λ k. v) d.place d.item (omega (arith, deep-within d.item)))

  -- a valid node too long for the room, where the levels are enough
  pub form_19 : ValidIn s n → height (tree_of s n) ≤ levels → room < length (shortest (tree_of s n)) → form levels room n s ≡ refuses 19 nil
  form_19 v h l = (form-refuses 19 nil).1 (S.long v l λ place d. absurd (omega (arith, deep-height d)))

  -- a valid node is refused, with 18 or 19, exactly where it is too deep or too long
  pub form-refused : ValidIn s n
      → ((form levels room n s ≡ refuses 18 nil) ⊎ (form levels room n s ≡ refuses 19 nil))
      ↔ ((levels < height (tree_of s n)) ⊎ (room < length (shortest (tree_of s n))))
  form-refused v = (to, from (formed w levels room n))
    where
      cause : {c m : ℕ} → FormCause s levels room n c m → (levels < height (tree_of s n)) ⊎ (room < length (shortest (tree_of s n)))
      cause (S.bad-node h f) = absurd (f v)
      cause (S.deep u place d l) = inl (deep-height d)
      cause (S.long u l f) = inr l

      to : (form levels room n s ≡ refuses 18 nil) ⊎ (form levels room n s ≡ refuses 19 nil)
          → (levels < height (tree_of s n)) ⊎ (room < length (shortest (tree_of s n)))
      to (inl e) = cause ((form-refuses 18 nil).0 e)
      to (inr e) = cause ((form-refuses 19 nil).0 e)

      past : {u : List ℕ} → Written s levels room n u → (levels < height (tree_of s n)) ⊎ (room < length (shortest (tree_of s n))) → ⊥
      past g (inl h) = omega (arith, g.levels_fit)
      past g (inr h) = omega (arith, g.room_fits)

      from : {r : Said (List ℕ)} → Formed s levels room n r → (levels < height (tree_of s n)) ⊎ (room < length (shortest (tree_of s n)))
          → (r ≡ refuses 18 nil) ⊎ (r ≡ refuses 19 nil)
      from (written u g) c = absurd (past g c)
      from (refused code node (S.bad-node h f)) c = absurd (f v)
      from (refused code node (S.deep u place d l)) c = inl refl
      from (refused code node (S.long u l f)) c = inr refl

-- The bytes that are saved over a restore, and the clone's answer. Assumes nothing.
use Prim.Native.Nat.{ℕ, ◌-◌, ◌≤◌}
use Rattle.std.specs.Prelude.{Result, Ok, Err}
use mathlib.Core.Path.{◌≡◌, refl, sym, ap, ◌∙◌}
use mathlib.Core.List.{List, ◌++◌}
use native.Mathlib.Omega.{arith}
use lib.ListN.{length, take, drop}
use lib.Seq.{slice, length-slice, take_at}
use Rattle.rules.specs.declared.Counts.{Counts}
use Rattle.rules.specs.declared.Allocator.{Allocator}
use Rattle.rules.specs.declared.Refusal.{Refusal}
use Rattle.rules.specs.declared.MaybeRestore.{MaybeRestore}
use Rattle.rules.specs.Small.{fits}
use Rattle.rules.specs.Said.{Said, says, refuses, Done, done, Out, settle}
use Rattle.rules.specs.State.{Store, cut, less_ghosts}
use Rattle.rules.specs.Creates.{atom_tests, atom_put, small_or, new_atom}
use Rattle.rules.specs.Restores.{cloned}
use Rattle.rules.specs.Paper.{code_number, said_in, made, restored}
use Rattle.rules.proofs.Lists.{part_slice}
use Rattle.restores.specs.Able.{Copyable}

front : (src dst last : List ℕ) (len : ℕ) → length src ≡ len → last ≡ src ++ drop (length src) dst → take len last ≡ src
front src dst last len n e =
    ap (take len) e ∙ take_at src (drop (length src) dst) len n

-- last is what a copy of the part from s to e left of the array
pub saved_bytes : (s e : ℕ) (l dst last : List ℕ) → s ≤ e → e ≤ length l
    → last ≡ take (e - s) (drop s l) ++ drop (length (take (e - s) (drop s l))) dst
    → take (e - s) last ≡ slice s e l
saved_bytes s e l dst last h k q =
    front (take (e - s) (drop s l)) dst last (e - s) (ap length (part_slice s e l h) ∙ length-slice s e l k) q ∙ part_slice s e l h

-- a call that is accepted has passed its tests
pub passed_on : (t : Said Done) (a : Allocator) (s : Store) (f : Done → Out ℕ Store) (n : ℕ) → (settle t a s f).said ≡ says n → settle t a s f ≡ f done
passed_on (says done) a s f n h = refl
passed_on (refuses code node) a s f n h = let z : ◌≡◌ {A = ℕ} 0 1 = cc in absurd (omega arith)

-- the saved bytes, put where new_atom's tests end, are what new_atom makes
pub cloned_atom : (k : Counts) (a : Allocator) (s : Store) (start end : ℕ) (last : List ℕ) → Copyable k a s start end → take (end - start) last ≡ slice start end s.bytes
    → small_or (fits (take (end - start) last)) (end - start) (less_ghosts (end - start) (cut k a)) (take (end - start) last) s
    ≡ new_atom (less_ghosts (end - start) (cut k a)) (slice start end s.bytes) s
cloned_atom k a s start end last p copied =
    let v = slice start end s.bytes in
    let less = less_ghosts (end - start) (cut k a) in
    let inside : end ≤ length s.bytes = omega (arith, p.inside, p.fit) in
    let put = passed_on (atom_tests less (length v) s) less s (λ d. atom_put (fits v) less v s) _ p.accepts in
    ap (λ u. small_or (fits u) (end - start) less u s) copied
    ∙ ap (λ n. small_or (fits v) n less v s) (sym (length-slice start end s.bytes inside))
    ∙ sym put

-- a clone that is accepted is what Replace answers
pub settled : (a b : Allocator) (s t : Store) (r : Result ℕ Refusal) (m : ℕ) (o : Out ℕ Store) → r ≡ Ok m → made r b t ≡ o
    → restored (Ok (MaybeRestore.Replace m)) b t ≡ cloned a s o
settled a b s t r m o i e = rw (← e, i) refl

-- and it is not refused
pub unrefused : {A : Type 0} (k : Counts) (a : Allocator) (s : Store) (start end : ℕ) (b : Allocator) (t : Store) (r : Result ℕ Refusal) (f : Refusal)
    → Copyable k a s start end → r ≡ Err f → made r b t ≡ new_atom (less_ghosts (end - start) (cut k a)) (slice start end s.bytes) s → A
unrefused k a s start end b t r f p i e =
    let q : said_in r ≡ says p.node = ap (λ (x : Out ℕ Store). x.said) e ∙ p.accepts in
    let w : said_in r ≡ refuses (code_number f.code) f.node = ap said_in i in
    let z : ◌≡◌ {A = ℕ} 0 1 = cc in absurd (omega arith)

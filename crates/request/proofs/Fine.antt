-- The arguments of a request that was read from bytes are as their types in the code have them. Assumes nothing.
use Rattle.std.proofs.Common.{ℕ, List, length, drop}
use Rattle.std.specs.Prelude.{Option, None, Some, ◌+◌, ◌-◌, ◌%◌, ◌&&◌, ◌==◌, ltb, leb}
use Rattle.rules.specs.Small.{Octets}
use Rattle.rules.specs.Whole.{Typed}
use Rattle.rules.proofs.Tests.{choice}
use Rattle.rules.proofs.Bytes.{octets-take, octets-drop}
use Rattle.request.specs.declared.kind.Kind.{Kind}
use Rattle.request.specs.declared.kind.Kind.TheVariants.{Atom, Pair, Substr, Concat, SmallNumber, Checkpoint, Restore, RestoreTransparent, MaybeRestore, AddGhostPair, RemoveGhostPair, AddGhostAtom}
use Rattle.request.specs.Bytes.{u16_at}
use Rattle.request.specs.Kind.{kind_of}
use Rattle.request.specs.Request.{Request, making, taking, restoring, bad, sized, payload_of, asked_of, Frame, request_in, request_at}

abbrev pub Fine : Request → Type 0
Fine (making c) = Typed c
Fine taking = Unit {0}
Fine (restoring way number) = Unit {0}
Fine bad = Unit {0}

sized_fine : (n : ℕ) (p : List ℕ) (r : Request) → Fine r → Fine (sized n p r)
sized_fine n p r f = choice Fine (length p == n) r bad (λ e. f) (λ e. tt)

-- the bytes of an atom are bytes
payload_fine : (k : Kind) (p : List ℕ) → Octets p → Fine (payload_of k p)
payload_fine Atom p o = o
payload_fine Pair p o = sized_fine 8 p _ tt
payload_fine Substr p o = sized_fine 12 p _ tt
payload_fine Concat p o = choice Fine (leb 8 (length p) && ((length p - 8) % 4 == 0)) _ _ (λ e. tt) (λ e. tt)
payload_fine SmallNumber p o = sized_fine 4 p _ tt
payload_fine Checkpoint p o = sized_fine 0 p _ tt
payload_fine Restore p o = sized_fine 2 p _ tt
payload_fine RestoreTransparent p o = sized_fine 2 p _ tt
payload_fine MaybeRestore p o = sized_fine 6 p _ tt
payload_fine AddGhostPair p o = sized_fine 8 p _ tt
payload_fine RemoveGhostPair p o = sized_fine 8 p _ tt
payload_fine AddGhostAtom p o = sized_fine 8 p _ tt

asked_fine : (k : Option Kind) (p : List ℕ) → Octets p → Fine (asked_of k p)
asked_fine None p o = tt
asked_fine (Some k) p o = payload_fine k p o

pub request_fine : (i : List ℕ) → Octets i → Fine (request_at i)
request_fine i o =
    let whole = λ (f : Option Frame). Fine (request_in f) in
    let payload = octets-take (u16_at i 0) (drop 4 i) (octets-drop 4 i o) in
    choice whole (ltb (length i) 4) _ _ (λ e. tt) λ e. choice whole (ltb (length i) (4 + u16_at i 0)) _ _ (λ e. tt) λ e.
    asked_fine (kind_of (u16_at i 2)) _ payload

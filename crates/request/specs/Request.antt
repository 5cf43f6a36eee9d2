-- What a record asks: its frame, its kind, and what the payload of each kind says (document 01, "The request program").
use Rattle.std.specs.Prelude.{ℕ, ◌+◌, ◌-◌, ◌%◌, cond, ◌&&◌, ◌==◌, List, ltb, leb, length, take, drop, Option, None, Some}
use Rattle.rules.specs.Whole as Call
use Rattle.request.specs.declared.kind.Kind as declared
use Rattle.request.specs.declared.kind.Kind.TheVariants as Kind
use Rattle.request.specs.declared.Making.{Making}
use Rattle.request.specs.declared.Making.TheVariants.{Atom, SmallNumber, Pair, Substr, Concat, AddGhostPair, RemoveGhostPair, AddGhostAtom}
use Rattle.request.specs.declared.Way.{Way}
use Rattle.request.specs.declared.Way.TheVariants.{Plainly, Transparently, WithNode}
use Rattle.request.specs.declared.Request as Code
use Rattle.request.specs.declared.Request.TheVariants.{Make, TakeCheckpoint, Restore}
use Rattle.request.specs.declared.record.Record.{Record}
use Rattle.request.specs.Bytes.{u16_at, u32_at, u64_at, u32s}
use Rattle.request.specs.Kind.{kind_of}

-- a call that creates or counts ghosts; a checkpoint to be taken; a restore to the checkpoint of a number;
-- `bad` is a short record, an unknown kind or a wrong length
pub data Request : Type 0 where
  making : Call.Making → Request
  taking : Request
  restoring : Call.Way → (number : ℕ) → Request
  bad : Request

-- ---- the payload of a kind

-- what numbers alone ask: their payload is n bytes long
abbrev pub sized : ℕ → List ℕ → Request → Request
sized n p r = cond (length p == n) r bad

-- a concat's payload: the size, and then whole u32 numbers
abbrev pub concat_of : List ℕ → Request
concat_of p = cond (leb 8 (length p) && ((length p - 8) % 4 == 0)) (making (Call.concat (u64_at p 0) (u32s (drop 8 p)))) bad

-- what a payload asks: an atom's is its bytes, of any length
abbrev pub payload_of : declared.Kind → List ℕ → Request
payload_of Kind.Atom p = making (Call.atom p)
payload_of Kind.Pair p = sized 8 p (making (Call.pair (u32_at p 0) (u32_at p 4)))
payload_of Kind.Substr p = sized 12 p (making (Call.substr (u32_at p 0) (u32_at p 4) (u32_at p 8)))
payload_of Kind.Concat p = concat_of p
payload_of Kind.SmallNumber p = sized 4 p (making (Call.small-number (u32_at p 0)))
payload_of Kind.Checkpoint p = sized 0 p taking
payload_of Kind.Restore p = sized 2 p (restoring Call.plainly (u16_at p 0))
payload_of Kind.RestoreTransparent p = sized 2 p (restoring Call.transparently (u16_at p 0))
payload_of Kind.MaybeRestore p = sized 6 p (restoring (Call.with_node (u32_at p 2)) (u16_at p 0))
payload_of Kind.AddGhostPair p = sized 8 p (making (Call.ghost_pairs (u64_at p 0)))
payload_of Kind.RemoveGhostPair p = sized 8 p (making (Call.fewer_ghost_pairs (u64_at p 0)))
payload_of Kind.AddGhostAtom p = sized 8 p (making (Call.ghost_atoms (u64_at p 0)))

abbrev pub asked_of : Option declared.Kind → List ℕ → Request
asked_of None p = bad
asked_of (Some k) p = payload_of k p

-- the request of a kind's number with a payload
abbrev pub request_of : ℕ → List ℕ → Request
request_of n p = asked_of (kind_of n) p

-- ---- the frame: u16 payload length, u16 kind, payload

-- a whole record: its kind's number and its payload
pub record Frame : Type 0 where
  pub kind : ℕ
  pub payload : List ℕ

-- one to three bytes left, or a payload cut short, is a short record
abbrev pub frame_of : List ℕ → Option Frame
frame_of l =
    cond (ltb (length l) 4) None
    (cond (ltb (length l) (4 + u16_at l 0)) None
    (Some (record { kind = u16_at l 2; payload = take (u16_at l 0) (drop 4 l) })))

abbrev pub request_in : Option Frame → Request
request_in None = bad
request_in (Some f) = request_of f.kind f.payload

-- the request at the front of the input
abbrev pub request_at : List ℕ → Request
request_at l = request_in (frame_of l)

-- the bytes that it takes
abbrev pub frame_size : Option Frame → ℕ
frame_size None = 0
frame_size (Some f) = 4 + length f.payload

-- ---- a request as the code has it

abbrev pub making_in : Making → Call.Making
making_in (Atom bytes) = Call.atom bytes.now
making_in (SmallNumber v) = Call.small-number v
making_in (Pair first rest) = Call.pair first rest
making_in (Substr n start end) = Call.substr n start end
making_in (Concat size nodes) = Call.concat size (u32s nodes.bytes.now)
making_in (AddGhostPair amount) = Call.ghost_pairs amount
making_in (RemoveGhostPair amount) = Call.fewer_ghost_pairs amount
making_in (AddGhostAtom amount) = Call.ghost_atoms amount

abbrev pub way_of : Way → Call.Way
way_of Plainly = Call.plainly
way_of Transparently = Call.transparently
way_of (WithNode n) = Call.with_node n

abbrev pub request_is : Code.Request → Request
request_is (Make m) = making (making_in m)
request_is TakeCheckpoint = taking
request_is (Restore way number) = restoring (way_of way) number

abbrev pub meant : Option Code.Request → Request
meant None = bad
meant (Some r) = request_is r

abbrev pub seen : Option Record → Option Frame
seen None = None
seen (Some r) = Some (record { kind = r.kind; payload = r.payload.now })

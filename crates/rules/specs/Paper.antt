-- What the code's answers are in document 01: the number, node and values of each.
use Rattle.std.specs.Prelude.{ℕ, Result, Ok, Err, Some, None}
use Rattle.std.specs.Prelude as Std
use Rattle.std.proofs.Math.Option.{Option, none, some}
use Rattle.rules.specs.declared.Allocator.{Allocator}
use Rattle.rules.specs.declared.Loaded.{Loaded}
use Rattle.rules.specs.declared.Fault.{Fault}
use Rattle.rules.specs.declared.Refusal.{Refusal}
use Rattle.rules.specs.declared.Code.{Code}
use Rattle.rules.specs.declared.ObjectType.{ObjectType}
use Rattle.rules.specs.declared.View.{View}
use Rattle.rules.specs.declared.Arg.{Arg}
use Rattle.rules.specs.declared.Atom.{Atom}
use Rattle.rules.specs.declared.NodeVisitor.{NodeVisitor}
use Rattle.rules.specs.declared.SExp.{SExp}
use Rattle.rules.specs.declared.NodeStatus.{NodeStatus}
use Rattle.rules.specs.declared.MaybeRestore.{MaybeRestore}
use Rattle.rules.specs.Node.{Node, pair_at, bytes_at, small, bad}
use Rattle.rules.specs.Said.{Said, says, refuses, Done, done, NoLists, no_lists, Out}
use Rattle.rules.specs.State.{Store, Lists}
use Rattle.rules.specs.Reads as Reads
use Rattle.rules.specs.Reads.{Kind, pair_kind, bytes_kind, small_kind, pair_arg, bytes_arg, small_arg, range, value, Visited, buffer, number, children, Sexp, atomic, branch, Status, before, after_new_bytes, after_old_bytes}
use Rattle.rules.specs.Restores.{Restoring, no_replace, replace, aborted}
use Rattle.rules.specs.Load.{Reading, reading}

-- the numbers of document 01's table, and of document 02's refusals
abbrev pub code_number : Code → ℕ
code_number Code.Unsound = 1
code_number Code.OutOfMemory = 2
code_number Code.TooManyAtoms = 3
code_number Code.TooManyPairs = 4
code_number Code.NotValid = 5
code_number Code.ExpectedAtom = 6
code_number Code.StartOutOfBounds = 7
code_number Code.EndOutOfBounds = 8
code_number Code.InvalidBounds = 9
code_number Code.InvalidSize = 10
code_number Code.NotUsable = 11
code_number Code.InvalidRange = 12
code_number Code.TooLarge = 13
code_number Code.TooFewGhosts = 14
code_number Code.Full = 15
code_number Code.BadEncoding = 17
code_number Code.TooDeep = 18
code_number Code.NoSpace = 19

-- an answer: what was accepted, as f shows it, or the code's number and the node
abbrev pub said_by : {A B : Type 0} → (A → B) → Result A Refusal → Said B
said_by f (Ok x) = says (f x)
said_by f (Err r) = refuses (code_number r.code) r.node

-- the same where what was accepted is in document 01 what it is in the code: a number, yes or no, a checkpoint, a node
abbrev pub said_in : {A : Type 0} → Result A Refusal → Said A
said_in r = said_by (λ x. x) r

-- a call that answers nothing but whether it was done
abbrev pub verdict_paper : Result (Unit {0}) Refusal → Said Done
verdict_paper r = said_by (λ u. done) r

-- the bits of a node
abbrev pub view_paper : View → Node
view_paper (View.Pair i) = pair_at i
view_paper (View.Bytes i) = bytes_at i
view_paper (View.Small v) = small v

-- or of a number that is no node
abbrev pub view_in : Result View Refusal → Node
view_in (Ok v) = view_paper v
view_in (Err r) = bad

-- object_type
abbrev pub kind_paper : ObjectType → Kind
kind_paper ObjectType.Pair = pair_kind
kind_paper ObjectType.Bytes = bytes_kind
kind_paper ObjectType.SmallAtom = small_kind

-- a node argument after 5 and 1
abbrev pub arg_paper : Arg → Reads.Arg
arg_paper (Arg.Pair i) = pair_arg i
arg_paper (Arg.Bytes i start end) = bytes_arg i start end
arg_paper (Arg.Small v) = small_arg v

-- an atom argument after 5 not valid, 1 unsound slot and 6 a pair
abbrev pub atom_paper : Atom → Reads.Atom
atom_paper (Atom.Range start end) = range start end
atom_paper (Atom.Value v) = value v

-- what may be missing: fits_in_small_atom, small_number
abbrev pub option_paper : {A : Type 0} → Std.Option A → Option A
option_paper (Some v) = some v
option_paper None = none

-- node
abbrev pub visitor_paper : NodeVisitor → Visited
visitor_paper (NodeVisitor.Buffer start end) = buffer start end
visitor_paper (NodeVisitor.U32 v) = number v
visitor_paper (NodeVisitor.Pair first rest) = children first rest

-- sexp
abbrev pub sexp_paper : SExp → Sexp
sexp_paper SExp.Atom = atomic
sexp_paper (SExp.Pair first rest) = branch first rest

-- next: an atom has none
abbrev pub next_paper : Std.Option (ℕ × ℕ) → Sexp
next_paper (Some p) = branch p.0 p.1
next_paper None = atomic

-- checkpoint_node_status
abbrev pub status_paper : NodeStatus → Status
status_paper NodeStatus.Before = before
status_paper NodeStatus.AfterNewBytes = after_new_bytes
status_paper (NodeStatus.AfterOldBytes start end) = after_old_bytes start end

-- maybe_restore_with_node
abbrev pub maybe_paper : MaybeRestore → Restoring
maybe_paper MaybeRestore.NoReplace = no_replace
maybe_paper (MaybeRestore.Replace n) = replace n
maybe_paper MaybeRestore.Aborted = aborted

-- all that a call gives: its answer, the record as it leaves it, and what it was lent for writing
abbrev pub made : {L : Type 0} → Result ℕ Refusal → Allocator → L → Out ℕ L
made r a s = record { said = said_in r; rec = a; lent = s }

abbrev pub changed : Result (Unit {0}) Refusal → Allocator → Out Done NoLists
changed r a = record { said = verdict_paper r; rec = a; lent = no_lists }

abbrev pub restored : Result MaybeRestore Refusal → Allocator → Store → Out Restoring Store
restored r a s = record { said = said_by maybe_paper r; rec = a; lent = s }

-- what reading a file, or an item of it, gives: the node and the next item's place, or the refusal and the place of the item at fault
abbrev pub loaded : Result Loaded Fault → Allocator → Lists → Reading
loaded (Ok r) a l = reading (says r.node) r.next a l
loaded (Err e) a l = reading (refuses (code_number e.refusal.code) e.refusal.node) e.at a l

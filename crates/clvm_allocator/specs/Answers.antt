-- What crosses to C: each answer of the rules as numbers. A refusal has its code and node, and no value; an accepted answer has code 0,
-- and nil where it makes no node.
use Rattle.std.specs.Prelude.{ℕ, ◌-◌, Bool, true, false, List, Result, Ok, Err}
use Rattle.std.proofs.Math.Option.{Option, none, some}
use Rattle.rules.specs.Node.{nil}
use Rattle.rules.specs.Small.{len_for}
use Rattle.rules.specs.Said.{Said, says, refuses, Done, done, NoLists, no_lists, Out}
use Rattle.rules.specs.Reads.{Atom, range, value, Visited, buffer, number, children, Sexp, atomic, branch, Status, before, after_new_bytes, after_old_bytes}
use Rattle.rules.specs.State.{Lists}
use Rattle.rules.specs.Load.{Reading}
use Rattle.rules.specs.Save.{Saving}
use Rattle.rules.specs.Restores.{Restoring, no_replace, replace, aborted}
use Rattle.rules.specs.declared.Allocator.{Allocator}
use Rattle.rules.specs.declared.Loaded.{Loaded}
use Rattle.rules.specs.declared.Fault.{Fault}
use Rattle.rules.specs.Paper.{code_number}
use Rattle.clvm_allocator.specs.declared.answers.CNumber.{CNumber}
use Rattle.clvm_allocator.specs.declared.answers.COption.{COption}
use Rattle.clvm_allocator.specs.declared.answers.CVisited.{CVisited}
use Rattle.clvm_allocator.specs.declared.answers.CChildren.{CChildren}
use Rattle.clvm_allocator.specs.declared.answers.CPart.{CPart}
use Rattle.clvm_allocator.specs.declared.answers.CStatus.{CStatus}
use Rattle.clvm_allocator.specs.declared.answers.CAnswer.{CAnswer}
use Rattle.clvm_allocator.specs.declared.answers.CRestored.{CRestored}
use Rattle.clvm_allocator.specs.declared.answers.CLoaded.{CLoaded}

-- yes is 1, no is 0
abbrev pub bit : Bool → ℕ
bit true = 1
bit false = 0

-- a number
abbrev pub number_c : Said ℕ → CNumber
number_c (says x) = record { code = 0; node = nil; value = x }
number_c (refuses code node) = record { code = code; node = node; value = 0 }

-- a value that may be missing
abbrev pub option_c : Said (Option ℕ) → COption
option_c (says (some x)) = record { code = 0; node = nil; some = 1; value = x }
option_c (says none) = record { code = 0; node = nil; some = 0; value = 0 }
option_c (refuses code node) = record { code = code; node = node; some = 0; value = 0 }

-- node: two nodes; a range of the byte store; a value
abbrev pub visited_c : Said Visited → CVisited
visited_c (says (children first rest)) = record { code = 0; node = nil; kind = 0; first = first; second = rest }
visited_c (says (buffer start end)) = record { code = 0; node = nil; kind = 1; first = start; second = end }
visited_c (says (number v)) = record { code = 0; node = nil; kind = 2; first = v; second = 0 }
visited_c (refuses code node) = record { code = code; node = node; kind = 0; first = 0; second = 0 }

-- sexp and next
abbrev pub children_c : Said Sexp → CChildren
children_c (says (branch first rest)) = record { code = 0; node = nil; is_pair = 1; first = first; rest = rest }
children_c (says atomic) = record { code = 0; node = nil; is_pair = 0; first = 0; rest = 0 }
children_c (refuses code node) = record { code = code; node = node; is_pair = 0; first = 0; rest = 0 }

-- atom: a part of the byte store, or the last bytes of the scratch of four
abbrev pub part_at : ℕ → ℕ → ℕ → CPart
part_at place offset length = record { code = 0; node = nil; place = place; offset = offset; length = length }

abbrev pub part_c : Said Atom → CPart
part_c (says (range start end)) = part_at 0 start (end - start)
part_c (says (value v)) = part_at 1 (4 - len_for v) (len_for v)
part_c (refuses code node) = record { code = code; node = node; place = 0; offset = 0; length = 0 }

-- checkpoint_node_status
abbrev pub standing : ℕ → ℕ → ℕ → CStatus
standing status start end = record { code = 0; node = nil; status = status; start = start; end = end }

abbrev pub status_c : Said Status → CStatus
status_c (says before) = standing 0 0 0
status_c (says after_new_bytes) = standing 1 0 0
status_c (says (after_old_bytes start end)) = standing 2 start end
status_c (refuses code node) = record { code = code; node = node; status = 0; start = 0; end = 0 }

-- the node of a creating call
abbrev pub answer_c : Said ℕ → CAnswer
answer_c (says n) = record { code = 0; node = n }
answer_c (refuses code node) = record { code = code; node = node }

-- a program file's root and the place where reading came to, or the place of the item at fault
abbrev pub loaded_c : Said ℕ → ℕ → CLoaded
loaded_c said at = record { code = (answer_c said).code; node = (answer_c said).node; at = at }

-- the same of what a reading answers
abbrev pub file_c : Result Loaded Fault → CLoaded
file_c (Ok r) = loaded_c (says r.node) r.next
file_c (Err e) = loaded_c (refuses (code_number e.refusal.code) e.refusal.node) e.at

-- a call that makes no node
abbrev pub done_c : Said Done → CAnswer
done_c (says done) = record { code = 0; node = nil }
done_c (refuses code node) = record { code = code; node = node }

-- maybe_restore_with_node
abbrev pub went : ℕ → ℕ → CRestored
went node outcome = record { code = 0; node = node; outcome = outcome }

abbrev pub restored_c : Said Restoring → CRestored
restored_c (says no_replace) = went nil 0
restored_c (says (replace n)) = went n 1
restored_c (says aborted) = went nil 2
restored_c (refuses code node) = record { code = code; node = node; outcome = 0 }

-- all that a call gives: its answer, what else it was lent for writing (the record, a checkpoint, a file), and the lists, as it leaves them
pub record Given (R W L : Type 0) : Type 0 where
  pub answer : R
  pub written : W
  pub lent : L

abbrev pub given : {R W L : Type 0} → R → W → L → Given R W L
given r w s = record { answer = r; written = w; lent = s }

-- a call that may change the record: its answer as numbers, and the record
abbrev pub crossed : {A R L : Type 0} → (Said A → R) → Out A L → Given R Allocator L
crossed f o = given (f o.said) o.rec o.lent

-- a load: its answer and place, the record, and all five lists
abbrev pub read_c : Reading → Given CLoaded Allocator Lists
read_c r = given (loaded_c r.said r.at) r.rec r.lists

-- a save: the length, and the slice that was lent for the file
abbrev pub written_c : Saving → Given CNumber (List ℕ) NoLists
written_c r = given (number_c r.said) r.file no_lists

-- a call that takes a checkpoint: a refusal leaves the checkpoint as it was
abbrev pub taken_c : {K : Type 0} → K → Said K → Given CAnswer K NoLists
taken_c old (says k) = given (done_c (says done)) k no_lists
taken_c old (refuses code node) = given (done_c (refuses code node)) old no_lists

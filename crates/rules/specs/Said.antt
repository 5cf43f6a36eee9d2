-- What a call says and leaves: document 01's codes as numbers, with the tests of a call as one list in its order.
use Rattle.std.specs.Prelude.{ℕ, Bool, true, false}
use Rattle.rules.specs.declared.Allocator.{Allocator}

-- an answer: accepted with a value, or refused with a code and the node that document 01's table gives it
pub data Said (A : Type 0) : Type 0 where
  says : A → Said A
  refuses : ℕ → ℕ → Said A

-- the code column of document 01: 0 is accepted
abbrev pub code_of : {A : Type 0} → Said A → ℕ
code_of (says x) = 0
code_of (refuses code node) = code

-- one test of a call: go on where it holds, else refuse
unfoldable pub need : {A : Type 0} → Bool → ℕ → ℕ → Said A → Said A
need true code node next = next
need false code node next = refuses code node

-- what is made of an accepted answer
abbrev pub says_of : {A B : Type 0} → (A → B) → Said A → Said B
says_of f (says x) = says (f x)
says_of f (refuses code node) = refuses code node

-- on with what was said; a refusal leaves r
abbrev pub onward : {A R : Type 0} → Said A → R → (A → R) → R
onward (says x) r f = f x
onward (refuses code node) r f = r

-- what was accepted leaves r; a refusal leaves the other
abbrev pub or_else : {A R : Type 0} → Said A → R → R → R
or_else (says x) r other = r
or_else (refuses code node) r other = other

-- the answer of a call that has nothing to hand back
pub data Done : Type 0 where
  done : Done

-- where a call is lent nothing that it may write
pub data NoLists : Type 0 where
  no_lists : NoLists

-- a call's answer, the record after it, and the lists that were lent for writing as it leaves them
pub record Out (A L : Type 0) : Type 0 where
  pub said : Said A
  pub rec : Allocator
  pub lent : L

abbrev pub out : {A L : Type 0} → A → Allocator → L → Out A L
out x a s = record { said = says x; rec = a; lent = s }

-- a refusal gives the record back as it was given, and writes nothing
abbrev pub refused : {A L : Type 0} → ℕ → ℕ → Allocator → L → Out A L
refused code node a s = record { said = refuses code node; rec = a; lent = s }

-- the call goes on with what its tests found, or is refused
abbrev pub settle : {A B L : Type 0} → Said A → Allocator → L → (A → Out B L) → Out B L
settle (says x) a s f = f x
settle (refuses code node) a s f = refused code node a s

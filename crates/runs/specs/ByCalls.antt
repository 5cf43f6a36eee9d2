-- What "reads as the same tree" means by the read calls themselves.
use Rattle.std.specs.Prelude.{ℕ, ◌≡◌, List, length}
use Rattle.rules.specs.declared.Counts.{Counts}
use Rattle.rules.specs.Said.{says}
use Rattle.rules.specs.Reads as R
use Rattle.rules.specs.Reads.{Atom, atom_len, part_bytes, scratch_after, small_number, atom_eq, branch, sexp, node_status}
use Rattle.rules.specs.Tree.{Tree, leaf, fork}
use Rattle.rules.specs.Whole.{St}
use Rattle.runs.specs.Wf.{ValidIn}

-- n reads as a tree: atom, lent some scratch, hands back an atom's bytes, and sexp the two children of a pair
pub data ReadsAs (s : St) : ℕ → Tree → Type 0 where
  atom-reads : {n : ℕ} (scratch : List ℕ) (x : Atom) → R.atom s.rec s.lists.bytes s.lists.atoms n (length scratch) ≡ says x
      → ReadsAs s n (leaf (part_bytes s.lists.bytes (scratch_after (says x) scratch) (says x)))
  pair_reads : {n : ℕ} {x y : Tree} (first rest : ℕ) → sexp s.rec s.lists.pairs n ≡ says (branch first rest)
      → ReadsAs s first x → ReadsAs s rest y → ReadsAs s n (fork x y)

-- every call that reads the node n answers in s what it answered in k
pub record SameAnswers (k s : St) (n : ℕ) : Type 0 where
  -- sexp and next
  pub sexp-same : sexp s.rec s.lists.pairs n ≡ sexp k.rec k.lists.pairs n
  pub node-same : R.node s.rec s.lists.atoms s.lists.pairs n ≡ R.node k.rec k.lists.atoms k.lists.pairs n
  pub len_same : atom_len s.rec s.lists.atoms n ≡ atom_len k.rec k.lists.atoms n
  pub number_same : small_number s.rec s.lists.bytes s.lists.atoms n ≡ small_number k.rec k.lists.bytes k.lists.atoms n
  pub atom-same : (scratch : ℕ) → R.atom s.rec s.lists.bytes s.lists.atoms n scratch ≡ R.atom k.rec k.lists.bytes k.lists.atoms n scratch
  -- the bytes of the part that atom hands back
  pub bytes_same : (scratch : List ℕ) (size : ℕ)
      → part_bytes s.lists.bytes scratch (R.atom k.rec k.lists.bytes k.lists.atoms n size) ≡ part_bytes k.lists.bytes scratch (R.atom k.rec k.lists.bytes k.lists.atoms n size)
  pub eq_same : (m : ℕ) → ValidIn k m → atom_eq s.rec s.lists.bytes s.lists.atoms n m ≡ atom_eq k.rec k.lists.bytes k.lists.atoms n m
  -- checkpoint_node_status, at any checkpoint
  pub status_same : (q : Counts) → node_status q s.rec s.lists.atoms n ≡ node_status q k.rec k.lists.atoms n

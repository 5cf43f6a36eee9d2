-- Reading what was written gives an equal tree, where depth, limits and room allow. Assumes nothing.
use Prim.Native.Nat.{ℕ}
use mathlib.Core.Path.{◌≡◌, sym, ap, ◌∙◌, subst}
use mathlib.Core.List.{List}
use lib.ListN.{length}
use Rattle.rules.specs.Said.{says}
use Rattle.rules.specs.Tree.{Tree}
use Rattle.rules.specs.Serial.{Parsed, parsed, fault}
use Rattle.rules.specs.Load.{levels_of}
use Rattle.rules.specs.Whole.{St, load}
use Rattle.runs.specs.Wf.{WF}
use Rattle.runs.proofs.Tests.{→sound}
use Rattle.serial.proofs.Parses.{parse-whole}
use Rattle.saves.specs.Saves.{save, tree_of}
use Rattle.saves.proofs.Saves.{save-accepts, save_stores}
use Rattle.loads.specs.Files.{parse_file, Shows, file_of, ReadsBack}
use Rattle.loads.proofs.Files.{load-builds}
use Rattle.loads.proofs.Shows.{root-shows}

-- the tree of a parse
abbrev tree_in : Tree → Parsed → Tree
tree_in none (parsed t next) = t
tree_in none (fault code place) = none

pub reads-back : {s s' : St} → WF s → WF s' → (n len : ℕ) (file : List ℕ) → (save n file s).said ≡ says len → ReadsBack (file_of len n file s) (tree_of s n) s'
reads-back {s} {s'} w w' n len file e = record { builds = load-builds f s' t (→sound w'.sound) parses; shows = shows }
  where
    f : List ℕ
    f = file_of len n file s

    t : Tree
    t = tree_of s n

    parses : parse_file f ≡ parsed t (length f)
    parses =
        let r = save_stores w n file len e in
        (parse-whole f r.octets levels_of t).1 (r.form, ((save-accepts w n file len).0 e).levels_fit)

    shows : (m : ℕ) → (load f s').said ≡ says m → Shows s' t m (load f s').next
    shows m g =
        let r = root-shows f (save_stores w n file len e).octets w' m g in
        subst (λ (x : Tree). Shows s' x m (load f s').next) (ap (tree_in t) (sym r.parses ∙ parses)) r.shows

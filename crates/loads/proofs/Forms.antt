-- Which files a load accepts, by the serialised form. Assumes nothing.
use Prim.Native.Nat.{ℕ}
use mathlib.Core.Path.{◌≡◌}
use mathlib.Core.Logic.{◌↔◌}
use mathlib.Core.List.{List}
use Rattle.rules.specs.Small.{Octets}
use Rattle.rules.specs.Load.{levels_of}
use Rattle.rules.specs.Whole.{St, load}
use Rattle.serial.proofs.Parses.{parse-whole}
use Rattle.loads.specs.Files.{answer, LoadsForm}
use Rattle.loads.proofs.Files.{load-accepts}

-- accepted exactly where the file is a form of a tree of at most 4,096 levels and all the calls of the tree are accepted
pub load-forms : (f : List ℕ) → Octets f → (s : St) (n : ℕ) (s' : St) → (load f s ≡ answer n s') ↔ LoadsForm f s n s'
load-forms f o s n s' = (to, from)
  where
    to : load f s ≡ answer n s' → LoadsForm f s n s'
    to e =
        let l = (load-accepts f s n s').0 e in
        let p = (parse-whole f o levels_of l.root).0 l.parses in
        record { sound = l.sound; root = l.root; form = p.0; levels_fit = p.1; builds = l.builds }

    from : LoadsForm f s n s' → load f s ≡ answer n s'
    from l = (load-accepts f s n s').1 (record {
      sound = l.sound;
      root = l.root;
      parses = (parse-whole f o levels_of l.root).1 (l.form, l.levels_fit);
      builds = l.builds;
    })

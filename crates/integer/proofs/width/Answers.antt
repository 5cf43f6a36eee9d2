-- `width` meets its contract: the place of the first threshold above the magnitude. Assumes nothing.
use Rattle.std.proofs.Common.{rules, tests, refl, ap, ℕ, ltb, length, ◌∙◌}
use Rattle.std.proofs.lemmas.Iterator.{YieldsList-from_slice}
use Rattle.std.proofs.lemmas.Iterator.Adapters.{position_from-zero}
use Rattle.std.proofs.lemmas.Iterator.Search.{position_from_yields_List}
use Rattle.integer.proofs.Thresholds.{walk}
use Rattle.integer.proofs.width.Goals as goal

pub returns : goal.returns
returns c =
    let xs = c.iter.result.rest.now in
    let above = λ (t : ℕ). ltb c.args.m t in
    let found =
    position_from_yields_List above _ _ c.position.result c.position.ensures.ran (YieldsList-from_slice xs cc) (λ x b q k. search (rules, tests))
    ∙ position_from-zero above xs in
    let table = c.iter.ensures.rest in
    let walked = walk c.args.m xs 0 (rw table refl) in
    rw (c.unwrap_or.ensures, found) (rw (ap length table) at walked)

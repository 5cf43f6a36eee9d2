-- `extra_for` meets its contract: the place of the first limit above the length. Assumes nothing.
use Rattle.std.proofs.Common.{rules, tests, arith, ltb, ◌∙◌}
use Rattle.std.proofs.lemmas.Iterator.{YieldsList-from_slice}
use Rattle.std.proofs.lemmas.Iterator.Adapters.{position_from-zero}
use Rattle.std.proofs.lemmas.Iterator.Search.{position_from_yields_List}
use Rattle.rules.specs.Serial.{limit_of, first_below}
use Rattle.prefix.specs.declared.Prefix.{Prefix}
use Rattle.prefix.proofs.extra_for.Goals as goal

pub returns : goal.returns
unfolding first_below limit_of
returns c =
    let xs = c.iter.result.rest.now in
    let above = λ (p : Prefix). ltb c.args.len p.limit in
    let found =
    position_from_yields_List above _ _ c.position.result c.position.ensures.ran (YieldsList-from_slice xs cc) (λ x b q k. search (rules, tests))
    ∙ position_from-zero above xs
    in simp (c.unwrap_or.ensures, found, c.iter.ensures.rest) (grind arith, grind arith)

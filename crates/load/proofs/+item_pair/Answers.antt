-- `item` and `pair` meet their contracts: each call has fewer levels left, or enters the pair of a level.
use mathlib.Core.Path.{◌∙◌}
use native.Mathlib.Omega.{arith}
use Rattle.rules.specs.Lent.{lists_in, pair_store_in, store_in}
use Rattle.rules.specs.Serial.{broken, opening, string}
use Rattle.rules.specs.Load as Rule
use Rattle.load.proofs.Readings.{item-deep, item_by, pair_both}
use Rattle.load.proofs.Tokens.{pair_inside, atom-inside}
use Rattle.load.proofs.+item_pair.Goals as goal

pub item-returns-then-levels-eq0 : goal.item-returns-then-levels-eq0
item-returns-then-levels-eq0 t c =
    let a = c.args in
    let l = lists_in a.bytes.now a.starts.now a.ends.now a.firsts.now a.rests.now in
    c.fault.ensures a.a.now l ∙ item-deep a.f.now a.levels a.at a.a.now l c.if-levels-eq0.true

pub item-pair-requires : goal.item-pair-requires
item-pair-requires t c =
    (omega arith, pair_inside c.args.f.now c.args.at (rw c.in-Some-Opening.field-0-is at c.in-Some-Opening.ensures))

pub item-atom_item-requires : goal.item-atom_item-requires
item-atom_item-requires t c =
    let b = c.in-Some-String in
    atom-inside c.args.f.now c.args.at b.from b.to (rw b.field-0-is at b.ensures)

pub item-returns-in-None : goal.item-returns-in-None
item-returns-in-None t c =
    let a = c.args in
    let l = lists_in a.bytes.now a.starts.now a.ends.now a.firsts.now a.rests.now in
    c.fault-in-None.ensures a.a.now l
    ∙ item_by a.f.now a.levels a.at a.a.now l broken c.if-levels-eq0.false c.in-None.ensures

pub item-returns-in-Some-Opening : goal.item-returns-in-Some-Opening
item-returns-in-Some-Opening t c =
    let a = c.args in
    let l = lists_in a.bytes.now a.starts.now a.ends.now a.firsts.now a.rests.now in
    c.pair.ensures
    ∙ item_by a.f.now a.levels a.at a.a.now l opening c.if-levels-eq0.false (rw c.in-Some-Opening.field-0-is at c.in-Some-Opening.ensures)

pub item-returns-in-Some-String : goal.item-returns-in-Some-String
item-returns-in-Some-String t c =
    let a = c.args in
    let b = c.in-Some-String in
    let l = lists_in a.bytes.now a.starts.now a.ends.now a.firsts.now a.rests.now in
    c.atom_item.ensures (pair_store_in a.firsts.now a.rests.now)
    ∙ item_by a.f.now a.levels a.at a.a.now l (string b.from b.to) c.if-levels-eq0.false (rw b.field-0-is at b.ensures)

pub pair-returns : goal.pair-returns
pair-returns t c =
    let a = c.args in
    let l = lists_in a.bytes.now a.starts.now a.ends.now a.firsts.now a.rests.now in
    let m = c.item.new in
    let o = c.item-2.new in
    let first = c.in_ok-first.first in
    let rest = c.in_ok-rest.rest in
    c.pair_item.ensures (store_in o.bytes o.starts o.ends)
    ∙ pair_both (Rule.item a.f.now a.levels) a.at a.a.now l first.node first.next m.a
    (lists_in m.bytes m.starts m.ends m.firsts m.rests) c.in_ok-first.ensures
    rest.node rest.next o.a (lists_in o.bytes o.starts o.ends o.firsts o.rests) c.in_ok-rest.ensures

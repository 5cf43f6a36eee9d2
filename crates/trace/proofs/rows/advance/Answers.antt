-- The request, what it does, then its row.
use Rattle.std.proofs.Common.{arith, sym, ap, subst, ◌∙◌}
use Rattle.std.specs.Prelude.{option_map}
use Rattle.machine.specs.Machine.{act_of, did_of}
use Rattle.machine.proofs.Kept.{Kept}
use Rattle.trace.proofs.Steps.{record_kept, closable, step_made}
use Rattle.trace.proofs.Traces.{advanced}
use Rattle.trace.proofs.rows.advance.Goals as goal

pub show-requires-clause-bounds : goal.show-requires-clause-bounds
show-requires-clause-bounds c =
    let s = c.args in
    let done = c.act-told.ensures.value ∙ ap (act_of s.m.now _) c.read-asked.ensures.meaning in
    closable s.m.now _ c.requires.bounds.0
    (subst (Kept s.m.now) (sym done) (record_kept s.m.now _ c.requires.ready s.rest.now (λ i. omega (arith, c.type_inv.rest i))))

pub returns-in-Some-clause-value : goal.returns-in-Some-clause-value
returns-in-Some-clause-value c =
    let s = c.args in
    let h = c.requires.bounds in
    let shown = c.show.ensures in
    let asked = c.read-asked.ensures in
    let size = ap (option_map (λ q. c.read-asked.result.size)) c.in-Some.is in
    advanced s.m.now _ s.rest.now s.page.now h.1 c.requires.ready (λ i. omega (arith, c.type_inv.rest i)) h.0 (did_of c.act-told.new.self c.act-told.result) _ _ c.show.new.page _
    (step_made s.m.now _ s.rest.now _ c.read-asked.result.request _ _ c.act-told.ensures.value asked.meaning asked.size size) shown.machine shown.text shown.capacity shown.bound

pub returns-in-None-clause-value : goal.returns-in-None-clause-value
returns-in-None-clause-value c =
    let s = c.args in
    let h = c.requires.bounds in
    let shown = c.show.ensures in
    let asked = c.read-asked.ensures in
    let size = ap (option_map (λ q. c.read-asked.result.size)) c.in-None.is in
    advanced s.m.now _ s.rest.now s.page.now h.1 c.requires.ready (λ i. omega (arith, c.type_inv.rest i)) h.0 (did_of c.act-told.new.self c.act-told.result) _ _ c.show.new.page _
    (step_made s.m.now _ s.rest.now _ c.read-asked.result.request _ _ c.act-told.ensures.value asked.meaning asked.size size) shown.machine shown.text shown.capacity shown.bound

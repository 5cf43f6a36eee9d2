-- What was sent and what is still to come are as long as the text.
use Rattle.std.proofs.Common.{ℕ, List, ◌++◌, length, arith, sym, ap, ◌∙◌}
use Rattle.rules.specs.Lent.{lists_in}
use Rattle.text.specs.Text.{head_text, long_text}
use Rattle.trace.proofs.Whole.{text-long, sending_first}
use Rattle.trace.proofs.rows.print.Goals as goal

pub returns-then-input-gt-LONGEST : goal.returns-then-input-gt-LONGEST
returns-then-input-gt-LONGEST g c =
    let a = c.args in
    let l = lists_in a.bytes.now a.starts.now a.ends.now a.firsts.now a.rests.now in
    ap length (c.text-whole.ensures ∙ c.put_long.ensures.text ∙ ap (λ (x : List ℕ). x ++ long_text) c.new-page.ensures.text
    ∙ sym (text-long l a.input.now c.if-input-gt-LONGEST.true))

pub loop-sent-init : goal.loop-sent-init
loop-sent-init g c =
    sending_first _ c.args.input.now c.put_head.new.page c.new-m.result c.are_octets.ensures (omega arith) (omega arith) c.new-m.ensures
    (c.put_head.ensures.text ∙ ap (λ (x : List ℕ). x ++ head_text) c.new-page.ensures.text)

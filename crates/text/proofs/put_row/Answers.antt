-- Six columns one after another.
use Rattle.std.proofs.Common.{append_assoc}
use Rattle.text.proofs.put_row.Goals as goal

pub returns-clause-text : goal.returns-clause-text
returns-clause-text c =
    simp (c.put_number-5.ensures.text, c.put_number-4.ensures.text, c.put_number-3.ensures.text, c.put_node.ensures.text, c.put_number-2.ensures.text, c.put_number.ensures.text, append_assoc)

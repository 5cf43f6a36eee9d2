-- `load::token::token_at` meets its contract.
use lib.ListN.{get_or}
use Rattle.serial.proofs.Table.{extra_in}
use Rattle.load.proofs.token.token_at.Goals as goal

pub prefixed-requires : goal.prefixed-requires
prefixed-requires c =
    let b = get_or c.args.f.now c.args.at 0 in
    (c.extra.ensures.1, c.if-f-at.false, rw c.extra.ensures.0 (extra_in b c.if-b-lt128.false c.if-b-ge-NO_PREFIX.false).from)

-- `restores::kept_bytes` meets its contract.
use Rattle.restores.proofs.Saved.{saved_bytes}
use Rattle.restores.proofs.kept_bytes.Goals as goal

pub returns : goal.returns
returns c =
    let s = c.args in
    let r = c.requires in
    saved_bytes s.start s.end s.bytes.now _ c.copy.new.to r.0 r.1 c.copy.ensures.value

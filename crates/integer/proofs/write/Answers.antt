-- `write` meets its contract: the low bytes of the number's 64 bits are those of its residue. Assumes nothing.
use Rattle.std.proofs.Common.{◌≡◌, sym, ap₂, ◌∙◌, arith}
use Rattle.rules.specs.Small.{be}
use Rattle.rules.specs.Integer.{int_bytes}
use Rattle.integer.proofs.Counts.{count_le}
use Rattle.integer.proofs.Shortest.{length_int, shortest-bytes}
use Rattle.integer.proofs.Words.{word_mag, bits_int}
use Rattle.integer.proofs.write.Goals as goal

pub put_be-requires : goal.put_be-requires
put_be-requires g c = omega (arith, c.count-n.ensures, count_le (g.T.Integer.value c.args.x))

pub returns : goal.returns
returns g c =
    let z = g.T.Integer.value c.args.x in
    let n = c.count-n.ensures in
    let b = c.bits.ensures in
    let low : be c.count-n.result c.bits.result ≡ int_bytes z = ap₂ be n b.value ∙ bits_int z b.fits in
    record {
      count = n ∙ sym (length_int z);
      bytes = rw low at c.put_be.ensures;
      shortest = shortest-bytes z (word_mag z b.fits);
      fits = rw n (count_le z);
    }

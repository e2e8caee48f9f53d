-- The shifted word does not wrap, so the bytes are those of the two words.
use Rattle.std.proofs.Common.{◌≡◌, ◌+◌, ◌*◌, ◌%◌, ◌∙◌, ap, arith}
use Rattle.polynomials.specs.Packed.{bytes}
use Rattle.polynomials.specs.laws.Packed.{bytes_words}
use Rattle.monomials.proofs.packed.Goals as goal

pub returns : goal.returns
returns c =
    let whole : c.from.result * 4294967296 % 18446744073709551616 + c.from-2.result ≡ c.args.high * 4294967296 + c.args.low = omega arith in
    (whole, ap (bytes 8) whole ∙ bytes_words c.args.high c.args.low (omega arith))

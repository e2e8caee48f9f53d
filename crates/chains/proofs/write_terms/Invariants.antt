-- The rest of the terms written from here is all of them written at the start.
use Rattle.std.proofs.Common.{◌≡◌, ◌+◌, ◌*◌, ◌-◌, length}
use Rattle.polynomials.specs.Packed.{terms}
use Rattle.rules.specs.Written.{terms_words}
use Rattle.records.specs.Records.{view}
use Rattle.stored.specs.Stored.{poly_at}
use Rattle.chains.proofs.Over.{over}
use Rattle.chains.proofs.Laws.{terms_in}
use Rattle.chains.proofs.write_terms.Given as goal

abbrev pub invariant-loop-i : goal.invariant-loop-i
invariant-loop-i l =
    let v = view l.w in
    let at = l.to + l.i in
    record {
      same : length l.out ≡ length l.fn.out;
      whole : over l.out (4 * at) (terms_words at (terms_in v (l.from + 1 + l.i) (l.n - l.i))) ≡ over l.fn.out (4 * l.to) (terms_words l.to (terms (poly_at v l.from)));
    }

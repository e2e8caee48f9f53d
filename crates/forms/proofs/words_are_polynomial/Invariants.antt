-- The test of the words that are left is the test of all.
use Rattle.std.proofs.Common.{◌≡◌, length}
use Rattle.polynomials.specs.Packed.{terms}
use Rattle.polynomials.specs.Working.{is_canonical}
use Rattle.forms.specs.Words.{paired, words_are_held}
use Rattle.forms.proofs.words_are_polynomial.Given as goal

abbrev pub invariant-loop-rest : goal.invariant-loop-rest
invariant-loop-rest l = is_canonical l.p (terms (paired l.rest)) ≡ words_are_held l.p l.words

abbrev pub decreases-loop-rest : goal.decreases-loop-rest
decreases-loop-rest l = length l.rest

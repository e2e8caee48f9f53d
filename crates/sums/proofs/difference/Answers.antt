-- The multiple by p - 1 and the monomial 1, tested.
use Rattle.polynomials.specs.Bounds.{bounded_difference}
use Rattle.sums.proofs.MergeLaws.{all_fit_zero, difference_written}
use Rattle.sums.proofs.difference.Goals as goal

pub add_multiple-requires-clause-g_canonical : goal.add_multiple-requires-clause-g_canonical
add_multiple-requires-clause-g_canonical c = (c.requires.holds_2.canonical, all_fit_zero c.args.g.now)

pub returns : goal.returns
unfolding bounded_difference
returns c =
    let a = c.args in
    let n = c.add_multiple in
    c.within.ensures _ _ (difference_written a.p n.result a.f.now a.g.now n.new.out (rw c.get.ensures.is at n.ensures))

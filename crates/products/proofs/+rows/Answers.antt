-- A single row is the product, else the rows are gathered: in the lent buffers, in longer ones, in the longest.
use Rattle.std.proofs.Common.{◌∙◌, refl, arith}
use Rattle.polynomials.specs.Packed.{terms}
use Rattle.polynomials.specs.declared.Term.{Term as Packed}
use Rattle.polynomials.specs.laws.Product.{degrees_over_comm}
use Rattle.gathering.proofs.GatherLaws.{factors, row_residue, row_within}
use Rattle.products.proofs.ProductLaws.{exchanged, lent_exchanged, single_row}
use Rattle.products.proofs.+rows.Goals as goal

-- Past the end of a slice.
abbrev none : Packed
none = record { coefficient = 0; monomial = 0 }

pub rows-requires : goal.rows-requires
rows-requires t c =
    let q = c.requires in (
      omega (arith, c.decreases, c.if-g-f.true),
      (
        (q.holds_2.0, q.g_nonzero),
        ((q.holds.0, degrees_over_comm 255 _ _ ∙ q.holds_2.1), (q.holds.1, (lent_exchanged _ _ _ q.g_in_bounds.0, lent_exchanged _ _ _ q.g_in_bounds.1))),
      ),
    )

pub returns-then-g-f : goal.returns-then-g-f
returns-then-g-f t c = let q = c.requires in
    exchanged _ (factors q.holds q.holds_2).positive _ _ _ _ c.rows.ensures

pub add_multiple-requires-clause-c_lt_p : goal.add_multiple-requires-clause-c_lt_p
add_multiple-requires-clause-c_lt_p t c =
    let q = c.requires in row_residue (factors q.holds q.holds_2) 0 none _ q.holds.1 refl

pub add_multiple-requires-clause-g_canonical : goal.add_multiple-requires-clause-g_canonical
add_multiple-requires-clause-g_canonical t c =
    let q = c.requires in (q.holds_2.0.canonical, row_within (factors q.holds q.holds_2) 0 none _ q.holds.1 refl)

pub add_multiple-requires-clause-f_canonical : goal.add_multiple-requires-clause-f_canonical
unfolding terms
add_multiple-requires-clause-f_canonical t c = tt

pub returns-in-len1 : goal.returns-in-len1
returns-in-len1 t c =
    let q = c.requires in
    single_row (factors q.holds q.holds_2) none c.add_multiple.new.out c.add_multiple.result
    (omega (arith, c.in-len1.len_at_least, c.in-len1.len_below)) c.add_multiple.ensures

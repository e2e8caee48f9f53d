-- A zero factor, the test of degrees, then the rows of the shorter factor.
use Rattle.std.proofs.Common.{rules}
use Rattle.products.proofs.ProductLaws.{zero_left, zero_right, over_degree, by_rows}
use Rattle.products.proofs.product.Goals as goal
use Rattle.products.proofs.product.Goals.{then-is_empty-via-then-is_empty, then-is_empty-via-else-is_empty+then-is_empty-2}

pub returns-then-is_empty : goal.returns-then-is_empty
returns-then-is_empty c =
    let a = c.args in
    elim c.then-is_empty.branch [
      | then-is_empty-via-then-is_empty w ↦ let e = c.is_empty.ensures in let t = w.if-is_empty.true in zero_left a.p a.f.now a.g.now a.x.now (search rules)
      | then-is_empty-via-else-is_empty+then-is_empty-2 w ↦
          let e = w.is_empty-else-is_empty.ensures in let t = w.if-is_empty-2.true in zero_right a.p a.f.now a.g.now a.x.now (search rules)
    ]

pub returns-then-degrees_over : goal.returns-then-degrees_over
returns-then-degrees_over c =
    let a = c.args in
    let e = c.if-is_empty.ensures in
    let h = c.if-is_empty-2.ensures in
    over_degree a.p a.f.now a.g.now (search rules) (search rules) a.x.now (search rules)

pub returns : goal.returns
returns c =
    let a = c.args in
    let e = c.if-is_empty.ensures in
    let h = c.if-is_empty-2.ensures in
    by_rows a.p a.f.now a.g.now (search rules) (search rules) (search rules) c.rows.result c.rows.new.x c.rows.ensures

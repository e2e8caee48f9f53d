-- The product that `product` answered holds, and finds room beside a.
use Rattle.std.proofs.Common.{◌*◌, length, take, ap, arith, length-take-le}
use Rattle.polynomials.specs.Packed.{terms}
use Rattle.polynomials.specs.laws.Answers.{product_answered}
use Rattle.division.proofs.RoundLaws.{product_difference_lent, product_count}
use Rattle.division.proofs.subtract_product.Goals as goal

pub difference-requires-clause-holds_2 : goal.difference-requires-clause-holds_2
difference-requires-clause-holds_2 c =
    let a = c.args in
    (product_answered a.p (omega (arith, c.well_formed.0)) c.in_ok-b.b _ c.product.new.x c.in_ok-b.was (terms (take a.l a.r.now)) (terms a.t.now) c.product.ensures).holds

pub difference-requires-clause-g_in_bounds : goal.difference-requires-clause-g_in_bounds
difference-requires-clause-g_in_bounds c =
    let a = c.args in
    let q = c.requires in
    let b = c.in_ok-b.b in
    let y = c.product.new.x in
    let A = product_answered a.p (omega (arith, c.well_formed.0)) b _ y c.in_ok-b.was (terms (take a.l a.r.now)) (terms a.t.now) c.product.ensures in
    product_difference_lent _ _ a.l _ _ q.a_holds.few A.holds.few
    (omega (arith, product_count a.p (take a.l a.r.now) a.t.now b y A, ap (λ l. l * length a.t.now) (length-take-le a.l a.r.now q.l_within), length-take-le b y A.inside)) q.r_lent

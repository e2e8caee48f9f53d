-- What the three calls answered is I×R, the factor L×v(k+1)^(e−d), and the difference.
use Rattle.std.proofs.Common.{◌*◌, length, take, ap, arith, length-take-le}
use Rattle.std.proofs.lemmas.Result.{err_from_is_err_and}
use Rattle.polynomials.specs.Packed.{terms}
use Rattle.polynomials.specs.laws.Answers.{product_answered, written_holds}
use Rattle.division.proofs.PivotLaws.{modulus_positive}
use Rattle.division.proofs.RoundLaws.{difference_lent, product_count, canonical_factor, round_formed, round_passed}
use Rattle.division.proofs.round.Goals as goal

pub returns-in_err-a : goal.returns-in_err-a
returns-in_err-a c =
    let a = c.args in
    let e = err_from_is_err_and c.from_residual.result c.from_residual.ensures.1 in
    rw (e.1, e.2)
    (round_passed a.pivot.now (terms (take a.n a.r.now)) a.r.now _ _ c.times_initial.new.x c.in_err-a.was c.times_initial.ensures)

pub subtract_product-requires-clause-factor : goal.subtract_product-requires-clause-factor
subtract_product-requires-clause-factor c =
    let a = c.args in
    let v = a.pivot.now in
    let R = c.requires.dividend.0 in
    written_holds v.p _ c.factor-l.result c.factor-l.new.r c.factor-l.ensures.written
    (omega (arith, c.factor-l.ensures.count, R.few, length-take-le a.n a.r.now c.requires.n_within)) (canonical_factor v.p v.k v.d (take a.n a.r.now) R.canonical)

pub subtract_product-requires-clause-a_holds : goal.subtract_product-requires-clause-a_holds
subtract_product-requires-clause-a_holds c =
    let a = c.args in
    let v = a.pivot.now in
    (product_answered v.p (modulus_positive v) c.in_ok-a.a _ c.times_initial.new.x c.in_ok-a.was (terms v.initial.now) (terms (take a.n a.r.now)) c.times_initial.ensures).holds

pub subtract_product-requires-clause-r_lent : goal.subtract_product-requires-clause-r_lent
subtract_product-requires-clause-r_lent c =
    let a = c.args in
    let v = a.pivot.now in
    let m = c.in_ok-a.a in
    let x = c.times_initial.new.x in
    let A = product_answered v.p (modulus_positive v) m _ x c.in_ok-a.was (terms v.initial.now) (terms (take a.n a.r.now)) c.times_initial.ensures in
    difference_lent a.n (length v.initial.now) (length v.divisor.now) c.factor-l.result c.factor-l.ensures.count _ _
    (omega (arith, product_count v.p v.initial.now (take a.n a.r.now) m x A, ap (λ n. length v.initial.now * n) (length-take-le a.n a.r.now c.requires.n_within), length-take-le m x A.inside))
    (omega (arith, c.requires.r_lent, c.factor-l.auto.r))

pub returns : goal.returns
returns c =
    let a = c.args in
    let v = a.pivot.now in
    let R = take a.n a.r.now in
    let m = c.in_ok-a.a in
    let x = c.times_initial.new.x in
    let A = product_answered v.p (modulus_positive v) m _ x c.in_ok-a.was (terms v.initial.now) (terms R) c.times_initial.ensures in
    round_formed v (terms R) c.subtract_product.new.r m x c.subtract_product.result _ A
    c.factor-l.ensures.written.holds c.subtract_product.ensures

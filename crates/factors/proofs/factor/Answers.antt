-- Each term of the highest power is written divided; no read of a term follows its overwriting.
use Rattle.std.proofs.Common.{◌≡◌, take, get_or, sym, ◌∙◌, subst, arith}
use Rattle.terms.proofs.PartLaws.{blank, power_of, power_within}
use Rattle.factors.proofs.FactorLaws.{Divided, divided_none, divided_next, divided_same, divided_as, divided_all, power_shifted}
use Rattle.factors.proofs.factor.Goals as goal
use Rattle.factors.proofs.factor.Goals.{then-exponent-e, else-exponent-e}

pub loop-i-init : goal.loop-i-init
loop-i-init c = divided_none c.args.k c.args.d c.args.e c.args.r.now

pub overflow_sub-r : goal.overflow_sub-r
overflow_sub-r c =
    let k = c.args.k in
    let t = get_or c.loop-i.r c.loop-i.i blank in
    let q : power_of k t ≡ c.args.e = sym c.exponent.ensures ∙ c.if-exponent-e.true in
    let top = power_shifted k c.get.result c.args.d c.args.e (take c.args.n c.args.r.now) c.get.ensures.is c.get.ensures.below c.requires.divisor.1 c.requires.highest in
    power_within k t.monomial c.args.d _ c.get.ensures.below (omega arith) top

pub loop-i-preserved : goal.loop-i-preserved
loop-i-preserved c =
    let k = c.args.k in
    let d = c.args.d in
    let e = c.args.e in
    let s = c.args.r.now in
    let l = c.loop-i in
    let small = c.get.ensures.below in
    let top = power_shifted k c.get.result d e (take c.args.n s) c.get.ensures.is small c.requires.divisor.1 c.requires.highest in
    elim c.if-exponent-e.branch [
      | then-exponent-e w ↦ divided_as w.r-is w.count-is
          (divided_next k d e s small c.requires.divisor.1 _ top l.r l.i l.count (omega arith) l.invariant (sym c.exponent.ensures ∙ w.if-exponent-e.true))
      | else-exponent-e w ↦ divided_as w.r-is w.count-is
          (divided_same k d e s small c.requires.divisor.1 _ top l.r l.i l.count (omega arith) l.invariant (λ q. w.if-exponent-e.false (c.exponent.ensures ∙ q)))
    ]

pub returns-clause-written : goal.returns-clause-written
returns-clause-written c =
    let l = c.loop-i in
    let all : l.i ≡ c.args.n = omega arith in
    divided_all c.args.k c.args.d c.args.e c.args.r.now l.r c.args.n l.count (subst (λ i. Divided c.args.k c.args.d c.args.e c.args.r.now l.r i l.count) all l.invariant) c.requires.n_bound c.requires.highest

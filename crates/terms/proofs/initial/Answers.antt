-- Each term in front is written with the highest power taken out.
use Rattle.std.proofs.Common.{◌≡◌, ◌+◌, ◌*◌, ◌%◌, ◌^◌, ◌<◌, refl, ◌∙◌, ap, subst, set, take, get_or, arith}
use Rattle.std.proofs.lemmas.List.{get_or-take, length-take-le}
use Rattle.residues.specs.Each.{Each}
use Rattle.residues.specs.laws.Each.{each_member}
use Rattle.polynomials.specs.declared.Term.{Term as Packed}
use Rattle.polynomials.specs.Division.{degree, coefficient}
use Rattle.polynomials.specs.Packed.{terms}
use Rattle.terms.proofs.PartLaws.{led_some, top_shifted, blank, power_of, all_at, power_within, lowered, initial_next, initial_written, lowered_in_words}
use Rattle.terms.proofs.initial.Goals as goal

pub bounds-f-0 : goal.bounds-f-0
bounds-f-0 c = led_some c.args.k c.args.f.now c.requires.canonical

pub loop-i-init : goal.loop-i-init
unfolding terms coefficient
loop-i-init c = record { is = refl; in_words = λ u. tt }

pub overflow_sub-out : goal.overflow_sub-out
overflow_sub-out c =
    let k = c.args.k in
    let s = c.args.f.now in
    let L = c.requires.canonical in
    let S = c.initial_terms-n.ensures in
    let i = c.loop-i.i in
    let front = take c.initial_terms-n.result s in
    let d = degree k (terms s) in
    let q : power_of k (get_or front i blank) ≡ d = all_at (λ e. get_or e k 0 ≡ d) front i blank (omega arith) S.front in
    rw c.get.ensures.is (power_within k (get_or front i blank).monomial d _ c.get.ensures.below (omega arith) (top_shifted k s L c.exponent.result c.exponent.ensures))

pub loop-i-preserved : goal.loop-i-preserved
loop-i-preserved c =
    let k = c.args.k in
    let s = c.args.f.now in
    let L = c.requires.canonical in
    let S = c.initial_terms-n.ensures in
    let n = c.initial_terms-n.result in
    let i = c.loop-i.i in
    let d = degree k (terms s) in
    let below : i < n = omega (arith, length-take-le n s S.within) in
    let same : get_or (take n s) i blank ≡ get_or s i blank = get_or-take n s i blank below in
    let q : power_of k (get_or (take n s) i blank) ≡ d = all_at (λ e. get_or e k 0 ≡ d) (take n s) i blank (omega arith) S.front in
    record {
      is = rw c.get.ensures.is (
          ap (λ t. terms (take (i + 1) (set c.loop-i.out i (lowered t (c.exponent.result * 2 ^ (8 * k) % 18446744073709551616))))) same
          ∙ initial_next k s i blank (omega arith) c.loop-i.out i _ d c.get.ensures.below (omega arith) (top_shifted k s L c.exponent.result c.exponent.ensures)
          (subst (λ t. power_of k t ≡ d) same q) c.loop-i.invariant.is);
      in_words = λ u.
          let word = each_member (λ (t : Packed). t.monomial < 2 ^ 64) i s blank (omega arith) u in
          lowered_in_words c.loop-i.out i _ _ (omega arith) (omega (arith, word, ap (λ (t : Packed). t.monomial) same)) (c.loop-i.invariant.in_words u);
    }

pub returns : goal.returns
returns c =
    let k = c.args.k in
    let s = c.args.f.now in
    let S = c.initial_terms-n.ensures in
    let n = c.initial_terms-n.result in
    let all : c.loop-i.i ≡ n = omega (arith, length-take-le n s S.within) in
    record {
      written =
          initial_written k s c.requires.canonical n c.loop-i.out S (omega arith)
          (subst (λ j. terms (take j c.loop-i.out) ≡ coefficient k (degree k (terms s)) (terms (take j s))) all c.loop-i.invariant.is);
      in_words = λ u. subst (λ j. Each (λ (t : Packed). t.monomial < 2 ^ 64) (take j c.loop-i.out)) all (c.loop-i.invariant.in_words u);
    }

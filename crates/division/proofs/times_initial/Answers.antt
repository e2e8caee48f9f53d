-- Where the initial is 1, f is copied.
use Rattle.std.proofs.Common.{◌≡◌, sym, ◌∙◌, ap, ap₂, subst, arith, true, ◌&&◌, List, [], ◌∷◌, ◌++◌, eqb, length, drop, length-append, Ok}
use Rattle.std.proofs.lemmas.Bool.{false≢true}
use Rattle.std.proofs.lemmas.Bool.Decides.{nat_tests}
use Rattle.std.proofs.lemmas.List.{take_at}
use Rattle.std.specs.Cmp.Lexicographic.{pointwise}
use Rattle.polynomials.specs.Bounds.{standard, bounded_product}
use Rattle.polynomials.specs.Packed.{terms}
use Rattle.polynomials.specs.Working.{Forms}
use Rattle.polynomials.specs.declared.Term.{Term as Packed}
use Rattle.division.proofs.RoundLaws.{one, copy_forms}
use Rattle.division.proofs.times_initial.Goals as goal

-- What `==` of a slice and 1 says.
equal_one : (i : List Packed) → pointwise (λ x y. eqb x.coefficient y.coefficient && eqb x.monomial y.monomial) i (one ∷ []) ≡ true → i ≡ one ∷ []
equal_one [] h = absurd (false≢true h)
equal_one (x ∷ []) h =
    let c : x.coefficient ≡ 1 = grind (arith, nat_tests) in
    let m : x.monomial ≡ 0 = grind (arith, nat_tests) in
    ap₂ (λ c m. record { coefficient = c; monomial = m } ∷ []) c m
equal_one (x ∷ (y ∷ i)) h = absurd (grind (arith, nat_tests))

pub returns-then-eq : goal.returns-then-eq
returns-then-eq c =
    let p = c.args.p in
    let i = c.args.i.now in
    let f = c.args.f.now in
    let x = c.args.x.now in
    let copy = c.copy_from_slice in
    let is_one = equal_one i (ap (pointwise (λ x y. eqb x.coefficient y.coefficient && eqb x.monomial y.monomial) i) (sym c.as_slice.ensures) ∙ sym c.eq.ensures ∙ c.if-eq.true) in
    subst (λ i. Forms (bounded_product standard p (terms i) (terms f)) (Ok (length f)) (copy.new.self ++ drop (length f) x)) (sym is_one)
    (copy_forms p (omega (arith, c.well_formed.0)) f (copy.new.self ++ drop (length f) x) c.requires.f_holds
    (omega (arith, length-append copy.new.self (drop (length f) x), ap length copy.ensures.after))
    (take_at copy.new.self (drop (length f) x) (length f) (ap length copy.ensures.after) ∙ copy.ensures.after))

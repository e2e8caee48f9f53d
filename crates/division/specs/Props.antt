-- A polynomial is canonical in one way at most, so that a struct may keep the fact.
use Rattle.std.specs.Prelude.{[], ◌∷◌, ℕ}
use Rattle.std.proofs.Props.{props}
use Rattle.polynomials.specs.Poly.{Exponents, Poly}
use Rattle.polynomials.specs.Canonical.{Canonical, Under}

pub Under-prop : (e : Exponents) (f : Poly) → IsProp (Under e f)
Under-prop e [] = hlevel props
Under-prop e (t ∷ f) = hlevel (props, Under-prop e f)

pub Canonical-prop : (p : ℕ) (f : Poly) → IsProp (Canonical p f)
Canonical-prop p [] = hlevel props
Canonical-prop p (t ∷ f) = hlevel (props, Under-prop t.exps f, Canonical-prop p f)

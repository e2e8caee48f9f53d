-- Slices are compared term by term, as `same` compares them.
use Rattle.std.proofs.Common.{◌≡◌, refl, ap, ◌∙◌, Bool, ◌&&◌, List, [], ◌∷◌, eqb}
use Rattle.std.proofs.Math.Bool.{and_assoc}
use Rattle.std.specs.Cmp.Lexicographic.{pointwise}
use Rattle.polynomials.specs.declared.Term.{Term as Packed}
use Rattle.stored.specs.Stored.{same}
use Rattle.branches.specs.Words.{is_one}
use Rattle.branches.proofs.is_one.Goals as goal

pointwise_same : (f g : List Packed) → pointwise (λ x y. eqb x.coefficient y.coefficient && eqb x.monomial y.monomial) f g ≡ same f g
unfolding same
pointwise_same [] [] = refl
pointwise_same [] (y ∷ g) = refl
pointwise_same (x ∷ f) [] = refl
pointwise_same (x ∷ f) (y ∷ g) =
    and_assoc (eqb x.coefficient y.coefficient) (eqb x.monomial y.monomial) (pointwise (λ x y. eqb x.coefficient y.coefficient && eqb x.monomial y.monomial) f g)
    ∙ ap (λ (b : Bool). eqb x.coefficient y.coefficient && (eqb x.monomial y.monomial && b)) (pointwise_same f g)

pub returns : goal.returns
unfolding is_one
returns c = c.eq.ensures ∙ pointwise_same c.args.f.now c.as_slice.result.now ∙ ap (same c.args.f.now) c.as_slice.ensures

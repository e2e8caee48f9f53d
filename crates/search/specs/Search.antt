-- What is searched for among polynomials: the pivot, and the other polynomial of rule 4.
use Rattle.std.specs.Prelude.{List, [], ◌∷◌, ℕ, Option, None, Some}
use Rattle.polynomials.specs.Poly.{Poly}
use Rattle.rules.specs.Branch.{Found, none, found, pivot}

-- The place in P of the other polynomial of rule 4.
abbrev pub other_place : Found → Option ℕ
other_place none = None
other_place (found c) = Some c.place

-- The place of the pivot in v(k+1) among some polynomials.
abbrev pub pivot_place : ℕ → List Poly → ℕ
pivot_place k [] = 0
pivot_place k (f ∷ fs) = (pivot k f fs).place

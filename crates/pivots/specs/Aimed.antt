-- What rules 3 to 5 come to.
use Rattle.std.specs.Prelude.{List, ℕ, ◌-◌, length, take, drop}
use Rattle.polynomials.specs.declared.Term.{Term as Packed}
use Rattle.rules.specs.Branch.{Found, none, found}
use Rattle.branches.specs.Area.{Stored, closed}
use Rattle.pivots.specs.declared.Division.{Division}
use Rattle.members.specs.declared.Dividends.TheVariants.{InP, InQ}

-- Where rule 3 forms the rest of the pivot t, made monic: the first terms of r, as many as t has behind its initial i.
abbrev pub rest_terms : List Packed → List Packed → List Packed → List Packed
rest_terms t i r = take (length t - length i) r

-- The terms of r behind it.
abbrev pub behind_rest : List Packed → List Packed → List Packed → List Packed
behind_rest t i r = drop (length t - length i) r

-- What rule 4 or 5 leaves to be divided, by the other polynomial that the pivot's variable leads; and the branch then.
abbrev pub division_of : Found → ℕ → ℕ → ℕ → ℕ → Stored → Division
division_of none k d n m b = record { k = k; degree = d; pivot = n; initial = m; dividends = InQ (length b.Q) }
division_of (found c) k d n m b = record { k = k; degree = d; pivot = n; initial = m; dividends = InP c.place }

abbrev pub aimed : Found → ℕ → Stored → Stored
aimed none i b = closed i b
aimed (found c) i b = b

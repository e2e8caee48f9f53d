-- What is asked of stored polynomials before their heads and first terms are looked at.
use Rattle.std.specs.Prelude.{List, ℕ}
use Rattle.residues.specs.Each.{Each}
use Rattle.polynomials.specs.Working.{Holds}
use Rattle.polynomials.specs.declared.Term.{Term as Packed}

-- A stored polynomial is canonical modulo p, with at most 256 terms.
abbrev pub AllHold : ℕ → List (List Packed) → Type 0
AllHold p ss = Each (Holds p) ss

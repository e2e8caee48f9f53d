-- The terms that are passed are scaled, and their monomials are words.
use Rattle.std.proofs.Common.{◌≡◌, ◌++◌, ◌<◌, ◌^◌, take, drop}
use Rattle.residues.specs.Each.{Each}
use Rattle.std.specs.Prelude.{map}
use Rattle.scaling.proofs.ScaledLaws.{scale}
use Rattle.scaling.proofs.monic.Given as goal

abbrev pub invariant-loop-t : goal.invariant-loop-t
invariant-loop-t l =
    let i = l.t-index in
    let f = l.initial.f in (l.f ≡ map (scale l.p l.c) (take i f) ++ drop i f) × Each (λ t. t.monomial < 2 ^ 64) (take i f)

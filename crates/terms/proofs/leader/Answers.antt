-- The leading variable stands in the first term.
use Rattle.std.proofs.Common.{sym, ◌∙◌, ap, arith}
use Rattle.polynomials.specs.Division.{highest}
use Rattle.polynomials.specs.Packed.{bytes}
use Rattle.terms.proofs.PartLaws.{leader_none, leader_packed}
use Rattle.terms.proofs.leader.Goals as goal

pub returns-in-Some : goal.returns-in-Some
returns-in-Some c =
    let first = c.in-Some.ensures.item in
    c.highest.ensures ∙ ap (λ t. highest (bytes 8 t.monomial)) first.1
    ∙ sym (leader_packed c.requires.canonical.0 c.args.f.now c.in-Some.term.now c.requires.canonical.1 first.3.0)

pub returns-in-None : goal.returns-in-None
returns-in-None c = let none = c.in-None.ensures.item in sym (leader_none c.args.f.now (omega (arith, none.3)))

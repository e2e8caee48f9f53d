-- The terms loaded are made monic in place.
use Rattle.std.proofs.Common.{arith}
use Rattle.tables.specs.laws.Accepted.{readable_numbers}
use Rattle.loading.proofs.MonicLaws.{loaded_monic}
use Rattle.loading.proofs.load_monic.Goals as goal

pub new-requires-clause-positive : goal.new-requires-clause-positive
new-requires-clause-positive c = omega (arith, c.from.ensures, (readable_numbers _ _ _ c.args.table.readable).prime.two≤)

pub new-requires-clause-below : goal.new-requires-clause-below
new-requires-clause-below c = omega (arith, c.from.ensures, (readable_numbers _ _ _ c.args.table.readable).below)

pub monic-requires-clause-prime : goal.monic-requires-clause-prime
monic-requires-clause-prime c = rw (c.new.ensures, c.from.ensures) (readable_numbers _ _ _ c.args.table.readable).prime

pub returns : goal.returns
returns c f e =
    let t = c.args.table in
    let m = c.load_head-m in
    let x = m.ensures f e in
    loaded_monic t.words.now t.modulus t.variables c.args.head f t.readable c.requires.inside e m.result m.new.out c.monic.new.f x.0 x.1
    c.monic.auto.f (rw (c.new.ensures, c.from.ensures) at c.monic.ensures.is) c.monic.ensures.in_words

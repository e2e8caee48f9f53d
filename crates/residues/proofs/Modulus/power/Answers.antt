use Rattle.std.proofs.Common.{◌≡◌, ◌*◌, ◌%◌, ◌^◌, sym, ◌∙◌, ap, mod-lt, arith}
use Rattle.residues.specs.Residue.{product}
use Rattle.residues.specs.laws.Power.{pow_one, Halved, halved_even, halved_odd}
use Rattle.residues.proofs.Modulus.power.Goals as goal
use Rattle.residues.proofs.Modulus.power.Goals.{then-k-eq1, else-k-eq1}

pub loop-k-preserved : goal.loop-k-preserved
unfolding product
loop-k-preserved c =
    let p = c.args.self in
    let loop = c.loop-k in
    let halved : Halved p loop.r loop.b loop.k c.if-k-eq1.r = elim c.if-k-eq1.branch [
      | then-k-eq1 w ↦ halved_odd p loop.r loop.b loop.k _ (omega arith) (omega arith) (w.r-is ∙ w.multiply-r.ensures)
      | else-k-eq1 w ↦ halved_even p loop.r loop.b loop.k _ (omega arith) loop.invariant.1 w.r-is
    ] in
    (omega arith, halved.0, rw c.multiply-b.ensures (mod-lt _ (omega arith)), rw c.multiply-b.ensures (halved.1 ∙ loop.invariant.3))

pub returns : goal.returns
unfolding product
returns c =
    let p = c.args.self in
    let loop = c.loop-k in
    let one : loop.k ≡ 1 = omega arith in
    c.multiply.ensures ∙ ap (λ z. loop.r * z % p) (sym (ap (λ z. loop.b ^ z) one ∙ pow_one loop.b)) ∙ loop.invariant.3

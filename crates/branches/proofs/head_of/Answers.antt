-- A member of P lies behind those before it; one of Q behind P and those before it.
use Rattle.std.proofs.Common.{◌∙◌, arith}
use Rattle.branches.proofs.OpenLaws.{skip_p, skip_q, skip_p_inside, end_p_inside, skip_q_inside}
use Rattle.branches.proofs.head_of.Goals as goal

pub skip-requires : goal.skip-requires
skip-requires c =
    let o = c.requires.opened in
    let has = rw c.in-P.is at (c.requires.when_open o.0 o.1 o.2 o.3) in
    omega (arith, skip_p_inside o.3 (c.open_branch-b.ensures o.0 o.1 o.2 o.3) c.in-P.i (omega (arith, has)))

pub skip-requires-in-Q : goal.skip-requires-in-Q
skip-requires-in-Q c =
    let o = c.requires.opened in omega (arith, end_p_inside o.3 (c.open_branch-b.ensures o.0 o.1 o.2 o.3))

pub skip-requires-in-Q-2 : goal.skip-requires-in-Q-2
skip-requires-in-Q-2 c =
    let o = c.requires.opened in
    let has = rw c.in-Q.is at (c.requires.when_open o.0 o.1 o.2 o.3) in
    omega (arith, skip_q_inside o.3 (c.open_branch-b.ensures o.0 o.1 o.2 o.3) c.skip-in-Q.ensures c.in-Q.i (omega (arith, has)))

pub returns-in-P : goal.returns-in-P
returns-in-P c b bs ss H =
    let has = rw c.in-P.is at (c.requires.when_open b bs ss H) in
    rw c.in-P.is (c.skip.ensures ∙ skip_p H (c.open_branch-b.ensures b bs ss H) c.in-P.i (omega (arith, has)))

pub returns-in-Q : goal.returns-in-Q
returns-in-Q c b bs ss H =
    let has = rw c.in-Q.is at (c.requires.when_open b bs ss H) in
    rw c.in-Q.is (c.skip-in-Q-2.ensures ∙ skip_q H (c.open_branch-b.ensures b bs ss H) c.skip-in-Q.ensures c.in-Q.i (omega (arith, has)))

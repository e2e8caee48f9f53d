-- Q starts where `skip` ends, and the branch's own record counts its members.
use Rattle.std.proofs.Common.{ap, ◌∙◌, arith}
use Rattle.stored.specs.Stored.{member}
use Rattle.branches.proofs.OpenLaws.{end_p_inside, end_q_inside, all_q}
use Rattle.branches.proofs.q_contains.Goals as goal

pub skip-from-requires : goal.skip-from-requires
skip-from-requires c =
    let o = c.requires.opened in omega (arith, end_p_inside o.3 (c.open_branch-b.ensures o.0 o.1 o.2 o.3))

pub contains-requires-clause-k_bound : goal.contains-requires-clause-k_bound
contains-requires-clause-k_bound c =
    let o = c.requires.opened in omega (arith, end_q_inside o.3 (c.open_branch-b.ensures o.0 o.1 o.2 o.3) c.skip-from.ensures)

pub returns : goal.returns
returns c b bs ss H =
    c.contains.ensures ∙ ap (member c.args.f.now) (all_q H (c.open_branch-b.ensures b bs ss H) c.skip-from.ensures)

-- The starred jobs hold, by computation.
use Rattle.std.specs.Prelude.{refl}
use Rattle.residues.specs.Each.{Each}
use Rattle.residues.specs.Residue.{inverse, inverse_from}
use Rattle.polynomials.specs.Poly.{order, join, keep, insert, add_multiple, difference, product, monic, equal}
use Rattle.polynomials.specs.Division.{degree, largest, degrees, highest, leader, coefficient, without, initial, rest, pure_power, shift, factor}
use Rattle.polynomials.specs.Value.{monomial_valueℕ, valueℕ, value_modulo}
use Rattle.polynomials.specs.Bounds.{over, some_over, degrees_over, tested, bounded_product, bounded_difference, bounded_round, bounded_remainder}
use Rattle.tables.specs.Solve.{is_root, all_zero, none_zero, solves, first_solved}
use Rattle.rules.specs.Branch.{member, is_zero, all_zeros, is_one, put_p, put_q, put_all, some_one, some_zero, highest_leader, led_by, better, pivot, remove, earliest, other}
use Rattle.rules.specs.Room.{polynomials_size, branch_size, branches_size, systems_size, live}
use Rattle.rules.specs.Rule.{rule_with, rule_of}
use Rattle.rules.specs.Step.{within_room, remainder_by, replace, apply, step}
use Rattle.rules.specs.Run.{run, first_branch, start, run_of}
use Rattle.rules.specs.Jobs.{Holds, jobs}

pub jobs_hold : Each Holds jobs
unfolding inverse inverse_from
    order join keep insert add_multiple difference product monic equal
    degree largest degrees highest leader coefficient without initial rest pure_power shift factor
    over some_over degrees_over tested bounded_product bounded_difference bounded_round bounded_remainder
    monomial_valueℕ valueℕ value_modulo is_root all_zero none_zero solves first_solved
    member is_zero all_zeros is_one put_p put_q put_all some_one some_zero highest_leader led_by better pivot remove earliest other
    polynomials_size branch_size branches_size systems_size live
    rule_with rule_of within_room remainder_by replace apply step run first_branch start run_of
jobs_hold =
    ((refl, tt), ((refl, tt), ((refl, tt), ((refl, tt), ((refl, tt), ((refl, tt), ((refl, tt), ((refl, tt), ((refl, tt), ((refl, (refl, (refl, tt))), tt))))))))))

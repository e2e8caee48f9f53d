-- The proof of the claim of specs/Promise, `promise`; and `promise_in_fields`.
use Rattle.std.specs.Prelude.{◌≡◌, ◌≢◌, ◌↔◌, true, false, List, ℕ, ◌*◌, ◌≤◌, length, take, drop}
use Rattle.std.proofs.Common.{sym, ◌∙◌, ap, subst, arith, length-append, length-drop}
use Rattle.std.proofs.Math.Seq.{take-append_seam, drop-append_seam}
use Rattle.residues.specs.laws.Each.{each_map}
use Rattle.residues.specs.Field.{Field, Contains}
use Rattle.tables.specs.Read.{good, Input, System, read_table, read_list}
use Rattle.tables.specs.Solve.{solves, first_solved, try_input, try_systems}
use Rattle.tables.specs.Solved.{PointOf}
use Rattle.tables.specs.laws.Solved.{solves_is, place_is, none_is, table_answers, list_answers}
use Rattle.rules.specs.Written.{list_records}
use Rattle.rules.specs.Eliminate.{limits_of, listed, steps_of, eliminated, output_after}
use Rattle.rules.proofs.Claims.{zero_relation, initials, yes_with_place, initials_modulo, steps_within}
use Rattle.rules.proofs.laws.Lengths.{length_list}
use Rattle.rules.proofs.laws.ReadAgain.{read_again}
use Rattle.rules.proofs.laws.WrittenAgain.{Delivered, listed_delivered, listed_writable, accepted_proper}
use Rattle.rules.proofs.laws.Promised.{good_iff, place_some, no_zero}
use Rattle.rules.specs.Promise.{left_in_output, own_records, ListPromise, PointPromise, Promise, FieldPromise}

module _ (table work output : List ℕ) (limit steps : ℕ) (ss : List System) (words : List ℕ) (e : eliminated table (length work) (length output) limit ≡ listed steps ss words) where
  abbrev outcome : Delivered table (length work) (length output) limit steps ss words
  outcome = listed_delivered table (length work) (length output) limit steps ss words e

  abbrev t : Input
  t = outcome.input

  whole : length words ≡ 4 * list_records ss
  whole = ap length outcome.written ∙ length_list (record { modulus = t.modulus; variables = t.variables; systems = ss })

  left : left_in_output table work output limit ≡ output_after (listed steps ss words) output
  left = ap (λ o. output_after o output) e

  own : own_records table work output limit ss ≡ words
  own =
      ap (take (4 * list_records ss)) left
      ∙ ap (λ (n : ℕ). take n (output_after (listed steps ss words) output)) (sym whole)
      ∙ take-append_seam words _

  fits : length words ≤ length output
  fits = omega (arith, whole, outcome.fits)

  read_back : read_list (own_records table work output limit ss) ≡ good (record { modulus = t.modulus; variables = t.variables; systems = ss })
  read_back = ap read_list (own ∙ outcome.written) ∙ read_again _ (listed_writable table (length work) limit t steps ss outcome.accepted outcome.ended)

  list_promise : ListPromise table work output limit steps ss words t
  list_promise =
      record {
        by_the_rules = outcome.ended;
        within_limit = subst (λ o. steps_of o ≤ limit) e (steps_within table (length work) (length output) limit);
        records = whole;
        fits = fits;
        stands = own;
        others = ap (drop (length words)) left ∙ drop-append_seam words (drop (length words) output);
        same_length = ap length left ∙ omega (arith, fits, length-append words (drop (length words) output), length-drop (length words) output);
        read_back = read_back;
        rising = (listed_writable table (length work) limit t steps ss outcome.accepted outcome.ended).admissible.rising;
      }

  module _ (x : List ℕ) (h : PointOf t.modulus t.variables x) where
    abbrev p : ℕ
    p = t.modulus

    abbrev written : List ℕ
    written = own_records table work output limit ss

    answers : try_input table x ≡ good (solves p x t.P t.Q)
    answers = table_answers table x t outcome.accepted h

    names : try_systems written x ≡ good (first_solved p x 1 ss)
    names = list_answers written x _ read_back h

    yes_place : (solves p x t.P t.Q ≡ true) ↔ (first_solved p x 1 ss ≢ 0)
    yes_place = yes_with_place (limits_of (length work)) limit t (accepted_proper table t outcome.accepted) steps ss outcome.ended x

    point_promise : PointPromise table written ss t x
    point_promise =
        let yes = solves_is p x t.P t.Q in
        let some = place_some p x ss in
        let no = no_zero (solves p x t.P t.Q) (first_solved p x 1 ss) yes_place in
        record {
          relation = (λ s. some.0 (yes_place.0 (yes.1 s)), λ s. yes.0 (yes_place.1 (some.1 s)));
          answers = answers;
          yes = (λ a. yes.0 ((good_iff answers true).0 a), λ s. (good_iff answers true).1 (yes.1 s));
          names = names;
          place = λ r l. (λ a. (place_is p x r ss l).0 ((good_iff names r).0 a), λ f. (good_iff names r).1 ((place_is p x r ss l).1 f));
          none = (λ a. (none_is p x ss).0 ((good_iff names 0).0 a), λ n. (good_iff names 0).1 ((none_is p x ss).1 n));
          yes_with_a_place = (
            λ a. let n : first_solved p x 1 ss ≡ 0 → ⊥ = yes_place.0 ((good_iff answers true).0 a) in (first_solved p x 1 ss, omega (arith, n), names),
            λ k. let q : first_solved p x 1 ss ≡ k.0 = (good_iff names k.0).0 k.2 in (good_iff answers true).1 (yes_place.1 (λ z. omega (arith, z, q, k.1))),
          );
          no_with_0 = (λ a. (good_iff names 0).1 (no.0 ((good_iff answers false).0 a)), λ a. (good_iff answers false).1 (no.1 ((good_iff names 0).0 a)));
          no_initial_zero =
              each_map _ _ (λ s i v. i ((solves_is p x s.T s.U).1 v)) ss
              (initials_modulo (limits_of (length work)) limit t (accepted_proper table t outcome.accepted) steps ss outcome.ended x);
        }

pub promise : Promise
promise table work output limit x steps ss words e =
    let d = listed_delivered table (length work) (length output) limit steps ss words e in
    (d.input, d.accepted, list_promise table work output limit steps ss words e, point_promise table work output limit steps ss words e x)

-- The zero relation and the initials at a point of any field that contains the prime field, for the same call.
pub promise_in_fields {ℓ} : {K : Type ℓ} (F : Field K) (x : List K) (table work output : List ℕ) (limit steps : ℕ) (ss : List System) (words : List ℕ) →
    eliminated table (length work) (length output) limit ≡ listed steps ss words →
    (t : Input) × (read_table table ≡ good t) × (Contains F t.modulus → FieldPromise F ss t x)
promise_in_fields F x table work output limit steps ss words e =
    let d = listed_delivered table (length work) (length output) limit steps ss words e in
    let proper = accepted_proper table d.input d.accepted in (
      d.input,
      d.accepted,
      λ c. record {
        relation = zero_relation (limits_of (length work)) limit d.input proper steps ss d.ended F x c;
        no_initial_zero = initials (limits_of (length work)) limit d.input proper steps ss d.ended F x c;
      },
    )

-- The job that document 01 prints, by computation: what the program prints for it.
use Rattle.std.specs.Prelude.{◌≡◌, refl, List, [], ◌∷◌, ℕ}
use Rattle.residues.specs.Prime.{no_divisor_from, is_prime, is_modulus}
use Rattle.residues.specs.Residue.{inverse, inverse_from}
use Rattle.polynomials.specs.Poly.{order, join, keep, insert, add_multiple, difference, product, monic, equal}
use Rattle.polynomials.specs.Packed.{bytes, exponents, word}
use Rattle.polynomials.specs.Division.{degree, largest, degrees, highest, leader, coefficient, without, initial, rest, pure_power, shift, factor}
use Rattle.polynomials.specs.Bounds.{over, some_over, degrees_over, tested, bounded_product, bounded_difference, bounded_round, bounded_remainder}
use Rattle.tables.specs.Reason.{number}
use Rattle.tables.specs.Words.{is_whole, follow}
use Rattle.tables.specs.Read.{not_zero, has_above, not_below, read_term, read_terms, read_head, read_heads, read_header, read_table}
use Rattle.rules.specs.Branch.{member, is_zero, all_zeros, is_one, put_p, put_q, put_all, some_one, some_zero, highest_leader, led_by, better, pivot, remove, earliest, other}
use Rattle.rules.specs.Room.{polynomials_size, branch_size, branches_size, systems_size, live}
use Rattle.rules.specs.Rule.{rule_with, rule_of}
use Rattle.rules.specs.Step.{within_room, remainder_by, replace, apply, step}
use Rattle.rules.specs.Run.{run, first_branch, start, run_of}
use Rattle.rules.specs.Written.{terms_words, heads_words, systems_words, list_words, list_records}
use Rattle.rules.specs.Eliminate.{room_of, limits_of, eliminated}
use Rattle.decoding.specs.Words.{words_from, words_of}
use Rattle.std.specs.Fmt.{digits}
use Rattle.lines.specs.Text.{rest_text, line_text}
use Rattle.responses.specs.Said.{records_text}
use Rattle.responses.specs.Response.{answer_text, response}

-- "Input 7 2 1 0, 2 0 0 0, 1 0 257 3, 6 0 0 0", each word in four bytes.
abbrev job : List ℕ
job =
    7 ∷ 0 ∷ 0 ∷ 0 ∷ 2 ∷ 0 ∷ 0 ∷ 0 ∷ 1 ∷ 0 ∷ 0 ∷ 0 ∷ 0 ∷ 0 ∷ 0 ∷ 0
    ∷ 2 ∷ 0 ∷ 0 ∷ 0 ∷ 0 ∷ 0 ∷ 0 ∷ 0 ∷ 0 ∷ 0 ∷ 0 ∷ 0 ∷ 0 ∷ 0 ∷ 0 ∷ 0
    ∷ 1 ∷ 0 ∷ 0 ∷ 0 ∷ 0 ∷ 0 ∷ 0 ∷ 0 ∷ 1 ∷ 1 ∷ 0 ∷ 0 ∷ 3 ∷ 0 ∷ 0 ∷ 0
    ∷ 6 ∷ 0 ∷ 0 ∷ 0 ∷ 0 ∷ 0 ∷ 0 ∷ 0 ∷ 0 ∷ 0 ∷ 0 ∷ 0 ∷ 0 ∷ 0 ∷ 0 ∷ 0 ∷ []

-- A line of the text in each row.
abbrev text : List ℕ
text =
    48 ∷ 32 ∷ 52 ∷ 32 ∷ 49 ∷ 10
    ∷ 55 ∷ 32 ∷ 50 ∷ 32 ∷ 49 ∷ 32 ∷ 49 ∷ 10
    ∷ 50 ∷ 32 ∷ 53 ∷ 32 ∷ 48 ∷ 32 ∷ 48 ∷ 10
    ∷ 51 ∷ 32 ∷ 48 ∷ 32 ∷ 48 ∷ 32 ∷ 48 ∷ 10
    ∷ 49 ∷ 32 ∷ 48 ∷ 32 ∷ 50 ∷ 53 ∷ 55 ∷ 32 ∷ 52 ∷ 10
    ∷ 54 ∷ 32 ∷ 48 ∷ 32 ∷ 48 ∷ 32 ∷ 48 ∷ 10
    ∷ 54 ∷ 32 ∷ 48 ∷ 32 ∷ 48 ∷ 32 ∷ 48 ∷ 10
    ∷ 49 ∷ 32 ∷ 48 ∷ 32 ∷ 49 ∷ 32 ∷ 48 ∷ 10 ∷ []

printed : response job ≡ text
unfolding no_divisor_from is_prime is_modulus inverse inverse_from
    order join keep insert add_multiple difference product monic equal bytes exponents word
    degree largest degrees highest leader coefficient without initial rest pure_power shift factor
    over some_over degrees_over tested bounded_product bounded_difference bounded_round bounded_remainder
    number is_whole follow not_zero has_above not_below read_term read_terms read_head read_heads read_header read_table
    member is_zero all_zeros is_one put_p put_q put_all some_one some_zero highest_leader led_by better pivot remove earliest other
    polynomials_size branch_size branches_size systems_size live
    rule_with rule_of within_room remainder_by replace apply step run first_branch start run_of
    terms_words heads_words systems_words list_words list_records room_of limits_of eliminated
    words_from words_of digits rest_text line_text records_text answer_text response
printed = refl

-- Examples of the definitions, by computation.
use Rattle.std.specs.Prelude.{◌≡◌, refl, [], ◌∷◌, ℕ, List}
use Rattle.polynomials.specs.Poly.{Term}
use Rattle.polynomials.specs.Division.{degree, largest, degrees, highest, leader}
use Rattle.rules.specs.Branch.{led_by, better, pivot, put_all, some_one, some_zero}
use Rattle.std.proofs.Common.{arith}
use Rattle.residues.specs.Prime.{is_modulus, is_prime, no_divisor_from}
use Rattle.tables.specs.Words.{is_whole, follow}
use Rattle.tables.specs.Read.{good, Input, read_heads, read_header, read_table}
use Rattle.tables.specs.declared.Reason.TheVariants.{Room, Steps, Output}
use Rattle.rules.specs.Room.{State, polynomials_size, branch_size, branches_size, systems_size, live}
use Rattle.rules.specs.Rule.{rule_of}
use Rattle.rules.specs.Step.{apply, step}
use Rattle.rules.specs.Run.{first_branch, first_state}
use Rattle.rules.specs.Written.{list_records, list_words, systems_words, heads_words, terms_words}
use Rattle.rules.specs.Eliminate.{room_of}
use Rattle.polynomials.specs.Packed.{word}
use Rattle.rules.specs.Cause.{Cause, in_first_branch, at_limit, at_end}

-- ── the pivot ──
-- c v1^a.
abbrev power : ℕ → ℕ → Term
power c a = record { coef = c; exps = a ∷ [] }

-- v1^2 + v1 + 5, v1^2 + 6 and v1^2 + 1: the second is chosen, whose place is 1.
fewest_then_earliest : (pivot 0 (power 1 2 ∷ power 1 1 ∷ power 5 0 ∷ []) ((power 1 2 ∷ power 6 0 ∷ []) ∷ (power 1 2 ∷ power 1 0 ∷ []) ∷ [])).place ≡ 1
unfolding pivot better led_by leader highest degrees largest degree
fewest_then_earliest = refl

-- ── the room of a work area ──
-- Three words, one record, eleven and three words, more than may be used.
no_record : room_of 3 ≡ 0
unfolding room_of
no_record = refl

one_record : room_of 4 ≡ 0
unfolding room_of
one_record = refl

eleven_records : room_of 47 ≡ 10
unfolding room_of
eleven_records = refl

most_records : room_of 1000000 ≡ 65535
unfolding room_of
most_records = refl

-- ── written lists ──
-- c v1^a v2^b.
abbrev term : ℕ → ℕ → ℕ → Term
term c a b = record { coef = c; exps = a ∷ b ∷ 0 ∷ 0 ∷ 0 ∷ 0 ∷ 0 ∷ 0 ∷ [] }

-- The list that document 01 prints: T = v1 v2 + 6, U = v1.
printed : list_words (record { modulus = 7; variables = 2; systems = record { T = (term 1 1 1 ∷ term 6 0 0 ∷ []) ∷ []; U = (term 1 1 0 ∷ []) ∷ [] } ∷ [] })
    ≡ 7 ∷ 2 ∷ 1 ∷ 1 ∷ 2 ∷ 5 ∷ 0 ∷ 0 ∷ 3 ∷ 0 ∷ 0 ∷ 0 ∷ 1 ∷ 0 ∷ 257 ∷ 4 ∷ 6 ∷ 0 ∷ 0 ∷ 0 ∷ 6 ∷ 0 ∷ 0 ∷ 0 ∷ 1 ∷ 0 ∷ 1 ∷ 0 ∷ []
unfolding list_words systems_words heads_words terms_words polynomials_size systems_size word
printed = refl

no_system : list_words (record { modulus = 7; variables = 1; systems = [] }) ≡ 7 ∷ 1 ∷ 0 ∷ 0 ∷ []
unfolding list_words systems_words
no_system = refl

-- ── causes ──
-- A table with P and Q empty. Its first branch takes one record, and the list of its one system two.
abbrev empty : List ℕ
empty = 7 ∷ 1 ∷ 0 ∷ 0 ∷ []

abbrev t : Input
t = record { modulus = 7; variables = 1; P = []; Q = [] }

empty_is_read : read_table empty ≡ good t
unfolding read_table read_header read_heads follow is_whole is_modulus is_prime no_divisor_from
empty_is_read = refl

-- A work area of one record lends none.
no_room : Cause empty 4 8 1 0 Room 0
unfolding first_branch put_all live branches_size branch_size polynomials_size systems_size room_of
no_room = in_first_branch t empty_is_read (omega arith)

-- "the same, limit 0": "refusal 12, 0 steps".
no_step : Cause empty 8 8 0 0 Steps 0
unfolding first_branch put_all live branches_size branch_size polynomials_size systems_size room_of
no_step = at_limit 0 (first_state t) (first_branch t) [] (record { input = t; accepted = empty_is_read; has_room = omega arith; by_steps = refl }) refl refl

-- One record of output, after one step.
short_output : Cause empty 8 4 1 1 Output 0
unfolding first_branch put_all live branches_size branch_size polynomials_size systems_size room_of step apply rule_of some_one some_zero list_records
short_output =
    at_end 1 end (record { input = t; accepted = empty_is_read; has_room = omega arith; by_steps = (first_branch t, [], end, refl, refl, refl) }) (omega arith) refl (omega arith)
  where
    end : State
    end = record { branches = []; systems = record { T = []; U = [] } ∷ [] }

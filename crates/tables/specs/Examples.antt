-- The definitions by computation, on document 01's printed job and on broken tables.
use Rattle.std.specs.Prelude.{◌≡◌, refl, true, false, List, [], ◌∷◌, ℕ}
use Rattle.residues.specs.Prime.{is_modulus, is_prime, no_divisor_from}
use Rattle.polynomials.specs.Poly.{Term, order}
use Rattle.polynomials.specs.Packed.{bytes, exponents}
use Rattle.polynomials.specs.Division.{leader, highest, degrees, largest}
use Rattle.polynomials.specs.Value.{value_modulo, valueℕ, monomial_valueℕ}
use Rattle.tables.specs.declared.Reason.TheVariants.{Shape, Prime, Variables, Index, Order, Broken, Point}
use Rattle.tables.specs.Words.{is_whole, follow}
use Rattle.tables.specs.Read.{good, refused, not_zero, has_above, not_below, read_header, read_table, read_list}
use Rattle.tables.specs.Read.{read_term, read_terms, read_head, read_heads, read_triangle, read_system, read_systems}
use Rattle.tables.specs.Solve.{all_below, is_point, is_root, all_zero, none_zero, solves, first_solved, try_input, try_systems}

-- P = v1 v2 + 6 modulo 7, as document 01 prints it.
abbrev job : List ℕ
job = 7 ∷ 2 ∷ 1 ∷ 0 ∷ 2 ∷ 0 ∷ 0 ∷ 0 ∷ 1 ∷ 0 ∷ 257 ∷ 3 ∷ 6 ∷ 0 ∷ 0 ∷ 0 ∷ []

-- Its list: T = v1 v2 + 6, U = v1.
abbrev list : List ℕ
list = 7 ∷ 2 ∷ 1 ∷ 1 ∷ 2 ∷ 5 ∷ 0 ∷ 0 ∷ 3 ∷ 0 ∷ 0 ∷ 0 ∷ 1 ∷ 0 ∷ 257 ∷ 4 ∷ 6 ∷ 0 ∷ 0 ∷ 0 ∷ 6 ∷ 0 ∷ 0 ∷ 0 ∷ 1 ∷ 0 ∷ 1 ∷ 0 ∷ []

abbrev term : ℕ → ℕ → ℕ → Term
term c a b = record { coef = c; exps = a ∷ b ∷ 0 ∷ 0 ∷ 0 ∷ 0 ∷ 0 ∷ 0 ∷ [] }

the_job_is_read : read_table job ≡ good (record { modulus = 7; variables = 2; P = (term 1 1 1 ∷ term 6 0 0 ∷ []) ∷ []; Q = [] })
unfolding read_table read_header read_heads read_head read_terms read_term not_below has_above not_zero
    follow is_whole is_modulus is_prime no_divisor_from exponents bytes order
the_job_is_read = refl

three_words_are_no_table : read_table (7 ∷ 2 ∷ 0 ∷ []) ≡ refused Shape 0
unfolding read_table read_header is_whole
three_words_are_no_table = refl

nine_is_no_prime : read_table (9 ∷ 0 ∷ 0 ∷ 0 ∷ []) ≡ refused Prime 0
unfolding read_table read_header is_whole is_modulus is_prime no_divisor_from
nine_is_no_prime = refl

no_variable : read_table (7 ∷ 0 ∷ 1 ∷ 0 ∷ []) ≡ refused Variables 0
unfolding read_table read_header is_whole is_modulus is_prime no_divisor_from
no_variable = refl

-- The index is held by the header.
past_the_end : read_table (7 ∷ 2 ∷ 1 ∷ 0 ∷ []) ≡ refused Index 0
unfolding read_table read_header read_heads follow is_whole is_modulus is_prime no_divisor_from
past_the_end = refl

-- Equal exponents: the later term is not below.
equal_terms : read_table (7 ∷ 2 ∷ 1 ∷ 0 ∷ 2 ∷ 0 ∷ 0 ∷ 0 ∷ 1 ∷ 0 ∷ 257 ∷ 3 ∷ 6 ∷ 0 ∷ 257 ∷ 0 ∷ []) ≡ refused Order 3
unfolding read_table read_header read_heads read_head read_terms read_term not_below has_above not_zero
    follow is_whole is_modulus is_prime no_divisor_from exponents bytes order
equal_terms = refl

yes_at_1_1 : try_input job (1 ∷ 1 ∷ []) ≡ good true
unfolding try_input read_table read_header read_heads read_head read_terms read_term not_below has_above not_zero
    follow is_whole is_modulus is_prime no_divisor_from exponents bytes order is_point all_below
    solves all_zero none_zero is_root value_modulo valueℕ monomial_valueℕ
yes_at_1_1 = refl

no_at_1_2 : try_input job (1 ∷ 2 ∷ []) ≡ good false
unfolding try_input read_table read_header read_heads read_head read_terms read_term not_below has_above not_zero
    follow is_whole is_modulus is_prime no_divisor_from exponents bytes order is_point all_below
    solves all_zero none_zero is_root value_modulo valueℕ monomial_valueℕ
no_at_1_2 = refl

seven_is_no_residue : try_input job (1 ∷ 7 ∷ []) ≡ refused Point 0
unfolding try_input read_table read_header read_heads read_head read_terms read_term not_below has_above not_zero
    follow is_whole is_modulus is_prime no_divisor_from exponents bytes order is_point all_below
seven_is_no_residue = refl

place_1_at_1_1 : try_systems list (1 ∷ 1 ∷ []) ≡ good 1
unfolding try_systems read_list read_systems read_system read_triangle read_header read_heads read_head read_terms read_term not_below has_above not_zero
    follow is_whole is_modulus is_prime no_divisor_from exponents bytes order leader highest degrees largest is_point all_below
    first_solved solves all_zero none_zero is_root value_modulo valueℕ monomial_valueℕ
place_1_at_1_1 = refl

place_0_at_1_2 : try_systems list (1 ∷ 2 ∷ []) ≡ good 0
unfolding try_systems read_list read_systems read_system read_triangle read_header read_heads read_head read_terms read_term not_below has_above not_zero
    follow is_whole is_modulus is_prime no_divisor_from exponents bytes order leader highest degrees largest is_point all_below
    first_solved solves all_zero none_zero is_root value_modulo valueℕ monomial_valueℕ
place_0_at_1_2 = refl

-- The count in the header says one system; the chain is empty.
another_count : read_list (7 ∷ 2 ∷ 0 ∷ 1 ∷ []) ≡ refused Broken 0
unfolding read_list read_systems read_header follow is_whole is_modulus is_prime no_divisor_from
another_count = refl

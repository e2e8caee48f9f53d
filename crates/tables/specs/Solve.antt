-- Points: which are points of a table, what they solve, and the answers of the operations.
use Rattle.std.specs.Prelude.{◌≡◌, Bool, true, false, not, ◌&&◌, List, [], ◌∷◌, ℕ, suc, eqb, ltb, length, Result, Ok, Err}
use Rattle.polynomials.specs.Poly.{Poly}
use Rattle.polynomials.specs.Value.{value_modulo}
use Rattle.tables.specs.declared.Reason.TheVariants.{Point}
use Rattle.tables.specs.declared.Reason.{Reason}
use Rattle.tables.specs.declared.Refusal.{Refusal}
use Rattle.tables.specs.Read.{Read, good, refused, then, unless, Input, System, read_table, read_list}

-- "14 if the point, v1's number first, has not n numbers or one is at least p."
unfoldable pub all_below : ℕ → List ℕ → Bool
all_below p [] = true
all_below p (x ∷ xs) = ltb x p && all_below p xs

unfoldable pub is_point : ℕ → ℕ → List ℕ → Bool
is_point p n x = eqb (length x) n && all_below p x

module _ (p : ℕ) (x : List ℕ) where
  unfoldable pub is_root : Poly → Bool
  is_root f = eqb (value_modulo p f x) 0

  unfoldable pub all_zero : List Poly → Bool
  all_zero [] = true
  all_zero (f ∷ fs) = is_root f && all_zero fs

  unfoldable pub none_zero : List Poly → Bool
  none_zero [] = true
  none_zero (f ∷ fs) = not (is_root f) && none_zero fs

  -- "A point solves an input if every polynomial of its P has value 0 there and none of its Q has. It solves a system if every
  -- polynomial of T, the triangular list, has value 0 there and none of U, its companion set, has."
  unfoldable pub solves : List Poly → List Poly → Bool
  solves zeros nonzeros = all_zero zeros && none_zero nonzeros

  -- The place of the first system solved, counted from k; 0 for none.
  unfoldable pub first_solved : ℕ → List System → ℕ
  first_solved k [] = 0
  first_solved k (s ∷ ss) = elim (solves s.T s.U) [ true ↦ k | false ↦ first_solved (suc k) ss ]

-- "The refusals of reading, then 14 .. Answer: yes or no."
unfoldable pub try_input : List ℕ → List ℕ → Read Bool
try_input w x =
    then (read_table w) (λ t. unless (not (is_point t.modulus t.variables x)) Point 0 (good (solves t.modulus x t.P t.Q)))

-- "Answer: the place of the first system solved, from 1, or 0."
unfoldable pub try_systems : List ℕ → List ℕ → Read ℕ
try_systems w x =
    then (read_list w) (λ l. unless (not (is_point l.modulus l.variables x)) Point 0 (good (first_solved l.modulus x 1 l.systems)))

-- ── answers ──
abbrev pub refusal : Reason → ℕ → Refusal
refusal why at = record { reason = why; at = at }

-- What is read, or the refusal.
abbrev pub answered : {A : Type 0} → Read A → Result A Refusal
answered (good a) = Ok a
answered (refused why at) = Err (refusal why at)

-- Whether it is accepted, or the refusal.
abbrev pub checked : {A : Type 0} → Read A → Result (Unit {0}) Refusal
checked (good a) = Ok tt
checked (refused why at) = Err (refusal why at)

-- ── calls ──
-- What a trial of a point answers: the contracts of `try_table` and of `try_list` are these, and demand 3 knows the calls by them.
abbrev pub Tries : List ℕ → List ℕ → Result Bool Refusal → Type 0
Tries table x q = q ≡ answered (try_input table x)

abbrev pub Places : List ℕ → List ℕ → Result ℕ Refusal → Type 0
Places list x q = q ≡ answered (try_systems list x)

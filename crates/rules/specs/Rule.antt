-- "A step applies the first rule that fits the open branch": which rule that is, with what it acts on.
use Rattle.std.specs.Prelude.{true, false, ◌||◌, List, [], ◌∷◌, ℕ, ◌-◌}
use Rattle.polynomials.specs.Poly.{Poly}
use Rattle.polynomials.specs.Division.{initial}
use Rattle.rules.specs.Branch.{Branch, member, is_one, some_one, some_zero, highest_leader, Chosen, pivot, Found, none, found, other}

pub data Rule : Type 0 where
  -- 1. "P holds 1, or Q holds 0: the branch is dropped. Nothing else drops a branch."
  drop : Rule
  -- 2. "P is empty: (T, Q) goes to the end of the list of systems, Q as its U."
  list : Rule
  -- 3. The pivot in v(k+1), whose "initial is neither 1 nor in Q".
  split : ℕ → Chosen → Rule
  -- 4. The pivot in v(k+1), and the earliest other polynomial of P that v(k+1) leads.
  divide : ℕ → Chosen → Chosen → Rule
  -- 5. The pivot in v(k+1).
  close : ℕ → Chosen → Rule

abbrev pub divide_or_close : ℕ → Chosen → Found → Rule
divide_or_close k f none = close k f
divide_or_close k f (found g) = divide k f g

-- "Let vk be the highest leading variable in P": v(k+1) here.
unfoldable pub rule_with : ℕ → Chosen → Branch → Rule
rule_with k f b =
    elim (is_one (initial k f.poly) || member (initial k f.poly) b.Q) [
      | true ↦ divide_or_close k f (other k f.place b.P)
      | false ↦ split k f
    ]

abbrev pub rule_of_p : List Poly → Branch → Rule
rule_of_p [] b = list
rule_of_p (f ∷ fs) b = rule_with (highest_leader (f ∷ fs) - 1) (pivot (highest_leader (f ∷ fs) - 1) f fs) b

unfoldable pub rule_of : Branch → Rule
rule_of b = elim (some_one b.P || some_zero b.Q) [ true ↦ drop | false ↦ rule_of_p b.P b ]

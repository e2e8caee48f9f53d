-- The members that a rule leaves to be divided by the pivot: the one of P at a place (rule 4), or the last `left` of Q (rule 5).
use Rattle.std.specs.Prelude.{List, [], map, reverse, ℕ, zero, suc, ◌-◌, ◌≤◌, ◌<◌, length, get_or, take, drop}
use Rattle.polynomials.specs.Poly.{Poly}
use Rattle.polynomials.specs.Packed.{terms}
use Rattle.rules.specs.Room.{Limits}
use Rattle.rules.specs.Step.{Stepped, next, within_room, after_division, remainder_by, divided, state, replace}
use Rattle.branches.specs.Area.{Stored, with_open, put_into_p, put_into_q, without_p, without_q}
use Rattle.representation.specs.Represent.{branch_of, system_of, state_of, chosen, with_new}
use Rattle.polynomials.specs.declared.Term.{Term as Packed}
use Rattle.members.specs.declared.Dividends.{Dividends}
use Rattle.members.specs.declared.Dividends.TheVariants.{InP, InQ}

-- How many members are divided.
abbrev pub count : Dividends → ℕ
count (InP place) = 1
count (InQ n) = n

-- There is a member to be divided.
abbrev pub HasLeft : Dividends → ℕ → Stored → Type 0
HasLeft (InP place) left b = place < length b.P
HasLeft (InQ n) left b = (1 ≤ left) × (left ≤ length b.Q)

-- The next one, the branch without it, and the branch with f put in its stead, before the `left` that are yet to be divided.
abbrev pub next_member : Dividends → ℕ → Stored → List Packed
next_member (InP place) left b = get_or b.P place []
next_member (InQ n) left b = get_or b.Q (length b.Q - left) []

abbrev pub taken_out : Dividends → ℕ → Stored → Stored
taken_out (InP place) left b = without_p place b
taken_out (InQ n) left b = without_q (length b.Q - left) b

abbrev pub put_in : Dividends → ℕ → List Packed → Stored → Stored
put_in (InP place) left f b = put_into_p f b
put_in (InQ n) left f b = put_into_q left f b

-- Q has so many members that are yet to be divided.
abbrev pub HasBehind : Dividends → ℕ → Stored → Type 0
HasBehind (InP place) left b = Unit {0}
HasBehind (InQ n) left b = left ≤ length b.Q

-- The members that are left to be divided are there.
abbrev pub HasMembers : Dividends → ℕ → Stored → Type 0
HasMembers (InP place) left b = (left ≤ 1) × (1 ≤ left → place < length b.P)
HasMembers (InQ n) left b = left ≤ length b.Q

-- The step while members are left to be divided by the pivot f in v(k+1).
unfoldable pub rest_of_step : Limits → ℕ → Dividends → ℕ → ℕ → Poly → Stored → List Stored → List Stored → Stepped
rest_of_step l p (InP place) zero k f b bs ss = next (state_of (with_open b bs ss))
rest_of_step l p (InP place) (suc n) k f b bs ss =
    after_division (remainder_by l p k f (terms (get_or b.P place [])))
    (λ r. within_room l (state l p (map branch_of bs) (reverse (map system_of ss)) (divided l p (chosen b place) r (branch_of b))))
rest_of_step l p (InQ n) left k f b bs ss =
    replace l p (map branch_of bs) (reverse (map system_of ss)) k f (map terms (drop (length b.Q - left) b.Q)) (with_new b (take (length b.Q - left) b.Q))

-- What each rule does, with the limits as they are met.
use Rattle.std.specs.Prelude.{true, false, List, [], ◌∷◌, ◌++◌, ℕ, suc, ◌+◌}
use Rattle.polynomials.specs.Poly.{Poly}
use Rattle.polynomials.specs.Division.{degree, initial, rest}
use Rattle.polynomials.specs.Bounds.{over, Bounded, within, degree_passed, terms_passed, bounded_remainder}
use Rattle.tables.specs.Read.{System}
use Rattle.tables.specs.declared.Reason.{Reason}
use Rattle.tables.specs.declared.Reason.TheVariants.{Terms, Degree, Room}
use Rattle.rules.specs.Branch.{Branch, put_p, put_q, Chosen, remove}
use Rattle.rules.specs.Room.{Limits, State, polynomials_size, live}
use Rattle.rules.specs.Rule.{Rule, drop, list, split, divide, close, rule_of}

-- What a step leaves, or why it stops the run.
pub data Stepped : Type 0 where
  next : State → Stepped
  stopped : Reason → Stepped

-- "If a put, a T copy or a branch record would take the live count over the room, refusal 11." Where nothing is freed between two puts,
-- the count after both is over the room exactly if it is after one of them.
unfoldable pub within_room : Limits → State → Stepped
within_room l s = elim (over l.of_room (live s)) [ true ↦ stopped Room | false ↦ next s ]

abbrev pub after_division : Bounded → (Poly → Stepped) → Stepped
after_division (within r) k = k r
after_division degree_passed k = stopped Degree
after_division terms_passed k = stopped Terms

module _ (l : Limits) (p : ℕ) where
  -- The remainder of G by T in v(k+1). A round lowers the degree, so there are no more rounds than the degree and one.
  unfoldable pub remainder_by : ℕ → Poly → Poly → Bounded
  remainder_by k T G = bounded_remainder l.bounds p k (degree k T) T (suc (degree k G)) G

  -- 3. "The initial is put into Q", in the open branch.
  abbrev pub split_open : ℕ → Chosen → Branch → Branch
  split_open k f b = record { P = b.P; Q = put_q p (initial k f.poly) b.Q; T = b.T }

  -- "A new branch is set aside with P without the pivot, then the initial, then the rest; with Q as before this step; with T."
  abbrev pub split_aside : ℕ → Chosen → Branch → Branch
  split_aside k f b =
      record { P = put_p p (rest k f.poly) (put_p p (initial k f.poly) (remove f.place b.P)); Q = b.Q; T = b.T }

  -- 4. "The earliest such is taken out, and its remainder by the pivot in vk is put."
  abbrev pub divided : Chosen → Poly → Branch → Branch
  divided g r b = record { P = put_p p r (remove g.place b.P); Q = b.Q; T = b.T }

  -- 5. "The pivot leaves P and goes to the front of T." Q is built anew.
  abbrev pub closed : Chosen → Branch → Branch
  closed f b = record { P = remove f.place b.P; Q = []; T = f.poly ∷ b.T }

  abbrev pub with_q : Poly → Branch → Branch
  with_q r b = record { P = b.P; Q = put_q p r b.Q; T = b.T }

  module _ (waiting : List Branch) (listed : List System) where
    abbrev pub state : Branch → State
    state b = record { branches = b ∷ waiting; systems = listed }

    -- "Each member of Q in turn is replaced by its remainder by the pivot in vk: the new Q is built by putting them." The members still to
    -- be replaced are live: "A member replaced or removed is freed before the new one is put."
    unfoldable pub replace : ℕ → Poly → List Poly → Branch → Stepped
    replace k f [] b = next (state b)
    replace k f (g ∷ gs) b =
        after_division (remainder_by k f g)
        (λ r. elim (over l.of_room (polynomials_size gs + live (state (with_q r b)))) [ true ↦ stopped Room | false ↦ replace k f gs (with_q r b) ])

    unfoldable pub apply : Rule → Branch → Stepped
    apply drop b = next (record { branches = waiting; systems = listed })
    apply list b = next (record { branches = waiting; systems = listed ++ (record { T = b.T; U = b.Q } ∷ []) })
    apply (split k f) b = within_room l (record { branches = split_open k f b ∷ (split_aside k f b ∷ waiting); systems = listed })
    apply (divide k f g) b = after_division (remainder_by k f.poly g.poly) (λ r. within_room l (state (divided g r b)))
    apply (close k f) b = replace k f.poly b.Q (closed f b)

  unfoldable pub step : Branch → List Branch → List System → Stepped
  step b waiting listed = apply waiting listed (rule_of b) b

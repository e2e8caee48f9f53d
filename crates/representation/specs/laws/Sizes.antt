-- The records in use are the live count of the rules and the control record, so that a state fits the work area where the rules find room.
use Rattle.std.specs.Prelude.{◌≡◌, refl, Bool, true, false, not, ℕ, ◌+◌, ◌-◌, ◌≤◌, leb, ltb, length}
use Rattle.std.proofs.Common.{ap, arith, ltb-true, ltb-false, le-leb, length-append}
use mathlib.Core.List.{List, [], ◌∷◌, ◌++◌, map, reverse, reverse_aux}
use Rattle.std.proofs.lemmas.Bool.{lt-leb}
use Rattle.records.specs.Records.{Rec}
use Rattle.polynomials.specs.Packed.{terms}
use Rattle.polynomials.specs.Bounds.{at_most, over}
use Rattle.polynomials.specs.laws.Terms.{length_terms}
use Rattle.stored.specs.Stored.{poly_records, polys_records, size_at, poly_at}
use Rattle.stored.specs.laws.Stored.{length_poly_records, length_poly_at}
use Rattle.tables.specs.Read.{System}
use Rattle.rules.specs.Room.{polynomials_size, branch_size, branches_size, systems_size, live}
use Rattle.branches.specs.Area.{Stored, Area, branch_records, stack, systems_records, size}
use Rattle.representation.specs.Represent.{AllListed, branch_of, system_of, state_of}
use Rattle.polynomials.specs.declared.Term.{Term as Packed}

-- A polynomial takes a record, and each of its terms one.
length_poly_records_terms : (s : List Packed) → length (poly_records s) ≡ 1 + length (terms s)
length_poly_records_terms s = omega (arith, length_poly_records s, length_terms s)

-- The polynomial at record i has as many terms as its head says.
pub length_terms_at : (v : List Rec) (i : ℕ) → i + 1 + size_at v i ≤ length v → length (terms (poly_at v i)) ≡ size_at v i
length_terms_at v i h = omega (arith, length_terms (poly_at v i), length_poly_at v i h)

pub length_polys_records_terms : (fs : List (List Packed)) → polynomials_size (map terms fs) ≡ length (polys_records fs)
unfolding polynomials_size polys_records
length_polys_records_terms [] = refl
length_polys_records_terms (f ∷ fs) =
    omega (arith, length-append (poly_records f) (polys_records fs), length_poly_records_terms f, length_polys_records_terms fs)

length_branch_records : (under : ℕ) (b : Stored) → length (branch_records under b) ≡ branch_size (branch_of b)
unfolding branch_size
length_branch_records under b =
    omega (
      arith,
      length-append (polys_records b.P) (polys_records b.Q ++ polys_records b.T),
      length-append (polys_records b.Q) (polys_records b.T),
      length_polys_records_terms b.P,
      length_polys_records_terms b.Q,
      length_polys_records_terms b.T,
    )

pub length_stack : (bs : List Stored) → length (stack bs).0 ≡ branches_size (map branch_of bs)
unfolding branches_size
length_stack [] = refl
length_stack (b ∷ bs) =
    omega (arith, length-append (stack bs).0 (branch_records (stack bs).1 b), length_branch_records (stack bs).1 b, length_stack bs)

pub length_systems_records : (ss : List Stored) → AllListed ss → length (systems_records ss) ≡ systems_size (map system_of ss)
unfolding systems_records systems_size branch_size polynomials_size
length_systems_records [] h = refl
length_systems_records (s ∷ ss) h =
    let none : polynomials_size (map terms s.P) ≡ 0 = ap (λ fs. polynomials_size (map terms fs)) h.0 in
    omega (arith, none, length-append (branch_records 0 s) (systems_records ss), length_branch_records 0 s, length_systems_records ss h.1)

systems_size_reverseAux : (ss rs : List System) → systems_size (reverse_aux ss rs) ≡ systems_size ss + systems_size rs
unfolding systems_size
systems_size_reverseAux [] rs = omega arith
systems_size_reverseAux (s ∷ ss) rs = omega (arith, systems_size_reverseAux ss (s ∷ rs))

pub systems_size_reverse : (ss : List System) → systems_size (reverse ss) ≡ systems_size ss
unfolding systems_size
systems_size_reverse ss = omega (arith, systems_size_reverseAux ss [])

pub size_live : (a : Area) → AllListed a.systems → size a ≡ 1 + live (state_of a)
unfolding size live
size_live a h = omega (arith, length_stack a.branches, length_systems_records a.systems h, systems_size_reverse (map system_of a.systems))

-- ── room ──
pub room_of_count : (most n m : ℕ) → 1 ≤ most → m ≡ 1 + n → leb m most ≡ not (over (at_most (most - 1)) n)
unfolding over
room_of_count most n m h e = go (ltb (most - 1) n) refl
  where
    go : (b : Bool) → ltb (most - 1) n ≡ b → leb m most ≡ not b
    go true q = lt-leb m most (omega (arith, ltb-true (most - 1) n q))
    go false q = le-leb m most (omega (arith, ltb-false (most - 1) n q))

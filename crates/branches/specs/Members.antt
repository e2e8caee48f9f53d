-- The members of P and Q of the open branch, each named by its place there.
use Rattle.std.specs.Prelude.{◌≡◌, refl, List, [], ◌∷◌, ◌++◌, ℕ, ◌+◌, ◌<◌, length, get_or, take}
use Rattle.polynomials.specs.declared.Term.{Term as Packed}
use Rattle.stored.specs.Stored.{polys_records}
use Rattle.branches.specs.Area.{Stored, stack, empty, without_p, without_q}
use Rattle.branches.specs.declared.Member.{Member}
use Rattle.branches.specs.declared.Member.TheVariants.{P, Q}

-- There is such a member.
abbrev pub HasMember : Member → Stored → Type 0
HasMember (P i) b = i < length b.P
HasMember (Q i) b = i < length b.Q

-- Its polynomial.
abbrev pub member_of : Member → Stored → List Packed
member_of (P i) b = get_or b.P i []
member_of (Q i) b = get_or b.Q i []

-- The branch without it.
abbrev pub without : Member → Stored → Stored
without (P i) b = without_p i b
without (Q i) b = without_q i b

-- The polynomials of the branch that are stored before it.
abbrev pub members_before : Member → Stored → List (List Packed)
members_before (P i) b = take i b.P
members_before (Q i) b = b.P ++ take i b.Q

-- The record behind xs, the first polynomials of the open branch: before them are the control record, the waiting branches and the branch's own record.
abbrev pub behind : List Stored → List (List Packed) → ℕ
behind bs xs = 1 + length (stack bs).0 + 1 + length (polys_records xs)

-- Over an empty branch, in record 1, the open branch is record 2, and its P starts at record 3. Its second member stands behind the first, of one term.
second_member : behind (empty ∷ []) (members_before (P 1) (record { P = (record { coefficient = 1; monomial = 0 } ∷ []) ∷ ([] ∷ []); Q = []; T = [] })) ≡ 5
unfolding polys_records
second_member = refl

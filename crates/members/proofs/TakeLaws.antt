-- Taking the next member out, by the list that it stands in.
use Rattle.std.proofs.Common.{◌≡◌, sym, subst, List, ℕ, ◌-◌, length, take, arith}
use Rattle.records.specs.Records.{Rec}
use Rattle.branches.specs.Area.{Stored, Held, with_open}
use Rattle.branches.specs.Members.{HasMember, member_of, without}
use Rattle.branches.specs.declared.Member.{Member}
use Rattle.branches.specs.declared.Member.TheVariants.{P, Q}
use Rattle.members.specs.Members.{HasLeft, next_member, taken_out}
use Rattle.members.specs.declared.Dividends.{Dividends}
use Rattle.members.specs.declared.Dividends.TheVariants.{InP, InQ}
use Rattle.polynomials.specs.declared.Term.{Term as Packed}

-- n terms of r are the next member, which is out of the area.
abbrev pub Took : Dividends → ℕ → Stored → List Stored → List Stored → ℕ → List Packed → List Rec → ℕ → Type 0
Took d left b bs ss n r v most =
    (n ≡ length (next_member d left b)) × (take n r ≡ next_member d left b) × Held v most (with_open (taken_out d left b) bs ss)

-- The next member is m.
pub record Next (d : Dividends) (left : ℕ) (b : Stored) (m : Member) : Type 0 where
  pub there : HasMember m b
  pub takes : (bs ss : List Stored) (n : ℕ) (r : List Packed) (v : List Rec) (most : ℕ) → (n ≡ length (member_of m b)) × (take n r ≡ member_of m b)
      → Held v most (with_open (without m b) bs ss) → Took d left b bs ss n r v most

module _ {d : Dividends} {left : ℕ} {b : Stored} {m : Member} (has : HasLeft d left b) where
  pub next_in_p : (place : ℕ) → d ≡ InP place → m ≡ P place → Next d left b m
  next_in_p place e q =
      let there : HasLeft (InP place) left b = subst (λ d. HasLeft d left b) e has in
      let at : Next (InP place) left b (P place) = record { there = there; takes = λ bs ss n r v most l h. (l.0, l.1, h) } in
      subst (λ d. Next d left b m) (sym e) (subst (Next (InP place) left b) (sym q) at)

  pub next_in_q : (n k : ℕ) → d ≡ InQ n → k ≡ length b.Q → m ≡ Q (k - left) → Next d left b m
  next_in_q n k e z q =
      let some : HasLeft (InQ n) left b = subst (λ d. HasLeft d left b) e has in
      let at : Next (InQ n) left b (Q (length b.Q - left)) =
      record { there = omega (arith, some.0, some.1); takes = λ bs ss n r v most l h. (l.0, l.1, h) } in
      subst (λ d. Next d left b m) (sym e) (subst (Next (InQ n) left b) (sym q) (subst (λ k. Next (InQ n) left b (Q (k - left))) (sym z) at))

-- Where a member of the open branch lies, and what lies there: all polynomials of the branch are parted at it.
use Rattle.std.proofs.Common.{◌≡◌, sym, ap, ◌∙◌, List, [], ◌∷◌, ◌++◌, append_assoc, ℕ, suc, take, drop}
use Rattle.residues.specs.laws.Each.{each_member}
use Rattle.polynomials.specs.declared.Term.{Term as Packed}
use Rattle.records.specs.Records.{Rec}
use Rattle.stored.specs.Stored.{Storable}
use Rattle.branches.specs.declared.Member.{Member}
use Rattle.branches.specs.declared.Member.TheVariants.{P, Q}
use Rattle.branches.specs.Area.{Stored, Held, with_open}
use Rattle.branches.specs.Members.{HasMember, member_of, without, members_before, behind}
use Rattle.branches.specs.laws.Words.{remove_in_parts}
use Rattle.branches.proofs.AreaLaws.{all, parted_at_p, parted_at_q, found, Found}

-- The polynomials of the branch that are stored behind the member.
abbrev pub members_behind : Member → Stored → List (List Packed)
members_behind (P i) b = drop (suc i) b.P ++ (b.Q ++ b.T)
members_behind (Q i) b = drop (suc i) b.Q ++ b.T

pub parted_at : (m : Member) (b : Stored) → HasMember m b → all b ≡ members_before m b ++ (member_of m b ∷ members_behind m b)
parted_at (P i) b h = parted_at_p b i h
parted_at (Q i) b h = parted_at_q b i h

pub parted_without : (m : Member) (b : Stored) → all (without m b) ≡ members_before m b ++ members_behind m b
parted_without (P i) b =
    ap (λ (l : List (List Packed)). l ++ (b.Q ++ b.T)) (remove_in_parts i b.P) ∙ append_assoc (take i b.P) (drop (suc i) b.P) (b.Q ++ b.T)
parted_without (Q i) b =
    ap (λ (l : List (List Packed)). b.P ++ (l ++ b.T)) (remove_in_parts i b.Q)
    ∙ ap (λ (l : List (List Packed)). b.P ++ l) (append_assoc (take i b.Q) (drop (suc i) b.Q) b.T)
    ∙ sym (append_assoc b.P (take i b.Q) (drop (suc i) b.Q ++ b.T))

module _ {v : List Rec} {most : ℕ} {b : Stored} {bs ss : List Stored} (H : Held v most (with_open b bs ss)) where
  pub storable_member : (m : Member) → HasMember m b → Storable (member_of m b)
  storable_member (P i) h = each_member Storable i b.P [] h H.storable.0.0.0
  storable_member (Q i) h = each_member Storable i b.Q [] h H.storable.0.0.1

  pub found_member : (m : Member) → HasMember m b → {r : ℕ} → r ≡ behind bs (members_before m b) → Found v most r (member_of m b)
  found_member m h {r} e = found H (members_before m b) (member_of m b) (members_behind m b) (parted_at m b h) (storable_member m h) r e

-- What the rounds of `remainder` keep: those left, from the terms in r, form what all form.
use Rattle.std.proofs.Common.{◌≡◌, ℕ, suc, ◌+◌, ◌-◌, ◌≤◌, ◌<◌, List, length, take, refl, sym, ◌∙◌, ap, subst, arith, length-take-le, Result, Ok, Err}
use Rattle.polynomials.specs.Packed.{terms}
use Rattle.polynomials.specs.Poly.{Poly}
use Rattle.polynomials.specs.Bounds.{standard, Bounded, within, and_then, bounded_round, bounded_remainder}
use Rattle.polynomials.specs.Division.{degree, leader}
use Rattle.polynomials.specs.Working.{Holds, Written, Forms}
use Rattle.polynomials.specs.declared.Term.{Term as Packed}
use Rattle.polynomials.specs.declared.Passed.{Passed}
use Rattle.polynomials.specs.laws.Terms.{length_terms}
use Rattle.polynomials.specs.laws.Parts.{leader_places}
use Rattle.polynomials.specs.laws.Places.{places_terms}
use Rattle.polynomials.specs.laws.Answers.{then_passed}
use Rattle.division.specs.declared.Pivot.{Pivot}
use Rattle.division.proofs.PivotLaws.{formed}
use Rattle.division.proofs.RemainderLaws.{remainder_done, remainder_left, remainder_next}

-- The leading variable is one of eight.
pub leader_small : (t : List Packed) → leader (terms t) ≤ 8
leader_small t = leader_places 8 (terms t) (places_terms t)

-- The first n terms of r hold a polynomial, and what at most 256 − rounds rounds make of it is the remainder.
pub record AtRound (v : Pivot) (r₀ : List Packed) (m : ℕ) (r : List Packed) (n rounds : ℕ) : Type 0 where
  pub inside : n ≤ length r
  pub holds : Holds v.p (take n r)
  pub few : rounds ≤ 256
  pub forms : bounded_remainder standard v.p v.k v.d (terms v.divisor.now) (256 - rounds) (terms (take n r)) ≡ bounded_remainder standard v.p v.k v.d (terms v.divisor.now) 256 (terms (take m r₀))

module _ {v : Pivot} {r₀ : List Packed} {m : ℕ} {r : List Packed} {n rounds : ℕ} (A : AtRound v r₀ m r n rounds) where
  abbrev R : Poly
  R = terms (take n r)

  -- What all rounds form, and what those behind the next one do.
  abbrev pub whole : Bounded
  whole = bounded_remainder standard v.p v.k v.d (terms v.divisor.now) 256 (terms (take m r₀))

  abbrev pub behind : Poly → Bounded
  behind = bounded_remainder standard v.p v.k v.d (terms v.divisor.now) (256 - (rounds + 1))

  by_round : rounds < 256 → v.d ≤ degree v.k R → whole ≡ and_then (bounded_round standard v.p v.k v.d (terms v.divisor.now) R) behind
  by_round l h =
      let one : 256 - rounds ≡ suc (256 - (rounds + 1)) = omega (arith, l) in
      sym A.forms ∙ ap (λ (i : ℕ). bounded_remainder standard v.p v.k v.d (terms v.divisor.now) i R) one ∙ remainder_next standard v.p v.k v.d (terms v.divisor.now) R (256 - (rounds + 1)) h

  -- The next round forms a polynomial, or passes a bound.
  pub formed_next : rounds < 256 → v.d ≤ degree v.k R → (m₁ : ℕ) (q : Result ℕ Passed) (r₁ : List Packed) → q ≡ Ok m₁ → Forms (bounded_round standard v.p v.k v.d (terms v.divisor.now) R) q r₁
      → AtRound v r₀ m r₁ m₁ (rounds + 1)
  formed_next l h m₁ q r₁ e G =
      let F = formed v R m₁ q r₁ e G in
      record {
        inside = F.inside;
        holds = F.holds;
        few = omega (arith, l);
        forms = sym (by_round l h ∙ ap (λ (B : Bounded). and_then B behind) F.is);
      }

  pub passed_next : rounds < 256 → v.d ≤ degree v.k R → (b : Passed) (q : Result ℕ Passed) (s : List Packed) → q ≡ Err b → Forms (bounded_round standard v.p v.k v.d (terms v.divisor.now) R) q s → Forms whole (Err b) s
  passed_next l h b q s e F =
      subst (λ (B : Bounded). Forms B (Err b) s) (sym (by_round l h)) (then_passed (bounded_round standard v.p v.k v.d (terms v.divisor.now) R) behind s b q s e F)

  -- No round follows: R is the remainder.
  stands : whole ≡ within R → Forms whole (Ok n) r
  stands e =
      let count : n ≡ length R = sym (length_terms (take n r) ∙ length-take-le n r A.inside) in
      subst (λ (B : Bounded). Forms B (Ok n) r) (sym e) (ap Ok count, subst (λ (k : ℕ). Written R k r) count (record { within = A.inside; holds = refl }))

  pub done : degree v.k R < v.d → Forms whole (Ok n) r
  done h = stands (sym A.forms ∙ remainder_done standard v.p v.k v.d (terms v.divisor.now) R (256 - rounds) h)

  pub used : 256 ≤ rounds → Forms whole (Ok n) r
  used h =
      let none : 256 - rounds ≡ 0 = omega (arith, h) in
      stands (sym A.forms ∙ ap (λ (i : ℕ). bounded_remainder standard v.p v.k v.d (terms v.divisor.now) i R) none ∙ remainder_left standard v.p v.k v.d (terms v.divisor.now) R)

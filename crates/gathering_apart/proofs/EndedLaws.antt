-- How a gathering ended, and what was formed copied to another buffer.
use Rattle.std.specs.Prelude.{◌≡◌, refl, List, ◌++◌, Bool, true, false, ltb, ℕ, ◌≤◌, ◌<◌, length, take, drop, Result, Ok, Err, MatchResult}
use Rattle.std.proofs.Common.{sym, ◌∙◌, ap, subst, arith, ltb-false, length-append, length-take-le, ⊎_elim}
use Rattle.std.proofs.lemmas.List.{take_at}
use Rattle.std.proofs.Math.Nat.{mul-le-mul}
use Rattle.polynomials.specs.Poly.{Poly}
use Rattle.polynomials.specs.Bounds.{standard, at_most, over, within, terms_passed, tested}
use Rattle.polynomials.specs.declared.Term.{Term as Packed}
use Rattle.polynomials.specs.declared.Passed.{Passed}
use Rattle.polynomials.specs.declared.Passed.TheVariants.{Terms}
use Rattle.polynomials.specs.Packed.{terms}
use Rattle.polynomials.specs.Working.{Written, Forms}
use Rattle.gathering.specs.Gathers.{Gathers, room_for}
use Rattle.gathering.specs.declared.Ungathered.{Ungathered}
use Rattle.gathering.specs.declared.Ungathered.TheVariants.{OverTerms, Short}
use Rattle.sums.proofs.MergeLaws.{within_terms_formed}

-- After a refusal the terms are left free.
pub refused_anywhere : (f : Poly) (x y : List Packed) → Forms (tested standard f) (Err Terms) x → Forms (tested standard f) (Err Terms) y
unfolding tested
refused_anywhere f x y = go (over (at_most 256) (length f))
  where
    go : (b : Bool) → Forms (elim b [ true ↦ terms_passed | false ↦ within f ]) (Err Terms) x → Forms (elim b [ true ↦ terms_passed | false ↦ within f ]) (Err Terms) y
    go true w = refl
    go false w = absurd (let e : Result.Err Terms ≡ Ok (length f) = w.0 in cc)

pub formed_few : (f : Poly) (k : ℕ) (x : List Packed) → Forms (tested standard f) (Ok k) x → Written f k x × (k ≤ 256)
unfolding tested over
formed_few f k x = go (ltb 256 (length f)) (ltb-false 256 (length f))
  where
    go : (b : Bool) → (b ≡ false → length f ≤ 256) → Forms (elim b [ true ↦ terms_passed | false ↦ within f ]) (Ok k) x → Written f k x × (k ≤ 256)
    go true h w = cc
    go false h w = let q : length f ≡ k = cc in (subst (λ k. Written f k x) q w.1, omega (arith, h refl))

-- What was formed, copied in front of y.
pub formed_copied : (f : Poly) (k : ℕ) (x y part : List Packed) → Forms (tested standard f) (Ok k) x → part ≡ take k x → Forms (tested standard f) (Ok k) (part ++ drop k y)
formed_copied f k x y part w copy =
    let formed = formed_few f k x w in
    let size : length part ≡ k = ap length copy ∙ length-take-le k x formed.0.within in
    within_terms_formed f k (part ++ drop k y)
    record {
      within = omega (arith, size, length-append part (drop k y));
      holds = ap terms (take_at part (drop k y) k size ∙ copy) ∙ formed.0.holds;
    } formed.1

pub buffers_suffice : (a b : ℕ) → a ≤ 256 → b ≤ 256 → room_for a b ≤ 33408
buffers_suffice a b h k = omega (arith, mul-le-mul {n₁ = a} {m₁ = b} {n₂ = 256} {m₂ = 256} h k)

-- A refusal says the same of another buffer.
pub ended_early : (f : Poly) (need m n : ℕ) (e : Ungathered) (x y : List Packed) → Gathers f need (Err e) x m n → Gathers f need (Err e) y m n
ended_early f need m n OverTerms x y w = refused_anywhere f x y w
ended_early f need m n Short x y w = w

-- The longest buffers are never too short.
pub large_ended : (f : Poly) (need : ℕ) (r : Result ℕ Ungathered) (q : Result ℕ Passed) (x : List Packed) → need ≤ 33408 → Gathers f need r x 33408 33408
    → MatchResult r (λ n. q ≡ Ok n) (λ e. q ≡ Err Terms) → Forms (tested standard f) q x
large_ended f need (Ok n) q x h w e = subst (λ q. Forms (tested standard f) q x) (sym e) w
large_ended f need (Err OverTerms) q x h w e = subst (λ q. Forms (tested standard f) q x) (sym e) w
large_ended f need (Err Short) q x h w e = absurd (⊎_elim (λ (l : 33408 < need). omega arith) (λ (l : 33408 < need). omega arith) w)

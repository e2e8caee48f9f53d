-- What `any` answers of the eight candidates tells of the turn.
use Rattle.std.proofs.Common.{◌≡◌, ◌≢◌, Bool, true, false, ℕ, ◌+◌, ◌%◌, ◌≤◌, ◌<◌, slice_index, sym, ◌∙◌, ap, arith, rules, tests}
use Rattle.std.specs.Bool.{MatchBool}
use Rattle.std.specs.List.{HoldsAt, AllWithin}
use Rattle.std.proofs.lemmas.Iterator.{cases_from_any, YieldsList-from_slice}
use Rattle.std.proofs.lemmas.List.Elements.{AllWithin-from_all}
use Rattle.wheel.specs.Wheel.{Turn}
use Rattle.wheel.specs.declared.TheConstants.{OFFSETS}
use Rattle.wheel.proofs.Turns.{turn_divided, turn_passed}
use Rattle.wheel.proofs.turn_divides.Goals as goal

at_most_24 : (k : ℕ) → k < 8 → slice_index OFFSETS k ≤ 24
at_most_24 k h = AllWithin-from_all (λ o. o ≤ 24) OFFSETS (search rules) k 0 (omega arith) h

-- one of the candidates divides p, or none does
turn_told : (p d : ℕ) (r : Bool) → d % 30 ≡ 7 →
    MatchBool r ((k : ℕ) × (k < 8) × HoldsAt (λ o. p % (d + o) ≡ 0) OFFSETS k) (AllWithin (λ o. p % (d + o) ≢ 0) OFFSETS 0 8) → Turn p d r
turn_told p d true s (k, l, z) = turn_divided p d (d + slice_index OFFSETS k) (z 0) (omega arith) (omega (arith, at_most_24 k l))
turn_told p d false s none = turn_passed p d s (λ k h. none k 0 (omega arith) h)

pub returns : goal.returns
returns c =
    let p = c.args.p in
    let d = c.args.d in
    turn_told p d _ c.requires.first (cases_from_any _ _ _ (λ o. p % (d + o) ≡ 0) (λ o. p % (d + o) ≢ 0) c.any.ensures.ran
    (YieldsList-from_slice OFFSETS (search rules))
    (λ x q k. search (rules, tests))
    (λ x q k. search (rules, tests)))

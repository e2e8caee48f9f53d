-- Tests joined by `&&` and `||`, as facts.
use Rattle.std.specs.Prelude.{◌≡◌, refl, ◌⊎◌, Bool, true, false, ◌&&◌, ◌||◌, T}
use Rattle.std.proofs.Common.{inl, inr}

pub and_T : (a b : Bool) → T a → T b → T (a && b)
and_T true b x y = y
and_T false b x y = x

pub and_l : (a b : Bool) → T (a && b) → T a
and_l true b x = tt
and_l false b x = x

pub and_r : (a b : Bool) → T (a && b) → T b
and_r true b x = x
and_r false b x = absurd x

pub or_cases : (a b : Bool) → T (a || b) → T a ⊎ T b
or_cases true b t = inl tt
or_cases false b t = inr t

pub true_of : (b : Bool) → T b → true ≡ b
true_of true t = refl
true_of false t = absurd t

pub false_of : (b : Bool) → ¬ T b → false ≡ b
false_of true n = absurd (n tt)
false_of false n = refl

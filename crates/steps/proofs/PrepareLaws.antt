-- What the functions of a step have in common: sound polynomials hold.
use mathlib.Core.List.{List}
use Prim.Native.Nat.{ℕ}
use Rattle.residues.specs.laws.Each.{each_map}
use Rattle.polynomials.specs.Working.{Holds}
use Rattle.representation.specs.Represent.{Sound, AllSound}
use Rattle.heads.specs.Heads.{AllHold}
use Rattle.polynomials.specs.declared.Term.{Term as Packed}

pub all_hold : (p : ℕ) (fs : List (List Packed)) → AllSound p fs → AllHold p fs
all_hold p fs h = each_map (Sound p) (Holds p) (λ f u. u.holds) fs h

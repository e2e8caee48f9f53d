-- A polynomial of a readable table, loaded and made monic in place.
use Rattle.std.specs.Prelude.{◌≡◌, List, ◌++◌, ℕ, ◌^◌, ◌<◌, length, take, drop}
use Rattle.std.proofs.Common.{ap, ◌∙◌}
use Rattle.residues.specs.Each.{Each}
use Rattle.polynomials.specs.Poly.{Poly, monic}
use Rattle.polynomials.specs.Packed.{terms}
use Rattle.polynomials.specs.Working.{Holds, Written}
use Rattle.tables.specs.Words.{records}
use Rattle.tables.specs.Read.{good, read_head}
use Rattle.tables.specs.Walk.{Readable}
use Rattle.tables.specs.laws.Accepted.{readable_numbers, head_admissible}
use Rattle.representation.specs.laws.Monics.{stored_monic}
use Rattle.members.proofs.MadeLaws.{Made, made_by, made_within, made_monic, made_sound}
use Rattle.loading.specs.Started.{Loaded}
use Rattle.polynomials.specs.declared.Term.{Term as Packed}

-- The polynomial with its head in record `head`.
module _ (w : List ℕ) (p n head : ℕ) (f : Poly) (readable : Readable w p n) (inside : head < records w) (is_read : read_head w p n head ≡ good f) where
  pub loaded_monic : (m : ℕ) (r s : List Packed) → Written f m r → Holds p (take m r) → length s ≡ length (take m r) → terms s ≡ monic p (terms (take m r))
      → Each (λ t. t.monomial < 2 ^ 64) s → Loaded p f m (s ++ drop m r)
  loaded_monic m r s x h k e words =
      let numbers = readable_numbers w p n readable in
      let M : Made p m r s = made_by p m r s numbers.prime numbers.below (x.within, h) k e words in
      let same = made_monic M ∙ ap (monic p) x.holds in
      record {
        within = made_within M;
        sound = made_sound M;
        holds = same;
        monic = stored_monic p (take m (s ++ drop m r)) f numbers.prime (head_admissible w p n head f inside is_read).canonical same;
      }

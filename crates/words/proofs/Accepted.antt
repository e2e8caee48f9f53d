-- What an accepted table says of its numbers and its chains, by its header.
use Rattle.std.proofs.Common.{◌≡◌, ◌∙◌, sym, List, ℕ, ◌⊎◌, inl, inr}
use Rattle.polynomials.specs.Poly.{Poly}
use Rattle.tables.specs.Words.{word}
use Rattle.tables.specs.Read.{Input, good, read_table}
use Rattle.tables.specs.laws.Accepted.{table_read}
use Rattle.words.specs.declared.Table.{Table}
use Rattle.words.specs.Table.{TableOf, ArePolynomialsFrom}

pub record ChainsRead (t : Table) (i : Input) : Type 0 where
  pub modulus : i.modulus ≡ t.modulus
  pub variables : i.variables ≡ t.variables
  pub zeros : ArePolynomialsFrom t 0 (word t.words.now 0 2) i.P
  pub nonzeros : ArePolynomialsFrom t 0 (word t.words.now 0 3) i.Q

module _ {w : List ℕ} {t : Table} (of : TableOf w t) {i : Input} (is_read : read_table w ≡ good i) where
  pub chains_read : ChainsRead t i
  chains_read =
      let told = table_read w i is_read in
      record {
        modulus = told.modulus ∙ sym of.modulus;
        variables = told.variables ∙ sym of.variables;
        zeros = rw (of.words, of.modulus, of.variables) told.zeros;
        nonzeros = rw (of.words, of.modulus, of.variables) told.nonzeros;
      }

  -- Whichever of the two chains an index begins, it was read.
  pub chain_read : {first : ℕ} → (first ≡ word t.words.now 0 2) ⊎ (first ≡ word t.words.now 0 3) → (fs : List Poly) × ArePolynomialsFrom t 0 first fs
  chain_read (inl e) = (i.P, rw e chains_read.zeros)
  chain_read (inr e) = (i.Q, rw e chains_read.nonzeros)

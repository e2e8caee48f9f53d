-- An example of the definition, by computation.
use Rattle.std.specs.Prelude.{◌≡◌, refl, [], ◌∷◌}
use Rattle.tables.specs.Words.{follow}
use Rattle.extent.specs.Extent.{chain, behind, extent}

-- The list that document 01 prints takes 7 records, whatever follows.
printed : extent (7 ∷ 2 ∷ 1 ∷ 1 ∷ 2 ∷ 5 ∷ 0 ∷ 0 ∷ 3 ∷ 0 ∷ 0 ∷ 0 ∷ 1 ∷ 0 ∷ 257 ∷ 4 ∷ 6 ∷ 0 ∷ 0 ∷ 0 ∷ 6 ∷ 0 ∷ 0 ∷ 0 ∷ 1 ∷ 0 ∷ 1 ∷ 0 ∷ 9 ∷ 9 ∷ 9 ∷ 9 ∷ []) ≡ 7
unfolding extent chain behind follow
printed = refl

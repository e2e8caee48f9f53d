-- What the choice of a pivot goes by. `proofs/Examples.antt` has an example of each tie.
use Rattle.std.specs.Prelude.{◌≡◌, ◌⊎◌, ℕ, ◌<◌, length}
use Rattle.polynomials.specs.Division.{degree}
use Rattle.rules.specs.Branch.{Chosen}

-- "Of least degree in vk, then fewest terms, then earliest", with v(k+1) for vk: f goes ahead of g.
abbrev pub Ahead : ℕ → Chosen → Chosen → Type 0
Ahead k f g =
    (degree k f.poly < degree k g.poly)
    ⊎ ((degree k f.poly ≡ degree k g.poly)
    × ((length f.poly < length g.poly) ⊎ ((length f.poly ≡ length g.poly) × (f.place < g.place))))

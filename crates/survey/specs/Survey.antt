-- What the survey of an open branch finds: rule 1 or 2, or the pivot.
use Rattle.std.specs.Prelude.{true, false, ◌||◌, List, [], ◌∷◌, ◌-◌}
use Rattle.polynomials.specs.Poly.{Poly}
use Rattle.rules.specs.Branch.{Branch, some_one, some_zero, highest_leader, pivot}
use Rattle.survey.specs.declared.Choice.{Choice}
use Rattle.survey.specs.declared.Choice.TheVariants.{Drop, List as Lists, Pivot}

abbrev pub choice_of_p : List Poly → Choice
choice_of_p [] = Lists
choice_of_p (f ∷ fs) = Pivot (highest_leader (f ∷ fs) - 1) (pivot (highest_leader (f ∷ fs) - 1) f fs).place

-- As `rule_of` of the rules, before the initial is looked at.
unfoldable pub choice : Branch → Choice
choice b = elim (some_one b.P || some_zero b.Q) [ true ↦ Drop | false ↦ choice_of_p b.P ]

-- "Eliminate. The refusals of reading, then the run .., at the end 13 if the output has fewer whole records than the list needs."
use Rattle.std.specs.Prelude.{true, false, List, ◌++◌, ℕ, ◌-◌, ◌/◌, min, ltb, length, drop}
use Rattle.polynomials.specs.Bounds.{at_most, standard}
use Rattle.tables.specs.Read.{good, Input, System, read_table}
use Rattle.tables.specs.Read as tables
use Rattle.tables.specs.declared.Reason.{Reason}
use Rattle.tables.specs.declared.Reason.TheVariants.{Output}
use Rattle.rules.specs.Room.{Limits}
use Rattle.rules.specs.Run.{Ended, finished, refused, run_of}
use Rattle.rules.specs.Written.{list_words, list_records}

-- "The work area has R = its words divided by 4, rounded down, at most 65,536, and lends R−1 records (none if R is 0)."
unfoldable pub room_of : ℕ → ℕ
room_of words = min (words / 4) 65536 - 1

-- The limits of a call with a work area of so many words.
unfoldable pub limits_of : ℕ → Limits
limits_of words = record { bounds = standard; of_room = at_most (room_of words) }

-- What a call comes to: the steps, and the systems and the words written, or the refusal and its record.
pub data Eliminated : Type 0 where
  listed : ℕ → List System → List ℕ → Eliminated
  turned_back : ℕ → Reason → ℕ → Eliminated

abbrev pub steps_of : Eliminated → ℕ
steps_of (listed n ss words) = n
steps_of (turned_back n why at) = n

abbrev pub delivered : ℕ → Input → Ended → Eliminated
delivered room t (finished n ss) =
    elim (ltb room (list_records ss)) [
      | true ↦ turned_back n Output 0
      | false ↦ listed n ss (list_words (record { modulus = t.modulus; variables = t.variables; systems = ss }))
    ]
delivered room t (refused n why) = turned_back n why 0

-- Elimination of the table w, with a work area and an output of so many words.
unfoldable pub eliminated : List ℕ → ℕ → ℕ → ℕ → Eliminated
eliminated w work output limit =
    elim (read_table w) [ good t ↦ delivered (output / 4) t (run_of (limits_of work) limit t) | tables.refused why at ↦ turned_back 0 why at ]

-- "Accepted: the list stands in the first words of the output and the others are unchanged; .. Refused: the output is unchanged."
abbrev pub output_after : Eliminated → List ℕ → List ℕ
output_after (listed n ss words) out = words ++ drop (length words) out
output_after (turned_back n why at) out = out

-- What an elimination writes can be read again: the same systems in the same order.
use Rattle.std.specs.Prelude.{◌≡◌, refl, List, ℕ, ◌/◌, ◌≤◌, length}
use Rattle.std.proofs.Common.{◌∙◌, ap, subst, arith}
use Rattle.residues.specs.Each.{Each}
use Rattle.residues.specs.laws.Each.{each_map}
use Rattle.polynomials.specs.Poly.{Poly}
use Rattle.polynomials.specs.Canonical.{Canonical, All}
use Rattle.tables.specs.Read.{good, Input, System, read_table, read_list}
use Rattle.tables.specs.Admissible.{Admissible, AdmissibleInput}
use Rattle.tables.specs.laws.Accepted.{accepted_admissible}
use Rattle.rules.specs.Run.{Ended, finished, refused, run_of}
use Rattle.rules.specs.Written.{list_words, list_records}
use Rattle.rules.specs.Eliminate.{room_of, limits_of, Eliminated, listed, turned_back, delivered, eliminated}
use Rattle.rules.specs.Writable.{Writable}
use Rattle.rules.specs.Solutions.{Proper}
use Rattle.rules.proofs.laws.Calls.{listing, delivered_ends, call_ends}
use Rattle.rules.proofs.laws.ReadAgain.{read_again}
use Rattle.rules.proofs.laws.Kept.{OfSystem}
use Rattle.rules.proofs.laws.Rising as RisingLaws
use Rattle.rules.proofs.laws.AdmissibleRun.{admissible_run}
use Rattle.rules.proofs.laws.WithinRoom.{listed_within}

-- ── what was listed ──
-- The table was read, the run finished, the list has room in the output, and the words are the list's.
pub record Delivered (w : List ℕ) (work output limit n : ℕ) (ss : List System) (words : List ℕ) : Type 0 where
  pub input : Input
  pub accepted : read_table w ≡ good input
  pub ended : run_of (limits_of work) limit input ≡ finished n ss
  pub fits : list_records ss ≤ output / 4
  pub written : words ≡ list_words (listing input ss)

module _ (w : List ℕ) (work output limit : ℕ) where
  abbrev IfListed : Eliminated → Type 0
  IfListed (listed n ss words) = Delivered w work output limit n ss words
  IfListed (turned_back n why at) = Unit {0}

  pub listed_delivered : (n : ℕ) (ss : List System) (words : List ℕ) → eliminated w work output limit ≡ listed n ss words → Delivered w work output limit n ss words
  listed_delivered n ss words e =
      subst IfListed e (call_ends w work output limit IfListed (λ why at q. tt) (λ t q. of_ended t q (run_of (limits_of work) limit t) refl))
    where
      of_ended : (t : Input) → read_table w ≡ good t → (x : Ended) → run_of (limits_of work) limit t ≡ x → IfListed (delivered (output / 4) t x)
      of_ended t q (refused m why) r = tt
      of_ended t q (finished m us) r =
          delivered_ends (output / 4) t m us IfListed (λ k. tt) (λ k. record { input = t; accepted = q; ended = r; fits = k; written = refl })

-- ── it can be written ──
-- A table that is accepted is proper.
pub accepted_proper : (w : List ℕ) (t : Input) → read_table w ≡ good t → Proper t
accepted_proper w t r =
    let a = accepted_admissible w t r in
    record {
      prime = a.numbers.prime;
      canonical_p = each_map (Admissible t.modulus t.variables) (Canonical t.modulus) (λ f h. h.canonical) t.P a.zeros;
      canonical_q = each_map (Admissible t.modulus t.variables) (Canonical t.modulus) (λ f h. h.canonical) t.Q a.nonzeros;
    }

-- The systems of a finished run take fewer records than the work area has.
few_records : (work limit : ℕ) (t : Input) (n : ℕ) (ss : List System) → run_of (limits_of work) limit t ≡ finished n ss → list_records ss ≤ 65536
unfolding limits_of room_of list_records
few_records work limit t n ss e = omega (arith, listed_within (limits_of work) (room_of work) refl limit t n ss e)

pub listed_writable : (w : List ℕ) (work limit : ℕ) (t : Input) (n : ℕ) (ss : List System) → read_table w ≡ good t → run_of (limits_of work) limit t ≡ finished n ss → Writable (listing t ss)
unfolding limits_of
listed_writable w work limit t n ss r e =
    record {
      admissible = record {
        numbers = a.numbers;
        triangular = each_map (OfSystem G) (λ s. Each G s.T) (λ s h. h.0) ss all;
        companion = each_map (OfSystem G) (λ s. Each G s.U) (λ s h. h.1) ss all;
        rising = RisingLaws.rising (limits_of work) t (accepted_proper w t r) (places t.P a.zeros) (places t.Q a.nonzeros) limit n ss e;
      };
      few_records = few_records work limit t n ss e;
    }
  where
    G : Poly → Type 0
    G = Admissible t.modulus t.variables

    a : AdmissibleInput t
    a = accepted_admissible w t r

    places : (fs : List Poly) → Each G fs → Each (All (λ e. length e ≡ 8)) fs
    places = each_map G _ (λ f h. h.places)

    all : Each (OfSystem G) ss
    all = admissible_run (limits_of work) limit t refl a.numbers.prime a.numbers.some_variable a.zeros a.nonzeros n ss e

-- The words of an accepted elimination, read as a list, are the systems of the run on the table's input.
pub written_again : (w : List ℕ) (work output limit n : ℕ) (ss : List System) (words : List ℕ) → eliminated w work output limit ≡ listed n ss words →
    (t : Input) × (read_table w ≡ good t) × (run_of (limits_of work) limit t ≡ finished n ss) × (read_list words ≡ good (listing t ss))
written_again w work output limit n ss words e =
    let d = listed_delivered w work output limit n ss words e in
    let t = d.input in
    (t, d.accepted, d.ended, ap read_list d.written ∙ read_again (listing t ss) (listed_writable w work limit t n ss d.accepted d.ended))

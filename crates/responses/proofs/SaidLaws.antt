-- Laws about the text of an answer.
use Rattle.std.proofs.Common.{◌≡◌, refl, ◌∙◌, ap, List, [], ◌∷◌, ◌++◌, append_assoc, append-nil, length-append, ℕ, zero, suc, ◌+◌, ◌*◌, add-one, arith, take, drop}
use Rattle.lines.specs.Written.{Written, Adds}
use Rattle.lines.specs.Text.{line_text}
use Rattle.tables.specs.Reason.{number}
use Rattle.tables.specs.declared.Reason.{Reason}
use Rattle.run.specs.declared.Outcome.{Outcome}
use Rattle.run.specs.declared.Outcome.TheVariants.{Systems, Refused}
use Rattle.extent.specs.Extent.{extent}
use Rattle.responses.specs.Said.{records_text, said_of}

Adds-append : {s s' : List ℕ} {t t' t'' : Written} → Adds s t t' → Adds s' t' t'' → Adds (s ++ s') t t''
Adds-append {s} {s'} {t} a b =
    record { bytes = b.bytes ∙ ap (λ (x : List ℕ). x ++ s') a.bytes ∙ append_assoc t.bytes s s'; free = omega (arith, a.free, b.free, length-append s s') }

-- ── the records of a list ──
records_text-suc : (w : List ℕ) (i k : ℕ) → records_text w i (suc k) ≡ records_text w i k ++ line_text (take 4 (drop (4 * (i + k)) w))
unfolding records_text
records_text-suc w i zero = let e : i + 0 ≡ i = omega arith in rw (e, append-nil) refl
records_text-suc w i (suc k) =
    let e : suc i + k ≡ i + suc k = omega arith in
    rw (records_text-suc w (suc i) k, e, append_assoc) refl

pub no_record : (w : List ℕ) (t : Written) → Adds (records_text w 0 0) t t
unfolding records_text
no_record w t = record { bytes = rw append-nil refl; free = omega arith }

-- The line of one record more.
pub next_record : (w : List ℕ) (i k : ℕ) {t t' t'' : Written} → k ≡ 4 → Adds (records_text w 0 i) t t' → Adds (line_text (take k (drop (4 * i) w))) t' t''
    → Adds (records_text w 0 (i + 1)) t t''
next_record w i k f a b =
    let z : 0 + i ≡ i = omega arith in
    rw (add-one, records_text-suc w 0 i, z) (Adds-append a (rw f at b))

-- ── the whole text ──
module _ (steps : ℕ) (out : List ℕ) {o : Outcome} {t t' : Written} where
  pub said_refused : {why : Reason} {at n : ℕ} → o ≡ Refused why at → n ≡ number why → Adds (line_text (n ∷ steps ∷ at ∷ [])) t t' → Adds (said_of steps o out) t t'
  unfolding said_of
  said_refused eo en a = rw (eo, ← en) a

  pub said_systems : {count k : ℕ} {t'' : Written} → o ≡ Systems count → k ≡ extent out → Adds (line_text (0 ∷ steps ∷ count ∷ [])) t t'
      → Adds (records_text out 0 k) t' t'' → Adds (said_of steps o out) t t''
  unfolding said_of
  said_systems eo ek a b = rw eo (Adds-append a (rw ek at b))

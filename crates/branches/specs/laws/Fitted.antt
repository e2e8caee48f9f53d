-- What an answer tells of its room, where it says whether there is room.
use Rattle.std.specs.Prelude.{◌≡◌, Bool, true, false, Result, Ok, Err, is_ok, IsOk, IsErr}
use Rattle.std.proofs.Common.{refl, subst, ap, ◌∙◌}
use Rattle.std.proofs.lemmas.Bool.{false≢true}
use Rattle.tables.specs.declared.Reason.{Reason}
use Rattle.tables.specs.declared.Reason.TheVariants.{Room}
use Rattle.branches.specs.Area.{fitted}

fitted_ok : (b : Bool) → IsOk (fitted b) → b ≡ true
fitted_ok true e = refl
fitted_ok false e = absurd (false≢true e)

fitted_err : (b : Bool) → IsErr (fitted b) → b ≡ false
fitted_err true e = absurd (false≢true e)
fitted_err false e = refl

-- There is room; or there is none, and that is the reason.
pub has_room : {b : Bool} {r : Result (Unit {0}) Reason} → r ≡ fitted b → IsOk r → b ≡ true
has_room {b} e k = fitted_ok b (subst IsOk e k)

pub lacks_room : {b : Bool} {r : Result (Unit {0}) Reason} → r ≡ fitted b → IsErr r → b ≡ false
lacks_room {b} e k = fitted_err b (subst IsErr e k)

pub reason_is : (b : Bool) {why : Reason} → Err why ≡ fitted b → why ≡ Room
reason_is true e = absurd (false≢true (ap is_ok e))
reason_is false e = cc

pub for_room : (b : Bool) {r : Result (Unit {0}) Reason} → r ≡ fitted b → IsErr r → r ≡ Err Room
for_room b e k = e ∙ ap fitted (lacks_room e k)
